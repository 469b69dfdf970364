use Rattle.std.proofs.Common.{sym, ap, ◌∙◌}
use Rattle.cue_lattice.specs.Path.{step_cmp}
use Rattle.cue_row.specs.Steps.{step_of}
use Rattle.cue_table.specs.Inner.RowList.{last_cmp}
use Rattle.cue_table.specs.Inner.View.{branches}
use Rattle.cue_table.proofs.Last.{last_is}
use Rattle.cue_table.proofs.chain.last_against.Goals as goal

pub returns-in-Some : goal.returns-in-Some
returns-in-Some g c =
    c.compare.ensures ∙ ap (λ s. step_cmp (step_of s) (step_of c.args.step.now)) c.step.ensures
    ∙ sym (ap (λ xs. last_cmp (step_of c.args.step.now) (branches xs)) c.in-Some.ensures.cases.0 ∙ last_is c.in-Some.field-0-1.now c.in-Some.last.now (step_of c.args.step.now))
