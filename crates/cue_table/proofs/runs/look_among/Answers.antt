use Rattle.std.proofs.Common.{◌+◌, sym, subst}
use Rattle.cue_lattice.specs.Path.{index}
use Rattle.cue_table.specs.Tree.{find}
use Rattle.cue_table.specs.Inner.Alike.{AreAlike}
use Rattle.cue_table.specs.Inner.View.{branches}
use Rattle.cue_table.proofs.Gaps.{alike_alone}
use Rattle.cue_table.proofs.runs.look_among.Goals as goal

pub returns-in-Ok-clause-alike : goal.returns-in-Ok-clause-alike
returns-in-Ok-clause-alike g c =
    subst (λ n. AreAlike c.args.number (n + 1) (λ i. find (index i) (branches c.args.children.now))) (sym c.from.ensures) (alike_alone c.args.number (λ i. find (index i) (branches c.args.children.now)))
