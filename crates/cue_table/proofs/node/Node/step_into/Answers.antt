use Rattle.std.proofs.Common.{sym, ap, subst, ◌∙◌}
use Rattle.cue_lattice.specs.Path.{label}
use Rattle.cue_row.specs.Steps.{step_of}
use Rattle.cue_table.specs.Inner.Form.{StepsRise}
use Rattle.cue_table.specs.Inner.View.{branches}
use Rattle.cue_table.specs.Tree.{below, find, step_into}
use Rattle.cue_table.proofs.Gaps.{own_rise}
use Rattle.cue_table.proofs.Ways.{field_below}
use Rattle.cue_table.proofs.node.Node.step_into.Goals as goal

pub find-requires : goal.find-requires
find-requires g c =
    subst (λ cs. StepsRise (branches cs)) (sym c.deref.ensures.value) (own_rise c.self.inside.children.items c.self.inside.rest (subst (λ t. StepsRise (below t)) (sym c.self.view_is) c.requires))

pub returns-in-Label : goal.returns-in-Label
returns-in-Label g c =
    c.find.ensures ∙ ap (λ s. find (step_of s) (branches c.deref.result.now)) c.in-Label.is ∙ ap (λ cs. find (label c.in-Label.field-0) (branches cs)) c.deref.ensures.value
    ∙ field_below c.self.inside c.args.self.now c.in-Label.field-0 c.self.view_is ∙ ap (λ s. step_into c.args.self.now (step_of s)) (sym c.in-Label.is)
