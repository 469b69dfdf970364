use Rattle.std.proofs.Common.{sym, ap, ◌∙◌}
use Rattle.cue_table.specs.Tree.{children_of}
use Rattle.cue_why.proofs.Saying.{rest_is}
use Rattle.cue_why.proofs.shown.has_below.Goals as goal

pub returns-in-None : goal.returns-in-None
returns-in-None c =
    let is = rest_is c.args.branch.now c.rest.result (ap children_of (sym c.children-children.ensures.list) ∙ c.in-None.ensures.steps.0) c.rest.ensures.rest in
    (λ t. is.0 (sym c.is_some.ensures ∙ t), λ h. c.is_some.ensures ∙ is.1 h)
