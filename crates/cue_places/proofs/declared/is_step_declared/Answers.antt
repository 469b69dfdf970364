use Rattle.std.proofs.Common.{sym, ap, subst, ◌∙◌}
use Rattle.std.specs.Prelude.{◌↔◌, IsTrue}
use Rattle.cue_row.specs.Steps.{step_of}
use Rattle.cue_places.specs.Places.{IsStepDeclared}
use Rattle.cue_places.proofs.Declaring.{step_label}
use Rattle.cue_places.proofs.Seen.{Told}
use Rattle.cue_places.proofs.declared.is_step_declared.Goals as goal

pub returns-in-Label : goal.returns-in-Label
returns-in-Label c =
    let is = step_label c.args.branch.now (step_of c.args.step.now) c.in-Label.field-0 c.find.result c.find.ensures.form (ap step_of c.in-Label.is) c.find.ensures.branch in
    (λ t. is.0 (sym c.is_some.ensures ∙ t), λ h. c.is_some.ensures ∙ is.1 h)
