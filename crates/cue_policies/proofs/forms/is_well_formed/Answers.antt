use Rattle.cue_policies.proofs.FormWalks.{well_formed}
use Rattle.cue_policies.proofs.forms.is_well_formed.Goals as goal

pub returns : goal.returns
returns c =
    let walk = well_formed c.root-root.result (rw c.root-root.ensures.branch c.root-root.ensures.form) in
    rw (← c.root-root.ensures.branch) (λ yes. walk.0 (c.is_form.ensures.0 yes), λ h. c.is_form.ensures.1 (walk.1 h))
