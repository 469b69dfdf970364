use Rattle.cue_policies.proofs.FormWalks.{plain_form}
use Rattle.cue_policies.proofs.forms.is_plain.Goals as goal

pub returns : goal.returns
returns c =
    let walk = plain_form c.root-root.result (rw c.root-root.ensures.branch c.root-root.ensures.form) (rw c.root-root.ensures.branch c.requires) in
    rw (← c.root-root.ensures.branch) (λ yes. walk.0 (c.is_form.ensures.0 yes), λ h. c.is_form.ensures.1 (walk.1 h))
