use Rattle.std.proofs.Common.{◌∷◌}
use Rattle.cue_owners.proofs.Named.{name_utf8}
use Rattle.cue_owners.proofs.grant.copy_row.Goals as goal

pub returns : goal.returns
returns c =
    λ named. let owner = c.in_ok-from_utf8_lossy.ensures.ok (name_utf8 c.args.owner.now named) in
    (λ i. owner i ∷ c.in_ok-from_slice.ensures.items i ∷ c.in_ok-copies.ensures i)
