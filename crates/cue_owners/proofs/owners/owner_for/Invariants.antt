use Rattle.std.proofs.Common.{All, take}
use Rattle.cue_owners.specs.Bearers.{IsBearer}
use Rattle.cue_owners.specs.Grants.{token_of, Reaches}
use Rattle.cue_owners.proofs.owners.owner_for.Given as goal

-- the field has no token so far that may write the target
abbrev pub invariant-loop-grant : goal.invariant-loop-grant
invariant-loop-grant l =
    All (λ grant. ¬ (IsBearer (token_of grant) l.field × Reaches l.target grant)) (take l.grant-index l.grants)
