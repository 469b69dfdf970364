use Rattle.std.proofs.Common.{All, take}
use Rattle.cue_owners.specs.Bearers.{IsBearer}
use Rattle.cue_owners.specs.Grants.{token_of}
use Rattle.cue_owners.proofs.owners.is_known.Given as goal

-- the field has none of the tokens so far
abbrev pub invariant-loop-grant : goal.invariant-loop-grant
invariant-loop-grant l = All (λ grant. ¬ IsBearer (token_of grant) l.field) (take l.grant-index l.grants)
