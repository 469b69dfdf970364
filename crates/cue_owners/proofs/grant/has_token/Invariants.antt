use Rattle.std.proofs.Common.{◌≡◌, All, take}
use Rattle.cue_owners.specs.Grants.{token_of}
use Rattle.cue_owners.proofs.grant.has_token.Given as goal

-- none of the grants so far has the token
abbrev pub invariant-loop-grant : goal.invariant-loop-grant
invariant-loop-grant l = All (λ grant. ¬ (token_of grant ≡ l.token)) (take l.grant-index l.grants)
