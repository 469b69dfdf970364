use Rattle.std.proofs.Common.{◌↔◌, IsTrue, List, Any, subst}
use Rattle.cue_owners.specs.declared.grant.Grant.{Grant}
use Rattle.cue_owners.specs.Bearers.{IsBearer}
use Rattle.cue_owners.specs.Grants.{token_of}
use Rattle.cue_owners.proofs.owners.Owners.knows.Goals as goal

pub returns : goal.returns
returns c =
    let K : List Grant → Type 0 = λ gs. IsTrue c.is_known.result ↔ Any (λ g. IsBearer (token_of g) c.args.field.now) gs in
    subst K c.as_slice.ensures.value c.is_known.ensures
