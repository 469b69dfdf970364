use Rattle.std.proofs.Common.{◌≡◌, List, Any, string_bytes, subst, sym, refl}
use Rattle.std.proofs.lemmas.Bool.{false≢true}
use Rattle.cue_owners.specs.declared.grant.Grant.{Grant}
use Rattle.cue_owners.specs.Bearers.{IsBearer}
use Rattle.cue_owners.specs.Grants.{token_of, Reaches}
use Rattle.cue_owners.proofs.owners.Owners.access.Goals as goal

pub returns-in-Some : goal.returns-in-Some
returns-in-Some c =
    let P : List Grant → Type 0 = λ gs. Any (λ g. IsBearer (token_of g) c.args.field.now × Reaches c.args.target.now g × (string_bytes g.owner ≡ c.in-Some.owner.now)) gs in
    subst P c.as_slice-grants.ensures.value c.in-Some.ensures

pub returns-in-true : goal.returns-in-true
returns-in-true c =
    let K : List Grant → Type 0 = λ gs. Any (λ g. IsBearer (token_of g) c.args.field.now) gs in
    let M : List Grant → Type 0 = λ gs. Any (λ g. IsBearer (token_of g) c.args.field.now × Reaches c.args.target.now g) gs in
    (subst K c.as_slice-grants.ensures.value (c.in-true.ensures.0 refl), λ m. c.in-None.ensures (subst M (sym c.as_slice-grants.ensures.value) m))

pub returns-in-false : goal.returns-in-false
returns-in-false c =
    let K : List Grant → Type 0 = λ gs. Any (λ g. IsBearer (token_of g) c.args.field.now) gs in
    λ k. false≢true (c.in-false.ensures.1 (subst K (sym c.as_slice-grants.ensures.value) k))
