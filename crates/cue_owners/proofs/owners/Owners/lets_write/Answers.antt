use Rattle.std.proofs.Common.{List, Any, sym, subst, refl}
use Rattle.std.proofs.lemmas.Bool.{false≢true}
use Rattle.cue_owners.specs.declared.grant.Grant.{Grant}
use Rattle.cue_owners.specs.Bearers.{IsBearer}
use Rattle.cue_owners.specs.Grants.{token_of, Reaches}
use Rattle.cue_owners.proofs.owners.Owners.lets_write.Goals as goal

pub returns-in-Some : goal.returns-in-Some
returns-in-Some c =
    let M : List Grant → Type 0 = λ gs. Any (λ g. IsBearer (token_of g) c.args.field.now × Reaches c.args.target.now g) gs in
    let a = c.in-Some.ensures in
    (λ _. subst M c.as_slice.ensures.value (a.0, a.1, a.2, a.3, (a.4.0, a.4.1)), λ _. refl)

pub returns-in-None : goal.returns-in-None
returns-in-None c =
    let M : List Grant → Type 0 = λ gs. Any (λ g. IsBearer (token_of g) c.args.field.now × Reaches c.args.target.now g) gs in
    (λ t. absurd (false≢true t), λ m. absurd (c.in-None.ensures (subst M (sym c.as_slice.ensures.value) m)))
