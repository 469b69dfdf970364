-- Requests that are not let in.
use Rattle.std.proofs.Common.{◌≡◌, ◌↔◌, ◌++◌, inl, inr, ⊎_elim, ℕ, nat_eq, get_or, Bool, true, false, not, List, drop, Option, Some, None, IsTrue, codes, refl, sym, ap, subst, ◌∙◌}
use Rattle.std.proofs.lemmas.Bool.{false≢true}
use Rattle.http.specs.declared.request.Request.{Request}
use Rattle.cue_doors.specs.declared.doors.Doors.{Doors}
use Rattle.cue_doors.specs.Hosts.{IsOwn, IsSameText}
use Rattle.cue_doors.specs.Requests.{value_of, IsBehindScheme, IsOriginOf, IsForeign, IsForAnother}

or : List ℕ → Option (List ℕ) → List ℕ
or d None = d
or d (Some x) = x

pub one_value : (a b : List ℕ) (o : Option (List ℕ)) → Some a ≡ o → o ≡ Some b → a ≡ b
unfolding or
one_value a b o e f = ap (or a) (e ∙ f)

has : Option (List ℕ) → Bool
has None = false
has (Some x) = true

pub no_value : (b : List ℕ) (o : Option (List ℕ)) → None ≡ o → o ≡ Some b → ⊥
unfolding has
no_value b o e f = false≢true (ap has (e ∙ f))

pub for_another : (doors : Doors) (request : Request (List ℕ)) (host : List ℕ) (own : Bool) → Some host ≡ value_of (codes "host") request → (IsTrue own ↔ IsOwn doors host) → IsTrue (not own) ↔ IsForAnother doors request
for_another doors request host true e own = (
  λ t. absurd (false≢true t),
  λ a. absurd (a.2 (subst (IsOwn doors) (one_value host a.0 (value_of (codes "host") request) e a.1) (own.0 refl))),
)
for_another doors request host false e own = (λ _. (host, sym e, λ o. false≢true (own.1 o)), λ _. refl)

byte : List ℕ → Bool
byte t = nat_eq (get_or t 4 0) 58

apart : (a b : List ℕ) → codes "http://" ++ a ≡ codes "https://" ++ b → ⊥
unfolding byte
apart a b e = false≢true (sym (ap byte e))

-- an origin has one rest
pub one_rest : (origin a b : List ℕ) → IsBehindScheme origin a → IsBehindScheme origin b → a ≡ b
one_rest origin a b p q =
    ⊎_elim
    (λ x. ⊎_elim (λ y. ap (λ (t : List ℕ). drop 7 t) (sym x ∙ y)) (λ y. absurd (apart a b (sym x ∙ y))) q)
    (λ x. ⊎_elim (λ y. absurd (apart b a (sym y ∙ x))) (λ y. ap (λ (t : List ℕ). drop 8 t) (sym x ∙ y)) q) p

-- by its rest
pub by_rest : (host origin rest : List ℕ) (same : Bool) → IsBehindScheme origin rest → IsTrue same ↔ IsSameText rest host → IsTrue same ↔ IsOriginOf host origin
by_rest host origin rest same b e = (λ t. (rest, b, e.0 t), λ o. e.1 (subst (λ (r : List ℕ). IsSameText r host) (sym (one_rest origin rest o.0 b o.1)) o.2))

pub no_scheme : (host origin : List ℕ) → ((rest : List ℕ) → ¬ IsBehindScheme origin rest) → IsTrue false ↔ IsOriginOf host origin
no_scheme host origin none = (λ t. absurd (false≢true t), λ o. absurd (none o.0 o.1))

pub cross : (request : Request (List ℕ)) → value_of (codes "sec-fetch-site") request ≡ Some (codes "cross-site") → IsTrue true ↔ IsForeign request
cross request e = (λ t. inl e, λ f. refl)

pub no_origin : (request : Request (List ℕ)) → (value_of (codes "sec-fetch-site") request ≡ Some (codes "cross-site") → ⊥) → None ≡ value_of (codes "origin") request → IsTrue false ↔ IsForeign request
no_origin request n e = (λ t. absurd (false≢true t), λ f. absurd (⊎_elim n (λ o. no_value o.0 (value_of (codes "origin") request) e o.1) f))

pub no_host : (request : Request (List ℕ)) (origin : List ℕ) → Some origin ≡ value_of (codes "origin") request → None ≡ value_of (codes "host") request → IsTrue true ↔ IsForeign request
no_host request origin e h = (λ t. inr (origin, sym e, λ host f. absurd (no_value host (value_of (codes "host") request) h f)), λ f. refl)

pub by_host :
    (request : Request (List ℕ)) (origin host : List ℕ) (own : Bool) → (value_of (codes "sec-fetch-site") request ≡ Some (codes "cross-site") → ⊥) → Some origin ≡ value_of (codes "origin") request → Some host ≡ value_of (codes "host") request
    → (IsTrue own ↔ IsOriginOf host origin) → IsTrue (not own) ↔ IsForeign request
by_host request origin host true n e h own = (
  λ t. absurd (false≢true t),
  λ f. absurd (⊎_elim n (λ o. o.2 host (sym h) (subst (IsOriginOf host) (one_value origin o.0 (value_of (codes "origin") request) e o.1) (own.0 refl))) f),
)
by_host request origin host false n e h own = (
  λ t. inr (origin, sym e, λ other f o. false≢true (own.1 (subst (λ (x : List ℕ). IsOriginOf x origin) (sym (one_value host other (value_of (codes "host") request) h f)) o))),
  λ f. refl,
)
