-- What is known of a device after two steps.
use Rattle.std.proofs.Common.{◌≡◌, ◌≤◌, ◌-◌, ℕ, length, take, drop, arith, Some, None, Option, List, [], ◌++◌, IfSome, refl, sym, ap, ◌∙◌}
use Rattle.std.proofs.lemmas.List.{append_assoc, append-nil, length-drop, take-append-drop, take_all}
use Rattle.std.specs.Io.KnownBytes.{Appends, Keeps, Consumes, IsAtEnd}

-- what was appended and then kept was appended
pub appends_keeps : (a b c : Option (List ℕ)) (bytes : List ℕ) → Appends a b bytes → Keeps b c → Appends a c bytes
appends_keeps None b c bytes h k = tt
appends_keeps (Some x) None c bytes h k = absurd h
appends_keeps (Some x) (Some y) None bytes h k = absurd k
appends_keeps (Some x) (Some y) (Some z) bytes h k = k ∙ h

-- what was appended in two steps was appended in a row
pub appends_more : (a b c : Option (List ℕ)) (front more : List ℕ) → Appends a b front → Appends b c more → Appends a c (front ++ more)
appends_more None b c front more h k = tt
appends_more (Some x) None c front more h k = absurd h
appends_more (Some x) (Some y) None front more h k = absurd k
appends_more (Some x) (Some y) (Some z) front more h k = k ∙ (ap (λ r. r ++ more) h ∙ append_assoc x front more)

-- where nothing was appended
pub appends_none : (a : Option (List ℕ)) → Appends a a []
appends_none None = tt
appends_none (Some x) = sym (append-nil x)

-- what was consumed in two steps was consumed in a row
pub consumes_more : (a b c : Option (List ℕ)) (front more : List ℕ) → Consumes a b front → Consumes b c more → Consumes a c (front ++ more)
consumes_more None b c front more h k = tt
consumes_more (Some x) None c front more h k = absurd h
consumes_more (Some x) (Some y) None front more h k = absurd k
consumes_more (Some x) (Some y) (Some z) front more h k = h ∙ ap (λ r. front ++ r) k ∙ sym (append_assoc front more z)

-- what was consumed up to the end of a device is all of its bytes
pub consumed_all : (a b : Option (List ℕ)) (all : List ℕ) → Consumes a b all → IsAtEnd b → IfSome a (λ known. all ≡ known)
consumed_all None b all h k = tt
consumed_all (Some x) None all h k = absurd h
consumed_all (Some x) (Some y) all h k = sym (h ∙ ap (λ r. all ++ r) k ∙ append-nil all)

-- a device of which nothing was consumed is as it was
pub consumes_none : (a : Option (List ℕ)) → Consumes a a []
consumes_none None = tt
consumes_none (Some x) = refl

-- what was kept and then appended was appended
pub keeps_appends : (a b c : Option (List ℕ)) (bytes : List ℕ) → Keeps a b → Appends b c bytes → Appends a c bytes
keeps_appends None b c bytes k h = tt
keeps_appends (Some x) None c bytes k h = absurd k
keeps_appends (Some x) (Some y) None bytes k h = absurd h
keeps_appends (Some x) (Some y) (Some z) bytes k h = h ∙ ap (λ r. r ++ bytes) k

-- what was kept twice was kept
pub keeps_more : (a b c : Option (List ℕ)) → Keeps a b → Keeps b c → Keeps a c
keeps_more None b c k h = tt
keeps_more (Some x) None c k h = absurd k
keeps_more (Some x) (Some y) None k h = absurd h
keeps_more (Some x) (Some y) (Some z) k h = h ∙ k

-- where nothing was appended all was kept
pub keeps_none : (a b : Option (List ℕ)) → Appends a b [] → Keeps a b
keeps_none None b h = tt
keeps_none (Some x) None h = absurd h
keeps_none (Some x) (Some y) h = h ∙ append-nil x

pub keeps_all : (a : Option (List ℕ)) → Keeps a a
keeps_all None = tt
keeps_all (Some x) = refl

-- of what is left, the front is written too
pub written_more :
    (bytes rest : List ℕ) (count : ℕ) (a b c : Option (List ℕ)) → ((done : List ℕ) × (bytes ≡ done ++ rest) × Appends a b done)
    → Appends b c (take count rest) → count ≤ length rest
    → (done : List ℕ) × (bytes ≡ done ++ take (length rest - count) (drop count rest)) × Appends a c done
written_more bytes rest count a b c h more within =
    let all = take_all (length rest - count) (drop count rest) (omega (arith, length-drop count rest)) in (
      h.0 ++ take count rest,
      h.1 ∙ ap (λ zs. h.0 ++ zs) (sym (take-append-drop count rest)) ∙ sym (append_assoc h.0 (take count rest) (drop count rest))
          ∙ ap (λ zs. (h.0 ++ take count rest) ++ zs) (sym all),
      appends_more a b c h.0 (take count rest) h.2 more,
    )
