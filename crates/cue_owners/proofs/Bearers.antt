-- A token behind its scheme.
use Rattle.std.proofs.Common.{◌≡◌, ◌↔◌, ℕ, List, ◌++◌, map, take, drop, length, codes, IsTrue, Bool, false, sym, ap, ◌∙◌}
use Rattle.std.specs.Char.{to_ascii_lowercase}
use Rattle.std.proofs.lemmas.List.{length-map, take-append-drop}
use Rattle.std.proofs.Math.Seq.{take-append_seam, drop-append_seam}
use Rattle.std.proofs.lemmas.Bool.{false≢true}
use Rattle.cue_owners.specs.Bearers.{IsBearer}

scheme_length : (scheme : List ℕ) → map to_ascii_lowercase scheme ≡ codes "bearer " → length scheme ≡ 7
scheme_length scheme is = sym (length-map scheme to_ascii_lowercase) ∙ ap length is

-- a field that has the token is parted behind the first seven bytes
pub parted : (token field : List ℕ) → IsBearer token field → (map to_ascii_lowercase (take 7 field) ≡ codes "bearer ") × (drop 7 field ≡ token)
parted token field (scheme, is, joined) =
    let long = scheme_length scheme is in
    let front : take 7 field ≡ scheme = ap (take 7) joined ∙ ap (λ n. take n (scheme ++ token)) (sym long) ∙ take-append_seam scheme token in
    let back : drop 7 field ≡ token = ap (drop 7) joined ∙ ap (λ n. drop n (scheme ++ token)) (sym long) ∙ drop-append_seam scheme token in
    (ap (map to_ascii_lowercase) front ∙ is, back)

pub with_scheme :
    (token field scheme rest : List ℕ) (same : Bool) → scheme ≡ take 7 field → rest ≡ drop 7 field → map to_ascii_lowercase scheme ≡ codes "bearer " → (IsTrue same ↔ (rest ≡ token)) → IsTrue same ↔ IsBearer token field
with_scheme token field scheme rest same front back is e = (
  λ t. (scheme, is, sym (ap (λ (l : List ℕ). l ++ token) front ∙ ap (λ (l : List ℕ). take 7 field ++ l) (sym (e.0 t) ∙ back) ∙ take-append-drop 7 field)),
  λ b. e.1 (back ∙ (parted token field b).1),
)

pub without_scheme :
    (token field scheme : List ℕ) (is : Bool) → is ≡ false → scheme ≡ take 7 field → (IsTrue is ↔ (map to_ascii_lowercase scheme ≡ codes "bearer ")) → IsTrue is ↔ IsBearer token field
without_scheme token field scheme is none front e = (
  λ t. absurd (false≢true (sym none ∙ t)),
  λ b. e.1 (ap (map to_ascii_lowercase) front ∙ (parted token field b).0),
)
