-- Lines, and the lists that they tell of.
use Rattle.std.proofs.Common.{◌≡◌, ◌≢◌, ℕ, ◌+◌, ◌^◌, ◌<◌, ◌≤◌, Bool, true, false, not, nat_eq, nat_lt, List, [], ◌∷◌, length, refl, ap, ◌∙◌, arith, le_refl}
use Rattle.std.proofs.lemmas.List.{length-append}
use Rattle.std.specs.List.{flat_map}
use Rattle.std.specs.declared.vec.Vec.{Vec}
use denote.RawPtr.{null_ptr}
use Rattle.cue_lattice.specs.Bools.{is_nil as no_member}
use Rattle.cue_report.specs.Lines.{conflict_line, gap_line}
use Rattle.cue_report.specs.declared.conflict.Conflict.{Conflict}
use Rattle.cue_report.specs.declared.gap.Gap.{Gap}
use Rattle.cue_report.proofs.GapWalk.{nat_lt_is}

-- a list as a `Vec`, for a proof that must name one
abbrev pub held : {X Z : Type 0} → Z → (xs : List X) → length xs < 2 ^ 63 → Vec X Z
held heap xs small = record { ptr = null_ptr; len = length xs; cap = length xs; alloc = heap; items = xs; ok = (refl, le_refl (length xs)); small = small }

-- no line is empty
abbrev IsSome : List ℕ → Type 0
IsSome xs = 0 < length xs

fewer : {X : Type 0} (f : X → List ℕ) → ((x : X) → IsSome (f x)) → (xs : List X) → length xs ≤ length (flat_map f xs)
fewer f some [] = omega arith
fewer f some (x ∷ xs) =
    let one : 0 < length (f x) = some x in
    let rest : length xs ≤ length (flat_map f xs) = fewer f some xs in
    let both : length (flat_map f (x ∷ xs)) ≡ length (f x) + length (flat_map f xs) = length-append (f x) (flat_map f xs) in
    omega arith

-- there are fewer conflicts than bytes that tell of them
pub few_conflicts : (found : List Conflict) → length found ≤ length (flat_map conflict_line found)
few_conflicts = fewer conflict_line (λ x. omega arith)

pub few_gaps : (gaps : List Gap) → length gaps ≤ length (flat_map gap_line gaps)
few_gaps = fewer gap_line (λ x. omega arith)

is_nil : {X : Type 0} (xs : List X) → length xs ≤ 0 → xs ≡ []
is_nil [] h = refl
is_nil (x ∷ xs) h = absurd (omega arith)

-- where no byte was written, there is nothing to tell of
pub no_lines : {X : Type 0} (f : X → List ℕ) (xs : List X) (bytes : List ℕ) (len : ℕ) → length xs ≤ length (flat_map f xs) → bytes ≡ flat_map f xs → len ≡ length bytes → len ≡ 0 → xs ≡ []
no_lines f xs bytes len few b l z = let same = ap length b in is_nil xs (omega arith)

pub not_nil : {X : Type 0} (xs : List X) (bytes : List ℕ) (len : ℕ) (f : X → List ℕ) → bytes ≡ flat_map f xs → len ≡ length bytes → false ≡ nat_eq len 0 → xs ≢ []
not_nil xs bytes len f b l h n =
    let none : length bytes ≡ 0 = ap length (b ∙ ap (flat_map f) n) in
    let zero : nat_eq len 0 ≡ true = ap (λ k. nat_eq k 0) (l ∙ none) in
    cc

-- something was told exactly where there is something to tell of
any_told : {X : Type 0} (f : X → List ℕ) → ((x : X) → IsSome (f x)) → (xs : List X) (old new : ℕ) (some : Bool) → old ≡ 0 → new ≡ old + length (flat_map f xs) → some ≡ nat_lt 0 new → some ≡ not (no_member xs)
any_told f all [] old new some z n s =
    let none : new ≡ 0 = omega (arith, z, n) in
    s ∙ ap (nat_lt 0) none
any_told f all (x ∷ xs) old new some z n s =
    let few = fewer f all (x ∷ xs) in
    let more : 0 < new = omega (arith, z, n, few) in
    s ∙ nat_lt_is 0 new more

pub any_conflict : (found : List Conflict) (old new : ℕ) (some : Bool) → old ≡ 0 → new ≡ old + length (flat_map conflict_line found) → some ≡ nat_lt 0 new → some ≡ not (no_member found)
any_conflict = any_told conflict_line (λ x. omega arith)

pub any_gap : (found : List Gap) (old new : ℕ) (some : Bool) → old ≡ 0 → new ≡ old + length (flat_map gap_line found) → some ≡ nat_lt 0 new → some ≡ not (no_member found)
any_gap = any_told gap_line (λ x. omega arith)
