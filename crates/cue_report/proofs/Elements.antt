-- The conflicts of elements that are all alike.
use Rattle.std.proofs.Common.{◌≡◌, ⊎_elim, ℕ, zero, suc, ◌+◌, ◌<◌, ◌≤◌, List, [], ◌∷◌, map, refl, sym, ap, subst, arith}
use Rattle.std.specs.List.{AllByRecursion}
use Rattle.std.specs.Cmp.{nat_cmp_is}
use Rattle.std.proofs.Math.Nat.{eq-or-lt_of_le}
use Rattle.std.specs.declared.cmp.Ordering.TheVariants.{Less}
use Rattle.cue_lattice.specs.OneOf.{OneOf}
use Rattle.cue_lattice.specs.Path as paths
use Rattle.cue_lattice.specs.Path.{index, step_cmp, Path, path_cmp}
use Rattle.cue_report.specs.Listing.{IsRising}
use Rattle.cue_report.specs.Inner.Search.{conflict_under, each_index}
use Rattle.cue_report.specs.declared.conflict.Conflict.{Conflict}
use Rattle.cue_report.proofs.Order.{all_append, all_map, one_left, one_right, one_map, AreBefore, AreBehind, rising_append, rising_lifted, lifted_before, lifted_behind}

abbrev pub place_of : Conflict → Path
place_of conflict = conflict.path

pub less_index : (m n : ℕ) → m < n → step_cmp (index m) (index n) ≡ Less
less_index m n h = sym (nat_cmp_is m n Less h)

-- P holds of all where it holds of those of each element
pub each_all :
    (P Q : Conflict → Type 0) (first count : ℕ) (found : List Conflict) → ((i : ℕ) → first ≤ i → i < first + count → (x : Conflict) → P x → Q (conflict_under (index i ∷ []) x))
    → AllByRecursion P found → AllByRecursion Q (each_index first count found)
each_all P Q first zero found g h = tt
each_all P Q first (suc count) found g h =
    all_append Q (each_index first count found) (map (conflict_under (index (first + count) ∷ [])) found)
    (each_all P Q first count found (λ i l m. g i l (omega arith)) h)
    (all_map P Q (conflict_under (index (first + count) ∷ [])) found (λ x k. g (first + count) (omega arith) (omega arith) x k) h)

-- a conflict of one element is one of them
pub each_one :
    (first count i : ℕ) (found : List Conflict) (x : Conflict) → first ≤ i → i < first + count → OneOf (λ y. y ≡ x) found
    → OneOf (λ y. y ≡ conflict_under (index i ∷ []) x) (each_index first count found)
each_one first zero i found x l m h = absurd (let no : ⊥ = omega arith in no)
each_one first (suc count) i found x l m h = ⊎_elim
    (λ e. subst (λ j. OneOf (λ y. y ≡ conflict_under (index j ∷ []) x) (each_index first (suc count) found)) (sym e)
    (one_right (λ y. y ≡ conflict_under (index (first + count) ∷ []) x) (each_index first count found) (map (conflict_under (index (first + count) ∷ [])) found)
    (one_map (λ y. y ≡ x) (λ y. y ≡ conflict_under (index (first + count) ∷ []) x) (conflict_under (index (first + count) ∷ [])) found (λ y e. ap (conflict_under (index (first + count) ∷ [])) e) h)))
    (λ low. one_left (λ y. y ≡ conflict_under (index i ∷ []) x) (each_index first count found) (map (conflict_under (index (first + count) ∷ [])) found)
    (each_one first count i found x l low h))
    (eq-or-lt_of_le {n = i} {m = first + count} (omega arith))

-- those of the elements from the first on stand behind what is before that
pub each_behind :
    (low : paths.Step) (first count : ℕ) (found : List Conflict) → ((i : ℕ) → first ≤ i → step_cmp low (index i) ≡ Less) → AreBehind place_of low (each_index first count found)
each_behind low first zero found g = tt
each_behind low first (suc count) found g =
    all_append _ (each_index first count found) (map (conflict_under (index (first + count) ∷ [])) found) (each_behind low first count found g)
    (lifted_behind place_of (conflict_under (index (first + count) ∷ [])) (index (first + count)) (λ x. refl) low found (g (first + count) (omega arith)))

-- and below the place of the list
pub each_below : (first count : ℕ) (found : List Conflict) → AllByRecursion (λ y. path_cmp [] (place_of y) ≡ Less) (each_index first count found)
each_below first zero found = tt
each_below first (suc count) found = all_append _ (each_index first count found) (map (conflict_under (index (first + count) ∷ [])) found) (each_below first count found) (each found)
  where
    each : (xs : List Conflict) → AllByRecursion (λ y. path_cmp [] (place_of y) ≡ Less) (map (conflict_under (index (first + count) ∷ [])) xs)
    each [] = tt
    each (x ∷ xs) = (refl, each xs)

each_before : (first count last : ℕ) (found : List Conflict) → first + count ≤ last → AreBefore place_of (each_index first count found) (map (conflict_under (index last ∷ [])) found)
each_before first zero last found l = tt
each_before first (suc count) last found l =
    all_append _ (each_index first count found) (map (conflict_under (index (first + count) ∷ [])) found) (each_before first count last found (omega arith))
    (lifted_before place_of (conflict_under (index (first + count) ∷ [])) (index (first + count)) (λ x. refl) found (map (conflict_under (index last ∷ [])) found)
    (lifted_behind place_of (conflict_under (index last ∷ [])) (index last) (λ x. refl) (index (first + count)) found (less_index (first + count) last (omega arith))))

pub each_rising : (first count : ℕ) (found : List Conflict) → IsRising place_of found → IsRising place_of (each_index first count found)
each_rising first zero found h = tt
each_rising first (suc count) found h =
    rising_append place_of (each_index first count found) (map (conflict_under (index (first + count) ∷ [])) found) (each_rising first count found h)
    (rising_lifted place_of (conflict_under (index (first + count) ∷ [])) (index (first + count)) (λ x. refl) found h) (each_before first count (first + count) found (omega arith))
