-- What a binary search in an ascending list of texts tells.
use Rattle.std.proofs.Common.{◌≡◌, ℕ, zero, suc, ◌<◌, ◌≤◌, Bool, true, false, List, [], ◌∷◌, length, get_or, Result, Ok, Err, refl, sym, subst, arith, ⊎_elim, ◌||◌}
use Rattle.std.specs.Prelude.{is_ok}
use Rattle.std.proofs.lemmas.Bool.{cases_lt}
use Rattle.std.proofs.lemmas.Cmp.{nat_list_cmp_total}
use Rattle.std.specs.Str.{bytes_eq}
use Rattle.std.specs.Ordering.{ordering_index}
use Rattle.std.specs.declared.cmp.Ordering.{Ordering}
use Rattle.std.specs.declared.cmp.Ordering.TheVariants.{Less, Equal, Greater}
use Rattle.std.specs.List.Sorted.{IsNonDecreasingBy, IsBinarySearchResult, IsSearchInRange}
use Rattle.cue_sets.specs.Texts.{is_listed, text_cmp, IsTextBelowAll, IsAscending}
use Rattle.cue_sets.specs.TextLaws.{same_from_equal, bytes_eq-itself, bytes_eq-less, bytes_eq-greater, reverse_cmp}

-- how a text of the list compares with the one that is searched, as a number
abbrev pub place : List ℕ → List ℕ → ℕ
place text listed = ordering_index (text_cmp listed text)

or_true : (a : Bool) → (a || true) ≡ true
or_true true = refl
or_true false = refl

-- the text at each place of a list is listed
pub listed_at : (texts : List (List ℕ)) (k : ℕ) (d : List ℕ) → k < length texts → is_listed texts (get_or texts k d) ≡ true
listed_at [] k d l = absurd (omega arith)
listed_at (x ∷ texts) zero d l = rw (bytes_eq-itself x) refl
listed_at (x ∷ texts) (suc k) d l = rw (listed_at texts k d (omega arith)) (or_true _)

-- a text that equals none of a list is not listed
pub not_listed : (texts : List (List ℕ)) (text : List ℕ) → ((k : ℕ) → k < length texts → bytes_eq (get_or texts k []) text ≡ false) → is_listed texts text ≡ false
not_listed [] text h = refl
not_listed (x ∷ texts) text h = rw (h 0 (omega arith)) (not_listed texts text (λ k l. h (suc k) (omega arith)))

-- the first text compares no later than any other
first_place : (x text y : List ℕ) → text_cmp x y ≡ Less → (o : Ordering) → text_cmp x text ≡ o → ordering_index o ≤ place text y
first_place x text y h Less e = omega arith
first_place x text y h Equal e =
    let f : text_cmp y text ≡ Greater = subst (λ z. text_cmp y z ≡ Greater) (same_from_equal x text e) (reverse_cmp x y Less h) in
    rw f (omega arith)
first_place x text y h Greater e =
    let f : text_cmp text y ≡ Less = nat_list_cmp_total.trans text x y (reverse_cmp x text Greater e) h in
    rw (reverse_cmp text y Less f) (omega arith)

-- a text below all of a list is below the one at each place
pub at_or_below : (x : List ℕ) (texts : List (List ℕ)) (k : ℕ) (d : List ℕ) → IsTextBelowAll x texts → k < length texts → text_cmp x (get_or texts k d) ≡ Less
at_or_below x [] k d b l = absurd (omega arith)
at_or_below x (y ∷ texts) zero d b l = b.0
at_or_below x (y ∷ texts) (suc k) d b l = at_or_below x texts k d b.1 (omega arith)

-- the places of texts in an ascending list ascend
pub places_ascend : (texts : List (List ℕ)) (text : List ℕ) → IsAscending texts → IsNonDecreasingBy (place text) texts
places_ascend [] text a i j d h l = absurd (omega arith)
places_ascend (x ∷ texts) text a zero zero d h l = omega arith
places_ascend (x ∷ texts) text a zero (suc j) d h l = first_place x text (get_or texts j d) (at_or_below x texts j d a.0 (omega arith)) (text_cmp x text) refl
places_ascend (x ∷ texts) text a (suc i) zero d h l = absurd (omega arith)
places_ascend (x ∷ texts) text a (suc i) (suc j) d h l = places_ascend texts text a.1 i j d (omega arith) (omega arith)

-- a search in an ascending list finds a text just where it is listed
pub is_listed-searched : (texts : List (List ℕ)) (text : List ℕ) (r : Result ℕ ℕ) → IsAscending texts → IsSearchInRange r (length texts) → IsBinarySearchResult (λ listed. text_cmp listed text) texts r → is_ok r ≡ is_listed texts text
is_listed-searched texts text (Ok k) a bound found =
    sym (subst (λ t. is_listed texts t ≡ true) (same_from_equal (get_or texts k []) text (found [])) (listed_at texts k [] bound))
is_listed-searched texts text (Err i) a bound found =
    let point = found (places_ascend texts text a) in
    sym (not_listed texts text (λ k l. ⊎_elim (λ h. bytes_eq-less (get_or texts k []) text (point.0 k [] (omega arith) h)) (λ h. bytes_eq-greater (get_or texts k []) text (reverse_cmp (get_or texts k []) text Greater (point.1 k [] h l))) (cases_lt k i)))
