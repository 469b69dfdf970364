-- The texts of zero, one, two, .. characters U+0000 are the least of all texts.
use Rattle.std.proofs.Common.{◌≡◌, ℕ, zero, suc, ◌<◌, ◌≤◌, Bool, true, false, not, List, [], ◌∷◌, length, get_or, refl, sym, ap, ◌∙◌, subst, arith, ⊎_elim}
use Rattle.std.specs.Str.{bytes_eq}
use Rattle.std.specs.Ordering.{nat_cmp, ordering_then}
use Rattle.std.specs.declared.cmp.Ordering.{Ordering}
use Rattle.std.specs.declared.cmp.Ordering.TheVariants.{Less, Equal, Greater}
use Rattle.std.proofs.lemmas.Bool.{cases_order, false≢true}
use Rattle.std.proofs.lemmas.Cmp.{ranked, nat_list_cmp_total, tied_itself}
use Rattle.std.proofs.lemmas.List.{length-replicate}
use Rattle.std.proofs.lemmas.Slice.Eq.{bytes_eq-Decides}
use Rattle.cue_sets.specs.Texts.{is_listed, text_cmp, IsAscending, IsFirstText}
use Rattle.cue_sets.specs.TextLaws.{zeros, first_is_listed, is_listed-before_first}
use Rattle.cue_sets.proofs.TextSearch.{listed_at, not_listed, at_or_below}

not_less : (P : Type 0) → Greater ≡ Less → P
not_less P e = cc

-- what is below one of these texts is one of them
pub below_zeros : (t : List ℕ) (m : ℕ) → text_cmp t (zeros m) ≡ Less → (k : ℕ) × (k < m) × (t ≡ zeros k)
below_zeros [] zero h = absurd (not_less_equal h) where
  not_less_equal : Equal ≡ Less → ⊥
  not_less_equal e = cc
below_zeros [] (suc m) h = (0, omega arith, refl)
below_zeros (a ∷ t) zero h = not_less _ h
below_zeros (a ∷ t) (suc m) h = cases (below_zeros t m) (nat_cmp a 0) refl h where
  cases : (text_cmp t (zeros m) ≡ Less → (k : ℕ) × (k < m) × (t ≡ zeros k)) → (o : Ordering) → o ≡ nat_cmp a 0 → ordering_then o (text_cmp t (zeros m)) ≡ Less → (k : ℕ) × (k < suc m) × (a ∷ t ≡ zeros k)
  cases ih Less e h = let l : a < 0 = ranked a 0 Less e in absurd (omega arith)
  cases ih Equal e h =
      let z : a ≡ 0 = ranked a 0 Equal e in let w = ih h in
      (suc w.0, omega (arith, w.1), λ i. z i ∷ w.2 i)
  cases ih Greater e h = not_less _ h

ascending_at : (xs : List (List ℕ)) (i j : ℕ) → IsAscending xs → i < j → j < length xs → text_cmp (get_or xs i []) (get_or xs j []) ≡ Less
ascending_at [] i j a h l = absurd (omega arith)
ascending_at (x ∷ xs) zero zero a h l = absurd (omega arith)
ascending_at (x ∷ xs) zero (suc j) a h l = at_or_below x xs j [] a.0 (omega arith)
ascending_at (x ∷ xs) (suc i) zero a h l = absurd (omega arith)
ascending_at (x ∷ xs) (suc i) (suc j) a h l = ascending_at xs i j a.1 (omega arith) (omega arith)

not_below_itself : (x y : List ℕ) → x ≡ y → text_cmp x y ≡ Less → ⊥
not_below_itself x y e h = clash (sym (tied_itself nat_list_cmp_total x) ∙ ap (text_cmp x) e ∙ h) where
  clash : Equal ≡ Less → ⊥
  clash e = cc

false_when : (t : Bool) → (t ≡ true → ⊥) → t ≡ false
false_when true h = absurd (h refl)
false_when false h = refl

gap_not_listed : (xs : List (List ℕ)) (n : ℕ) → IsAscending xs → ((k : ℕ) → k < n → get_or xs k [] ≡ zeros k) → (n < length xs → get_or xs n [] ≡ zeros n → ⊥) → (k : ℕ) → k < length xs → get_or xs k [] ≡ zeros n → ⊥
gap_not_listed xs n a front gap k l e =
    ⊎_elim
    (λ same. gap (omega (arith, same)) (subst (λ j. get_or xs j [] ≡ zeros n) same e))
    (λ other. ⊎_elim
    (λ before. omega (arith, length-replicate {A = ℕ}, ap length (sym (front k before) ∙ e)))
    (λ after.
    let less = subst (λ t. text_cmp (get_or xs n []) t ≡ Less) e (ascending_at xs n k a after l) in
    let w = below_zeros (get_or xs n []) n less in
    not_below_itself (get_or xs w.0 []) (get_or xs n []) (front w.0 w.1 ∙ sym w.2) (ascending_at xs w.0 n a w.1 (omega arith)))
    other)
    (cases_order k n)

-- the first of these texts that an ascending list lacks is the least that it lacks
pub first_gap : (xs : List (List ℕ)) (n : ℕ) → IsAscending xs → n ≤ length xs → ((k : ℕ) → k < n → get_or xs k [] ≡ zeros k) → (n < length xs → get_or xs n [] ≡ zeros n → ⊥) → IsFirstText (true, xs) (zeros n)
first_gap xs n a bound front gap = record {
  member = ap not (not_listed_at xs n a front gap);
  first = λ other member less.
      let w = below_zeros other n less in
      let listed : is_listed xs other ≡ true = subst (λ t. is_listed xs t ≡ true) (front w.0 w.1 ∙ sym w.2) (listed_at xs w.0 [] (omega (arith, w.1))) in
      false≢true (sym (ap not listed) ∙ member);
} where
  not_listed_at : (xs : List (List ℕ)) (n : ℕ) → IsAscending xs → ((k : ℕ) → k < n → get_or xs k [] ≡ zeros k) → (n < length xs → get_or xs n [] ≡ zeros n → ⊥) → is_listed xs (zeros n) ≡ false
  not_listed_at xs n a front gap =
      not_listed xs (zeros n) (λ k l. false_when (bytes_eq (get_or xs k []) (zeros n)) (λ e. gap_not_listed xs n a front gap k l ((bytes_eq-Decides (get_or xs k []) (zeros n)).0 e)))

-- so many bytes, each of them zero
pub same_zeros : (bytes : List ℕ) (n : ℕ) → length bytes ≡ n → ((k : ℕ) → k < length bytes → get_or bytes k 0 ≡ 0) → bytes ≡ zeros n
same_zeros [] zero l h = refl
same_zeros [] (suc n) l h = absurd (omega arith)
same_zeros (b ∷ bytes) zero l h = absurd (omega arith)
same_zeros (b ∷ bytes) (suc n) l h =
    let first = h 0 (omega arith) in let rest = same_zeros bytes n (omega arith) (λ k m. h (suc k) (omega arith)) in
    λ i. first i ∷ rest i

-- the first of a list that ascends is its least
pub first_listed : (xs : List (List ℕ)) (x : List ℕ) → IsAscending xs → 0 < length xs → x ≡ get_or xs 0 x → IsFirstText (false, xs) x
first_listed [] x a l e = absurd (omega arith)
first_listed (y ∷ xs) x a l e = subst (IsFirstText (false, y ∷ xs)) (sym e) (record {
  member = first_is_listed y xs;
  first = λ other member less. false≢true (sym (is_listed-before_first other y xs less a.0) ∙ member);
})
