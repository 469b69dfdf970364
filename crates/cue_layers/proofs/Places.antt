-- What a search for a key among layers finds.
use Rattle.std.proofs.Common.{◌≡◌, ℕ, zero, suc, ◌<◌, ◌≤◌, List, [], ◌∷◌, ◌++◌, length, take, drop, get_or, Result, Ok, Err, refl, sym, ap, ◌∙◌, subst, arith}
use Rattle.std.specs.Result.{MatchResult}
use Rattle.std.specs.List.{AllByRecursion}
use Rattle.std.specs.List.Sorted.{IsNonDecreasingBy, IsBinarySearchResult, IsSearchInRange}
use Rattle.std.specs.Ordering.{nat_cmp, ordering_index, ordering_reverse}
use Rattle.std.specs.Cmp.Lexicographic.{slice_cmp}
use Rattle.std.specs.declared.cmp.Ordering.{Ordering}
use Rattle.std.specs.declared.cmp.Ordering.TheVariants.{Less, Equal, Greater}
use Rattle.std.proofs.lemmas.Cmp.{nat_list_cmp_total}
use Rattle.std.proofs.lemmas.List.{length-take, take-append-drop}
use Rattle.cue_layers.specs.declared.layer.Layer.{Layer}
use Rattle.cue_layers.specs.Layers.{Key, key_of, IsKeyBefore, IsInOrder}
use Rattle.cue_layers.specs.Inner.Places.{IsPlace, IsGap}
use Rattle.cue_layers.proofs.Keys.{tied_same, greater_before}

-- how the key of a layer compares with another key
abbrev pub cmp_with : Key → Layer → Ordering
cmp_with k layer = slice_cmp nat_cmp (key_of layer) k

abbrev rank : Key → Layer → ℕ
rank k layer = ordering_index (cmp_with k layer)

reversed_cmp : (a b : Key) (o : Ordering) → slice_cmp nat_cmp a b ≡ o → slice_cmp nat_cmp b a ≡ ordering_reverse o
reversed_cmp a b o h = nat_list_cmp_total.antisymm b a ∙ ap ordering_reverse h

-- what comes first has no greater rank
first_rank : (a b k : Key) → IsKeyBefore a b → (o : Ordering) → slice_cmp nat_cmp a k ≡ o → ordering_index o ≤ ordering_index (slice_cmp nat_cmp b k)
first_rank a b k h Less e = omega arith
first_rank a b k h Equal e =
    let f : slice_cmp nat_cmp b k ≡ Greater = subst (λ (c : Key). slice_cmp nat_cmp b c ≡ Greater) (tied_same a k e) (reversed_cmp a b Less h) in
    rw f (omega arith)
first_rank a b k h Greater e =
    let f : slice_cmp nat_cmp k b ≡ Less = nat_list_cmp_total.trans k a b (reversed_cmp a k Greater e) h in
    rw (reversed_cmp k b Less f) (omega arith)

-- what is before all others is before each
before_at : (a : Key) (ls : List Layer) (i : ℕ) (d : Layer) → AllByRecursion (λ l. IsKeyBefore a (key_of l)) ls → i < length ls → IsKeyBefore a (key_of (get_or ls i d))
before_at a [] i d all lt = absurd (omega arith)
before_at a (l ∷ ls) zero d all lt = all.0
before_at a (l ∷ ls) (suc i) d all lt = before_at a ls i d all.1 (omega arith)

ranks_ascend : (ls : List Layer) (k : Key) → IsInOrder ls → IsNonDecreasingBy (rank k) ls
ranks_ascend [] k o i j d h l = absurd (omega arith)
ranks_ascend (x ∷ ls) k o zero zero d h l = omega arith
ranks_ascend (x ∷ ls) k o zero (suc j) d h l = first_rank (key_of x) (key_of (get_or ls j d)) k (before_at (key_of x) ls j d o.0 (omega arith)) (cmp_with k x) refl
ranks_ascend (x ∷ ls) k o (suc i) zero d h l = absurd (omega arith)
ranks_ascend (x ∷ ls) k o (suc i) (suc j) d h l = ranks_ascend ls k o.1 i j d (omega arith) (omega arith)

-- a list at an index
split_here : {X : Type 0} (xs : List X) (i : ℕ) (d : X) → i < length xs → xs ≡ take i xs ++ get_or xs i d ∷ drop (suc i) xs
split_here [] i d lt = absurd (omega arith)
split_here (x ∷ xs) zero d lt = refl
split_here {X} (x ∷ xs) (suc i) d lt = ap (λ (ys : List X). x ∷ ys) (split_here xs i d (omega arith))

pub element_at : {X : Type 0} (xs : List X) (i : ℕ) → i < length xs → X
element_at [] i lt = absurd (omega arith)
element_at (x ∷ xs) zero lt = x
element_at (x ∷ xs) (suc i) lt = element_at xs i (omega arith)

front_all : (P : Layer → Type 0) (ls : List Layer) (n : ℕ) → n ≤ length ls → ((i : ℕ) (d : Layer) → i < n → P (get_or ls i d)) → AllByRecursion P (take n ls)
front_all P ls zero le h = tt
front_all P [] (suc n) le h = absurd (omega arith)
front_all P (l ∷ ls) (suc n) le h = (h 0 l (omega arith), front_all P ls n (omega arith) (λ i d lt. h (suc i) d (omega arith)))

back_all : (P : Layer → Type 0) (ls : List Layer) (n : ℕ) → ((i : ℕ) (d : Layer) → n ≤ i → i < length ls → P (get_or ls i d)) → AllByRecursion P (drop n ls)
back_all P [] zero h = tt
back_all P (l ∷ ls) zero h = (h 0 l (omega arith) (omega arith), back_all P ls zero (λ i d low lt. h (suc i) d (omega arith) (omega arith)))
back_all P [] (suc n) h = tt
back_all P (l ∷ ls) (suc n) h = back_all P ls n (λ i d low lt. h (suc i) d (omega arith) (omega arith))

-- what a search by the key answers
pub searched : (ls : List Layer) (k : Key) (r : Result ℕ ℕ) → IsInOrder ls → IsSearchInRange r (length ls) → IsBinarySearchResult (cmp_with k) ls r → MatchResult r (IsPlace ls k) (IsGap ls k)
searched ls k (Ok at) o bound found =
    let d : Layer = element_at ls at bound in
    record {
      front = take at ls;
      layer = get_or ls at d;
      back = drop (suc at) ls;
      parts = split_here ls at d bound;
      count = omega (arith, length-take at ls, bound);
      same = tied_same (key_of (get_or ls at d)) k (found d);
    }
searched ls k (Err at) o bound found =
    let point = found (ranks_ascend ls k o) in
    record {
      front = take at ls;
      back = drop at ls;
      parts = sym (take-append-drop at ls);
      count = omega (arith, length-take at ls, bound);
      before = front_all (λ l. IsKeyBefore (key_of l) k) ls at bound (λ i d lt. point.0 i d (omega arith) lt);
      behind = back_all (λ l. IsKeyBefore k (key_of l)) ls at (λ i d low lt. greater_before (key_of (get_or ls i d)) k (point.1 i d low lt));
    }
