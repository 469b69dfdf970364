-- Texts in any order as an ascending list.
use Rattle.std.proofs.Common.{◌≡◌, ℕ, suc, ◌+◌, Bool, true, false, not, ◌&&◌, ◌||◌, List, [], ◌∷◌, ◌++◌, length, get_or, refl, sym, ap, ◌∙◌, subst, arith, append_assoc}
use Rattle.std.specs.Str.{bytes_eq}
use Rattle.std.specs.List.Sorted.{IsSortedBy, IsPermutation}
use Rattle.std.specs.List.{list_any}
use Rattle.std.specs.Ordering.{is_lt}
use Rattle.std.specs.declared.cmp.Ordering.{Ordering}
use Rattle.std.specs.declared.cmp.Ordering.TheVariants.{Less, Equal, Greater}
use Rattle.std.proofs.lemmas.Bool.{false≢true}
use Rattle.std.proofs.lemmas.List.Sorted.{list_any-IsPermutation}
use Rattle.cue_sets.specs.Texts.{is_listed, text_cmp, IsAscending}
use Rattle.cue_sets.specs.TextLaws.{reverse_cmp, same_from_equal, IsTextBelowAll-lower}

-- whether a text is below another
abbrev pub is_below : List ℕ → List ℕ → Bool
is_below x y = is_lt (text_cmp x y)

-- no text is below the one before it; the first argument is before the first
abbrev pub RisesFrom : List ℕ → List (List ℕ) → Type 0
RisesFrom before [] = Unit {0}
RisesFrom before (text ∷ texts) = (is_below text before ≡ false) × RisesFrom text texts

plus_one : (k : ℕ) → (suc k + 1) ≡ suc (k + 1)
plus_one k = omega arith

-- texts that are sorted rise
pub rises : (first : List ℕ) (texts : List (List ℕ)) → IsSortedBy is_below (first ∷ texts) → RisesFrom first texts
rises first [] sorted = tt
rises first (text ∷ texts) sorted = (
  sorted 0 first (omega arith) (omega arith),
  rises text texts (λ k d z h. subst (λ m. is_below (get_or (first ∷ text ∷ texts) m d) (get_or (text ∷ texts) k d) ≡ false) (plus_one k) (sorted (suc k) d (omega arith) (omega arith))),
)

-- The texts that are made, the one that is held and those that are left are all texts. What comes after the one that is
-- held comes after those that are made.
pub record AreOrdered (made : List (List ℕ)) (held : List ℕ) (rest all : List (List ℕ)) : Type 0 where
  pub ascending : (later : List (List ℕ)) → IsAscending (held ∷ later) → IsAscending (made ++ held ∷ later)
  pub listed : (t : List ℕ) → (is_listed made t || (bytes_eq held t || is_listed rest t)) ≡ is_listed all t
  pub rising : RisesFrom held rest

-- the first of sorted texts is held
pub AreOrdered-first :
    (first : List ℕ) (rest sorted all : List (List ℕ)) → sorted ≡ first ∷ rest → IsSortedBy is_below sorted
    → ((t : List ℕ) → is_listed sorted t ≡ is_listed all t) → AreOrdered [] first rest all
AreOrdered-first first rest sorted all is by same = record {
  ascending = λ later a. a;
  listed = λ t. ap (λ texts. is_listed texts t) (sym is) ∙ same t;
  rising = rises first rest (subst (IsSortedBy is_below) is by);
}

or_same : (a b : Bool) → (a || b) ≡ (a || (a || b))
or_same true b = refl
or_same false b = refl

or_assoc : (a b c : Bool) → ((a || b) || c) ≡ (a || (b || c))
or_assoc true b c = refl
or_assoc false b c = refl

or_false : (a : Bool) → (a || false) ≡ a
or_false true = refl
or_false false = refl

-- the next text is the same
pub AreOrdered-same : (made : List (List ℕ)) (held next : List ℕ) (rest later all : List (List ℕ)) → rest ≡ next ∷ later → AreOrdered made held rest all → held ≡ next → AreOrdered made held later all
AreOrdered-same made held next rest later all is o same = record {
  ascending = o.ascending;
  listed = λ t.
      ap (λ b. is_listed made t || b) (or_same (bytes_eq held t) (is_listed later t) ∙ ap (λ x. bytes_eq held t || (bytes_eq x t || is_listed later t)) same)
      ∙ ap (λ texts. is_listed made t || (bytes_eq held t || is_listed texts t)) (sym is)
      ∙ o.listed t;
  rising = subst (λ x. RisesFrom x later) (sym same) (subst (RisesFrom held) is o.rising).1;
}

-- a text that is not below another and is another one is above it
above : (x y : List ℕ) (o : Ordering) → text_cmp y x ≡ o → is_lt o ≡ false → (x ≡ y → ⊥) → text_cmp x y ≡ Less
above x y Less h e other = absurd (false≢true (sym e))
above x y Equal h e other = absurd (other (sym (same_from_equal y x h)))
above x y Greater h e other = reverse_cmp y x Greater h

-- the texts of two lists
pub is_listed-append : (xs ys : List (List ℕ)) (t : List ℕ) → is_listed (xs ++ ys) t ≡ (is_listed xs t || is_listed ys t)
is_listed-append [] ys t = refl
is_listed-append (x ∷ xs) ys t = ap (λ b. bytes_eq x t || b) (is_listed-append xs ys t) ∙ sym (or_assoc (bytes_eq x t) (is_listed xs t) (is_listed ys t))

-- the next text is another one
pub AreOrdered-apart : (made : List (List ℕ)) (held next : List ℕ) (rest later all : List (List ℕ)) → rest ≡ next ∷ later → AreOrdered made held rest all → (held ≡ next → ⊥) → AreOrdered (made ++ held ∷ []) next later all
AreOrdered-apart made held next rest later all is o other =
    let rising : RisesFrom held (next ∷ later) = subst (RisesFrom held) is o.rising in
    let less : text_cmp held next ≡ Less = above held next (text_cmp next held) refl rising.0 other in
    record {
      ascending = λ more a.
          subst IsAscending (sym (append_assoc made (held ∷ []) (next ∷ more)))
          (o.ascending (next ∷ more) ((less, IsTextBelowAll-lower held next more less a.0), a));
      listed = λ t.
          ap (λ b. b || (bytes_eq next t || is_listed later t)) (is_listed-append made (held ∷ []) t ∙ ap (λ b. is_listed made t || b) (or_false (bytes_eq held t)))
          ∙ or_assoc (is_listed made t) (bytes_eq held t) (bytes_eq next t || is_listed later t)
          ∙ ap (λ texts. is_listed made t || (bytes_eq held t || is_listed texts t)) (sym is)
          ∙ o.listed t;
      rising = rising.1;
    }

-- no text is left
pub AreOrdered-all : (made : List (List ℕ)) (held : List ℕ) (rest all : List (List ℕ)) → length rest ≡ 0 → AreOrdered made held rest all → IsAscending (made ++ held ∷ []) × ((t : List ℕ) → is_listed (made ++ held ∷ []) t ≡ is_listed all t)
AreOrdered-all made held (text ∷ rest) all is o = absurd (omega arith)
AreOrdered-all made held [] all is o = (
  o.ascending [] (tt, tt),
  λ t. is_listed-append made (held ∷ []) t ∙ o.listed t,
)

is_listed-any : (texts : List (List ℕ)) (t : List ℕ) → is_listed texts t ≡ list_any (λ x. bytes_eq x t) texts
is_listed-any [] t = refl
is_listed-any (x ∷ texts) t = ap (λ b. bytes_eq x t || b) (is_listed-any texts t)

-- texts in another order are the same texts
pub is_listed-permutation : (xs ys : List (List ℕ)) (t : List ℕ) → IsPermutation xs ys → is_listed ys t ≡ is_listed xs t
is_listed-permutation xs ys t moved = is_listed-any ys t ∙ sym (list_any-IsPermutation (λ x. bytes_eq x t) xs ys moved) ∙ sym (is_listed-any xs t)

-- the texts of one more finite set
pub gathered_more : (texts more : List (List ℕ)) (others later : Bool) (t : List ℕ) → ((is_listed (texts ++ more) t || others) || later) ≡ ((is_listed texts t || others) || (is_listed more t || later))
gathered_more texts more others later t = ap (λ b. (b || others) || later) (is_listed-append texts more t) ∙ moved (is_listed texts t) (is_listed more t) others where
  moved : (a b others : Bool) → (((a || b) || others) || later) ≡ ((a || others) || (b || later))
  moved true b others = refl
  moved false true true = refl
  moved false true false = refl
  moved false false others = refl

-- the texts that one more set of all texts but some lacks
pub lacked_more : (texts more : List (List ℕ)) (others later : Bool) (t : List ℕ) → ((not (is_listed (texts ++ more) t) && others) && later) ≡ ((not (is_listed texts t) && others) && (not (is_listed more t) && later))
lacked_more texts more others later t = ap (λ b. (not b && others) && later) (is_listed-append texts more t) ∙ moved (is_listed texts t) (is_listed more t) others where
  moved : (a b others : Bool) → ((not (a || b) && others) && later) ≡ ((not a && others) && (not b && later))
  moved true b others = refl
  moved false true true = refl
  moved false true false = refl
  moved false false others = refl
