-- Laws of sets of texts.
use Rattle.std.proofs.Common.{◌≡◌, ℕ, ◌+◌, ◌<◌, ◌≤◌, max, Bool, true, false, not, ◌||◌, ◌↔◌, List}
use Rattle.std.proofs.Common.{[], ◌∷◌, length, get_or, replicate, refl, sym, ap, ◌∙◌, subst, arith}
use Rattle.std.specs.Str.{bytes_eq}
use Rattle.std.specs.Ordering.{is_eq, ordering_reverse}
use Rattle.std.specs.declared.cmp.Ordering.{Ordering}
use Rattle.std.specs.declared.cmp.Ordering.TheVariants.{Less, Equal, Greater}
use Rattle.std.specs.FinMap.{nat_cmp-IsAntisymmetric, slice_cmp-IsAntisymmetric}
use Rattle.std.proofs.lemmas.Bool.{false≢true}
use Rattle.std.proofs.lemmas.List.{length-replicate}
use Rattle.std.proofs.lemmas.Cmp.{nat_list_cmp_total}
use Rattle.std.proofs.lemmas.Map.Text.{is_eq-slice_cmp}
use Rattle.std.proofs.lemmas.Slice.Eq.{bytes_eq-Decides}
use Rattle.cue_lattice.specs.Bools.{bool_same}
use Rattle.cue_sets.specs.Texts.{is_listed, is_text_member, text_cmp, IsTextBelowAll, IsAscending}
use Rattle.cue_sets.specs.Texts.{IsTextSet, RefusesText, IsOnlyText}

pub reverse_cmp : (x y : List ℕ) (o : Ordering) → text_cmp x y ≡ o
    → text_cmp y x ≡ ordering_reverse o
reverse_cmp x y o h = nat_list_cmp_total.antisymm y x ∙ ap ordering_reverse h

pub same_from_equal : (x y : List ℕ) → text_cmp x y ≡ Equal → x ≡ y
same_from_equal x y h = slice_cmp-IsAntisymmetric nat_cmp-IsAntisymmetric x y h

pub bytes_eq-itself : (x : List ℕ) → bytes_eq x x ≡ true
bytes_eq-itself x = (bytes_eq-Decides x x).1 refl

-- a lesser text is another one
pub bytes_eq-less : (x y : List ℕ) → text_cmp x y ≡ Less → bytes_eq x y ≡ false
bytes_eq-less x y h = sym (is_eq-slice_cmp x y) ∙ ap is_eq h

pub bytes_eq-greater : (x y : List ℕ) → text_cmp y x ≡ Less → bytes_eq x y ≡ false
bytes_eq-greater x y h = sym (is_eq-slice_cmp x y) ∙ ap is_eq (reverse_cmp y x Less h)

pub is_listed-below : (x : List ℕ) (xs : List (List ℕ)) → IsTextBelowAll x xs → is_listed xs x ≡ false
is_listed-below x [] b = refl
is_listed-below x (y ∷ ys) b = rw (bytes_eq-greater y x b.0) (is_listed-below x ys b.1)

pub IsTextBelowAll-lower : (x y : List ℕ) (ys : List (List ℕ)) → text_cmp x y ≡ Less → IsTextBelowAll y ys
    → IsTextBelowAll x ys
IsTextBelowAll-lower x y [] h b = tt
IsTextBelowAll-lower x y (z ∷ zs) h b =
    (nat_list_cmp_total.trans x y z h b.0, IsTextBelowAll-lower x y zs h b.1)

-- no text below the first is listed
pub is_listed-before_first : (x y : List ℕ) (ys : List (List ℕ)) → text_cmp x y ≡ Less
    → IsTextBelowAll y ys → is_listed (y ∷ ys) x ≡ false
is_listed-before_first x y ys h b = is_listed-below x (y ∷ ys) (h, IsTextBelowAll-lower x y ys h b)

pub first_is_listed : (x : List ℕ) (xs : List (List ℕ)) → is_listed (x ∷ xs) x ≡ true
first_is_listed x xs = rw (bytes_eq-itself x) refl

-- ---- ascending lists of the same texts are equal
rest_listed : (x t : List ℕ) (xs ys : List (List ℕ)) → IsTextBelowAll x xs → IsTextBelowAll x ys
    → is_listed (x ∷ xs) t ≡ is_listed (x ∷ ys) t → is_listed xs t ≡ is_listed ys t
rest_listed x t xs ys a b e = cases (bytes_eq x t) refl e where
  cases : (r : Bool) → bytes_eq x t ≡ r → (r || is_listed xs t) ≡ (r || is_listed ys t)
      → is_listed xs t ≡ is_listed ys t
  cases true h e =
      let same = (bytes_eq-Decides x t).0 h in
      subst (λ s. is_listed xs s ≡ is_listed ys s) same
      (is_listed-below x xs a ∙ sym (is_listed-below x ys b))
  cases false h e = e

pub same_from_listed : (xs ys : List (List ℕ)) → IsAscending xs → IsAscending ys
    → ((t : List ℕ) → is_listed xs t ≡ is_listed ys t) → xs ≡ ys
same_from_listed [] [] a b e = refl
same_from_listed [] (y ∷ ys) a b e = absurd (false≢true (e y ∙ first_is_listed y ys))
same_from_listed (x ∷ xs) [] a b e = absurd (false≢true (sym (e x) ∙ first_is_listed x xs))
same_from_listed (x ∷ xs) (y ∷ ys) a b e =
    cases (λ d f. same_from_listed xs ys a.1 d f) (text_cmp x y) refl where
      cases : (IsAscending ys → ((t : List ℕ) → is_listed xs t ≡ is_listed ys t) → xs ≡ ys)
          → (o : Ordering) → text_cmp x y ≡ o → x ∷ xs ≡ y ∷ ys
      cases ih Less h =
          absurd
          (false≢true
          (sym (is_listed-before_first x y ys h b.0) ∙ sym (e x) ∙ first_is_listed x xs))
      cases ih Greater h =
          absurd
          (false≢true
          (sym (is_listed-before_first y x xs (reverse_cmp x y Greater h) a.0) ∙ e y
          ∙ first_is_listed y ys))
      cases ih Equal h =
          let heads = same_from_equal x y h in
          let b' : IsTextBelowAll x ys × IsAscending ys =
          subst (λ z. IsTextBelowAll z ys × IsAscending ys) (sym heads) b in
          let e' : (t : List ℕ) → is_listed (x ∷ xs) t ≡ is_listed (x ∷ ys) t =
          λ t. e t ∙ ap (λ z. is_listed (z ∷ ys) t) (sym heads) in
          let rests = ih b'.1 (λ t. rest_listed x t xs ys a.0 b'.0 (e' t)) in
          λ i. heads i ∷ rests i

-- ---- a text that is longer than each listed one is not listed
abbrev pub greatest_length : List (List ℕ) → ℕ
greatest_length [] = 0
greatest_length (x ∷ xs) = max (length x) (greatest_length xs)

pub is_listed-longer : (xs : List (List ℕ)) (t : List ℕ) → greatest_length xs < length t
    → is_listed xs t ≡ false
is_listed-longer [] t l = refl
is_listed-longer (x ∷ xs) t l =
    rw (differ (bytes_eq x t) refl) (is_listed-longer xs t (omega arith)) where
      differ : (r : Bool) → bytes_eq x t ≡ r → r ≡ false
      differ false h = refl
      differ true h =
          let same = ap length ((bytes_eq-Decides x t).0 h) in absurd (omega (arith, same))

abbrev pub zeros : ℕ → List ℕ
zeros n = replicate n 0

pub is_listed-zeros : (xs : List (List ℕ)) (n : ℕ) → greatest_length xs < n
    → is_listed xs (zeros n) ≡ false
is_listed-zeros xs n l = is_listed-longer xs (zeros n) (rw length-replicate l)

not_same : (a b : Bool) → not a ≡ not b → a ≡ b
not_same true true e = refl
not_same true false e = sym e
not_same false true e = sym e
not_same false false e = refl

-- a text that neither set lists
unlisted_text : (xs ys : List (List ℕ)) → ((t : List ℕ) → is_listed xs t ≡ not (is_listed ys t)) → ⊥
unlisted_text xs ys e =
    let n : ℕ = greatest_length xs + greatest_length ys + 1 in
    false≢true
    (sym (is_listed-zeros xs n (omega arith)) ∙ e (zeros n)
    ∙ ap not (is_listed-zeros ys n (omega arith)))

pub same_from_text_members : (a b : Bool × List (List ℕ)) → IsTextSet a → IsTextSet b
    → ((t : List ℕ) → is_text_member a t ≡ is_text_member b t) → a ≡ b
same_from_text_members (false, xs) (false, ys) a b e =
    ap (λ zs. (false, zs)) (same_from_listed xs ys a b e)
same_from_text_members (true, xs) (true, ys) a b e =
    ap (λ zs. (true, zs)) (same_from_listed xs ys a b (λ t. not_same _ _ (e t)))
same_from_text_members (false, xs) (true, ys) a b e = absurd (unlisted_text xs ys e)
same_from_text_members (true, xs) (false, ys) a b e = absurd (unlisted_text ys xs (λ t. sym (e t)))

-- sets that refuse the same texts are equal
pub same_texts : (a b : Bool × List (List ℕ)) → IsTextSet a → IsTextSet b
    → ((t : List ℕ) → RefusesText a t ↔ RefusesText b t) → a ≡ b
same_texts a b p q e = same_from_text_members a b p q (λ t. bool_same _ _ (e t).0 (e t).1)

-- the set of all texts is the one that refuses nothing
pub free_is_all : (a : Bool × List (List ℕ)) → IsTextSet a
    → (a ≡ (true, [])) ↔ ((t : List ℕ) → ¬ RefusesText a t)
free_is_all a p = (
  λ e t r. false≢true (sym r ∙ ap (λ b. is_text_member b t) e),
  λ h. same_texts a (true, []) p tt (λ t. (λ r. absurd (h t r), λ r. absurd (false≢true (sym r)))),
)

-- ---- only members
pub only_listed : (x : List ℕ) → IsOnlyText (false, x ∷ []) x
only_listed x = record {
  member = first_is_listed x [];
  only = λ t h. sym ((bytes_eq-Decides x t).0 (first_of (bytes_eq x t) h));
} where
  first_of : (r : Bool) → (r || false) ≡ true → r ≡ true
  first_of true h = refl
  first_of false h = h

pub none_listed : (t : List ℕ) → IsOnlyText (false, []) t → ⊥
none_listed t o = false≢true o.member

pub several_listed : (xs : List (List ℕ)) → IsAscending xs → 2 ≤ length xs → (t : List ℕ)
    → IsOnlyText (false, xs) t → ⊥
several_listed [] a l t o = absurd (omega arith)
several_listed (x ∷ []) a l t o = absurd (omega arith)
several_listed (x ∷ y ∷ xs) a l t o =
    let same =
    o.only x (first_is_listed x (y ∷ xs))
    ∙ sym (o.only y (rw (first_is_listed y xs) (or_true _))) in
    false≢true (sym (bytes_eq-less x y a.0.0) ∙ (bytes_eq-Decides x y).1 same)
  where
    or_true : (r : Bool) → (r || true) ≡ true
    or_true true = refl
    or_true false = refl

pub all_but_several : (xs : List (List ℕ)) (t : List ℕ) → IsOnlyText (true, xs) t → ⊥
all_but_several xs t o =
    let n : ℕ = greatest_length xs + 1 in
    let a = o.only (zeros n) (ap not (is_listed-zeros xs n (omega arith))) in
    let b = o.only (zeros (n + 1)) (ap not (is_listed-zeros xs (n + 1) (omega arith))) in
    let e = ap length (a ∙ sym b) in
    omega (arith, e, length-replicate {A = ℕ})

pub one_listed : (xs : List (List ℕ)) (x : List ℕ) → length xs ≡ 1 → x ≡ get_or xs 0 x
    → IsOnlyText (false, xs) x
one_listed [] x l e = absurd (omega arith)
one_listed (y ∷ []) x l e = subst (λ z. IsOnlyText (false, y ∷ []) z) (sym e) (only_listed y)
one_listed (y ∷ z ∷ xs) x l e = absurd (omega arith)

pub not_one_text : (xs : List (List ℕ)) → IsAscending xs → (length xs ≡ 1 → ⊥) → (t : List ℕ)
    → IsOnlyText (false, xs) t → ⊥
not_one_text [] a n t o = none_listed t o
not_one_text (x ∷ []) a n t o = n refl
not_one_text (x ∷ y ∷ xs) a n t o = several_listed (x ∷ y ∷ xs) a (omega arith) t o

-- a set that is not empty has a member
pub some_text : (set : Bool × List (List ℕ)) → (set ≡ (false, []) → ⊥)
    → (t : List ℕ) × (is_text_member set t ≡ true)
some_text (false, []) h = absurd (h refl)
some_text (false, x ∷ xs) h = (x, first_is_listed x xs)
some_text (true, xs) h = (
  zeros (greatest_length xs + 1),
  ap not (is_listed-zeros xs (greatest_length xs + 1) (omega arith)),
)
