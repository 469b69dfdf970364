-- What the sets of scalars and the texts of a met row have.
use Rattle.std.proofs.Common.{◌≡◌, ◌↔◌, ◌⊎◌, inl, inr, ⊎_elim, ℕ, ◌+◌, ℤ, Bool, true, false, not, ◌&&◌, ◌||◌, List, [], ◌∷◌, Option, Some, None, refl, sym, ap, subst, ◌∙◌, arith}
use Rattle.std.proofs.lemmas.Bool.{false≢true}
use Rattle.std.proofs.lemmas.Int.{by_lt_z}
use Rattle.std.proofs.lemmas.Slice.Eq.{bytes_eq-Decides}
use Rattle.std.specs.Str.{bytes_eq}
use Rattle.cue_lattice.specs.declared.scalar.Scalar.{Scalar}
use Rattle.cue_lattice.specs.declared.scalar.Scalar.TheVariants as scalars
use Rattle.cue_lattice.specs.Scalar.{IsInteger}
use Rattle.cue_sets.specs.Pieces.{is_member, least, greatest, IsCanonical, RefusesInteger}
use Rattle.cue_sets.specs.PieceLaws.{is_member-below, is_member-above, some_member}
use Rattle.cue_sets.specs.Texts.{is_listed, RefusesText}
use Rattle.cue_sets.specs.TextLaws.{first_is_listed, some_text, greatest_length, zeros, is_listed-zeros}
use Rattle.cue_scalars.specs.Scalars.{members, IsScalarSet, RefusesScalar}
use Rattle.cue_scalars.specs.declared.scalar_set.ScalarSet.{ScalarSet}
use Rattle.cue_scalars.proofs.ByKind.{has_plain, some_plain, no_member}
use Rattle.cue_row.specs.Kinds.{IsEmptySet}
use Rattle.cue_row.specs.LabelSets.{RefusesLabel}
use Rattle.cue_row.specs.ValidRow.{IsWord, AreWords, AreLabelWords}

clash : (b : Bool) → b ≡ true → b ≡ false → ⊥
clash b p q = false≢true (sym q ∙ p)

-- what is not false is true
pub not_refused : (b : Bool) → (b ≡ false → ⊥) → b ≡ true
not_refused true h = refl
not_refused false h = absurd (h refl)

-- what is not true is false
pub not_member : (b : Bool) → (b ≡ true → ⊥) → b ≡ false
not_member true h = absurd (h refl)
not_member false h = refl

-- false just where one of two is
pub bool_met : (m a b : Bool) → (m ≡ false) ↔ ((a ≡ false) ⊎ (b ≡ false)) → m ≡ (a && b)
bool_met true true true h = refl
bool_met true true false h = absurd (false≢true (sym (h.1 (inr refl))))
bool_met true false b h = absurd (false≢true (sym (h.1 (inl refl))))
bool_met false true true h = absurd (⊎_elim (λ e. false≢true (sym e)) (λ e. false≢true (sym e)) (h.0 refl))
bool_met false true false h = refl
bool_met false false b h = refl

int_met :
    (a b m : List (ℤ × ℤ)) (n : ℤ) → IsCanonical a → IsCanonical m → RefusesInteger m n ↔ (RefusesInteger a n ⊎ RefusesInteger b n)
    → is_member m n ≡ (is_member a n && is_member b n)
int_met a b m n p r h =
    by_lt_z n least
    (λ low. is_member-below least m n r low ∙ sym (ap (λ c. c && is_member b n) (is_member-below least a n p low)))
    (λ from. by_lt_z greatest n
    (λ high. is_member-above least m n r high ∙ sym (ap (λ c. c && is_member b n) (is_member-above least a n p high)))
    (λ to. let inside : IsInteger n = (from, to) in
    bool_met (is_member m n) (is_member a n) (is_member b n) (
      λ e. ⊎_elim (λ x. inl x.1) (λ x. inr x.1) (h.0 (inside, e)),
      λ e. (h.1 (⊎_elim (λ x. inl (inside, x)) (λ x. inr (inside, x)) e)).1,
    )))

-- a member of the met set is one of both
pub members_met :
    (a b m : ScalarSet) → IsScalarSet a → IsScalarSet m → ((x : Scalar) → RefusesScalar m x ↔ (RefusesScalar a x ⊎ RefusesScalar b x))
    → (x : Scalar) → members m x ≡ (members a x && members b x)
members_met a b m p r h scalars.Null = bool_met _ _ _ (h scalars.Null)
members_met a b m p r h (scalars.Bool false) = bool_met _ _ _ (h (scalars.Bool false))
members_met a b m p r h (scalars.Bool true) = bool_met _ _ _ (h (scalars.Bool true))
members_met a b m p r h (scalars.Int n) = int_met a.ints b.ints m.ints n p.ints r.ints (h (scalars.Int n))
members_met a b m p r h (scalars.Text t) = bool_met _ _ _ (h (scalars.Text t))

no_pieces : (pieces : List (ℤ × ℤ)) → (pieces ≡ []) ⊎ (pieces ≡ [] → ⊥)
no_pieces [] = inl refl
no_pieces (piece ∷ pieces) = inr (λ e. cc)

no_texts : (texts : Bool × List (List ℕ)) → (texts ≡ (false, [])) ⊎ (texts ≡ (false, []) → ⊥)
no_texts (false, []) = inl refl
no_texts (false, text ∷ texts) = inr (λ e. let no : text ∷ texts ≡ [] = ap (λ (s : Bool × List (List ℕ)). s.1) e in cc)
no_texts (true, texts) = inr (λ e. false≢true (sym (ap (λ (s : Bool × List (List ℕ)). s.0) e)))

-- a set is empty or has a member
pub empty_or_not : (set : ScalarSet) → IsScalarSet set → IsEmptySet set ⊎ ((x : Scalar) × (members set x ≡ true))
empty_or_not set h = plain (has_plain set) refl where
  others : has_plain set ≡ false → IsEmptySet set ⊎ ((x : Scalar) × (members set x ≡ true))
  others e =
      ⊎_elim
      (λ ints. ⊎_elim
      (λ texts. inl (no_member set e ints texts))
      (λ some. let t = some_text set.texts some in inr (scalars.Text t.0, t.1))
      (no_texts set.texts))
      (λ some. let n = some_member set.ints h.ints some in inr (scalars.Int n.0, n.1))
      (no_pieces set.ints)

  plain : (b : Bool) → has_plain set ≡ b → IsEmptySet set ⊎ ((x : Scalar) × (members set x ≡ true))
  plain true e = let x = some_plain set e in inr (x.0, x.2)
  plain false e = others e

-- ---- texts
or_cases : (a b : Bool) → (a || b) ≡ true → (a ≡ true) ⊎ (b ≡ true)
or_cases true b e = inl refl
or_cases false b e = inr e

or_true : (a b : Bool) → b ≡ true → (a || b) ≡ true
or_true true b e = refl
or_true false b e = e

not_false : (b : Bool) → not b ≡ false → b ≡ true
not_false true e = refl
not_false false e = absurd (false≢true (sym e))

-- a text that is listed among words is a word
pub word_of : (xs : List (List ℕ)) (t : List ℕ) → AreWords xs → is_listed xs t ≡ true → IsWord t
word_of [] t h e = absurd (false≢true e)
word_of (x ∷ xs) t h e =
    ⊎_elim (λ here. subst IsWord ((bytes_eq-Decides x t).0 here) h.0) (λ further. word_of xs t h.1 further) (or_cases (bytes_eq x t) (is_listed xs t) e)

-- where each text that is listed is a word, all of the list are words
pub words_of : (xs : List (List ℕ)) → ((t : List ℕ) → is_listed xs t ≡ true → IsWord t) → AreWords xs
words_of [] h = tt
words_of (x ∷ xs) h = (h x (first_is_listed x xs), words_of xs (λ t e. h t (or_true (bytes_eq x t) (is_listed xs t) e)))

-- the texts that a met set lists are listed by one of the two
pub met_words : (a b m : Bool × List (List ℕ)) → AreWords a.1 → AreWords b.1 → ((t : List ℕ) → RefusesText m t ↔ (RefusesText a t ⊎ RefusesText b t)) → AreWords m.1
met_words (false, ls) b (false, xs) h k e =
    words_of xs (λ t l. word_of ls t h (not_refused (is_listed ls t) (λ r. clash (is_listed xs t) l ((e t).1 (inl r)))))
met_words (true, ls) (false, rs) (false, xs) h k e =
    words_of xs (λ t l. word_of rs t k (not_refused (is_listed rs t) (λ r. clash (is_listed xs t) l ((e t).1 (inr r)))))
met_words (true, ls) (true, rs) (false, xs) h k e =
    let n : ℕ = greatest_length ls + greatest_length rs + greatest_length xs + 1 in
    absurd (⊎_elim
    (λ r. clash (not (is_listed ls (zeros n))) (ap not (is_listed-zeros ls n (omega arith))) r)
    (λ r. clash (not (is_listed rs (zeros n))) (ap not (is_listed-zeros rs n (omega arith))) r)
    ((e (zeros n)).0 (is_listed-zeros xs n (omega arith))))
met_words (true, ls) (true, rs) (true, xs) h k e =
    words_of xs (λ t l. ⊎_elim
    (λ r. word_of ls t h (not_false (is_listed ls t) r))
    (λ r. word_of rs t k (not_false (is_listed rs t) r))
    ((e t).0 (ap not l)))
met_words (false, ls) b (true, xs) h k e =
    let n : ℕ = greatest_length ls + greatest_length xs + 1 in
    absurd (clash (not (is_listed xs (zeros n))) (ap not (is_listed-zeros xs n (omega arith))) ((e (zeros n)).1 (inl (is_listed-zeros ls n (omega arith)))))
met_words (true, ls) (false, rs) (true, xs) h k e =
    let n : ℕ = greatest_length rs + greatest_length xs + 1 in
    absurd (clash (not (is_listed xs (zeros n))) (ap not (is_listed-zeros xs n (omega arith))) ((e (zeros n)).1 (inr (is_listed-zeros rs n (omega arith)))))

-- and so are the labels
pub met_label_words :
    (a b m : Option (List (List ℕ))) → AreLabelWords a → AreLabelWords b → ((l : List ℕ) → RefusesLabel m l ↔ (RefusesLabel a l ⊎ RefusesLabel b l))
    → AreLabelWords m
met_label_words a b None h k e = tt
met_label_words (Some ls) b (Some xs) h k e =
    words_of xs (λ t l. word_of ls t h (not_refused (is_listed ls t) (λ r. clash (is_listed xs t) l ((e t).1 (inl r)))))
met_label_words None (Some rs) (Some xs) h k e =
    words_of xs (λ t l. word_of rs t k (not_refused (is_listed rs t) (λ r. clash (is_listed xs t) l ((e t).1 (inr r)))))
met_label_words None None (Some xs) h k e =
    let n : ℕ = greatest_length xs + 1 in
    absurd (⊎_elim (λ r. false≢true (sym r)) (λ r. false≢true (sym r)) ((e (zeros n)).0 (is_listed-zeros xs n (omega arith))))
