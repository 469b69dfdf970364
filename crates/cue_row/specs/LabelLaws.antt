-- Laws of the labels that may stand below a place.
use Rattle.std.proofs.Common.{◌≡◌, ◌↔◌, ◌⊎◌, inl, inr, ⊎_elim, ℕ, ◌+◌, Bool, true, false, not, List}
use Rattle.std.proofs.Common.{[], ◌∷◌, Option, Some, None, refl, sym, ap, ◌∙◌, arith}
use Rattle.std.proofs.lemmas.Bool.{false≢true}
use Rattle.cue_lattice.specs.Bools.{bool_same}
use Rattle.cue_sets.specs.Texts.{is_listed, is_text_member, IsTextSet, RefusesText}
use Rattle.cue_sets.specs.TextLaws.{same_from_listed, same_texts, greatest_length, zeros}
use Rattle.cue_sets.specs.TextLaws.{is_listed-zeros}
use Rattle.cue_row.specs.LabelSets.{allows_label, RefusesLabel, AreLabels, labels_of, IsLabelSet}

-- a text that is longer than all that are listed
longer_text : List (List ℕ) → List ℕ
longer_text labels = zeros (greatest_length labels + 1)

longer_refused : (labels : List (List ℕ)) → is_listed labels (longer_text labels) ≡ false
unfolding longer_text
longer_refused labels = is_listed-zeros labels (greatest_length labels + 1) (omega arith)

-- equal answers are equal labels
pub same_labels : (a b : Option (List (List ℕ))) → AreLabels a → AreLabels b
    → ((l : List ℕ) → RefusesLabel a l ↔ RefusesLabel b l) → a ≡ b
same_labels None None p q e = refl
same_labels None (Some ys) p q e = absurd (false≢true (sym ((e (longer_text ys)).1 (longer_refused ys))))
same_labels (Some xs) None p q e = absurd (false≢true (sym ((e (longer_text xs)).0 (longer_refused xs))))
same_labels (Some xs) (Some ys) p q e =
    ap (λ zs. Some zs) (same_from_listed xs ys p q (λ t. bool_same _ _ (e t).0 (e t).1))

-- a set and its labels have the same members
pub members_of_labels : (set : Bool × List (List ℕ)) → IsLabelSet set → (l : List ℕ)
    → is_text_member set l ≡ allows_label (labels_of set) l
members_of_labels (true, texts) h l = ap (λ (ts : List (List ℕ)). not (is_listed ts l)) h
members_of_labels (false, texts) h l = refl

-- labels in their one form are a set of texts in its one form
pub label_set_ascends : (set : Bool × List (List ℕ)) → IsLabelSet set → IsTextSet set
label_set_ascends (true, []) h = tt
label_set_ascends (true, text ∷ texts) h = absurd (cc)
label_set_ascends (false, texts) h = h

all_refuse_none : (xs : List (List ℕ)) (t : List ℕ) → xs ≡ [] → RefusesText (true, xs) t → ⊥
all_refuse_none xs t h r = false≢true (sym r ∙ ap (λ (ts : List (List ℕ)). not (is_listed ts t)) h)

-- all but some refuse less than a finite set
not_all : (xs ys : List (List ℕ))
    → ((t : List ℕ) → RefusesText (false, xs) t → RefusesText (true, ys) t) → ⊥
not_all xs ys h =
    let n : ℕ = greatest_length xs + greatest_length ys + 1 in
    false≢true
    (sym (h (zeros n) (is_listed-zeros xs n (omega arith)))
    ∙ ap not (is_listed-zeros ys n (omega arith)))

-- what is met of labels is labels
pub met_labels :
    (a b m : Bool × List (List ℕ)) → IsLabelSet a → IsLabelSet b → IsTextSet m
    → ((t : List ℕ) → RefusesText m t ↔ (RefusesText a t ⊎ RefusesText b t)) → IsLabelSet m
met_labels a b (false, texts) p q r e = r
met_labels (true, xs) (true, ys) (true, texts) p q r e =
    ap (λ (set : Bool × List (List ℕ)). set.1)
    (same_texts (true, texts) (true, []) r tt
    (λ t. (
      λ h. absurd
          (⊎_elim (all_refuse_none xs t p) (all_refuse_none ys t q) ((e t).0 h)),
      λ h. absurd (false≢true (sym h)),
    )))
met_labels (false, xs) b (true, texts) p q r e = absurd (not_all xs texts (λ t h. (e t).1 (inl h)))
met_labels (true, xs) (false, ys) (true, texts) p q r e =
    absurd (not_all ys texts (λ t h. (e t).1 (inr h)))

-- and refuses what one of the two refuses
pub met_labels-refuse :
    (a b m : Bool × List (List ℕ)) → IsLabelSet a → IsLabelSet b → IsTextSet m
    → ((t : List ℕ) → RefusesText m t ↔ (RefusesText a t ⊎ RefusesText b t))
    → (l : List ℕ)
    → RefusesLabel (labels_of m) l ↔ (RefusesLabel (labels_of a) l ⊎ RefusesLabel (labels_of b) l)
met_labels-refuse a b m p q r e l =
    let met = members_of_labels m (met_labels a b m p q r e) l in
    let left = members_of_labels a p l in
    let right = members_of_labels b q l in (
      λ h. ⊎_elim (λ g. inl (sym left ∙ g)) (λ g. inr (sym right ∙ g)) ((e l).0 (met ∙ h)),
      λ h. sym met ∙ (e l).1 (⊎_elim (λ g. inl (left ∙ g)) (λ g. inr (right ∙ g)) h),
    )
