-- When all members of a set of texts are members of another.
use Rattle.std.proofs.Common.{◌≡◌, ◌↔◌, ℕ, suc, ◌+◌, ◌<◌, Bool, true, false, not, ◌&&◌, ◌||◌, IsTrue, is_le, is_eq, List, [], ◌∷◌, length, get_or, refl, sym, ap, ◌∙◌, subst, arith}
use mathlib.Core.Bool.{beq}
use Rattle.std.specs.Str.{bytes_eq}
use Rattle.std.specs.declared.cmp.Ordering.{Ordering}
use Rattle.std.specs.declared.cmp.Ordering.TheVariants.{Less, Equal, Greater}
use Rattle.std.proofs.lemmas.Bool.{false≢true}
use Rattle.std.proofs.lemmas.Slice.Eq.{bytes_eq-Decides}
use Rattle.cue_sets.specs.Texts.{is_listed, is_member_if, is_text_member, text_cmp, IsAscending}
use Rattle.cue_sets.specs.Inner.Merge.{prepended_if, merged_at, merge_texts}
use Rattle.cue_sets.specs.TextLaws.{greatest_length, zeros, is_listed-zeros, first_is_listed}
use Rattle.cue_sets.proofs.Merged.{is_listed-merged}
use Rattle.cue_sets.proofs.TextSearch.{listed_at}

-- the other list has each of these texts, or none of them
abbrev pub EachIsListed : List (List ℕ) → List (List ℕ) → Bool → Type 0
EachIsListed texts others wanted = (text : List ℕ) → is_listed texts text ≡ true → is_listed others text ≡ wanted

-- each member of the first set is one of the second
abbrev pub TextsWithin : Bool × List (List ℕ) → Bool × List (List ℕ) → Type 0
TextsWithin a b = (text : List ℕ) → is_text_member a text ≡ true → is_text_member b text ≡ true

-- the other list has each of the first n texts, or none of them
abbrev pub ListedBefore : ℕ → List (List ℕ) → List (List ℕ) → Bool → Type 0
ListedBefore n texts others wanted = (k : ℕ) (d : List ℕ) → k < n → is_listed others (get_or texts k d) ≡ wanted

-- what holds of the text at each place holds of each text
pub each_by_place : (texts others : List (List ℕ)) (wanted : Bool) → ListedBefore (length texts) texts others wanted → EachIsListed texts others wanted
each_by_place [] others wanted h text listed = absurd (false≢true listed)
each_by_place (x ∷ texts) others wanted h text listed = at (each_by_place texts others wanted (λ k d l. h (suc k) d (omega arith))) (bytes_eq x text) refl listed where
  at : EachIsListed texts others wanted → (r : Bool) → bytes_eq x text ≡ r → (r || is_listed texts text) ≡ true → is_listed others text ≡ wanted
  at later true e g = subst (λ y. is_listed others y ≡ wanted) ((bytes_eq-Decides x text).0 e) (h 0 x (omega arith))
  at later false e g = later text g

-- a text for which it does not hold
pub not_each : (texts others : List (List ℕ)) (wanted : Bool) (k : ℕ) (text : List ℕ) → k < length texts → text ≡ get_or texts k text → (is_listed others text ≡ wanted → ⊥) → EachIsListed texts others wanted → ⊥
not_each texts others wanted k text within is unlike h =
    unlike (h text (subst (λ t. is_listed texts t ≡ true) (sym is) (listed_at texts k text within)))

-- two tests that are not equal
pub unlike : (a b : Bool) → not (beq a b) ≡ true → a ≡ b → ⊥
unlike true true h e = false≢true h
unlike true false h e = false≢true (sym e)
unlike false true h e = false≢true e
unlike false false h e = false≢true h

flip_not : (all_but listed : Bool) → listed ≡ not all_but → is_member_if all_but listed ≡ true
flip_not false listed e = e
flip_not true listed e = ap not e

not_flip : (all_but listed : Bool) → is_member_if all_but listed ≡ true → listed ≡ not all_but
not_flip false listed e = e
not_flip true true e = sym e
not_flip true false e = refl

-- a finite set within another
pub finite_within : (a b : Bool × List (List ℕ)) → a.0 ≡ false → EachIsListed a.1 b.1 (not b.0) ↔ TextsWithin a b
finite_within (false, xs) (all_but, ys) e = (
  λ h t m. flip_not all_but (is_listed ys t) (h t m),
  λ h t m. not_flip all_but (is_listed ys t) (h t m),
)
finite_within (true, xs) b e = absurd (false≢true (sym e))

contrary : (a b : Bool) → (b ≡ true → a ≡ true) → not a ≡ true → not b ≡ true
contrary true b h m = absurd (false≢true m)
contrary false true h m = h refl
contrary false false h m = refl

contrary_back : (a b : Bool) → (not a ≡ true → not b ≡ true) → b ≡ true → a ≡ true
contrary_back true b h m = refl
contrary_back false true h m = absurd (false≢true (h refl))
contrary_back false false h m = m

-- all but some within all but some
pub cofinite_within : (a b : Bool × List (List ℕ)) → a.0 ≡ true → b.0 ≡ true → EachIsListed b.1 a.1 true ↔ TextsWithin a b
cofinite_within (true, xs) (true, ys) d e = (λ h t. contrary (is_listed xs t) (is_listed ys t) (h t), λ h t. contrary_back (is_listed xs t) (is_listed ys t) (h t))
cofinite_within (true, xs) (false, ys) d e = absurd (false≢true e)
cofinite_within (false, xs) b d e = absurd (false≢true d)

-- all but some are not within a finite set
pub cofinite_not_within : (a b : Bool × List (List ℕ)) → a.0 ≡ true → b.0 ≡ false → TextsWithin a b → ⊥
cofinite_not_within (true, xs) (false, ys) d e h =
    let n : ℕ = greatest_length xs + greatest_length ys + 1 in
    false≢true (sym (is_listed-zeros ys n (omega arith)) ∙ h (zeros n) (ap not (is_listed-zeros xs n (omega arith))))
cofinite_not_within (true, xs) (true, ys) d e h = false≢true (sym e)
cofinite_not_within (false, xs) b d e h = false≢true d

-- what the tests of the lists tell of the sets
pub finite_answer :
    (r : Bool) (a b : Bool × List (List ℕ)) (xs ys : List (List ℕ)) → a.0 ≡ false → xs ≡ a.1 → ys ≡ b.1
    → (IsTrue r ↔ EachIsListed xs ys (not b.0)) → IsTrue r ↔ TextsWithin a b
finite_answer r a b xs ys e p q h =
    let k : IsTrue r ↔ EachIsListed a.1 b.1 (not b.0) = rw (← p, ← q) h in
    let w = finite_within a b e in
    (λ t. w.0 (k.0 t), λ t. k.1 (w.1 t))

-- the same of two sets that have all texts but some
pub cofinite_answer :
    (r : Bool) (a b : Bool × List (List ℕ)) (xs ys : List (List ℕ)) → a.0 ≡ true → b.0 ≡ true → xs ≡ a.1 → ys ≡ b.1
    → (IsTrue r ↔ EachIsListed ys xs true) → IsTrue r ↔ TextsWithin a b
cofinite_answer r a b xs ys d e p q h =
    let k : IsTrue r ↔ EachIsListed b.1 a.1 true = rw (← p, ← q) h in
    let w = cofinite_within a b d e in
    (λ t. w.0 (k.0 t), λ t. k.1 (w.1 t))

-- ---- by one walk over both lists
-- a text of the first list is amiss where the second one doesn't have it as it is wanted
abbrev pub is_amiss : Bool → Bool → Bool → Bool
is_amiss wanted in_texts in_others = in_texts && not (beq in_others wanted)

not_amiss : (wanted in_others : Bool) → is_amiss wanted true in_others ≡ false → in_others ≡ wanted
not_amiss true true e = refl
not_amiss true false e = sym e
not_amiss false true e = e
not_amiss false false e = refl

is_wanted : (wanted in_texts in_others : Bool) → (in_texts ≡ true → in_others ≡ wanted) → is_amiss wanted in_texts in_others ≡ false
is_wanted wanted false in_others h = refl
is_wanted true true in_others h = rw (h refl) refl
is_wanted false true in_others h = rw (h refl) refl

-- no text is amiss
pub none_amiss : (texts others : List (List ℕ)) (wanted : Bool) → IsAscending texts → IsAscending others → merge_texts (is_amiss wanted) texts others ≡ [] → EachIsListed texts others wanted
none_amiss texts others wanted a b e text listed =
    not_amiss wanted (is_listed others text)
    (ap (λ r. is_amiss wanted r (is_listed others text)) (sym listed)
    ∙ sym (is_listed-merged (is_amiss wanted) texts others text refl a b)
    ∙ ap (λ ts. is_listed ts text) e)

-- no text is amiss where none is left of the first list
pub none_left : (wanted : Bool) (xs ys : List (List ℕ)) → length xs < 1 → merge_texts (is_amiss wanted) xs ys ≡ []
none_left wanted [] [] h = refl
none_left wanted [] (y ∷ ys) h = none_left wanted [] ys h
none_left wanted (x ∷ xs) ys h = absurd (omega arith)

-- how a text stands to the first one of a list
abbrev pub Stands : Ordering → List ℕ → List (List ℕ) → Type 0
Stands order x [] = order ≡ Less
Stands order x (y ∷ ys) = order ≡ text_cmp x y

-- a text that comes next and is amiss
pub amiss_next : (wanted : Bool) (x : List ℕ) (xs ys : List (List ℕ)) (order : Ordering) → Stands order x ys → is_le order ≡ true → not (beq (is_eq order) wanted) ≡ true → is_listed (merge_texts (is_amiss wanted) (x ∷ xs) ys) x ≡ true
amiss_next wanted x xs ys order s l e = from ys s where
  kept : (b : Bool) (zs : List (List ℕ)) → b ≡ true → is_listed (prepended_if b x zs) x ≡ true
  kept b zs e = ap (λ b. is_listed (prepended_if b x zs) x) e ∙ first_is_listed x zs

  at : (o : Ordering) (y : List ℕ) (ys later : List (List ℕ)) → is_le o ≡ true → not (beq (is_eq o) wanted) ≡ true → is_listed (merged_at (is_amiss wanted) x (merge_texts (is_amiss wanted) xs) o y ys later) x ≡ true
  at Less y ys later l e = kept (is_amiss wanted true false) _ e
  at Equal y ys later l e = kept (is_amiss wanted true true) _ e
  at Greater y ys later l e = absurd (false≢true l)

  from : (ys : List (List ℕ)) → Stands order x ys → is_listed (merge_texts (is_amiss wanted) (x ∷ xs) ys) x ≡ true
  from [] s = kept (is_amiss wanted true false) _ (subst (λ o. not (beq (is_eq o) wanted) ≡ true) s e)
  from (y ∷ ys) s = ap (λ o. is_listed (merged_at (is_amiss wanted) x (merge_texts (is_amiss wanted) xs) o y ys (merge_texts (is_amiss wanted) (x ∷ xs) ys)) x) (sym s) ∙ at order y ys _ l e

-- some text is amiss
pub some_amiss : (texts others : List (List ℕ)) (wanted : Bool) (text : List ℕ) → IsAscending texts → IsAscending others → is_listed (merge_texts (is_amiss wanted) texts others) text ≡ true → EachIsListed texts others wanted → ⊥
some_amiss texts others wanted text a b e h =
    false≢true
    (sym (is_wanted wanted (is_listed texts text) (is_listed others text) (h text))
    ∙ sym (is_listed-merged (is_amiss wanted) texts others text refl a b)
    ∙ e)
