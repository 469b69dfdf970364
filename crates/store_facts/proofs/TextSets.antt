-- Texts by their bytes, and sets of texts: what they have, and which are in their one form.
use Rattle.std.proofs.Common.{◌≡◌, ◌⊎◌, inl, inr, ℕ, Bool, List, [], ◌∷◌, true, false, ◌||◌, refl, sym}
use Rattle.std.specs.Prelude.{codes}
use Rattle.std.specs.Str.{bytes_eq}
use Rattle.std.specs.declared.cmp.Ordering.TheVariants.{Less, Equal, Greater}
use Rattle.std.proofs.lemmas.Bool.{false≢true}
use Rattle.std.proofs.lemmas.Slice.Eq.{bytes_eq-Decides}
use Rattle.cue_sets.specs.Texts.{is_listed, is_text_member, text_cmp, IsTextSet, RefusesText, IsOnlyText, IsFirstText}
use Rattle.store_facts.proofs.Base.{a, b, c, other}

a_text_is_behind_its_front : (text_cmp [] a ≡ Less) × (text_cmp a (codes "ab") ≡ Less) × (text_cmp (codes "ab") a ≡ Greater)
a_text_is_behind_its_front = (refl, refl, refl)

texts_go_by_bytes : (text_cmp (codes "Z") a ≡ Less) × (text_cmp (codes "z") (0xc3 ∷ 0xa9 ∷ []) ≡ Less)
    × (text_cmp (codes "10") (codes "9") ≡ Less) × (text_cmp a a ≡ Equal)
texts_go_by_bytes = (refl, refl, refl, refl)

-- the texts a and b
abbrev listed : Bool × List (List ℕ)
listed = (false, a ∷ b ∷ [])

-- all but these
abbrev all_but : Bool × List (List ℕ)
all_but = (true, a ∷ b ∷ [])

a_finite_set_has_what_it_lists : (is_text_member listed a ≡ true) × (is_text_member listed b ≡ true)
    × (is_text_member listed c ≡ false) × (is_text_member listed (codes "ab") ≡ false)
a_finite_set_has_what_it_lists = (refl, refl, refl, refl)

all_but_some_has_the_others : (is_text_member all_but a ≡ false) × (is_text_member all_but b ≡ false)
    × (is_text_member all_but c ≡ true) × (is_text_member all_but [] ≡ true)
all_but_some_has_the_others = (refl, refl, refl, refl)

nothing_listed_is_none_or_all : (is_text_member (false, []) a ≡ false) × (is_text_member (true, []) a ≡ true)
nothing_listed_is_none_or_all = (refl, refl)

rising_texts_are_the_one_form : IsTextSet all_but × IsTextSet (false, [] ∷ codes "Z" ∷ a ∷ codes "ab" ∷ [])
rising_texts_are_the_one_form =
    (((refl, tt), (tt, tt)), ((refl, (refl, (refl, tt))), ((refl, (refl, tt)), ((refl, tt), (tt, tt)))))

falling_texts_are_not : IsTextSet (false, b ∷ a ∷ []) → ⊥
falling_texts_are_not h = cc

a_text_twice_is_not : IsTextSet (false, a ∷ a ∷ []) → ⊥
a_text_twice_is_not h = cc

what_falls_later_is_not : IsTextSet (true, a ∷ c ∷ b ∷ []) → ⊥
what_falls_later_is_not h = cc

a_set_refuses_the_others : RefusesText listed c × RefusesText all_but a
a_set_refuses_the_others = (refl, refl)

a_set_refuses_no_member : (RefusesText listed a ⊎ RefusesText all_but c) → ⊥
a_set_refuses_no_member (inl h) = false≢true (sym h)
a_set_refuses_no_member (inr h) = false≢true (sym h)

-- ---- the only member, and the first one
the_one_listed : (t : List ℕ) → is_listed (a ∷ []) t ≡ true → t ≡ a
the_one_listed t h = by (bytes_eq a t) refl h where
  by : (r : Bool) → bytes_eq a t ≡ r → (r || false) ≡ true → t ≡ a
  by true e h = sym ((bytes_eq-Decides a t).0 e)
  by false e h = absurd (false≢true h)

what_is_listed_alone_is_the_only_text : IsOnlyText (false, a ∷ []) a
what_is_listed_alone_is_the_only_text = record { member = refl; only = the_one_listed }

of_two_texts_none_is_the_only_one : IsOnlyText listed a → ⊥
of_two_texts_none_is_the_only_one h = other b a refl (h.only b refl)

no_text_is_the_only_one_of_all_but_some : IsOnlyText all_but c → ⊥
no_text_is_the_only_one_of_all_but_some h = other [] c refl (h.only [] refl)

the_empty_text_is_the_first_of_all : IsFirstText (true, []) []
the_empty_text_is_the_first_of_all = record { member = refl; first = none_before } where
  none_before : (t : List ℕ) → is_text_member (true, []) t ≡ true → text_cmp t [] ≡ Less → ⊥
  none_before [] m h = cc
  none_before (x ∷ xs) m h = cc

the_greater_one_is_not_the_first : IsFirstText listed b → ⊥
the_greater_one_is_not_the_first h = h.first a refl refl

what_is_no_member_is_not_the_first : IsFirstText listed [] → ⊥
what_is_no_member_is_not_the_first h = false≢true h.member
