-- Scalars of each kind, their order, and sets of them.
use Rattle.std.proofs.Common.{◌≡◌, ◌⊎◌, inl, inr, pos, negsuc, [], ◌∷◌, true, false, refl, sym, arith, lit<}
use Rattle.std.specs.Prelude.{codes}
use Rattle.std.proofs.lemmas.Bool.{false≢true}
use Rattle.std.proofs.lemmas.Int.{ints}
use Rattle.cue_lattice.specs.declared.scalar.Scalar.TheVariants as scalars
use Rattle.cue_lattice.specs.Scalar.{IsScalar}
use Rattle.cue_scalars.specs.declared.scalar_set.ScalarSet.{ScalarSet}
use Rattle.cue_scalars.specs.Scalars.{members, IsScalarSet, RefusesScalar, kind, IsScalarBefore, IsScalarsWithin}
use Rattle.store_facts.proofs.Base.{a, b, number, text, in_range}

-- null, true, 1 to 3, and all texts but a
abbrev some_of_each : ScalarSet
some_of_each = record { null = true; no = false; yes = true; ints = (pos 1, pos 3) ∷ []; texts = (true, a ∷ []) }

its_members : (members some_of_each scalars.Null ≡ true) × (members some_of_each (scalars.Bool true) ≡ true)
    × (members some_of_each (number 2) ≡ true) × (members some_of_each (text b) ≡ true)
its_members = (refl, refl, refl, refl)

no_others : (members some_of_each (scalars.Bool false) ≡ false) × (members some_of_each (number 4) ≡ false)
    × (members some_of_each (text a) ≡ false)
no_others = (refl, refl, refl)

it_refuses_the_others : RefusesScalar some_of_each (scalars.Bool false) × RefusesScalar some_of_each (number 4)
    × RefusesScalar some_of_each (text a)
it_refuses_the_others = (refl, (in_range 4 (lit< tt), refl), refl)

it_refuses_no_member : (RefusesScalar some_of_each scalars.Null ⊎ (RefusesScalar some_of_each (number 3)
    ⊎ (RefusesScalar some_of_each (scalars.Bool true) ⊎ RefusesScalar some_of_each (text b)))) → ⊥
it_refuses_no_member (inl h) = false≢true (sym h)
it_refuses_no_member (inr (inl h)) = false≢true (sym h.1)
it_refuses_no_member (inr (inr (inl h))) = false≢true (sym h)
it_refuses_no_member (inr (inr (inr h))) = false≢true (sym h)

it_refuses_no_number_that_is_none_of_the_language : RefusesScalar some_of_each (number 9223372036854775808) → ⊥
it_refuses_no_number_that_is_none_of_the_language h = omega (arith, ints, h.0.1)

it_is_in_its_one_form : IsScalarSet some_of_each
it_is_in_its_one_form =
    record { ints = (omega (arith, ints), omega (arith, ints), omega (arith, ints), tt); texts = (tt, tt) }

touching_pieces_are_not : IsScalarSet (record some_of_each { ints = (pos 1, pos 2) ∷ (pos 3, pos 3) ∷ [] }) → ⊥
touching_pieces_are_not h = let i = h.ints in omega (arith, ints, i.3.0)

falling_texts_are_not : IsScalarSet (record some_of_each { texts = (false, b ∷ a ∷ []) }) → ⊥
falling_texts_are_not h = let t = h.texts in cc

-- ---- the order: null, false, true, integers upwards, texts by their bytes
five_kinds : (kind scalars.Null ≡ 0) × (kind (scalars.Bool false) ≡ 1) × (kind (scalars.Bool true) ≡ 2) × (kind (number 7) ≡ 3)
    × (kind (text a) ≡ 4)
five_kinds = (refl, refl, refl, refl, refl)

kinds_rise : IsScalarBefore scalars.Null (scalars.Bool false) × IsScalarBefore (scalars.Bool false) (scalars.Bool true)
    × IsScalarBefore (scalars.Bool true) (scalars.Int (negsuc 4)) × IsScalarBefore (number 9) (text [])
kinds_rise = (lit< tt, lit< tt, lit< tt, lit< tt)

integers_rise : IsScalarBefore (scalars.Int (negsuc 0)) (number 0) × IsScalarBefore (number 2) (number 10)
integers_rise = (omega (arith, ints), omega (arith, ints))

texts_rise_by_bytes : IsScalarBefore (text (codes "10")) (text (codes "2"))
texts_rise_by_bytes = refl

what_is_not_before : (IsScalarBefore (text a) scalars.Null ⊎ (IsScalarBefore (number 10) (number 2)
    ⊎ (IsScalarBefore (number 2) (number 2) ⊎ IsScalarBefore (text b) (text a)))) → ⊥
what_is_not_before (inl h) = omega (arith, h)
what_is_not_before (inr (inl h)) = omega (arith, ints, h)
what_is_not_before (inr (inr (inl h))) = omega (arith, ints, h)
what_is_not_before (inr (inr (inr h))) = cc

-- ---- one set within another
abbrev null_and_a : ScalarSet
null_and_a = record { null = true; no = false; yes = false; ints = []; texts = (false, a ∷ []) }

with_true : IsScalarsWithin null_and_a (record null_and_a { yes = true })
with_true scalars.Null h = refl
with_true (scalars.Bool false) h = h
with_true (scalars.Bool true) h = refl
with_true (scalars.Int n) h = h
with_true (scalars.Text t) h = h

the_larger_is_not_within : IsScalarsWithin (record null_and_a { yes = true }) null_and_a → ⊥
the_larger_is_not_within h = false≢true (h (scalars.Bool true) refl)

nor_with_other_texts : IsScalarsWithin null_and_a (record null_and_a { texts = (true, a ∷ []) }) → ⊥
nor_with_other_texts h = false≢true (h (text a) refl)

nor_with_fewer_integers : IsScalarsWithin (record null_and_a { ints = (pos 1, pos 3) ∷ [] }) (record null_and_a { ints = (pos 1, pos 2) ∷ [] }) → ⊥
nor_with_fewer_integers h = false≢true (h (number 3) refl)

-- ---- the scalars of the language
integers_have_64_bits : IsScalar (number 9223372036854775807) × IsScalar (scalars.Int (negsuc 9223372036854775807))
integers_have_64_bits = ((omega (arith, ints), omega (arith, ints)), (omega (arith, ints), omega (arith, ints)))

no_more : (IsScalar (number 9223372036854775808) ⊎ IsScalar (scalars.Int (negsuc 9223372036854775808))) → ⊥
no_more (inl h) = omega (arith, ints, h.1)
no_more (inr h) = omega (arith, ints, h.0)
