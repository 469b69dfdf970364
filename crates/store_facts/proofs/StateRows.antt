-- Which parts and rows state bytes may tell.
use Rattle.std.proofs.Common.{◌≡◌, ◌⊎◌, inl, inr, ℕ, pos, [], ◌∷◌, replicate, true, false, Some, None, refl, sym, ap, arith, lit<}
use Rattle.std.proofs.lemmas.Bool.{false≢true}
use Rattle.std.proofs.lemmas.Int.{ints}
use Rattle.std.proofs.lemmas.List.{length-replicate}
use Rattle.cue_lattice.specs.Path.{index}
use Rattle.cue_row.specs.declared.level.Level.TheVariants.{Given}
use Rattle.cue_row.specs.Made.{empty_set, free_row, struct_row, list_row}
use Rattle.cue_codec.specs.declared.version.Version.TheVariants as versions
use Rattle.cue_codec.specs.Entry.{StateStep, at, to_rest}
use Rattle.cue_codec.specs.Parts.{text_bytes}
use Rattle.cue_codec.specs.Reading.{ReadsItem, IsShort, AreShortLabels, IsMost, IsIndex, AreWideLengths}
use Rattle.cue_codec.specs.StateRow.{IsStateIntegers, AreStateTexts, AreStateLabels, IsStateStep, IsStatePath}
use Rattle.cue_codec.specs.RowBytes.{is_no_scalar, parts_of_row, fixed_by, row_of_parts, AreScalarParts, IsStateRow}
use Rattle.cue_codec.specs.RowBytes as parts
use Rattle.store_facts.proofs.Base.{a, b}
use Rattle.store_facts.proofs.Rows.{just, one}

short_texts : IsShort (replicate 65535 0)
short_texts = lit< tt

longer_ones_are_none : IsShort (replicate 65536 0) → ⊥
longer_ones_are_none h = omega (arith, length-replicate {A = ℕ} 65536 0, h)

no_label_is_too_long : AreShortLabels None × AreShortLabels (Some (a ∷ b ∷ []))
no_label_is_too_long = (tt, (lit< tt, (lit< tt, tt)))

lengths_have_32_bits : AreWideLengths versions.Second (4294967295, Some 4294967295, 4294967295)
lengths_have_32_bits = (lit< tt, lit< tt, lit< tt)

not_more : (IsMost (Some 4294967296) ⊎ IsIndex versions.Second 4294967296) → ⊥
not_more (inl h) = omega (arith, h)
not_more (inr h) = omega (arith, h)

version_1_tells_no_index : IsIndex versions.First 1 → ⊥
version_1_tells_no_index e = cc

integers_in_their_one_form : IsStateIntegers ((pos 1, pos 3) ∷ [])
integers_in_their_one_form = ((omega (arith, ints), omega (arith, ints), omega (arith, ints), tt), lit< tt)

touching_pieces_are_not : IsStateIntegers ((pos 1, pos 3) ∷ (pos 4, pos 9) ∷ []) → ⊥
touching_pieces_are_not h = let p = h.0 in omega (arith, ints, p.3.0)

falling_texts_are_not : AreStateTexts (b ∷ a ∷ []) → ⊥
falling_texts_are_not h = let e = h.0.0.0 in cc

nor_are_falling_labels : AreStateLabels (Some (b ∷ a ∷ [])) → ⊥
nor_are_falling_labels h = let e = h.0.0.0 in cc

steps_of_each_version : IsStateStep versions.First (at (index 4294967295)) × IsStateStep versions.Second to_rest
steps_of_each_version = (lit< tt, tt)

version_1_tells_no_rest : IsStateStep versions.First to_rest → ⊥
version_1_tells_no_rest h = h

an_index_of_33_bits_is_none : IsStateStep versions.Second (at (index 4294967296)) → ⊥
an_index_of_33_bits_is_none h = omega (arith, h)

sixty_five_steps_are_too_many : IsStatePath versions.Second (replicate 65 to_rest) → ⊥
sixty_five_steps_are_too_many h = omega (arith, length-replicate {A = StateStep} 65 to_rest, h.1)

empty_sets : (is_no_scalar empty_set ≡ true) × (is_no_scalar (just 1) ≡ false) × (is_no_scalar (record empty_set { texts = (true, []) }) ≡ false)
empty_sets = (refl, refl, refl)

a_scalar_row_lets_some_stand : AreScalarParts (empty_set, empty_set) → ⊥
a_scalar_row_lets_some_stand h = false≢true (sym h.some)

from_which_index_elements_are_alike : (fixed_by (parts.list (2, None, 1)) ≡ 1) × (fixed_by (parts.nothing None (2, None, 1)) ≡ 1) × (fixed_by (parts.struct None) ≡ 0)
from_which_index_elements_are_alike = (refl, refl, refl)

rows_of_their_parts : (row_of_parts Given parts.free ≡ free_row Given) × (row_of_parts Given (parts.scalar (just 1) (just 1)) ≡ one)
    × (row_of_parts Given (parts.struct (Some (a ∷ []))) ≡ struct_row Given (Some (a ∷ []))) × (row_of_parts Given (parts.list (2, Some 1, 1)) ≡ list_row Given 2 (Some 1))
rows_of_their_parts = (refl, refl, refl, refl)

parts_of_their_rows : (parts_of_row one 0 ≡ parts.scalar (just 1) (just 1)) × (parts_of_row (list_row Given 2 (Some 1)) 1 ≡ parts.list (2, Some 1, 1))
parts_of_their_rows = (refl, refl)

-- labels that a scalar leaves out are told nowhere
a_row_that_says_more_is_none : IsStateRow versions.Second (record { path = []; fixed = 0; row = record one { labels = Some [] } }) → ⊥
a_row_that_says_more_is_none h = let e = ap (λ row. row.labels) h.says in cc

a_text_in_front : ReadsItem IsShort text_bytes a (0x00 ∷ 0x01 ∷ 0x61 ∷ 0x77 ∷ []) (0x77 ∷ [])
unfolding text_bytes
a_text_in_front = record { value = lit< tt; parts = refl }

not_of_another_length : ReadsItem IsShort text_bytes a (0x00 ∷ 0x02 ∷ 0x61 ∷ 0x77 ∷ []) (0x77 ∷ []) → ⊥
unfolding text_bytes
not_of_another_length h = let e = h.parts in cc
