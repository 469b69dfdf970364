-- State bytes of small tables in both versions, written down by hand, and which bytes are none.
use Rattle.std.proofs.Common.{◌≡◌, inl, inr, ℕ, pos, negsuc, List, [], ◌∷◌, ◌++◌, true, false, Some, None, refl}
use Rattle.std.specs.Prelude.{codes}
use Rattle.cue_lattice.specs.Path.{label, index}
use Rattle.cue_lattice.specs.declared.refusal.Kind.TheVariants as refusals
use Rattle.cue_scalars.specs.declared.scalar_set.ScalarSet.{ScalarSet}
use Rattle.cue_row.specs.declared.level.Level.TheVariants.{Optional, Given}
use Rattle.cue_row.specs.declared.parts.RowParts.{RowParts as Row}
use Rattle.cue_row.specs.Made.{free_row, scalar_row, struct_row, list_row, nothing_row}
use Rattle.cue_table.specs.Tree.{Tree, node, none, child, no_rest, onward, empty}
use Rattle.cue_codec.specs.declared.version.Version.TheVariants as versions
use Rattle.cue_codec.specs.Version.{version_byte, IsNoVersion, written_version}
use Rattle.cue_codec.specs.Entry.{at, to_rest, entries_of, CanHoldTable}
use Rattle.cue_codec.specs.Parts.{integer_bytes, counted_bytes, piece_bytes, text_bytes, flags, text_set_bytes, set_bytes, labels_bytes, most_bytes, index_bytes, lengths_bytes, step_bytes, path_bytes}
use Rattle.cue_codec.specs.RowBytes.{scalars_bytes, left_out_bytes, row_part_bytes, row_bytes, parts_of_row}
use Rattle.cue_codec.specs.State.{state_mark, state_bytes, table_bytes_in, table_bytes}
use Rattle.cue_codec.specs.Size.{at_most_64_bits, size_of}
use Rattle.cue_codec.specs.Decoding.{IsOtherStateVersion, IsNoState, IsRejected, HasStateHead}
use Rattle.cue_codec.specs.Pieces.{so_far, other_version, failed, IsIntake, IsTakenIn, IsFilled}
use Rattle.store_facts.proofs.Base.{a, b}
use Rattle.store_facts.proofs.Tables.{leaf, root, a_is_one}

-- the 92 bytes of `a: 1` in version 1: the mark, the version, two rows; the root; then a, given, a scalar, and 1 twice
abbrev pub version_1 : List ℕ
version_1 =
    0xfe ∷ 0x43 ∷ 0x55 ∷ 0x45 ∷ 0x01 ∷
    0x00 ∷ 0x00 ∷ 0x00 ∷ 0x00 ∷ 0x00 ∷ 0x00 ∷ 0x00 ∷ 0x02 ∷
    0x00 ∷ 0x00 ∷ 0x02 ∷ 0x00 ∷
    0x01 ∷ 0x00 ∷ 0x00 ∷ 0x01 ∷ 0x61 ∷
    0x02 ∷ 0x01 ∷
    0x00 ∷ 0x00 ∷ 0x00 ∷ 0x00 ∷ 0x00 ∷ 0x00 ∷ 0x00 ∷ 0x00 ∷ 0x01 ∷
    0x00 ∷ 0x00 ∷ 0x00 ∷ 0x00 ∷ 0x00 ∷ 0x00 ∷ 0x00 ∷ 0x01 ∷
    0x00 ∷ 0x00 ∷ 0x00 ∷ 0x00 ∷ 0x00 ∷ 0x00 ∷ 0x00 ∷ 0x01 ∷
    0x00 ∷ 0x00 ∷ 0x00 ∷ 0x00 ∷ 0x00 ∷ 0x00 ∷ 0x00 ∷ 0x00 ∷ 0x00 ∷
    0x00 ∷ 0x00 ∷ 0x00 ∷ 0x00 ∷ 0x00 ∷ 0x00 ∷ 0x00 ∷ 0x00 ∷ 0x01 ∷
    0x00 ∷ 0x00 ∷ 0x00 ∷ 0x00 ∷ 0x00 ∷ 0x00 ∷ 0x00 ∷ 0x01 ∷
    0x00 ∷ 0x00 ∷ 0x00 ∷ 0x00 ∷ 0x00 ∷ 0x00 ∷ 0x00 ∷ 0x01 ∷
    0x00 ∷ 0x00 ∷ 0x00 ∷ 0x00 ∷ 0x00 ∷ 0x00 ∷ 0x00 ∷ 0x00 ∷ 0x00 ∷ []

pub a_is_one_in_version_1 : table_bytes_in versions.First a_is_one ≡ version_1
unfolding state_bytes row_bytes path_bytes step_bytes text_bytes row_part_bytes scalars_bytes set_bytes text_set_bytes labels_bytes piece_bytes integer_bytes counted_bytes lengths_bytes index_bytes most_bytes
a_is_one_in_version_1 = refl

-- in version 2
abbrev pub version_2 : List ℕ
version_2 =
    0xfe ∷ 0x43 ∷ 0x55 ∷ 0x45 ∷ 0x02 ∷
    0x00 ∷ 0x00 ∷ 0x00 ∷ 0x00 ∷ 0x00 ∷ 0x00 ∷ 0x00 ∷ 0x02 ∷
    0x00 ∷ 0x00 ∷ 0x02 ∷ 0x00 ∷
    0x01 ∷ 0x00 ∷ 0x00 ∷ 0x01 ∷ 0x61 ∷
    0x02 ∷ 0x01 ∷
    0x00 ∷ 0x00 ∷ 0x00 ∷ 0x00 ∷ 0x00 ∷ 0x00 ∷ 0x00 ∷ 0x00 ∷ 0x01 ∷
    0x00 ∷ 0x00 ∷ 0x00 ∷ 0x00 ∷ 0x00 ∷ 0x00 ∷ 0x00 ∷ 0x01 ∷
    0x00 ∷ 0x00 ∷ 0x00 ∷ 0x00 ∷ 0x00 ∷ 0x00 ∷ 0x00 ∷ 0x01 ∷
    0x00 ∷ 0x00 ∷ 0x00 ∷ 0x00 ∷ 0x00 ∷ 0x00 ∷ 0x00 ∷ 0x00 ∷ 0x00 ∷
    0x00 ∷ 0x00 ∷ 0x00 ∷ 0x00 ∷ 0x00 ∷ 0x00 ∷ 0x00 ∷ 0x00 ∷ 0x01 ∷
    0x00 ∷ 0x00 ∷ 0x00 ∷ 0x00 ∷ 0x00 ∷ 0x00 ∷ 0x00 ∷ 0x01 ∷
    0x00 ∷ 0x00 ∷ 0x00 ∷ 0x00 ∷ 0x00 ∷ 0x00 ∷ 0x00 ∷ 0x01 ∷
    0x00 ∷ 0x00 ∷ 0x00 ∷ 0x00 ∷ 0x00 ∷ 0x00 ∷ 0x00 ∷ 0x00 ∷ 0x00 ∷ []

pub a_is_one_in_version_2 : table_bytes_in versions.Second a_is_one ≡ version_2
unfolding state_bytes row_bytes path_bytes step_bytes text_bytes row_part_bytes scalars_bytes set_bytes text_set_bytes labels_bytes piece_bytes integer_bytes counted_bytes lengths_bytes index_bytes most_bytes
a_is_one_in_version_2 = refl

abbrev all_integers : ScalarSet
all_integers = record { null = false; no = false; yes = false; ints = (negsuc 9223372036854775807, pos 9223372036854775807) ∷ []; texts = (false, []) }

-- l: [...int]
abbrev l_is_a_list : Tree Row
l_is_a_list =
    node (Some root) (child (label (codes "l")) (node (Some (list_row Given 0 None)) none (onward 0 (leaf (scalar_row Optional all_integers all_integers)))) none) no_rest

-- the 109 bytes of `l: [...int]`, with the row of a rest
a_rest_in_version_2 : table_bytes_in versions.Second l_is_a_list ≡
    0xfe ∷ 0x43 ∷ 0x55 ∷ 0x45 ∷ 0x02 ∷
    0x00 ∷ 0x00 ∷ 0x00 ∷ 0x00 ∷ 0x00 ∷ 0x00 ∷ 0x00 ∷ 0x03 ∷
    0x00 ∷ 0x00 ∷ 0x02 ∷ 0x00 ∷
    0x01 ∷ 0x00 ∷ 0x00 ∷ 0x01 ∷ 0x6c ∷
    0x02 ∷ 0x03 ∷
    0x00 ∷ 0x00 ∷ 0x00 ∷ 0x00 ∷ 0x00 ∷ 0x00 ∷ 0x00 ∷ 0x00 ∷ 0x00 ∷
    0x02 ∷ 0x00 ∷ 0x00 ∷ 0x01 ∷ 0x6c ∷ 0x02 ∷
    0x00 ∷ 0x01 ∷
    0x00 ∷ 0x00 ∷ 0x00 ∷ 0x00 ∷ 0x00 ∷ 0x00 ∷ 0x00 ∷ 0x00 ∷ 0x01 ∷
    0x80 ∷ 0x00 ∷ 0x00 ∷ 0x00 ∷ 0x00 ∷ 0x00 ∷ 0x00 ∷ 0x00 ∷
    0x7f ∷ 0xff ∷ 0xff ∷ 0xff ∷ 0xff ∷ 0xff ∷ 0xff ∷ 0xff ∷
    0x00 ∷ 0x00 ∷ 0x00 ∷ 0x00 ∷ 0x00 ∷ 0x00 ∷ 0x00 ∷ 0x00 ∷ 0x00 ∷
    0x00 ∷ 0x00 ∷ 0x00 ∷ 0x00 ∷ 0x00 ∷ 0x00 ∷ 0x00 ∷ 0x00 ∷ 0x01 ∷
    0x80 ∷ 0x00 ∷ 0x00 ∷ 0x00 ∷ 0x00 ∷ 0x00 ∷ 0x00 ∷ 0x00 ∷
    0x7f ∷ 0xff ∷ 0xff ∷ 0xff ∷ 0xff ∷ 0xff ∷ 0xff ∷ 0xff ∷
    0x00 ∷ 0x00 ∷ 0x00 ∷ 0x00 ∷ 0x00 ∷ 0x00 ∷ 0x00 ∷ 0x00 ∷ 0x00 ∷ []
unfolding state_bytes row_bytes path_bytes step_bytes text_bytes row_part_bytes scalars_bytes set_bytes text_set_bytes labels_bytes piece_bytes integer_bytes counted_bytes lengths_bytes index_bytes most_bytes
a_rest_in_version_2 = refl

bytes_of_versions : (version_byte versions.First ≡ 1) × (version_byte versions.Second ≡ 2)
bytes_of_versions = (refl, refl)

version_2_is_written : (table_bytes a_is_one ≡ table_bytes_in versions.Second a_is_one) × (written_version ≡ versions.Second)
version_2_is_written = (refl, refl)

-- no row
nothing_is_known : table_bytes empty ≡ 0xfe ∷ 0x43 ∷ 0x55 ∷ 0x45 ∷ 0x02 ∷ 0x00 ∷ 0x00 ∷ 0x00 ∷ 0x00 ∷ 0x00 ∷ 0x00 ∷ 0x00 ∷ 0x00 ∷ []
unfolding state_bytes row_bytes path_bytes step_bytes text_bytes row_part_bytes scalars_bytes set_bytes text_set_bytes labels_bytes piece_bytes integer_bytes counted_bytes lengths_bytes index_bytes most_bytes
nothing_is_known = refl

version_1_tells_no_rest : CanHoldTable versions.First l_is_a_list → ⊥
version_1_tells_no_rest h = h.1.1.0.1.0

version_2_tells_it : CanHoldTable versions.Second l_is_a_list
version_2_tells_it = (tt, ((tt, tt), ((tt, (tt, tt)), tt)))

-- in version 2 with the index from which elements are alike
rows_as_they_are_told : entries_of versions.Second l_is_a_list ≡
    record { path = []; fixed = 0; row = root } ∷
    record { path = at (label (codes "l")) ∷ []; fixed = 0; row = list_row Given 0 None } ∷
    record { path = at (label (codes "l")) ∷ to_rest ∷ []; fixed = 0; row = scalar_row Optional all_integers all_integers } ∷ []
rows_as_they_are_told = refl

-- ---- parts
integers_in_twos_complement : (integer_bytes (negsuc 0) ≡ 0xff ∷ 0xff ∷ 0xff ∷ 0xff ∷ 0xff ∷ 0xff ∷ 0xff ∷ 0xff ∷ [])
    × (integer_bytes (negsuc 9223372036854775807) ≡ 0x80 ∷ 0x00 ∷ 0x00 ∷ 0x00 ∷ 0x00 ∷ 0x00 ∷ 0x00 ∷ 0x00 ∷ [])
    × (integer_bytes (pos 443) ≡ 0x00 ∷ 0x00 ∷ 0x00 ∷ 0x00 ∷ 0x00 ∷ 0x00 ∷ 0x01 ∷ 0xbb ∷ [])
unfolding integer_bytes
integers_in_twos_complement = (refl, refl, refl)

texts_with_their_length : text_bytes (codes "ab") ≡ 0x00 ∷ 0x02 ∷ 0x61 ∷ 0x62 ∷ []
unfolding text_bytes
texts_with_their_length = refl

null_and_truth_values : (flags true false false ≡ 1) × (flags false true false ≡ 2) × (flags false false true ≡ 4) × (flags true true true ≡ 7)
null_and_truth_values = (refl, refl, refl, refl)

listed_texts_and_all_others : (text_set_bytes (false, a ∷ []) ≡ 0x00 ∷ 0x00 ∷ 0x00 ∷ 0x00 ∷ 0x00 ∷ 0x00 ∷ 0x00 ∷ 0x00 ∷ 0x01 ∷ 0x00 ∷ 0x01 ∷ 0x61 ∷ [])
    × (text_set_bytes (true, []) ≡ 0x01 ∷ 0x00 ∷ 0x00 ∷ 0x00 ∷ 0x00 ∷ 0x00 ∷ 0x00 ∷ 0x00 ∷ 0x00 ∷ [])
unfolding text_set_bytes counted_bytes text_bytes
listed_texts_and_all_others = (refl, refl)

all_labels_and_listed_ones : (labels_bytes None ≡ 0x00 ∷ []) × (labels_bytes (Some (a ∷ b ∷ [])) ≡ 0x01 ∷ 0x00 ∷ 0x00 ∷ 0x00 ∷ 0x00 ∷ 0x00 ∷ 0x00 ∷ 0x00 ∷ 0x02 ∷ 0x00 ∷ 0x01 ∷ 0x61 ∷ 0x00 ∷ 0x01 ∷ 0x62 ∷ [])
unfolding labels_bytes counted_bytes text_bytes
all_labels_and_listed_ones = (refl, refl)

lengths_of_lists : (lengths_bytes versions.First (2, Some 1, 0) ≡ 0x00 ∷ 0x00 ∷ 0x00 ∷ 0x02 ∷ 0x01 ∷ 0x00 ∷ 0x00 ∷ 0x00 ∷ 0x01 ∷ [])
    × (lengths_bytes versions.Second (2, Some 1, 1) ≡ 0x00 ∷ 0x00 ∷ 0x00 ∷ 0x02 ∷ 0x01 ∷ 0x00 ∷ 0x00 ∷ 0x00 ∷ 0x01 ∷ 0x00 ∷ 0x00 ∷ 0x00 ∷ 0x01 ∷ [])
    × (lengths_bytes versions.Second (3, None, 0) ≡ 0x00 ∷ 0x00 ∷ 0x00 ∷ 0x03 ∷ 0x00 ∷ 0x00 ∷ 0x00 ∷ 0x00 ∷ 0x00 ∷ [])
unfolding lengths_bytes most_bytes index_bytes
lengths_of_lists = (refl, refl, refl)

steps_of_paths : (step_bytes versions.First (at (label a)) ≡ 0x00 ∷ 0x00 ∷ 0x01 ∷ 0x61 ∷ [])
    × (step_bytes versions.First (at (index 258)) ≡ 0x01 ∷ 0x00 ∷ 0x00 ∷ 0x01 ∷ 0x02 ∷ []) × (step_bytes versions.Second to_rest ≡ 0x02 ∷ [])
unfolding step_bytes text_bytes
steps_of_paths = (refl, refl, refl)

paths_with_their_length : path_bytes versions.Second (at (label a) ∷ to_rest ∷ []) ≡ 0x02 ∷ 0x00 ∷ 0x00 ∷ 0x01 ∷ 0x61 ∷ 0x02 ∷ []
unfolding path_bytes step_bytes text_bytes
paths_with_their_length = refl

-- anything, a closed struct, and a list of conflicting lengths of which nothing may stand
kinds_and_what_they_leave_open : (row_part_bytes versions.Second (parts_of_row (free_row Given) 0) ≡ 0x00 ∷ [])
    × (row_part_bytes versions.Second (parts_of_row (struct_row Given (Some (a ∷ []))) 0) ≡ 0x02 ∷ 0x01 ∷ 0x00 ∷ 0x00 ∷ 0x00 ∷ 0x00 ∷ 0x00 ∷ 0x00 ∷ 0x00 ∷ 0x01 ∷ 0x00 ∷ 0x01 ∷ 0x61 ∷ [])
    × (row_part_bytes versions.Second (parts_of_row (list_row Given 1 None) 1) ≡ 0x03 ∷ 0x00 ∷ 0x00 ∷ 0x00 ∷ 0x01 ∷ 0x00 ∷ 0x00 ∷ 0x00 ∷ 0x00 ∷ 0x01 ∷ [])
    × (row_part_bytes versions.Second (parts_of_row (nothing_row Given None 0 None) 0) ≡ 0x04 ∷ 0x00 ∷ 0x00 ∷ 0x00 ∷ 0x00 ∷ 0x00 ∷ 0x00 ∷ 0x00 ∷ 0x00 ∷ 0x00 ∷ 0x00 ∷ [])
unfolding row_part_bytes labels_bytes counted_bytes text_bytes lengths_bytes most_bytes index_bytes left_out_bytes
kinds_and_what_they_leave_open = (refl, refl, refl, refl)

-- ---- sizes
ninety_two_bytes : size_of (table_bytes a_is_one) ≡ 92
unfolding state_bytes row_bytes path_bytes step_bytes text_bytes row_part_bytes scalars_bytes set_bytes text_set_bytes labels_bytes piece_bytes integer_bytes counted_bytes lengths_bytes index_bytes most_bytes
ninety_two_bytes = refl

sizes_have_64_bits : (at_most_64_bits 18446744073709551615 ≡ 18446744073709551615) × (at_most_64_bits 18446744073709551616 ≡ 18446744073709551615)
sizes_have_64_bits = (refl, refl)

-- ---- bytes that are none
pub the_version_3_is_another : IsOtherStateVersion (state_mark ++ 3 ∷ [])
the_version_3_is_another = (3, [], refl, none) where
  none : IsNoVersion 3
  none versions.First e = cc
  none versions.Second e = cc

the_version_2_is_none_other : IsOtherStateVersion (state_mark ++ 2 ∷ []) → ⊥
the_version_2_is_none_other (version, rest, e, other) = let is : version ≡ 2 = cc in other versions.Second is

bytes_without_the_mark_are_no_other_version : IsOtherStateVersion (3 ∷ []) → ⊥
bytes_without_the_mark_are_no_other_version (version, rest, e, other) = cc

a_mark_alone_is_no_state : IsNoState state_mark
unfolding state_bytes
a_mark_alone_is_no_state tree valid (version, told, e) = cc

pub another_version_is_rejected_as_that : IsRejected (state_mark ++ 3 ∷ []) refusals.Version
another_version_is_rejected_as_that = inl (refl, the_version_3_is_another)

and_not_as_no_state : IsRejected (state_mark ++ 3 ∷ []) refusals.NotState → ⊥
and_not_as_no_state (inl h) = let e = h.0 in cc
and_not_as_no_state (inr h) = h.1 the_version_3_is_another

a_mark_alone_is_rejected : IsRejected state_mark refusals.NotState
a_mark_alone_is_rejected = inr (refl, no_version, a_mark_alone_is_no_state) where
  no_version : IsOtherStateVersion state_mark → ⊥
  no_version (version, rest, e, other) = cc

-- the mark, the version and a count begin a state, whatever follows
a_count_begins_a_state : HasStateHead (0xfe ∷ 0x43 ∷ 0x55 ∷ 0x45 ∷ 0x01 ∷ 0x00 ∷ 0x00 ∷ 0x00 ∷ 0x00 ∷ 0x00 ∷ 0x00 ∷ 0x01 ∷ 0x02 ∷ 0x77 ∷ [])
a_count_begins_a_state = (versions.First, 258, 0x77 ∷ [], refl)

a_version_without_a_count_does_not : HasStateHead (state_mark ++ 2 ∷ 0 ∷ []) → ⊥
a_version_without_a_count_does_not (version, count, rest, e) = cc

-- ---- bytes in pieces
pieces_are_put_together : IsTakenIn (so_far (0xfe ∷ 0x43 ∷ [])) (0x55 ∷ []) (so_far (0xfe ∷ 0x43 ∷ 0x55 ∷ []))
pieces_are_put_together = refl

what_was_handed_is_taken_in : IsIntake state_mark (so_far state_mark)
what_was_handed_is_taken_in = refl

nothing_was_where_memory_ran_out : IsIntake state_mark failed → ⊥
nothing_was_where_memory_ran_out h = h

a_fault_stands : IsTakenIn other_version (0x55 ∷ []) other_version
a_fault_stands = refl

and_is_not_left : IsTakenIn other_version (0x55 ∷ []) (so_far (0x55 ∷ [])) → ⊥
and_is_not_left h = cc

another_version_is_met : IsTakenIn (so_far state_mark) (3 ∷ []) other_version
another_version_is_met = the_version_3_is_another

as_much_as_fits_is_filled : IsFilled (1 ∷ 2 ∷ 3 ∷ []) (9 ∷ 9 ∷ []) 2 (3 ∷ []) (1 ∷ 2 ∷ [])
as_much_as_fits_is_filled = record { counted = refl; written = refl; rest = refl }

what_is_behind_is_kept : IsFilled (1 ∷ []) (9 ∷ 8 ∷ []) 1 [] (1 ∷ 8 ∷ [])
what_is_behind_is_kept = record { counted = refl; written = refl; rest = refl }
