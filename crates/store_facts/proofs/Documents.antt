-- Documents, and which of them meet what small tables refuse.
use Rattle.std.proofs.Common.{◌≡◌, inl, inr, ℕ, List, [], ◌∷◌, Some, None, refl, sym, arith, lit<}
use Rattle.std.specs.Option.{option_and_then}
use Rattle.std.specs.Str.{is_utf8, IsUtf8, chars}
use Rattle.std.specs.declared.cmp.Ordering.{Ordering}
use Rattle.std.specs.declared.cmp.Ordering.TheVariants.{Less, Equal, Greater}
use lib.Utf8.{encode}
use Rattle.std.proofs.lemmas.Bool.{false≢true}
use Rattle.std.proofs.lemmas.Int.{ints}
use Rattle.std.proofs.lemmas.Str.{IsUtf8-from_is_utf8, is_utf8-from_IsUtf8}
use Rattle.cue_lattice.specs.declared.scalar.Scalar.TheVariants as scalars
use Rattle.cue_lattice.specs.Path.{label}
use Rattle.cue_lattice.specs.Question.{Refusals, level_at_most}
use Rattle.cue_lattice.specs.Document.{Document, scalar, list, map, no_items, item, no_members, member, length_of, HasMember, IsReadable, IsDocument}
use Rattle.cue_lattice.specs.Meets.{Meets}
use Rattle.cue_sets.specs.Texts.{text_cmp}
use Rattle.cue_sets.specs.TextLaws.{same_from_equal}
use Rattle.cue_row.specs.declared.level.Level.TheVariants.{Optional, Given}
use Rattle.cue_row.specs.declared.parts.RowParts.{RowParts as Row}
use Rattle.cue_row.specs.Made.{scalar_row, list_row, struct_row}
use Rattle.cue_row.specs.Row.{RowRefusesQuestion}
use Rattle.cue_table.specs.Tree.{row_of, branch_at, if_equal}
use Rattle.cue_table.specs.Refuses.{TableRefuses}
use Rattle.cue_table.specs.Refuses as tables
use Rattle.store_facts.proofs.Base.{a, b, number, text, in_range, other}
use Rattle.store_facts.proofs.Rows.{just, one}
use Rattle.store_facts.proofs.Tables.{leaf, file}

pub a_is_utf8 : IsUtf8 a
unfolding is_utf8 chars encode
a_is_utf8 = IsUtf8-from_is_utf8 a refl

b_is_utf8 : IsUtf8 b
unfolding is_utf8 chars encode
b_is_utf8 = IsUtf8-from_is_utf8 b refl

-- {"a": n}
abbrev pub a_is : ℕ → Document
a_is n = map (member a (scalar (number n)) no_members)

-- {"a": 1, "b": [null]}
a_map_of_two_members : IsDocument (map (member a (scalar (number 1)) (member b (list (item (scalar scalars.Null) no_items)) no_members)))
a_map_of_two_members = (a_is_utf8, refl, (in_range 1 (lit< tt), tt), (b_is_utf8, tt, ((tt, tt), tt), tt))

falling_labels_are_no_map : IsDocument (map (member b (scalar scalars.Null) (member a (scalar scalars.Null) no_members))) → ⊥
falling_labels_are_no_map h = let e = h.1 in cc

a_label_twice_is_none : IsDocument (map (member a (scalar scalars.Null) (member a (scalar scalars.Null) no_members))) → ⊥
a_label_twice_is_none h = let e = h.1 in cc

an_integer_of_65_bits_is_no_document : IsDocument (scalar (number 9223372036854775808)) → ⊥
an_integer_of_65_bits_is_no_document h = omega (arith, ints, h.0.1)

-- the first of two bytes alone
half_a_letter_is_no_document : IsDocument (list (item (scalar (text (0xc3 ∷ []))) no_items)) → ⊥
unfolding is_utf8 chars encode
half_a_letter_is_no_document h = false≢true (is_utf8-from_IsUtf8 (0xc3 ∷ []) h.0.1)

numbers_are_readable : IsReadable (number 7)
numbers_are_readable = tt

two_items : length_of (item (scalar scalars.Null) (item (scalar (number 1)) no_items)) ≡ 2
two_items = refl

a_map_has_its_labels : HasMember b (member a (scalar scalars.Null) (member b (scalar scalars.Null) no_members))
a_map_has_its_labels = inr (inl refl)

and_no_others : HasMember b (member a (scalar scalars.Null) no_members) → ⊥
and_no_others (inl e) = other a b refl e
and_no_others (inr h) = h

-- ---- what meets a: 1
-- what a file refuses whose only field is a
abbrev pub refused_by : Row → Refusals
refused_by row = TableRefuses RowRefusesQuestion (file (leaf row))

-- only a may have to be there
pub wanted : (row : Row) (l : List ℕ) (k : ℕ) → refused_by row (label l ∷ []) (level_at_most k) → l ≡ a
wanted row l k h = by (text_cmp l a) refl h where
  by : (o : Ordering) → text_cmp l a ≡ o
      → tables.RowRefuses RowRefusesQuestion (option_and_then row_of (option_and_then (λ t. branch_at t []) (if_equal o (leaf row) None))) (level_at_most k)
      → l ≡ a
  by Less e h = absurd h
  by Greater e h = absurd h
  by Equal e h = same_from_equal l a e

pub a_is_one_meets_it : Meets (refused_by one) (a_is 1)
a_is_one_meets_it =
    ((λ h. false≢true (sym h)), (λ l h. inl (sym (wanted one l 0 h))), ((λ h. false≢true (sym h)), (λ h. false≢true (sym h.1)), tt))

so_does_it_with_another_label : Meets (refused_by one) (map (member a (scalar (number 1)) (member b (scalar scalars.Null) no_members)))
so_does_it_with_another_label = (
  (λ h. false≢true (sym h)),
  (λ l h. inl (sym (wanted one l 0 h))),
  ((λ h. false≢true (sym h)), (λ h. false≢true (sym h.1)), ((λ h. false≢true (sym h)), (λ h. h), tt)),
)

another_value_does_not : Meets (refused_by one) (a_is 2) → ⊥
another_value_does_not h = h.2.1 (in_range 2 (lit< tt), refl)

pub nor_does_a_map_without_it : Meets (refused_by one) (map no_members) → ⊥
nor_does_a_map_without_it h = h.1 a (lit< tt)

nor_does_a_scalar : Meets (refused_by one) (scalar (number 1)) → ⊥
nor_does_a_scalar h = h (in_range 1 (lit< tt), refl)

-- a?: 1
an_optional_field_may_lack : Meets (refused_by (scalar_row Optional (just 1) (just 1))) (map no_members)
an_optional_field_may_lack =
    ((λ h. false≢true (sym h)), (λ l h. absurd (none l h)), tt) where
      none : (l : List ℕ) → refused_by (scalar_row Optional (just 1) (just 1)) (label l ∷ []) (level_at_most 0) → ⊥
      none l h = by (text_cmp l a) h where
        by : (o : Ordering)
            → tables.RowRefuses RowRefusesQuestion (option_and_then row_of (option_and_then (λ t. branch_at t []) (if_equal o (leaf (scalar_row Optional (just 1) (just 1))) None))) (level_at_most 0)
            → ⊥
        by Less h = h
        by Greater h = h
        by Equal h = omega (arith, h)

but_not_have_another_value : Meets (refused_by (scalar_row Optional (just 1) (just 1))) (a_is 2) → ⊥
but_not_have_another_value h = h.2.1 (in_range 2 (lit< tt), refl)

-- a label that the root leaves out
a_label_that_is_left_out_does_not : Meets (TableRefuses RowRefusesQuestion (leaf (struct_row Optional (Some (a ∷ []))))) (map (member b (scalar scalars.Null) no_members)) → ⊥
a_label_that_is_left_out_does_not h = h.2.0 refl

-- lists of two elements
abbrev two : Refusals
two = TableRefuses RowRefusesQuestion (leaf (list_row Given 2 (Some 2)))

two_elements_meet_it : Meets two (list (item (scalar scalars.Null) (item (scalar scalars.Null) no_items)))
two_elements_meet_it = ((λ h. false≢true (sym h)), (λ h. omega (arith, h)), (λ h. omega (arith, h)), ((λ h. h), ((λ h. h), tt)))

one_does_not : Meets two (list (item (scalar scalars.Null) no_items)) → ⊥
one_does_not h = h.1 (lit< tt)

nor_do_three : Meets two (list (item (scalar scalars.Null) (item (scalar scalars.Null) (item (scalar scalars.Null) no_items)))) → ⊥
nor_do_three h = h.2 (lit< tt)
