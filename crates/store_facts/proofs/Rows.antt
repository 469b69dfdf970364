-- Rows of each kind: what they refuse, and which are valid.
use Rattle.std.proofs.Common.{◌≡◌, ◌⊎◌, inl, inr, ℕ, pos, [], ◌∷◌, true, false, Some, None, refl, sym, arith, lit<, lit≤}
use Rattle.std.specs.Str.{is_utf8, chars}
use lib.Utf8.{encode}
use Rattle.std.proofs.lemmas.Bool.{false≢true}
use Rattle.std.proofs.lemmas.Int.{ints}
use Rattle.std.proofs.lemmas.Str.{is_utf8-from_IsUtf8}
use Rattle.cue_lattice.specs.Scalar.{least, greatest}
use Rattle.cue_lattice.specs.declared.scalar.Scalar.TheVariants as scalars
use Rattle.cue_lattice.specs.Question.{Question, may_be, usual, struct, list, allows, level_at_most, length_at_most, length_at_least}
use Rattle.cue_sets.specs.PieceLaws.{free_is_full}
use Rattle.cue_scalars.specs.declared.scalar_set.ScalarSet.{ScalarSet}
use Rattle.cue_scalars.specs.Scalars.{members}
use Rattle.cue_row.specs.declared.level.Level.{Level}
use Rattle.cue_row.specs.declared.level.Level.TheVariants.{Optional, Required, Given}
use Rattle.cue_row.specs.declared.parts.RowParts.{RowParts as Row}
use Rattle.cue_row.specs.declared.kind.RowKind.{RowKind}
use Rattle.cue_row.specs.declared.kind.RowKind.TheVariants as kinds
use Rattle.cue_row.specs.declared.question.Question.TheVariants as asks
use Rattle.cue_row.specs.Levels.{level_of}
use Rattle.cue_row.specs.Questions.{question_of}
use Rattle.cue_row.specs.Made.{empty_set, full_set, free_row, scalar_row, struct_row, list_row, nothing_row}
use Rattle.cue_row.specs.Kinds.{IsEmptySet, IsFullSet, IsRowKind}
use Rattle.cue_row.specs.Row.{RowRefusesQuestion, IsRow}
use Rattle.cue_row.specs.ValidRow.{IsValidRow, UsualFits, LabelsFit, IsWordStep}
use Rattle.cue_lattice.specs.Path.{label, index}
use Rattle.store_facts.proofs.Base.{a, b, number, text, in_range}

-- one integer
abbrev pub just : ℕ → ScalarSet
just n = record { null = false; no = false; yes = false; ints = (pos n, pos n) ∷ []; texts = (false, []) }

-- a: 1
abbrev pub one : Row
one = scalar_row Given (just 1) (just 1)

-- a: [_, _]
abbrev two_elements : Row
two_elements = list_row Given 2 (Some 2)

-- close({a?: _})
abbrev closed_struct : Row
closed_struct = struct_row Given (Some (a ∷ []))

levels_rise : (level_of Optional ≡ 0) × (level_of Required ≡ 1) × (level_of Given ≡ 2)
levels_rise = (refl, refl, refl)

-- ---- sets
pub no_scalar_is_in_the_empty_set : IsEmptySet empty_set
no_scalar_is_in_the_empty_set scalars.Null = refl
no_scalar_is_in_the_empty_set (scalars.Bool false) = refl
no_scalar_is_in_the_empty_set (scalars.Bool true) = refl
no_scalar_is_in_the_empty_set (scalars.Int n) = refl
no_scalar_is_in_the_empty_set (scalars.Text t) = refl

pub one_integer_is_no_empty_set : (n : ℕ) → members (just n) (number n) ≡ true → IsEmptySet (just n) → ⊥
one_integer_is_no_empty_set n is h = cc (is, h (number n))

pub the_full_set_refuses_no_scalar : IsFullSet full_set
the_full_set_refuses_no_scalar scalars.Null h = false≢true (sym h)
the_full_set_refuses_no_scalar (scalars.Bool false) h = false≢true (sym h)
the_full_set_refuses_no_scalar (scalars.Bool true) h = false≢true (sym h)
the_full_set_refuses_no_scalar (scalars.Int n) h =
    (free_is_full ((least, greatest) ∷ []) (omega (arith, ints), omega (arith, ints), omega (arith, ints), tt)).0 refl n h
the_full_set_refuses_no_scalar (scalars.Text t) h = false≢true (sym h)

all_but_null_is_no_full_set : IsFullSet (record full_set { null = false }) → ⊥
all_but_null_is_no_full_set h = h scalars.Null refl

-- ---- what rows refuse
a_free_row_refuses_nothing : (question : Question) → RowRefusesQuestion (free_row Optional) question → ⊥
a_free_row_refuses_nothing (may_be x) h = the_full_set_refuses_no_scalar x h
a_free_row_refuses_nothing (usual x) h = the_full_set_refuses_no_scalar x h
a_free_row_refuses_nothing struct h = false≢true (sym h)
a_free_row_refuses_nothing list h = false≢true (sym h)
a_free_row_refuses_nothing (allows l) h = false≢true (sym h)
a_free_row_refuses_nothing (level_at_most k) h = omega (arith, h)
a_free_row_refuses_nothing (length_at_most n) h = omega (arith, h)
a_free_row_refuses_nothing (length_at_least n) h = h

-- a: _
a_given_row_refuses_lower_levels : RowRefusesQuestion (free_row Given) (level_at_most 0) × RowRefusesQuestion (free_row Given) (level_at_most 1)
a_given_row_refuses_lower_levels = (lit< tt, lit< tt)

-- a!: _
a_required_row_refuses_level_0 : RowRefusesQuestion (free_row Required) (level_at_most 0)
a_required_row_refuses_level_0 = lit< tt

and_not_level_1 : RowRefusesQuestion (free_row Required) (level_at_most 1) → ⊥
and_not_level_1 h = omega (arith, h)

a_scalar_row_refuses : RowRefusesQuestion one (may_be (number 2)) × RowRefusesQuestion one (usual (number 2)) × RowRefusesQuestion one struct × RowRefusesQuestion one list
a_scalar_row_refuses = ((in_range 2 (lit< tt), refl), (in_range 2 (lit< tt), refl), refl, refl)

and_not_its_own_scalar : (RowRefusesQuestion one (may_be (number 1)) ⊎ (RowRefusesQuestion one (usual (number 1))
    ⊎ (RowRefusesQuestion one (allows a) ⊎ (RowRefusesQuestion one (length_at_most 0) ⊎ RowRefusesQuestion one (length_at_least 9))))) → ⊥
and_not_its_own_scalar (inl h) = false≢true (sym h.1)
and_not_its_own_scalar (inr (inl h)) = false≢true (sym h.1)
and_not_its_own_scalar (inr (inr (inl h))) = false≢true (sym h)
and_not_its_own_scalar (inr (inr (inr (inl h)))) = omega (arith, h)
and_not_its_own_scalar (inr (inr (inr (inr h)))) = h

-- a: *1 | 2 has one usual scalar of two
a_default_is_usual : RowRefusesQuestion (scalar_row Given (record (just 1) { ints = (pos 1, pos 2) ∷ [] }) (just 1)) (usual (number 2))
a_default_is_usual = (in_range 2 (lit< tt), refl)

and_the_other_may_stand : RowRefusesQuestion (scalar_row Given (record (just 1) { ints = (pos 1, pos 2) ∷ [] }) (just 1)) (may_be (number 2)) → ⊥
and_the_other_may_stand h = false≢true (sym h.1)

a_closed_struct_refuses : RowRefusesQuestion closed_struct (allows b) × RowRefusesQuestion closed_struct list × RowRefusesQuestion closed_struct (may_be scalars.Null)
a_closed_struct_refuses = (refl, refl, refl)

and_not_its_own_label : (RowRefusesQuestion closed_struct (allows a) ⊎ RowRefusesQuestion closed_struct struct) → ⊥
and_not_its_own_label (inl h) = false≢true (sym h)
and_not_its_own_label (inr h) = false≢true (sym h)

an_open_struct_refuses_no_label : RowRefusesQuestion (struct_row Given None) (allows b) → ⊥
an_open_struct_refuses_no_label h = false≢true (sym h)

a_list_refuses_other_lengths : RowRefusesQuestion two_elements (length_at_most 1) × RowRefusesQuestion two_elements (length_at_least 3)
    × RowRefusesQuestion two_elements struct × RowRefusesQuestion two_elements (may_be (text a))
a_list_refuses_other_lengths = (lit< tt, lit< tt, refl, refl)

and_not_its_own : (RowRefusesQuestion two_elements (length_at_most 2) ⊎ (RowRefusesQuestion two_elements (length_at_least 2) ⊎ RowRefusesQuestion two_elements list)) → ⊥
and_not_its_own (inl h) = omega (arith, h)
and_not_its_own (inr (inl h)) = omega (arith, h)
and_not_its_own (inr (inr h)) = false≢true (sym h)

-- [_, ...]
an_open_list_refuses_no_greater_length : RowRefusesQuestion (list_row Given 1 None) (length_at_least 9) → ⊥
an_open_list_refuses_no_greater_length h = h

a_row_of_nothing_refuses : RowRefusesQuestion (nothing_row Given None 0 None) struct × RowRefusesQuestion (nothing_row Given None 0 None) list
    × RowRefusesQuestion (nothing_row Given None 0 None) (may_be scalars.Null)
a_row_of_nothing_refuses = (refl, refl, refl)

-- ---- kinds
each_of_its_kind : IsRowKind (free_row Given) kinds.Free × IsRowKind one kinds.Scalar × IsRowKind closed_struct kinds.Struct
    × IsRowKind two_elements kinds.List × IsRowKind (nothing_row Given None 0 None) kinds.Nothing
each_of_its_kind = (
  (the_full_set_refuses_no_scalar, refl, refl),
  (one_integer_is_no_empty_set 1 refl, refl, refl),
  (no_scalar_is_in_the_empty_set, refl, refl),
  (no_scalar_is_in_the_empty_set, refl, refl),
  (no_scalar_is_in_the_empty_set, refl, refl),
)

and_of_no_other : (IsRowKind one kinds.Free ⊎ (IsRowKind one kinds.Nothing ⊎ (IsRowKind closed_struct kinds.List ⊎ IsRowKind two_elements kinds.Struct))) → ⊥
and_of_no_other (inl h) = false≢true h.1
and_of_no_other (inr (inl h)) = one_integer_is_no_empty_set 1 refl h.0
and_of_no_other (inr (inr (inl h))) = false≢true (sym h.1)
and_of_no_other (inr (inr (inr h))) = false≢true h.1

-- where a struct or a scalar may stand there is no kind
two_kinds_are_none : (kind : RowKind) → IsRowKind (record one { struct_ok = true }) kind → ⊥
two_kinds_are_none kinds.Free h = false≢true h.2
two_kinds_are_none kinds.Scalar h = false≢true (sym h.1)
two_kinds_are_none kinds.Struct h = one_integer_is_no_empty_set 1 refl h.0
two_kinds_are_none kinds.List h = false≢true (sym h.1)
two_kinds_are_none kinds.Nothing h = false≢true (sym h.1)

-- ---- rows in their one form
pub sets_are_in_their_one_form : IsRow one
sets_are_in_their_one_form = record {
  value = record { ints = (omega (arith, ints), omega (arith, ints), omega (arith, ints), tt); texts = tt };
  usual = record { ints = (omega (arith, ints), omega (arith, ints), omega (arith, ints), tt); texts = tt };
  labels = tt;
}

falling_labels_are_not : IsRow (struct_row Given (Some (b ∷ a ∷ []))) → ⊥
falling_labels_are_not h = let l = h.labels in cc

-- ---- valid rows
pub one_is_valid : IsValidRow one
one_is_valid = record {
  kind = kinds.Scalar;
  is_kind = (one_integer_is_no_empty_set 1 refl, refl, refl);
  usual = λ x h. h;
  labels = refl;
  row_lengths = (refl, refl);
  limits = lit≤ tt;
  texts = record { labels = tt; value = tt; usual = tt };
  not_free = λ none. none asks.Struct refl;
}

pub an_open_struct_is_valid : (level : Level) → IsValidRow (struct_row level None)
an_open_struct_is_valid level = record {
  kind = kinds.Struct;
  is_kind = (no_scalar_is_in_the_empty_set, refl, refl);
  usual = no_scalar_is_in_the_empty_set;
  labels = tt;
  row_lengths = (refl, refl);
  limits = lit≤ tt;
  texts = record { labels = tt; value = tt; usual = tt };
  not_free = λ none. none asks.List refl;
}

a_given_free_row_is_valid : IsValidRow (free_row Given)
a_given_free_row_is_valid = record {
  kind = kinds.Free;
  is_kind = (the_full_set_refuses_no_scalar, refl, refl);
  usual = the_full_set_refuses_no_scalar;
  labels = refl;
  row_lengths = (refl, refl);
  limits = lit≤ tt;
  texts = record { labels = tt; value = tt; usual = tt };
  not_free = λ none. none (asks.LevelAtMost 0) (lit< tt);
}

pub an_optional_free_row_is_not : IsValidRow (free_row Optional) → ⊥
an_optional_free_row_is_not h = h.not_free (λ question r. a_free_row_refuses_nothing (question_of question) r)

-- [_, _] & [_]: the least length is above the greatest
lengths_that_conflict_are_valid : IsValidRow (list_row Given 2 (Some 1))
lengths_that_conflict_are_valid = record {
  kind = kinds.List;
  is_kind = (no_scalar_is_in_the_empty_set, refl, refl);
  usual = no_scalar_is_in_the_empty_set;
  labels = refl;
  row_lengths = tt;
  limits = (lit≤ tt, lit≤ tt);
  texts = record { labels = tt; value = tt; usual = tt };
  not_free = λ none. none asks.Struct refl;
}

a_greatest_length_above_the_least_is_not : IsValidRow (list_row Given 2 (Some 3)) → ⊥
a_greatest_length_above_the_least_is_not h = omega (arith, h.limits.1)

a_length_of_65537_is_not : IsValidRow (list_row Given 65537 None) → ⊥
a_length_of_65537_is_not h = omega (arith, h.limits)

a_default_that_may_not_stand_is_not : IsValidRow (scalar_row Given (just 1) (just 2)) → ⊥
a_default_that_may_not_stand_is_not h = by h.kind h.is_kind h.usual where
  by : (kind : RowKind) → IsRowKind (scalar_row Given (just 1) (just 2)) kind → UsualFits (scalar_row Given (just 1) (just 2)) kind → ⊥
  by kinds.Free is fits = false≢true is.1
  by kinds.Scalar is fits = false≢true (fits (number 2) refl)
  by kinds.Struct is fits = false≢true is.1
  by kinds.List is fits = false≢true is.2
  by kinds.Nothing is fits = one_integer_is_no_empty_set 1 refl is.0

labels_below_a_scalar_are_not : IsValidRow (record one { labels = Some (a ∷ []) }) → ⊥
labels_below_a_scalar_are_not h = by h.kind h.is_kind h.labels where
  by : (kind : RowKind) → IsRowKind (record one { labels = Some (a ∷ []) }) kind → LabelsFit (record one { labels = Some (a ∷ []) }) kind → ⊥
  by kinds.Free is fits = false≢true is.1
  by kinds.Scalar is fits = cc
  by kinds.Struct is fits = false≢true is.1
  by kinds.List is fits = false≢true is.2
  by kinds.Nothing is fits = one_integer_is_no_empty_set 1 refl is.0

-- the first of two bytes alone
a_label_that_is_no_text_is_not : IsValidRow (struct_row Given (Some ((0xc3 ∷ []) ∷ []))) → ⊥
unfolding is_utf8 chars encode
a_label_that_is_no_text_is_not h = false≢true (is_utf8-from_IsUtf8 (0xc3 ∷ []) h.texts.labels.0.utf8)

steps_are_words : IsWordStep (index 7) × (IsWordStep (label (0xc3 ∷ [])) → ⊥)
unfolding is_utf8 chars encode
steps_are_words = (tt, λ h. false≢true (is_utf8-from_IsUtf8 (0xc3 ∷ []) h.utf8))
