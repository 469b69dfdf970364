-- What rows refuse at their own place, by their kinds.
use Rattle.std.proofs.Common.{◌≡◌, ◌↔◌, ◌⊎◌, inl, inr, ⊎_elim, ℕ, ◌<◌, Bool, true, false, List, Option, None, sym, subst, ◌∙◌, arith}
use Rattle.std.proofs.lemmas.Bool.{false≢true}
use Rattle.cue_lattice.specs.declared.scalar.Scalar.{Scalar}
use Rattle.cue_lattice.specs.declared.scalar.Scalar.TheVariants as scalars
use Rattle.cue_lattice.specs.Scalar.{IsScalar}
use Rattle.cue_lattice.specs.Question.{Question, may_be, usual, struct, list, allows, level_at_most, length_at_most, length_at_least}
use Rattle.cue_scalars.specs.Scalars.{RefusesScalar}
use Rattle.cue_scalars.specs.declared.scalar_set.ScalarSet.{ScalarSet}
use Rattle.cue_row.specs.declared.parts.RowParts.{RowParts as Row}
use Rattle.cue_row.specs.Kinds.{IsEmptySet, IsRowKind}
use Rattle.cue_row.specs.LabelSets.{RefusesLabel}
use Rattle.cue_row.specs.Lengths.{RefusesLength}
use Rattle.cue_row.specs.ValidRow.{UsualFits, LabelsFit, LengthsFit}
use Rattle.cue_row.specs.declared.kind.RowKind.TheVariants as kinds
use Rattle.cue_eval.specs.Places.{StructRefuses}
use Rattle.print_laws.specs.Inner.Meanings.{LabelsRefuse, LengthsRefuse, PlaceRefuses}
use Rattle.print_laws.specs.Inner.ScalarMeaning.{SetsRefuse}

-- ---- sets
refused_scalar : (set : ScalarSet) (scalar : Scalar) → RefusesScalar set scalar → IsScalar scalar
refused_scalar set scalars.Null h = tt
refused_scalar set (scalars.Bool b) h = tt
refused_scalar set (scalars.Int n) h = h.0
refused_scalar set (scalars.Text t) h = tt

empty_refuses : (set : ScalarSet) → IsEmptySet set → (scalar : Scalar) → IsScalar scalar → RefusesScalar set scalar
empty_refuses set empty scalars.Null h = empty scalars.Null
empty_refuses set empty (scalars.Bool false) h = empty (scalars.Bool false)
empty_refuses set empty (scalars.Bool true) h = empty (scalars.Bool true)
empty_refuses set empty (scalars.Int n) h = (h, empty (scalars.Int n))
empty_refuses set empty (scalars.Text t) h = empty (scalars.Text t)

pub empty_set : (set : ScalarSet) → IsEmptySet set → (scalar : Scalar) → IsScalar scalar ↔ RefusesScalar set scalar
empty_set set empty scalar = (empty_refuses set empty scalar, refused_scalar set scalar)

-- ---- what is not refused
no_label : (labels : Option (List (List ℕ))) (l : List ℕ) → labels ≡ None → RefusesLabel labels l → ⊥
no_label labels l e h = let no : RefusesLabel None l = subst (λ (ls : Option (List (List ℕ))). RefusesLabel ls l) e h in false≢true (sym no)

no_least : (least n : ℕ) → least ≡ 0 → n < least → ⊥
no_least least n e h = omega arith

no_most : (most : Option ℕ) (n : ℕ) → most ≡ None → RefusesLength most n → ⊥
no_most most n e h = subst (λ (m : Option ℕ). RefusesLength m n) e h

no_flag : (ok : Bool) → ok ≡ true → ok ≡ false → ⊥
no_flag ok e h = false≢true (sym h ∙ e)

never : {A B : Type 0} → (A → ⊥) → (B → ⊥) → A ↔ B
never first second = (λ a. absurd (first a), λ b. absurd (second b))

-- ---- kinds that differ
pub free_no_fields : (row : Row) → IsRowKind row kinds.Free → IsRowKind row kinds.Struct ⊎ IsRowKind row kinds.Nothing → ⊥
free_no_fields row is h = ⊎_elim (λ g. no_flag row.list_ok is.2 g.2) (λ g. no_flag row.list_ok is.2 g.2) h

pub free_no_elements : (row : Row) → IsRowKind row kinds.Free → IsRowKind row kinds.List ⊎ IsRowKind row kinds.Nothing → ⊥
free_no_elements row is h = ⊎_elim (λ g. no_flag row.struct_ok is.1 g.1) (λ g. no_flag row.struct_ok is.1 g.1) h

pub scalar_no_fields : (row : Row) → IsRowKind row kinds.Scalar → IsRowKind row kinds.Struct ⊎ IsRowKind row kinds.Nothing → ⊥
scalar_no_fields row is h = ⊎_elim (λ g. is.0 g.0) (λ g. is.0 g.0) h

pub scalar_no_elements : (row : Row) → IsRowKind row kinds.Scalar → IsRowKind row kinds.List ⊎ IsRowKind row kinds.Nothing → ⊥
scalar_no_elements row is h = ⊎_elim (λ g. is.0 g.0) (λ g. is.0 g.0) h

pub struct_no_elements : (row : Row) → IsRowKind row kinds.Struct → IsRowKind row kinds.List ⊎ IsRowKind row kinds.Nothing → ⊥
struct_no_elements row is h = ⊎_elim (λ g. no_flag row.struct_ok is.1 g.1) (λ g. no_flag row.struct_ok is.1 g.1) h

pub list_no_fields : (row : Row) → IsRowKind row kinds.List → IsRowKind row kinds.Struct ⊎ IsRowKind row kinds.Nothing → ⊥
list_no_fields row is h = ⊎_elim (λ g. no_flag row.list_ok is.2 g.2) (λ g. no_flag row.list_ok is.2 g.2) h

-- ---- at the place
pub as_free : (row : Row) → IsRowKind row kinds.Free → UsualFits row kinds.Free → LabelsFit row kinds.Free → LengthsFit row kinds.Free → (question : Question) → PlaceRefuses row question → ⊥
as_free row is common labels lengths (may_be scalar) h = is.0 scalar h
as_free row is common labels lengths (usual scalar) h = common scalar h
as_free row is common labels lengths struct h = no_flag row.struct_ok is.1 h
as_free row is common labels lengths list h = no_flag row.list_ok is.2 h
as_free row is common labels lengths (allows l) h = no_label row.labels l labels h
as_free row is common labels lengths (level_at_most k) h = h
as_free row is common labels lengths (length_at_most n) h = no_least row.least n lengths.0 h
as_free row is common labels lengths (length_at_least n) h = no_most row.most n lengths.1 h

pub as_scalar : (row : Row) → IsRowKind row kinds.Scalar → LabelsFit row kinds.Scalar → LengthsFit row kinds.Scalar → (question : Question) → SetsRefuse row.value row.usual question ↔ PlaceRefuses row question
as_scalar row is labels lengths (may_be scalar) = (λ h. h, λ h. h)
as_scalar row is labels lengths (usual scalar) = (λ h. h, λ h. h)
as_scalar row is labels lengths struct = (λ h. is.1, λ h. tt)
as_scalar row is labels lengths list = (λ h. is.2, λ h. tt)
as_scalar row is labels lengths (allows l) = never (λ h. h) (no_label row.labels l labels)
as_scalar row is labels lengths (level_at_most k) = (λ h. h, λ h. h)
as_scalar row is labels lengths (length_at_most n) = never (λ h. h) (no_least row.least n lengths.0)
as_scalar row is labels lengths (length_at_least n) = never (λ h. h) (no_most row.most n lengths.1)

pub as_struct : (row : Row) → IsRowKind row kinds.Struct → UsualFits row kinds.Struct → LengthsFit row kinds.Struct → (question : Question) → (StructRefuses question ⊎ LabelsRefuse row.labels question) ↔ PlaceRefuses row question
as_struct row is common lengths (may_be scalar) = (λ h. ⊎_elim (λ g. (empty_set row.value is.0 scalar).0 g) (λ g. absurd g) h, λ h. inl ((empty_set row.value is.0 scalar).1 h))
as_struct row is common lengths (usual scalar) = (λ h. ⊎_elim (λ g. (empty_set row.usual common scalar).0 g) (λ g. absurd g) h, λ h. inl ((empty_set row.usual common scalar).1 h))
as_struct row is common lengths struct = never (λ h. ⊎_elim (λ g. g) (λ g. g) h) (no_flag row.struct_ok is.1)
as_struct row is common lengths list = (λ h. is.2, λ h. inl tt)
as_struct row is common lengths (allows l) = (λ h. ⊎_elim (λ g. absurd g) (λ g. g) h, inr)
as_struct row is common lengths (level_at_most k) = never (λ h. ⊎_elim (λ g. g) (λ g. g) h) (λ h. h)
as_struct row is common lengths (length_at_most n) = never (λ h. ⊎_elim (λ g. g) (λ g. g) h) (no_least row.least n lengths.0)
as_struct row is common lengths (length_at_least n) = never (λ h. ⊎_elim (λ g. g) (λ g. g) h) (no_most row.most n lengths.1)

pub as_list : (row : Row) → IsRowKind row kinds.List → UsualFits row kinds.List → LabelsFit row kinds.List → (question : Question) → LengthsRefuse row.least row.most question ↔ PlaceRefuses row question
as_list row is common labels (may_be scalar) = empty_set row.value is.0 scalar
as_list row is common labels (usual scalar) = empty_set row.usual common scalar
as_list row is common labels struct = (λ h. is.1, λ h. tt)
as_list row is common labels list = never (λ h. h) (no_flag row.list_ok is.2)
as_list row is common labels (allows l) = never (λ h. h) (no_label row.labels l labels)
as_list row is common labels (level_at_most k) = (λ h. h, λ h. h)
as_list row is common labels (length_at_most n) = (λ h. h, λ h. h)
as_list row is common labels (length_at_least n) = (λ h. h, λ h. h)

-- ---- where nothing may stand
-- `_|_`
abbrev pub BottomRefuses : Question → Type 0
BottomRefuses (may_be scalar) = IsScalar scalar
BottomRefuses (usual scalar) = IsScalar scalar
BottomRefuses struct = Unit {0}
BottomRefuses list = Unit {0}
BottomRefuses _ = ⊥

-- the lengths that a list leaves out
abbrev pub JustLengths : ℕ → Option ℕ → Question → Type 0
JustLengths least most (length_at_most n) = n < least
JustLengths least most (length_at_least n) = RefusesLength most n
JustLengths least most _ = ⊥

pub just_lengths : (least : ℕ) (most : Option ℕ) (question : Question) → JustLengths least most question → LengthsRefuse least most question
just_lengths least most (may_be scalar) h = absurd h
just_lengths least most (usual scalar) h = absurd h
just_lengths least most struct h = absurd h
just_lengths least most list h = absurd h
just_lengths least most (allows l) h = absurd h
just_lengths least most (level_at_most k) h = absurd h
just_lengths least most (length_at_most n) h = h
just_lengths least most (length_at_least n) h = h

module _ (row : Row) (is : IsRowKind row kinds.Nothing) (common : UsualFits row kinds.Nothing) where
  pub nothing_struct : (question : Question) → StructRefuses question ⊎ LabelsRefuse row.labels question → PlaceRefuses row question
  nothing_struct (may_be scalar) h = ⊎_elim (λ g. (empty_set row.value is.0 scalar).0 g) (λ g. absurd g) h
  nothing_struct (usual scalar) h = ⊎_elim (λ g. (empty_set row.usual common scalar).0 g) (λ g. absurd g) h
  nothing_struct struct h = is.1
  nothing_struct list h = is.2
  nothing_struct (allows l) h = ⊎_elim (λ g. absurd g) (λ g. g) h
  nothing_struct (level_at_most k) h = ⊎_elim (λ g. g) (λ g. g) h
  nothing_struct (length_at_most n) h = ⊎_elim (λ g. absurd g) (λ g. absurd g) h
  nothing_struct (length_at_least n) h = ⊎_elim (λ g. absurd g) (λ g. absurd g) h

  pub nothing_list : (question : Question) → LengthsRefuse row.least row.most question → PlaceRefuses row question
  nothing_list (may_be scalar) h = (empty_set row.value is.0 scalar).0 h
  nothing_list (usual scalar) h = (empty_set row.usual common scalar).0 h
  nothing_list struct h = is.1
  nothing_list list h = is.2
  nothing_list (allows l) h = absurd h
  nothing_list (level_at_most k) h = h
  nothing_list (length_at_most n) h = h
  nothing_list (length_at_least n) h = h

  pub nothing_bottom : (question : Question) → BottomRefuses question → PlaceRefuses row question
  nothing_bottom (may_be scalar) h = (empty_set row.value is.0 scalar).0 h
  nothing_bottom (usual scalar) h = (empty_set row.usual common scalar).0 h
  nothing_bottom struct h = is.1
  nothing_bottom list h = is.2
  nothing_bottom (allows l) h = absurd h
  nothing_bottom (level_at_most k) h = h
  nothing_bottom (length_at_most n) h = absurd h
  nothing_bottom (length_at_least n) h = absurd h

  pub nothing_refuses : (question : Question) → PlaceRefuses row question → BottomRefuses question ⊎ (LabelsRefuse row.labels question ⊎ JustLengths row.least row.most question)
  nothing_refuses (may_be scalar) h = inl ((empty_set row.value is.0 scalar).1 h)
  nothing_refuses (usual scalar) h = inl ((empty_set row.usual common scalar).1 h)
  nothing_refuses struct h = inl tt
  nothing_refuses list h = inl tt
  nothing_refuses (allows l) h = inr (inl h)
  nothing_refuses (level_at_most k) h = absurd h
  nothing_refuses (length_at_most n) h = inr (inr h)
  nothing_refuses (length_at_least n) h = inr (inr h)
