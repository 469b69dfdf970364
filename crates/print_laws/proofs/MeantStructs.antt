-- What the struct part of a printed row means.
use Rattle.std.proofs.Common.{◌≡◌, ◌↔◌, ◌⊎◌, inl, inr, ⊎_elim, ℕ, Bool, true, false, List, [], ◌∷◌, Option, None, Some, refl, sym, ◌∙◌}
use Rattle.std.proofs.lemmas.Bool.{false≢true, or_parts, or_from}
use Rattle.cue_lattice.specs.Path.{Path, label, index}
use Rattle.cue_lattice.specs.Question.{Question, may_be, usual, struct, list, allows, level_at_most, length_at_most, length_at_least}
use Rattle.cue_sets.specs.Texts.{is_listed}
use Rattle.cue_row.specs.LabelSets.{RefusesLabel}
use Rattle.cue_scope.specs.Core.{Core, Members}
use Rattle.cue_scope.specs.Definitions.{Definition}
use Rattle.cue_eval.specs.Literals.{has_declaration, has_dots, LeaveOut}
use Rattle.cue_eval.specs.Places.{IsAtPlace, ClosingRefuses}
use Rattle.cue_eval.specs.Refuses.{LiteralRefuses}
use Rattle.cue_print.specs.Expressions as printed
use Rattle.cue_print.specs.Expressions.{Parts, Fields, no_more, field}
use Rattle.cue_print.specs.Printed.{fields_of_labels, fields_of_others, struct_if_any, struct_part}
use Rattle.print_laws.specs.PrintedTree.{value_tree}
use Rattle.print_laws.specs.Inner.Meanings.{OnePartRefuses, members_of, FieldsRefuse, AreDistinct, LabelsRefuse, AsStruct}
use Rattle.print_laws.proofs.MeantFields.{no_field_silent, inside_means, outside_means, no_dots, inside_declares}

-- all labels refuse none
pub open_silent : (question : Question) → LabelsRefuse None question → ⊥
open_silent (may_be scalar) h = h
open_silent (usual scalar) h = h
open_silent struct h = h
open_silent list h = h
open_silent (allows l) h = false≢true (sym h)
open_silent (level_at_most k) h = h
open_silent (length_at_most n) h = h
open_silent (length_at_least n) h = h

-- one struct literal without `...` that declares just these labels, where it is closed
module _ (ms : Members) (labels : List (List ℕ)) (dotless : has_dots ms ≡ false) (just : (l : List ℕ) → has_declaration l ms ≡ is_listed labels l) where
  one_left : (l : List ℕ) → LeaveOut (ms ∷ []) l ↔ RefusesLabel (Some labels) l
  one_left l = (
    λ h. sym (just l) ∙ (or_parts (has_declaration l ms) false h.undeclared).0,
    λ h. record {
      some = λ e. cc;
      without_dots = or_from (has_dots ms) false dotless refl;
      undeclared = or_from (has_declaration l ms) false (just l ∙ h) refl;
    },
  )

  closing_one : (question : Question) → ClosingRefuses (ms ∷ []) question ↔ LabelsRefuse (Some labels) question
  closing_one (may_be scalar) = (λ h. h, λ h. h)
  closing_one (usual scalar) = (λ h. h, λ h. h)
  closing_one struct = (λ h. h, λ h. h)
  closing_one list = (λ h. h, λ h. h)
  closing_one (allows l) = one_left l
  closing_one (level_at_most k) = (λ h. h, λ h. h)
  closing_one (length_at_most n) = (λ h. h, λ h. h)
  closing_one (length_at_least n) = (λ h. h, λ h. h)

module _ (ds : List Definition) (meaning : ℕ → Core) where
  -- ---- one part in front of others
  abbrev Literal : Fields → Path → Question → Type 0
  Literal fields = LiteralRefuses (FieldsRefuse ds meaning fields)

  first_struct : (fields : Fields) (parts : Parts) (path : Path) (question : Question) →
      OnePartRefuses ds meaning (printed.struct fields parts) path question ↔ (Literal fields path question ⊎ OnePartRefuses ds meaning parts path question)
  unfolding value_tree
  first_struct fields parts path question = (λ h. h, λ h. h)

  first_close : (fields : Fields) (parts : Parts) (path : Path) (question : Question) →
      OnePartRefuses ds meaning (printed.close fields parts) path question
      ↔ ((Literal fields path question ⊎ IsAtPlace (ClosingRefuses (members_of ds meaning fields ∷ [])) path question) ⊎ OnePartRefuses ds meaning parts path question)
  unfolding value_tree
  first_close fields parts path question = (λ h. h, λ h. h)

  -- a struct literal that is left out where it has no field
  any_means : (fields : Fields) (parts : Parts) (path : Path) (question : Question) → OnePartRefuses ds meaning (struct_if_any fields parts) path question → Literal fields path question ⊎ OnePartRefuses ds meaning parts path question
  any_means no_more parts path question h = inr h
  any_means (field name level value fields) parts path question h = (first_struct (field name level value fields) parts path question).0 h

  any_rest : (fields : Fields) (parts : Parts) (path : Path) (question : Question) → OnePartRefuses ds meaning parts path question → OnePartRefuses ds meaning (struct_if_any fields parts) path question
  any_rest no_more parts path question h = h
  any_rest (field name level value fields) parts path question h = (first_struct (field name level value fields) parts path question).1 (inr h)

  any_field : (fields : Fields) (parts : Parts) (l : List ℕ) (path : Path) (question : Question) → FieldsRefuse ds meaning fields l path question → OnePartRefuses ds meaning (struct_if_any fields parts) (label l ∷ path) question
  any_field no_more parts l path question h = absurd (no_field_silent ds meaning l path question h)
  any_field (field name level value fields) parts l path question h = (first_struct (field name level value fields) parts (label l ∷ path) question).1 (inl h)

  -- ---- the struct part
  abbrev Struct : Option (List (List ℕ)) → Fields → Path → Question → Type 0
  Struct labels fields = AsStruct labels (FieldsRefuse ds meaning fields)

  module _ (labels : List (List ℕ)) (fields : Fields) (parts : Parts) (distinct : AreDistinct fields) where
    closing : (question : Question) → ClosingRefuses (members_of ds meaning (fields_of_labels labels fields) ∷ []) question ↔ LabelsRefuse (Some labels) question
    closing = closing_one (members_of ds meaning (fields_of_labels labels fields)) labels (no_dots ds meaning (fields_of_labels labels fields)) (inside_declares ds meaning labels fields)

    abbrev Rest : Path → Question → Type 0
    Rest = OnePartRefuses ds meaning parts

    abbrev Others : Path → Question → Type 0
    Others = OnePartRefuses ds meaning (struct_if_any (fields_of_others labels fields) parts)

    split : (l : List ℕ) (path : Path) (question : Question) → FieldsRefuse ds meaning fields l path question
        → (b : Bool) → is_listed labels l ≡ b → FieldsRefuse ds meaning (fields_of_labels labels fields) l path question ⊎ FieldsRefuse ds meaning (fields_of_others labels fields) l path question
    split l path question h true e = inl ((inside_means ds meaning labels fields distinct l path question).1 (e, h))
    split l path question h false e = inr ((outside_means ds meaning labels fields l path question).1 (e, h))

    closed_means : (path : Path) (question : Question) → OnePartRefuses ds meaning (struct_part (Some labels) fields parts) path question ↔ (Struct (Some labels) fields path question ⊎ Rest path question)
    closed_means [] question =
        let one = first_close (fields_of_labels labels fields) (struct_if_any (fields_of_others labels fields) parts) [] question in (
          λ h. ⊎_elim
              (λ g. inl (⊎_elim inl (λ f. inr ((closing question).0 f)) g))
              (λ g. ⊎_elim (λ f. inl (inl f)) inr (any_means (fields_of_others labels fields) parts [] question g)) (one.0 h),
          λ h. one.1 (⊎_elim
              (λ g. inl (⊎_elim inl (λ f. inr ((closing question).1 f)) g))
              (λ g. inr (any_rest (fields_of_others labels fields) parts [] question g)) h),
        )
    closed_means (label l ∷ path) question =
        let one = first_close (fields_of_labels labels fields) (struct_if_any (fields_of_others labels fields) parts) (label l ∷ path) question in (
          λ h. ⊎_elim
              (λ g. ⊎_elim (λ f. inl ((inside_means ds meaning labels fields distinct l path question).0 f).1) (λ f. absurd f) g)
              (λ g. ⊎_elim (λ f. inl ((outside_means ds meaning labels fields l path question).0 f).1) inr (any_means (fields_of_others labels fields) parts (label l ∷ path) question g)) (one.0 h),
          λ h. one.1 (⊎_elim
              (λ g. ⊎_elim (λ f. inl (inl f)) (λ f. inr (any_field (fields_of_others labels fields) parts l path question f)) (split l path question g (is_listed labels l) refl))
              (λ g. inr (any_rest (fields_of_others labels fields) parts (label l ∷ path) question g)) h),
        )
    closed_means (index i ∷ path) question =
        let one = first_close (fields_of_labels labels fields) (struct_if_any (fields_of_others labels fields) parts) (index i ∷ path) question in (
          λ h. ⊎_elim
              (λ g. absurd (⊎_elim (λ f. f) (λ f. f) g))
              (λ g. ⊎_elim (λ f. absurd f) inr (any_means (fields_of_others labels fields) parts (index i ∷ path) question g)) (one.0 h),
          λ h. one.1 (⊎_elim (λ g. absurd g) (λ g. inr (any_rest (fields_of_others labels fields) parts (index i ∷ path) question g)) h),
        )

  pub struct_means : (labels : Option (List (List ℕ))) (fields : Fields) (parts : Parts) → AreDistinct fields → (path : Path) (question : Question) →
      OnePartRefuses ds meaning (struct_part labels fields parts) path question ↔ (Struct labels fields path question ⊎ OnePartRefuses ds meaning parts path question)
  struct_means (Some labels) fields parts distinct path question = closed_means labels fields parts distinct path question
  struct_means None fields parts distinct [] question =
      let one = first_struct fields parts [] question in (
        λ h. ⊎_elim (λ g. inl (inl g)) inr (one.0 h),
        λ h. one.1 (⊎_elim (λ g. inl (⊎_elim (λ f. f) (λ f. absurd (open_silent question f)) g)) inr h),
      )
  struct_means None fields parts distinct (label l ∷ path) question = first_struct fields parts (label l ∷ path) question
  struct_means None fields parts distinct (index i ∷ path) question = first_struct fields parts (index i ∷ path) question
