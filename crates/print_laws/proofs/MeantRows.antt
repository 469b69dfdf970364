-- What a printed row means, with what is printed below it.
use Rattle.std.proofs.Common.{◌≡◌, ◌↔◌, ◌⊎◌, inl, inr, ⊎_elim, ℕ, ◌<◌, ◌≤◌, Bool, true, false, ◌||◌, List, [], ◌∷◌, Option, None, Some, is_some, refl, sym, ap, subst, ◌∙◌, if◌then◌else◌, nat_lt, arith}
use Rattle.std.proofs.lemmas.Bool.{false≢true, or_parts, lt-ltb, ltb-false}
use Rattle.cue_lattice.specs.Path.{Path, label, index}
use Rattle.cue_lattice.specs.Question.{Question, may_be, usual, struct, list, allows, level_at_most, length_at_most, length_at_least}
use Rattle.cue_row.specs.Row.{IsRow}
use Rattle.cue_row.specs.Kinds.{IsRowKind}
use Rattle.cue_row.specs.Lengths.{RefusesLength}
use Rattle.cue_row.specs.ValidRow.{UsualFits, LabelsFit, LengthsFit, IsValidRow}
use Rattle.cue_row.specs.declared.parts.RowParts.{RowParts as Row}
use Rattle.cue_row.specs.declared.kind.RowKind.{RowKind}
use Rattle.cue_row.specs.declared.kind.RowKind.TheVariants as kinds
use Rattle.cue_scope.specs.Core.{Core}
use Rattle.cue_scope.specs.Definitions.{Definition}
use Rattle.cue_scope.specs.Meaning.{meant, meant_elements}
use Rattle.cue_syntax.specs.Syntax as grammar
use Rattle.cue_eval.specs.Places.{IsAtPlace}
use Rattle.cue_eval.specs.Refuses.{Refuses, PartsRefuse}
use Rattle.cue_print.specs.Difference.{scalars_without}
use Rattle.cue_print.specs.Expressions as printed
use Rattle.cue_print.specs.Expressions.{PrintedTerm, Value, top, all, Parts, no_parts, Fields, no_more, field}
use Rattle.cue_print.specs.Printed.{struct_part, list_part, scalar_value, has_field, struct_left, list_left, nothing_value, scalar_or_nothing, value_by, row_value}
use Rattle.cue_print.specs.Terms.{terms_of}
use Rattle.print_laws.specs.PrintedTree.{unified_expression, value_tree, part_trees}
use Rattle.print_laws.specs.Inner.Meanings.{ValueRefuses, OnePartRefuses, FieldsRefuse, AreFurther, AreDistinct, LabelsRefuse, AsStruct, AsList, RowAndBelow, FitKinds}
use Rattle.print_laws.specs.Inner.ScalarMeaning.{SetsRefuse, printed_scalars}
use Rattle.print_laws.proofs.MeantFields.{top_silent, no_field_silent}
use Rattle.print_laws.proofs.MeantKinds.{free_no_fields, free_no_elements, scalar_no_fields, scalar_no_elements, struct_no_elements, list_no_fields, as_free, as_scalar, as_struct, as_list, BottomRefuses, JustLengths, just_lengths, nothing_struct, nothing_list, nothing_bottom, nothing_refuses}
use Rattle.print_laws.proofs.MeantLists.{list_means}
use Rattle.print_laws.proofs.MeantStructs.{struct_means}
use Rattle.print_laws.proofs.Scalars.{scalars_meant}
use Rattle.print_laws.proofs.ScalarsEmpty.{no_terms, empty_terms}

module _ (ds : List Definition) (meaning : ℕ → Core) where
  -- ---- parts
  -- what is unified refuses what one of it refuses: one stands alone
  unified_means : (es : grammar.Elements) (path : Path) (question : Question) → Refuses (meant ds meaning (unified_expression es)) path question ↔ PartsRefuse (meant_elements ds meaning es) path question
  unified_means grammar.no_elements path question = (λ h. h, λ h. h)
  unified_means (grammar.element e grammar.no_elements) path question = (inl, λ h. ⊎_elim (λ g. g) (λ g. absurd g) h)
  unified_means (grammar.element d (grammar.element e es)) path question = (λ h. h, λ h. h)

  all_means : (parts : Parts) (path : Path) (question : Question) → ValueRefuses ds meaning (all parts) path question ↔ OnePartRefuses ds meaning parts path question
  unfolding value_tree
  all_means parts path question = unified_means (part_trees parts) path question

  none_silent : (path : Path) (question : Question) → OnePartRefuses ds meaning no_parts path question → ⊥
  unfolding value_tree
  none_silent path question h = h

  -- one part alone
  alone : {A : Type 0} (parts : Parts) (path : Path) (question : Question) → OnePartRefuses ds meaning parts path question ↔ (A ⊎ OnePartRefuses ds meaning no_parts path question) → ValueRefuses ds meaning (all parts) path question ↔ A
  alone parts path question same =
      let whole = all_means parts path question in (
        λ h. ⊎_elim (λ g. g) (λ g. absurd (none_silent path question g)) (same.0 (whole.0 h)),
        λ h. whole.1 (same.1 (inl h)),
      )

  bottom_means : (path : Path) (question : Question) → OnePartRefuses ds meaning (printed.bottom no_parts) path question ↔ IsAtPlace BottomRefuses path question
  unfolding value_tree
  bottom_means [] (may_be scalar) = (λ h. ⊎_elim (λ g. g.0) (λ g. absurd g) h, λ h. inl (h, refl))
  bottom_means [] (usual scalar) = (λ h. ⊎_elim (λ g. g.0) (λ g. absurd g) h, λ h. inl (h, refl))
  bottom_means [] struct = (λ h. tt, λ h. inl tt)
  bottom_means [] list = (λ h. tt, λ h. inl tt)
  bottom_means [] (allows l) = (λ h. ⊎_elim (λ g. g) (λ g. g) h, inl)
  bottom_means [] (level_at_most k) = (λ h. ⊎_elim (λ g. g) (λ g. g) h, inl)
  bottom_means [] (length_at_most n) = (λ h. ⊎_elim (λ g. g) (λ g. g) h, inl)
  bottom_means [] (length_at_least n) = (λ h. ⊎_elim (λ g. g) (λ g. g) h, inl)
  bottom_means (step ∷ path) question = (λ h. ⊎_elim (λ g. g) (λ g. g) h, inl)

  -- ---- a part that is left out where it says nothing
  module _ (A : Type 0) (part parts : Parts) (path : Path) (question : Question) (same : OnePartRefuses ds meaning part path question ↔ (A ⊎ OnePartRefuses ds meaning parts path question)) where
    left_means : (b : Bool) → OnePartRefuses ds meaning (if b then part else parts) path question → A ⊎ OnePartRefuses ds meaning parts path question
    left_means true h = same.0 h
    left_means false h = inr h

    left_rest : (b : Bool) → OnePartRefuses ds meaning parts path question → OnePartRefuses ds meaning (if b then part else parts) path question
    left_rest true h = same.1 (inr h)
    left_rest false h = h

    left_some : (b : Bool) → (b ≡ false → ⊥) → A → OnePartRefuses ds meaning (if b then part else parts) path question
    left_some true there h = same.1 (inl h)
    left_some false there h = absurd (there refl)

  labels_there : (labels : Option (List (List ℕ))) (other : Bool) (question : Question) → LabelsRefuse labels question → (is_some labels || other) ≡ false → ⊥
  labels_there (Some labels) other question h e = false≢true (sym e)
  labels_there None other (may_be scalar) h e = h
  labels_there None other (usual scalar) h e = h
  labels_there None other struct h e = h
  labels_there None other list h e = h
  labels_there None other (allows l) h e = false≢true (sym h)
  labels_there None other (level_at_most k) h e = h
  labels_there None other (length_at_most n) h e = h
  labels_there None other (length_at_least n) h e = h

  fields_there : (labels : Bool) (fields : Fields) (l : List ℕ) (path : Path) (question : Question) → FieldsRefuse ds meaning fields l path question → (labels || has_field fields) ≡ false → ⊥
  fields_there labels no_more l path question h e = no_field_silent ds meaning l path question h
  fields_there labels (field name level value fields) l path question h e = false≢true (sym (or_parts labels true e).1)

  least_there : (least n : ℕ) (other : Bool) → n < least → (nat_lt 0 least || other) ≡ false → ⊥
  least_there least n other h e =
      let some : 0 < least = omega arith in
      false≢true (sym (or_parts (nat_lt 0 least) other e).0 ∙ lt-ltb 0 least some)

  most_there : (least : ℕ) (most : Option ℕ) (n : ℕ) → RefusesLength most n → (nat_lt 0 least || is_some most) ≡ false → ⊥
  most_there least None n h e = h
  most_there least (Some most) n h e = false≢true (sym (or_parts (nat_lt 0 least) true e).1)

  lengths_there : (least : ℕ) (most : Option ℕ) (question : Question) → JustLengths least most question → (nat_lt 0 least || is_some most) ≡ false → ⊥
  lengths_there least most (may_be scalar) h e = h
  lengths_there least most (usual scalar) h e = h
  lengths_there least most struct h e = h
  lengths_there least most list h e = h
  lengths_there least most (allows l) h e = h
  lengths_there least most (level_at_most k) h e = h
  lengths_there least most (length_at_most n) h e = least_there least n (is_some most) h e
  lengths_there least most (length_at_least n) h e = most_there least most n h e

  -- where the list is left out, nothing is refused in it
  elements_there : (least : ℕ) (most : Bool) (value_at : ℕ → Value) (further : Option Value) (i : ℕ) (path : Path) (question : Question) → AreFurther least value_at further
      → ValueRefuses ds meaning (value_at i) path question → (nat_lt 0 least || most || is_some further) ≡ false → ⊥
  elements_there least most value_at (Some value) i path question alike h e = false≢true (sym (or_parts (nat_lt 0 least || most) true e).1)
  elements_there least most value_at None i path question alike h e =
      let none : least ≤ 0 = ltb-false 0 least (or_parts (nat_lt 0 least) most (or_parts (nat_lt 0 least || most) false e).0).0 in
      let far : least ≤ i = omega arith in
      top_silent ds meaning path question (subst (λ v. ValueRefuses ds meaning v path question) (alike i far) h)

  -- ---- a row, by what is printed below it
  module _ (row : Row) (fields : Fields) (value_at : ℕ → Value) (further : Option Value) where
    abbrev Labelled : List ℕ → Path → Question → Type 0
    Labelled = FieldsRefuse ds meaning fields

    abbrev Numbered : ℕ → Path → Question → Type 0
    Numbered i = ValueRefuses ds meaning (value_at i)

    -- the printed value means what the row says and what is below it
    abbrev pub Means : Value → Type 0
    Means value = (path : Path) (question : Question) → ValueRefuses ds meaning value path question ↔ RowAndBelow row Labelled Numbered path question

    chosen : (s l : Bool) → row.struct_ok ≡ s → row.list_ok ≡ l → row_value row fields value_at further ≡ value_by s l row fields value_at further
    unfolding row_value
    chosen s l e f = ap (λ b. value_by b row.list_ok row fields value_at further) e ∙ ap (λ b. value_by s b row fields value_at further) f

    module _ (is : IsRow row) (lengths : IsValidRow row) (distinct : AreDistinct fields) (alike : AreFurther row.least value_at further) (fit : FitKinds row Labelled Numbered) where
      free_means : IsRowKind row kinds.Free → UsualFits row kinds.Free → LabelsFit row kinds.Free → LengthsFit row kinds.Free → Means top
      free_means kind common labels bounds [] question = (λ h. absurd (top_silent ds meaning [] question h), λ h. absurd (as_free row kind common labels bounds question h))
      free_means kind common labels bounds (label l ∷ path) question = (λ h. absurd (top_silent ds meaning (label l ∷ path) question h), λ h. absurd (free_no_fields row kind (fit.fields l path question h)))
      free_means kind common labels bounds (index i ∷ path) question = (λ h. absurd (top_silent ds meaning (index i ∷ path) question h), λ h. absurd (free_no_elements row kind (fit.elements i path question h)))

      scalars_mean : IsRowKind row kinds.Scalar → UsualFits row kinds.Scalar → LabelsFit row kinds.Scalar → LengthsFit row kinds.Scalar → Means (printed_scalars row.value row.usual)
      scalars_mean kind common labels bounds path question = by_path path where
        here : (path : Path) → ValueRefuses ds meaning (printed_scalars row.value row.usual) path question ↔ IsAtPlace (SetsRefuse row.value row.usual) path question
        here path = scalars_meant ds meaning row.value row.usual (record { value_set = is.value; usual_set = is.usual; some = kind.0; within = common }) path question

        by_path : (path : Path) → ValueRefuses ds meaning (printed_scalars row.value row.usual) path question ↔ RowAndBelow row Labelled Numbered path question
        by_path [] = let same = as_scalar row kind labels bounds question in (λ h. same.0 ((here []).0 h), λ h. (here []).1 (same.1 h))
        by_path (label l ∷ path) = (λ h. absurd ((here (label l ∷ path)).0 h), λ h. absurd (scalar_no_fields row kind (fit.fields l path question h)))
        by_path (index i ∷ path) = (λ h. absurd ((here (index i ∷ path)).0 h), λ h. absurd (scalar_no_elements row kind (fit.elements i path question h)))

      struct_row_means : IsRowKind row kinds.Struct → UsualFits row kinds.Struct → LengthsFit row kinds.Struct → Means (all (struct_part row.labels fields no_parts))
      struct_row_means kind common bounds path question = by_path path where
        here : (path : Path) → ValueRefuses ds meaning (all (struct_part row.labels fields no_parts)) path question ↔ AsStruct row.labels Labelled path question
        here path = alone (struct_part row.labels fields no_parts) path question (struct_means ds meaning row.labels fields no_parts distinct path question)

        by_path : (path : Path) → ValueRefuses ds meaning (all (struct_part row.labels fields no_parts)) path question ↔ RowAndBelow row Labelled Numbered path question
        by_path [] = let same = as_struct row kind common bounds question in (λ h. same.0 ((here []).0 h), λ h. (here []).1 (same.1 h))
        by_path (label l ∷ path) = here (label l ∷ path)
        by_path (index i ∷ path) = (λ h. absurd ((here (index i ∷ path)).0 h), λ h. absurd (struct_no_elements row kind (fit.elements i path question h)))

      list_row_means : IsRowKind row kinds.List → UsualFits row kinds.List → LabelsFit row kinds.List → Means (all (list_part row.least row.most value_at further no_parts))
      list_row_means kind common labels path question = by_path path where
        here : (path : Path) → ValueRefuses ds meaning (all (list_part row.least row.most value_at further no_parts)) path question ↔ AsList row.least row.most Numbered path question
        here path = alone (list_part row.least row.most value_at further no_parts) path question (list_means ds meaning row.least row.most value_at further no_parts lengths.limits alike path question)

        by_path : (path : Path) → ValueRefuses ds meaning (all (list_part row.least row.most value_at further no_parts)) path question ↔ RowAndBelow row Labelled Numbered path question
        by_path [] = let same = as_list row kind common labels question in (λ h. same.0 ((here []).0 h), λ h. (here []).1 (same.1 h))
        by_path (label l ∷ path) = (λ h. absurd ((here (label l ∷ path)).0 h), λ h. absurd (list_no_fields row kind (fit.fields l path question h)))
        by_path (index i ∷ path) = here (index i ∷ path)

      -- ---- nothing
      abbrev End : Parts
      End = printed.bottom no_parts

      abbrev Lists : Parts
      Lists = list_left row value_at further End

      structs : (path : Path) (question : Question) → OnePartRefuses ds meaning (struct_part row.labels fields Lists) path question ↔ (AsStruct row.labels Labelled path question ⊎ OnePartRefuses ds meaning Lists path question)
      structs = struct_means ds meaning row.labels fields Lists distinct

      lists : (path : Path) (question : Question) → OnePartRefuses ds meaning (list_part row.least row.most value_at further End) path question ↔ (AsList row.least row.most Numbered path question ⊎ OnePartRefuses ds meaning End path question)
      lists = list_means ds meaning row.least row.most value_at further End lengths.limits alike

      abbrev HasStruct : Bool
      HasStruct = is_some row.labels || has_field fields

      abbrev HasList : Bool
      HasList = nat_lt 0 row.least || is_some row.most || is_some further

      -- what one of the three refuses, and from one of them
      nothing_to : (path : Path) (question : Question) → ValueRefuses ds meaning (nothing_value row fields value_at further) path question
          → AsStruct row.labels Labelled path question ⊎ (AsList row.least row.most Numbered path question ⊎ IsAtPlace BottomRefuses path question)
      nothing_to path question h =
          ⊎_elim inl
          (λ g. ⊎_elim (λ f. inr (inl f)) (λ f. inr (inr ((bottom_means path question).0 f)))
          (left_means (AsList row.least row.most Numbered path question) (list_part row.least row.most value_at further End) End path question (lists path question) HasList g))
          (left_means (AsStruct row.labels Labelled path question) (struct_part row.labels fields Lists) Lists path question (structs path question) HasStruct ((all_means (struct_left row fields Lists) path question).0 h))

      from_struct : (path : Path) (question : Question) → (HasStruct ≡ false → ⊥) → AsStruct row.labels Labelled path question → ValueRefuses ds meaning (nothing_value row fields value_at further) path question
      from_struct path question there h =
          (all_means (struct_left row fields Lists) path question).1
          (left_some (AsStruct row.labels Labelled path question) (struct_part row.labels fields Lists) Lists path question (structs path question) HasStruct there h)

      from_lists : (path : Path) (question : Question) → OnePartRefuses ds meaning Lists path question → ValueRefuses ds meaning (nothing_value row fields value_at further) path question
      from_lists path question h =
          (all_means (struct_left row fields Lists) path question).1
          (left_rest (AsStruct row.labels Labelled path question) (struct_part row.labels fields Lists) Lists path question (structs path question) HasStruct h)

      from_list : (path : Path) (question : Question) → (HasList ≡ false → ⊥) → AsList row.least row.most Numbered path question → ValueRefuses ds meaning (nothing_value row fields value_at further) path question
      from_list path question there h =
          from_lists path question (left_some (AsList row.least row.most Numbered path question) (list_part row.least row.most value_at further End) End path question (lists path question) HasList there h)

      from_bottom : (path : Path) (question : Question) → IsAtPlace BottomRefuses path question → ValueRefuses ds meaning (nothing_value row fields value_at further) path question
      from_bottom path question h =
          from_lists path question (left_rest (AsList row.least row.most Numbered path question) (list_part row.least row.most value_at further End) End path question (lists path question) HasList ((bottom_means path question).1 h))

      nothing_means : IsRowKind row kinds.Nothing → UsualFits row kinds.Nothing → Means (nothing_value row fields value_at further)
      nothing_means kind common [] question = (
        λ h. ⊎_elim (nothing_struct row kind common question) (λ g. ⊎_elim (nothing_list row kind common question) (nothing_bottom row kind common question) g) (nothing_to [] question h),
        λ h. ⊎_elim (from_bottom [] question)
            (λ g. ⊎_elim
            (λ f. from_struct [] question (labels_there row.labels (has_field fields) question f) (inr f))
            (λ f. from_list [] question (λ e. lengths_there row.least row.most question f (or_parts (nat_lt 0 row.least || is_some row.most) (is_some further) e).0) (just_lengths row.least row.most question f)) g)
            (nothing_refuses row kind common question h),
      )
      nothing_means kind common (label l ∷ path) question = (
        λ h. ⊎_elim (λ g. g) (λ g. absurd (⊎_elim (λ f. f) (λ f. f) g)) (nothing_to (label l ∷ path) question h),
        λ h. from_struct (label l ∷ path) question (fields_there (is_some row.labels) fields l path question h) h,
      )
      nothing_means kind common (index i ∷ path) question = (
        λ h. ⊎_elim (λ g. absurd g) (λ g. ⊎_elim (λ f. f) (λ f. absurd f) g) (nothing_to (index i ∷ path) question h),
        λ h. from_list (index i ∷ path) question (elements_there row.least (is_some row.most) value_at further i path question alike h) h,
      )

      -- ---- by kinds
      some_terms : (ts : List PrintedTerm) → (ts ≡ [] → ⊥) → scalar_or_nothing ts row fields value_at further ≡ scalar_value ts (terms_of row.usual) (terms_of (scalars_without row.value row.usual))
      some_terms [] some = absurd (some refl)
      some_terms (t ∷ ts) some = refl

      by_kind : (kind : RowKind) → IsRowKind row kind → UsualFits row kind → LabelsFit row kind → LengthsFit row kind → Means (row_value row fields value_at further)
      by_kind kinds.Free k common labels bounds = subst Means (sym (chosen true true k.1 k.2)) (free_means k common labels bounds)
      by_kind kinds.Scalar k common labels bounds =
          let some = some_terms (terms_of row.value) (λ e. k.0 (no_terms row.value is.value e)) in
          subst Means (sym (chosen false false k.1 k.2 ∙ some)) (scalars_mean k common labels bounds)
      by_kind kinds.Struct k common labels bounds = subst Means (sym (chosen true false k.1 k.2)) (struct_row_means k common bounds)
      by_kind kinds.List k common labels bounds = subst Means (sym (chosen false true k.1 k.2)) (list_row_means k common labels)
      by_kind kinds.Nothing k common labels bounds =
          let none = ap (λ ts. scalar_or_nothing ts row fields value_at further) (empty_terms row.value is.value k.0) in
          subst Means (sym (chosen false false k.1 k.2 ∙ none)) (nothing_means k common)

      pub row_means : Means (row_value row fields value_at further)
      row_means = by_kind lengths.kind lengths.is_kind lengths.usual lengths.labels lengths.row_lengths
