-- The tree that a valid table is printed as means the table.
use Rattle.std.proofs.Common.{◌≡◌, ◌↔◌, inl, ⊎_elim, ℕ, List, [], ◌∷◌, Option, None, Some, refl, sym, ap, subst, ◌∙◌}
use Rattle.std.proofs.lemmas.Bool.{false≢true}
use Rattle.cue_lattice.specs.Limits.{step_limit}
use Rattle.cue_lattice.specs.Path.{label, index, Path}
use Rattle.cue_lattice.specs.Question.{Question, SameAnswers}
use Rattle.cue_row.specs.declared.level.Level.TheVariants.{Optional}
use Rattle.cue_row.specs.declared.parts.RowParts.{RowParts as Row}
use Rattle.cue_row.specs.declared.kind.RowKind.{RowKind}
use Rattle.cue_row.specs.declared.kind.RowKind.TheVariants as kinds
use Rattle.cue_row.specs.Kinds.{IsRowKind}
use Rattle.cue_row.specs.Row.{RowRefusesQuestion}
use Rattle.cue_row.specs.ValidRow.{UsualFits, LengthsFit, IsValidRow}
use Rattle.cue_scope.specs.Core as core
use Rattle.cue_scope.specs.Core.{Core}
use Rattle.cue_scope.specs.Definitions.{Definition, definitions}
use Rattle.cue_scope.specs.Meaning.{meaning_of_number, meant, meant_members, meant_fields}
use Rattle.cue_table.specs.Form.{IsTree}
use Rattle.cue_table.specs.Refuses.{TableRefuses}
use Rattle.cue_table.specs.Tree.{Tree, node, find, find_with}
use Rattle.cue_table.specs.Inner.ValidWalk.{IsSound}
use Rattle.cue_table.specs.Valid.{IsValidTable}
use Rattle.cue_table.proofs.Depth.{depth_rows}
use Rattle.cue_table.proofs.Validity.{valid_root, valid_walk}
use Rattle.cue_syntax.specs.Syntax.{Entries}
use Rattle.cue_syntax.specs.Unplaced.{unplaced_entries}
use Rattle.cue_eval.specs.Places.{StructRefuses}
use Rattle.cue_eval.specs.Refuses.{Refuses, LiteralRefuses, FieldRefuses}
use Rattle.cue_print.specs.Expressions.{Fields, no_more, field}
use Rattle.cue_print.specs.Printed.{fields_below, file_of}
use Rattle.print_laws.specs.PrintedTree.{label_mark, value_tree, field_trees, printed_file_tree}
use Rattle.print_laws.specs.Inner.Meanings.{FieldsRefuse, LabelsRefuse}
use Rattle.print_laws.specs.Meant.{IsMeantAgain}
use Rattle.print_laws.proofs.MeantKinds.{as_struct, struct_no_elements}
use Rattle.print_laws.proofs.MeantStructs.{open_silent}
use Rattle.print_laws.proofs.MeantTrees.{Kept, fit_below, label_with, optional_row, same_found, fields_mean, elements_mean, rest_means}
use Rattle.print_laws.proofs.Places.{declarations_placed}

-- of what is printed each declaration is regular
all_regular : (ds : List Definition) (m : ℕ → Core) (fields : Fields) → meant_fields ds m (field_trees fields) ≡ meant_members ds m (field_trees fields)
unfolding field_trees
all_regular ds m no_more = refl
all_regular ds m (field l level value fields) = ap (λ ms. core.member l (label_mark level) (meant ds m (value_tree value)) ms) (all_regular ds m fields)

-- a row where a struct may stand alone is a struct's in every way
struct_fits : (row : Row) (kind : RowKind) → IsRowKind row kind → UsualFits row kind → LengthsFit row kind → IsRowKind row kinds.Struct → UsualFits row kinds.Struct × LengthsFit row kinds.Struct
struct_fits row kinds.Free is common bounds struct_is = absurd (false≢true (sym struct_is.2 ∙ is.2))
struct_fits row kinds.Scalar is common bounds struct_is = absurd (is.0 struct_is.0)
struct_fits row kinds.Struct is common bounds struct_is = (common, bounds)
struct_fits row kinds.List is common bounds struct_is = absurd (false≢true (sym is.1 ∙ struct_is.1))
struct_fits row kinds.Nothing is common bounds struct_is = absurd (false≢true (sym is.1 ∙ struct_is.1))

-- the root: an open struct
root_refuses : (row : Row) → IsValidRow row → IsRowKind row kinds.Struct → row.labels ≡ None → row.level ≡ Optional → (question : Question) → StructRefuses question ↔ RowRefusesQuestion row question
root_refuses row valid is none level question =
    let fits = struct_fits row valid.kind valid.is_kind valid.usual valid.row_lengths is in
    let here = as_struct row is fits.0 fits.1 question in
    let same = optional_row row question level in (
      λ h. same.0 (here.0 (inl h)),
      λ h. ⊎_elim (λ g. g) (λ g. absurd (open_silent question (subst (λ (ls : Option (List (List ℕ))). LabelsRefuse ls question) none g))) (here.1 (same.1 h)),
    )

-- the declarations of a file mean the table that they are printed for
file_means : (ds : List Definition) (m : ℕ → Core) (table : Tree Row) (fields : Fields) → IsValidTable table → file_of table ≡ Some fields
    → SameAnswers (LiteralRefuses (FieldsRefuse ds m fields)) (TableRefuses RowRefusesQuestion table)
unfolding file_of
file_means ds m (node None children rest) fields valid is path question = cc
file_means ds m (node (Some row) children rest) fields valid is path question =
    let same : fields_below children ≡ fields = cc in
    subst (λ fs. LiteralRefuses (FieldsRefuse ds m fs) path question ↔ TableRefuses RowRefusesQuestion (node (Some row) children rest) path question) same (by_path path)
  where
    sound : IsSound (node (Some row) children rest)
    sound = ((valid_walk (node (Some row) children rest) row valid.form (depth_rows Kept step_limit (node (Some row) children rest) valid.form (λ path r e. valid.paths path r e)) refl).1 valid).1

    form : IsTree Kept (node (Some row) children rest)
    form = valid.form

    by_path : (path : Path) → LiteralRefuses (FieldsRefuse ds m (fields_below children)) path question ↔ TableRefuses RowRefusesQuestion (node (Some row) children rest) path question
    by_path [] =
        let root = valid_root (node (Some row) children rest) row refl valid in
        root_refuses row sound.0 root.0.0 root.0.1 root.1 question
    by_path (label l ∷ path) =
        let below = fields_mean ds m row children form.1 sound.2 l path question in
        let same = same_found (find_with rest (label l) children) (find (label l) children) path question (label_with rest l children) in
        (λ h. same.1 (below.0 h), λ h. below.1 (same.0 h))
    by_path (index n ∷ path) =
        let root = valid_root (node (Some row) children rest) row refl valid in
        let below = rest_means ds m rest row children form.2 sound.3 (elements_mean ds m row children form.1 sound.2) n path question in
        (λ h. absurd h, λ h. absurd (struct_no_elements row root.0.0 ((fit_below ds m row children rest sound.2 sound.3).elements n path question (below.1 h))))

-- what the declarations mean, wherever they stand
declarations_mean : (es : Entries) (ds : List Definition) (m : ℕ → Core) (table : Tree Row) (fields : Fields) → IsValidTable table → file_of table ≡ Some fields → unplaced_entries es ≡ field_trees fields
    → SameAnswers (Refuses (core.struct (meant_fields ds m es))) (TableRefuses RowRefusesQuestion table)
declarations_mean es ds m table fields valid is same path question =
    let all : meant_members ds m (field_trees fields) ≡ meant_fields ds m es = sym (all_regular ds m fields) ∙ (ap (meant_fields ds m) (sym same) ∙ declarations_placed es ds m) in
    subst (λ ms. LiteralRefuses (FieldRefuses ms) path question ↔ TableRefuses RowRefusesQuestion table path question) all (file_means ds m table fields valid is path question)

pub meant_again : IsMeantAgain
unfolding printed_file_tree
meant_again table fields valid is tree same =
    declarations_mean tree.declarations (definitions tree.declarations) (meaning_of_number (definitions tree.declarations)) table fields valid is (ap (λ f. f.declarations) same)
