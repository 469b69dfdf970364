-- A table that has the answers of a legal text is valid.
use Rattle.std.proofs.Common.{◌≡◌, ◌↔◌, ◌⊎◌, inl, inr, ⊎_elim, ℕ, ◌≤◌, Bool, true, false, [], ◌∷◌, ◌++◌, Option, Some, None, refl, ap, subst, arith}
use Rattle.cue_lattice.specs.Limits.{size_limit, step_limit}
use Rattle.cue_lattice.specs.Path.{Path, Step, label, index}
use Rattle.cue_lattice.specs.Question as questions
use Rattle.cue_lattice.specs.Question.{Question, level_at_most, length_at_most, allows}
use Rattle.cue_row.specs.declared.parts.RowParts.{RowParts as Row}
use Rattle.cue_row.specs.declared.level.Level.{Level}
use Rattle.cue_row.specs.declared.level.Level.TheVariants.{Optional, Required, Given}
use Rattle.cue_row.specs.Levels.{level_of}
use Rattle.cue_row.specs.Questions.{question_of}
use Rattle.cue_row.specs.Row as rows
use Rattle.cue_row.specs.Row.{RowRefusesQuestion, IsRow}
use Rattle.cue_row.proofs.MetSets.{not_refused}
use Rattle.cue_table.specs.Tree.{Tree, row_at}
use Rattle.cue_table.specs.Form.{IsRowKept, IsTable}
use Rattle.cue_table.specs.Refuses as tables
use Rattle.cue_table.specs.Valid.{IsPlaceThere, path_below, MayHold, HasOpenRoot, HasParents, HasElements, IsValidTable}
use Rattle.cue_table.proofs.Depth.{kept_at}
use Rattle.cue_scope.specs.Core.{Core, struct, Members}
use Rattle.cue_scope.specs.Limits.{size, depth}
use Rattle.cue_eval.specs.Origins.{EndsInLabel, IsLevelOrigin}
use Rattle.cue_eval.specs.Refuses.{Refuses}
use Rattle.cue_eval.specs.Evaluated.{HasAnswersOf}
use Rattle.cue_eval.specs.Words.{WritesWords}
use Rattle.cue_eval.specs.Validity.{TextsAreValid}
use Rattle.cue_eval.proofs.Depth.{paths_within_depth}
use Rattle.cue_eval.proofs.Places.{fields_of_structs, elements_of_lists, levels_of_fields}
use Rattle.cue_eval.proofs.Alike.{same_branches}
use Rattle.cue_eval.proofs.Further.{further_are_alike}
use Rattle.cue_eval.proofs.Unwritten.{paths_are_written}
use Rattle.cue_eval.proofs.ValidRows.{IsRowAt, struct_row, list_row, no_labels, only_levels, valid_row}

-- a table in its one form, with the answers of an expression that is neither too large nor too deep and writes words
pub record IsTableOf (c : Core) (table : Tree Row) : Type 0 where
  pub form : IsTable rows.RefusesAsked IsRow table
  pub answers : HasAnswersOf c table
  pub size : size c ≤ size_limit
  pub depth : depth c ≤ step_limit
  pub written : WritesWords c

row_there : (o : Option Row) (question : Question) → tables.RowRefuses RowRefusesQuestion o question → (row : Row) × (o ≡ Some row)
row_there None question r = absurd r
row_there (Some row) question r = (row, refl)

-- a row stands where something is refused
stands : (c : Core) (table : Tree Row) → IsTableOf c table → (path : Path) (question : Question) → Refuses c path question → (row : Row) × IsPlaceThere table path row
stands c table h path question r = row_there (row_at table path) question ((h.answers path question).1 r)

at_path : (c : Core) (table : Tree Row) → IsTableOf c table → (path : Path) (row : Row) → IsPlaceThere table path row → IsRowAt c path row
at_path c table h path row st =
    let kept = kept_at (IsRowKept rows.RefusesAsked IsRow) table path row h.form st in record {
      says = λ question. subst (λ (o : Option Row). tables.RowRefuses RowRefusesQuestion o question ↔ Refuses c path question) st (h.answers path question);
      form = kept.0;
      not_free = kept.1;
    }

-- a row that stands refuses something
no_level : (row : Row) (question : Question) → row.level ≡ Optional → RowRefusesQuestion row question → IsLevelOrigin question → ⊥
no_level row (level_at_most k) e r level = let number = ap level_of e in absurd (omega (arith, number, r))
no_level row _ e r level = level

something : (c : Core) (path : Path) (row : Row) → IsRowAt c path row → (question : Question) × Refuses c path question
something c path row at = by row.level row.struct_ok row.list_ok refl refl refl where
  by : (level : Level) (s l : Bool) → row.level ≡ level → row.struct_ok ≡ s → row.list_ok ≡ l → (question : Question) × Refuses c path question
  by Required s l e f g = let number = ap level_of e in (level_at_most 0, (at.says (level_at_most 0)).0 (omega (arith, number)))
  by Given s l e f g = let number = ap level_of e in (level_at_most 0, (at.says (level_at_most 0)).0 (omega (arith, number)))
  by Optional false l e f g = (questions.struct, (at.says questions.struct).0 f)
  by Optional true false e f g = (questions.list, (at.says questions.list).0 g)
  by Optional true true e f g =
      absurd (at.not_free (λ question r. no_level row (question_of question) e r (only_levels c path row at f g (question_of question) ((at.says (question_of question)).0 r))))

something_at : (c : Core) (table : Tree Row) → IsTableOf c table → (path : Path) (row : Row) → IsPlaceThere table path row → (question : Question) × Refuses c path question
something_at c table h path row st = something c path row (at_path c table h path row st)

-- ---- levels
ends_at_index : (path : Path) (n : ℕ) → EndsInLabel (path ++ index n ∷ []) → ⊥
ends_at_index [] n h = h
ends_at_index (label l ∷ []) n h = h
ends_at_index (index i ∷ []) n h = h
ends_at_index (label l ∷ next ∷ path) n h = ends_at_index (next ∷ path) n h
ends_at_index (index i ∷ next ∷ path) n h = ends_at_index (next ∷ path) n h

no_field_level : (c : Core) (path : Path) (row : Row) → IsRowAt c path row → (EndsInLabel path → ⊥) → row.level ≡ Optional
no_field_level c path row at h = by row.level refl where
  by : (level : Level) → row.level ≡ level → row.level ≡ Optional
  by Optional e = e
  by Required e = let number = ap level_of e in absurd (h (levels_of_fields c path 0 ((at.says (level_at_most 0)).0 (omega (arith, number)))).0)
  by Given e = let number = ap level_of e in absurd (h (levels_of_fields c path 0 ((at.says (level_at_most 0)).0 (omega (arith, number)))).0)

-- ---- what stands above a row
parents : (c : Core) (table : Tree Row) → IsTableOf c table → HasParents table
parents c table h path (label l) row st =
    let below = something_at c table h (path_below path (label l)) row st in
    stands c table h path questions.list (fields_of_structs c path l [] below.0 below.1 questions.list tt)
parents c table h path (index n) row st =
    let below = something_at c table h (path_below path (index n)) row st in
    let found = elements_of_lists c path n [] below.0 below.1 in
    stands c table h path questions.struct (found.3 questions.struct tt)

may_stand : (b : Bool) → (b ≡ true) ⊎ (b ≡ false)
may_stand true = inl refl
may_stand false = inr refl

fitting : (c : Core) (table : Tree Row) → IsTableOf c table → (path : Path) (step : Step) (parent row : Row) → IsPlaceThere table path parent → IsPlaceThere table (path_below path step) row → MayHold parent step
fitting c table h path (label l) parent row above st =
    let below = something_at c table h (path_below path (label l)) row st in
    let is = struct_row c path parent (at_path c table h path parent above) (fields_of_structs c path l [] below.0 below.1) in
    ⊎_elim (λ yes. inl (is.value, yes, is.list)) (λ no. inr (is.value, no, is.list)) (may_stand parent.struct_ok)
fitting c table h path (index n) parent row above st =
    let below = something_at c table h (path_below path (index n)) row st in
    let found = elements_of_lists c path n [] below.0 below.1 in
    let is = list_row c path parent found.0 found.1 (at_path c table h path parent above) found.3 in
    ⊎_elim (λ yes. inl (is.value, is.struct, yes)) (λ no. inr (is.value, is.struct, no)) (may_stand parent.list_ok)

-- the elements from the least length on
elements : (c : Core) (table : Tree Row) → IsTableOf c table → HasElements table
elements c table h path row i j st least more = same_branches table h.form path (index i) (index j) alike where
  at : IsRowAt c path row
  at = at_path c table h path row st

  -- a length that the row doesn't refuse as too small
  no_least : (n : ℕ) → row.least ≤ n → ¬ Refuses c path (length_at_most n)
  no_least n few r = let below = (at.says (length_at_most n)).1 r in absurd (omega (arith, few, below))

  one_way : (k l : ℕ) → row.least ≤ k → row.least ≤ l → (rest : Path) (question : Question) → tables.TableRefuses RowRefusesQuestion table (path ++ index k ∷ rest) question → tables.TableRefuses RowRefusesQuestion table (path ++ index l ∷ rest) question
  one_way k l few many rest question r =
      (h.answers (path ++ index l ∷ rest) question).1
      (further_are_alike c path k l rest question (no_least k few) (no_least l many) ((h.answers (path ++ index k ∷ rest) question).0 r))

  alike : (rest : Path) (question : Question) → tables.TableRefuses RowRefusesQuestion table (path ++ index i ∷ rest) question ↔ tables.TableRefuses RowRefusesQuestion table (path ++ index j ∷ rest) question
  alike rest question = (one_way i j least more rest question, one_way j i more least rest question)

-- ---- the root of a struct
open_root : (ms : Members) (table : Tree Row) → IsTableOf (struct ms) table → HasOpenRoot table
open_root ms table h =
    let root = stands (struct ms) table h [] questions.list tt in
    let at = at_path (struct ms) table h [] root.0 root.1 in
    let is = struct_row (struct ms) [] root.0 at (λ question r. r) in
    let may : root.0.struct_ok ≡ true = not_refused root.0.struct_ok (λ e. (at.says questions.struct).0 e) in
    inr (root.0, root.1, ((is.value, may, is.list), no_labels root.0 at.form (λ l r. (at.says (allows l)).0 r)))

valid_struct : (ms : Members) (table : Tree Row) → IsTableOf (struct ms) table → IsValidTable table
valid_struct ms table h =
    let c : Core = struct ms in record {
      form = h.form;
      rows = λ path row st. valid_row c path row (at_path c table h path row st) h.size h.written;
      paths = λ path row st.
          let some = something_at c table h path row st in
          let short = paths_within_depth c path some.0 some.1 in
          let deep = h.depth in omega (arith, short, deep);
      labels = λ path row st. let some = something_at c table h path row st in paths_are_written c h.written path some.0 some.1;
      root = open_root ms table h;
      root_level = λ row st. no_field_level c [] row (at_path c table h [] row st) (λ ends. ends);
      element_levels = λ path n row st. no_field_level c (path_below path (index n)) row (at_path c table h (path_below path (index n)) row st) (ends_at_index path n);
      parents = parents c table h;
      kinds = fitting c table h;
      elements = elements c table h;
    }

pub texts_are_valid : TextsAreValid
texts_are_valid es table legal w form answers =
    valid_struct _ table (record { form = form; answers = answers; size = legal.small.size; depth = legal.depth; written = w })
