-- The table with one field, and how it is printed.
use Rattle.std.proofs.Common.{◌≡◌, ◌↔◌, ◌⊎◌, inl, inr, ⊎_elim, ℕ, List, [], ◌∷◌, ◌++◌, Option, Some, None, refl, sym, ap, subst, ◌∙◌, append-nil, append_assoc}
use lib.Utf8.{encode}
use Rattle.std.specs.Option.{option_and_then, option_map}
use Rattle.std.specs.Str.{chars}
use Rattle.std.specs.Prelude.{codes}
use Rattle.std.specs.declared.cmp.Ordering.{Ordering}
use Rattle.std.specs.declared.cmp.Ordering.TheVariants.{Less, Equal, Greater}
use Rattle.cue_lattice.specs.OneOf.{OneOf}
use Rattle.cue_lattice.specs.Path.{Step, label, step_cmp, Path}
use Rattle.cue_print.specs.Printed.{fields_below, file_of, level_at, value_of}
use Rattle.cue_print.specs.Spelled.{field_texts, file_text, line, mark_text, value_text}
use Rattle.cue_row.specs.Made.{struct_row}
use Rattle.cue_row.specs.Quoted.{quote_text}
use Rattle.cue_row.specs.Row.{RefusesAsked, IsRow}
use Rattle.cue_row.specs.RowLaws.{same_rows}
use Rattle.cue_row.specs.Steps.{step_of}
use Rattle.cue_row.specs.declared.level.Level.{Level}
use Rattle.cue_row.specs.declared.level.Level.TheVariants.{Optional, Required, Given}
use Rattle.cue_row.specs.declared.parts.RowParts.{RowParts as Row}
use Rattle.cue_row.specs.declared.question.Question as program
use Rattle.cue_row.specs.declared.question.Question.TheVariants as asking
use Rattle.cue_row.specs.declared.step.Step.{Step as Code}
use Rattle.cue_row.specs.declared.step.Step.TheVariants.{Label}
use Rattle.cue_table.specs.Form.{IsRowKept, IsTable, IsTreeTaken}
use Rattle.cue_table.specs.Many.{IsOfBranches}
use Rattle.cue_table.specs.Meet.{IsAdded}
use Rattle.cue_table.specs.Refuses.{RowRefuses, TableRefuses}
use Rattle.cue_table.specs.Tree.{Tree, node, none, child, no_rest, row_of, branch_at, if_equal}
use Rattle.cue_table.proofs.Branches.{find_first}
use Rattle.cue_table.proofs.Exact.{exact_tree}
use Rattle.cue_table.proofs.Order.{equal_steps}
use Rattle.cue_places.specs.Inner.Fields.{name, one_field}

abbrev FoundRow : Option (Tree Row) → Path → Option Row
FoundRow found path = option_and_then row_of (option_and_then (λ branch. branch_at branch path) found)

abbrev Asked : Tree Row → Path → program.Question → Type 0
Asked = TableRefuses RefusesAsked

-- what the one field refuses
field_refuses : (value : Tree Row) (step : Step) (path : Path) (question : program.Question) → Asked (one_field value) (step ∷ path) question ↔ ((label name ≡ step) × Asked value path question)
field_refuses value step path question = (by (step_cmp step (label name)) refl, out)
  where
    by : (o : Ordering) → step_cmp step (label name) ≡ o → Asked (one_field value) (step ∷ path) question → (label name ≡ step) × Asked value path question
    by o f h = at o f (subst (λ o. RowRefuses RefusesAsked (FoundRow (if_equal o value None) path) question) f h)
      where
        at : (o : Ordering) → step_cmp step (label name) ≡ o → RowRefuses RefusesAsked (FoundRow (if_equal o value None) path) question → (label name ≡ step) × Asked value path question
        at Equal f h = (sym (equal_steps step (label name) f), h)
        at Less f h = absurd h
        at Greater f h = absurd h

    out : (label name ≡ step) × Asked value path question → Asked (one_field value) (step ∷ path) question
    out h = subst (λ s. Asked (one_field value) (s ∷ path) question) h.0 (subst (λ found. RowRefuses RefusesAsked (FoundRow found path) question) (sym (find_first (label name) value none)) h.1)

kept_struct : IsRow (struct_row Optional None) → IsRowKept RefusesAsked IsRow (struct_row Optional None)
kept_struct is = (is, λ free. free asking.List refl)

no_cons : (s : Step) (p : Path) → s ∷ p ≡ [] → ⊥
no_cons s p e = cc

pub made_field :
    (value bare table : Tree Row) (fields : List (Code × Tree Row)) (v : List ℕ) (row : Row) → IsTable RefusesAsked IsRow value → IsTreeTaken value → v ≡ name → fields ≡ (Label v, value) ∷ [] → IsOfBranches RefusesAsked fields bare
    → IsRow row → row ≡ struct_row Optional None → IsTable RefusesAsked IsRow table → IsAdded RefusesAsked bare [] row table → table ≡ one_field value
made_field value bare table fields v row form some e items branches is_row made table_form added =
    let is = subst IsRow made is_row in
    exact_tree RefusesAsked IsRow same_rows table (one_field value) table_form (kept_struct is, (tt, some, form, tt), tt) same
  where
    below : (step : Step) (path : Path) (question : program.Question) → Asked bare (step ∷ path) question ↔ ((label name ≡ step) × Asked value path question)
    below step path question =
        let here = branches.below step path question in
        let P : List (Code × Tree Row) → Type 0 = λ given. OneOf (λ one. (step_of one.0 ≡ step) × Asked one.1 path question) given in
        let name_is : label v ≡ label name = ap label e in (
          λ h. ⊎_elim (λ p. (sym name_is ∙ p.0, p.1)) (λ (f : ⊥). absurd f) (subst P items (here.0 h)),
          λ h. here.1 (subst P (sym items) (inl (name_is ∙ h.0, h.1))),
        )

    same : (path : Path) (question : program.Question) → Asked table path question ↔ Asked (one_field value) path question
    same [] question =
        let here = added [] question in (
          λ h. ⊎_elim (λ o. absurd (branches.root question o)) (λ r. subst (λ x. RefusesAsked x question) made r.1) (here.0 h),
          λ h. here.1 (inr (refl, subst (λ x. RefusesAsked x question) (sym made) h)),
        )
    same (step ∷ path) question =
        let here = added (step ∷ path) question in
        let all = field_refuses value step path question in
        let own = below step path question in (
          λ h. all.1 (own.0 (⊎_elim (λ o. o) (λ r. absurd (no_cons step path r.0)) (here.0 h))),
          λ h. here.1 (inl (own.1 (all.0 h))),
        )

-- its text is one line
pub field_line : (value table : Tree Row) → table ≡ one_field value
    → file_text (file_of table) ≡ (quote_text name ++ mark_text (level_at (row_of value))) ++ line (value_text (value_of value))
unfolding file_text file_of fields_below field_texts
field_line value table e =
    let level = level_at (row_of value) in
    ap (λ t. file_text (file_of t)) e
    ∙ append-nil (line (quote_text name ++ (mark_text level ++ value_text (value_of value))))
    ∙ append_assoc (quote_text name) (mark_text level ++ value_text (value_of value)) (codes "\n")
    ∙ ap (λ t. quote_text name ++ t) (append_assoc (mark_text level) (value_text (value_of value)) (codes "\n"))
    ∙ sym (append_assoc (quote_text name) (mark_text level) (line (value_text (value_of value))))

-- what is printed in front of the value, by the level
pub front_optional : quote_text name ++ mark_text Optional ≡ codes "\"v\"?: "
unfolding chars encode
front_optional = refl

pub front_required : quote_text name ++ mark_text Required ≡ codes "\"v\"!: "
unfolding chars encode
front_required = refl

pub front_given : quote_text name ++ mark_text Given ≡ codes "\"v\": "
unfolding chars encode
front_given = refl

-- a table without a row is printed as anything
pub bare_line : (tree : Tree Row) → row_of tree ≡ None → line (value_text (value_of tree)) ≡ codes "_\n"
unfolding value_of value_text
bare_line (node None children rest) e = refl
bare_line (node (Some row) children rest) e = cc

pub at_row : (tree : Tree Row) (level : Level) → option_map (λ row. row.level) (row_of tree) ≡ Some level → (level_at (row_of tree) ≡ level) × IsTreeTaken tree
at_row (node None children rest) level e = cc
at_row (node (Some row) children rest) level e = let same : row.level ≡ level = cc in (same, tt)
