-- Branches of a table below which the same is refused.
use Rattle.std.proofs.Common.{◌≡◌, ◌↔◌, [], ◌∷◌, ◌++◌, Option, Some, None, refl, sym, ap, subst, ◌∙◌}
use Rattle.std.specs.Option.{option_and_then}
use Rattle.cue_lattice.specs.Path.{Path, Step}
use Rattle.cue_lattice.specs.Question.{Question}
use Rattle.cue_row.specs.declared.parts.RowParts.{RowParts as Row}
use Rattle.cue_row.specs.declared.question.Question as program
use Rattle.cue_row.specs.Questions.{question_of}
use Rattle.cue_row.specs.Row as rows
use Rattle.cue_row.specs.Row.{RowRefusesQuestion, IsRow}
use Rattle.cue_row.specs.RowLaws.{same_rows}
use Rattle.cue_table.specs.Form.{IsTreeTaken, IsTree, IsRowKept, IsTable}
use Rattle.cue_table.specs.Refuses as tables
use Rattle.cue_table.specs.Refuses.{TableRefuses}
use Rattle.cue_table.specs.Tree.{Tree, row_of, row_at, branch_at, step_into}
use Rattle.cue_table.proofs.Branches.{not_silent}
use Rattle.cue_table.proofs.Exact.{exact_tree}
use Rattle.cue_table.proofs.Finding.{found_form}

module _ {R : Type 0} where
  -- a branch further on, by the branch one step below a path
  found_after : (step : Step) (rest : Path) (found : Option (Tree R)) → option_and_then (λ b. branch_at b rest) found ≡ option_and_then (λ b. branch_at b rest) (option_and_then (λ b. branch_at b []) found)
  found_after step rest None = refl
  found_after step rest (Some tree) = refl

  branch_after : (tree : Tree R) (path : Path) (step : Step) (rest : Path) → branch_at tree (path ++ step ∷ rest) ≡ option_and_then (λ b. branch_at b rest) (branch_at tree (path ++ step ∷ []))
  branch_after tree [] step rest = found_after step rest (step_into tree step)
  branch_after tree (next ∷ path) step rest = by (step_into tree next) (λ branch. branch_after branch path step rest) where
    by : (found : Option (Tree R)) → ((branch : Tree R) → branch_at branch (path ++ step ∷ rest) ≡ option_and_then (λ b. branch_at b rest) (branch_at branch (path ++ step ∷ [])))
        → option_and_then (λ b. branch_at b (path ++ step ∷ rest)) found ≡ option_and_then (λ b. branch_at b rest) (option_and_then (λ b. branch_at b (path ++ step ∷ [])) found)
    by None more = refl
    by (Some branch) more = more branch

  -- a branch at a path with a step is in form, and something is refused there
  found_at : (P : R → Type 0) (tree : Tree R) (path : Path) (step : Step) (branch : Tree R) → IsTree P tree → branch_at tree (path ++ step ∷ []) ≡ Some branch → IsTreeTaken branch × IsTree P branch
  found_at P tree [] step branch h e = by (step_into tree step) refl e where
    by : (found : Option (Tree R)) → step_into tree step ≡ found → option_and_then (λ b. branch_at b []) found ≡ Some branch → IsTreeTaken branch × IsTree P branch
    by None f g = cc
    by (Some other) f g = found_form P step tree branch h (f ∙ g)
  found_at P tree (next ∷ path) step branch h e = by (step_into tree next) refl e (λ other form g. found_at P other path step branch form g) where
    by : (found : Option (Tree R)) → step_into tree next ≡ found → option_and_then (λ b. branch_at b (path ++ step ∷ [])) found ≡ Some branch
        → ((other : Tree R) → IsTree P other → branch_at other (path ++ step ∷ []) ≡ Some branch → IsTreeTaken branch × IsTree P branch) → IsTreeTaken branch × IsTree P branch
    by None f g more = cc
    by (Some other) f g more = more other (found_form P next tree other h f).1 g

-- what is refused at a path of a branch that may be there
FoundAnswers : Option (Tree Row) → Path → Question → Type 0
FoundAnswers found path = tables.RowRefuses RowRefusesQuestion (option_and_then row_of (option_and_then (λ b. branch_at b path) found))

asked_row : (at : Option Row) (question : program.Question) → tables.RowRefuses rows.RefusesAsked at question ↔ tables.RowRefuses RowRefusesQuestion at (question_of question)
asked_row None question = (λ h. h, λ h. h)
asked_row (Some row) question = (λ h. h, λ h. h)

IsFormed : Option (Tree Row) → Type 0
IsFormed found = (branch : Tree Row) → found ≡ Some branch → IsTreeTaken branch × IsTable rows.RefusesAsked IsRow branch

same_found : (a b : Option (Tree Row)) → IsFormed a → IsFormed b → ((path : Path) (question : Question) → FoundAnswers a path question ↔ FoundAnswers b path question) → a ≡ b
unfolding IsFormed FoundAnswers
same_found None None h k same = refl
same_found None (Some tree) h k same =
    let form = k tree refl in
    absurd (not_silent rows.RefusesAsked IsRow tree form.0 form.1 (λ path question r. (same path (question_of question)).1 ((asked_row (row_at tree path) question).0 r)))
same_found (Some tree) None h k same =
    let form = h tree refl in
    absurd (not_silent rows.RefusesAsked IsRow tree form.0 form.1 (λ path question r. (same path (question_of question)).0 ((asked_row (row_at tree path) question).0 r)))
same_found (Some a) (Some b) h k same =
    ap Some (exact_tree rows.RefusesAsked IsRow same_rows a b (h a refl).1 (k b refl).1 (λ path question.
    let s = same path (question_of question) in
    let x = asked_row (row_at a path) question in
    let y = asked_row (row_at b path) question in
    (λ r. y.1 (s.0 (x.0 r)), λ r. x.1 (s.1 (y.0 r)))))

-- two branches of a table in form are the same where the same is refused there and below
pub same_branches : (table : Tree Row) → IsTable rows.RefusesAsked IsRow table → (path : Path) (one other : Step)
    → ((rest : Path) (question : Question) → TableRefuses RowRefusesQuestion table (path ++ one ∷ rest) question ↔ TableRefuses RowRefusesQuestion table (path ++ other ∷ rest) question)
    → branch_at table (path ++ one ∷ []) ≡ branch_at table (path ++ other ∷ [])
unfolding IsFormed FoundAnswers
same_branches table form path one other same =
    same_found (branch_at table (path ++ one ∷ [])) (branch_at table (path ++ other ∷ []))
    (λ branch e. found_at (IsRowKept rows.RefusesAsked IsRow) table path one branch form e) (λ branch e. found_at (IsRowKept rows.RefusesAsked IsRow) table path other branch form e)
    (λ rest question.
    let a = ap (λ f. tables.RowRefuses RowRefusesQuestion (option_and_then row_of f) question) (branch_after table path one rest) in
    let b = ap (λ f. tables.RowRefuses RowRefusesQuestion (option_and_then row_of f) question) (branch_after table path other rest) in
    let s = same rest question in
    (λ r. subst (λ t. t) b (s.0 (subst (λ t. t) (sym a) r)), λ r. subst (λ t. t) a (s.1 (subst (λ t. t) (sym b) r))))
