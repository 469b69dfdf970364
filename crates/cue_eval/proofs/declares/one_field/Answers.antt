use Rattle.std.proofs.Common.{◌≤◌, ◌+◌, true, [], ◌∷◌, ◌++◌, refl, sym, ap, subst, ◌∙◌}
use Rattle.cue_row.specs.Steps.{step_of}
use Rattle.std.proofs.lemmas.Result.{IfOk-weaker}
use Rattle.cue_scope.specs.Core.{Core, struct, member, no_members}
use Rattle.cue_scope.specs.Meaning.{text_of}
use Rattle.cue_table.specs.Depth.{tree_depth}
use Rattle.cue_table.specs.Many.{IsOfBranches}
use Rattle.cue_eval.specs.declared.declared.Declared.{Declared}
use Rattle.cue_eval.specs.declared.declares.LiteralSelection.TheVariants.{Own, Dotted}
use Rattle.cue_eval.specs.Telling.{DeclaredRefuses}
use Rattle.cue_eval.specs.Inner.Told.{DeclaresLiterals, IsRooted}
use Rattle.cue_eval.proofs.TellingFields.{one_field_told, untold, one_dotless, own_told, one_declared, one_depth, rooted_depth}
use Rattle.cue_eval.proofs.declares.one_field.Goals as goal

pub returns-in-Dotted-clause-told : goal.returns-in-Dotted-clause-told
returns-in-Dotted-clause-told c =
    let step = c.in_ok-step_to.field-0 in
    let below = c.args.below in
    let k = text_of c.args.label.now.name in
    let mark = c.args.label.now.mark in
    let table = c.in_ok-table.table in
    let items = c.in_ok-push.ensures.items ∙ ap (λ xs. xs ++ (step, below) ∷ []) c.in_ok-branches.ensures.items in
    let of : IsOfBranches DeclaredRefuses ((step, below) ∷ []) table = subst (λ xs. IsOfBranches DeclaredRefuses xs table) items c.in_ok-table.ensures.refused in
    subst (λ w. (x : Core) → DeclaresLiterals w x below → DeclaresLiterals w (struct (member k mark x no_members)) table) (sym c.in-Dotted.is)
    (λ x h. untold Dotted (member k mark x no_members) table (one_field_told Dotted k mark x step below table (ap step_of c.in_ok-step_to.ensures) h c.in_ok-table.ensures.form of) (one_dotless k mark x))

pub returns-in-Dotted-clause-depth : goal.returns-in-Dotted-clause-depth
returns-in-Dotted-clause-depth c =
    let step = c.in_ok-step_to.field-0 in
    let below = c.args.below in
    let table = c.in_ok-table.table in
    let items = c.in_ok-push.ensures.items ∙ ap (λ xs. xs ++ (step, below) ∷ []) c.in_ok-branches.ensures.items in
    let of : IsOfBranches DeclaredRefuses ((step, below) ∷ []) table = subst (λ xs. IsOfBranches DeclaredRefuses xs table) items c.in_ok-table.ensures.refused in
    one_depth step below table c.in_ok-table.ensures.form of

pub returns-in_ok-but-in-Own-clause-told : goal.returns-in_ok-but-in-Own-clause-told
returns-in_ok-but-in-Own-clause-told c =
    let step = c.in_ok-step_to.field-0 in
    let below = c.args.below in
    let k = text_of c.args.label.now.name in
    let mark = c.args.label.now.mark in
    let table = c.in_ok-table.table in
    let row : Declared = record { stands = true; undeclared = c.in_ok-but-in-Own.field-0 } in
    let items = c.in_ok-push.ensures.items ∙ ap (λ xs. xs ++ (step, below) ∷ []) c.in_ok-branches.ensures.items in
    let of : IsOfBranches DeclaredRefuses ((step, below) ∷ []) table = subst (λ xs. IsOfBranches DeclaredRefuses xs table) items c.in_ok-table.ensures.refused in
    let lacks = c.in_ok-but-in-Own.ensures ∙ ap (λ t. (true, t ∷ [])) c.label_text.ensures in
    IfOk-weaker c.at_root.result (IsRooted table row) _
    (λ all rooted. subst (λ w. (x : Core) → DeclaresLiterals w x below → DeclaresLiterals w (struct (member k mark x no_members)) all) (sym c.in-Own.is)
    (λ x h. own_told Own (member k mark x no_members) table all row
    (one_field_told Own k mark x step below table (ap step_of c.in_ok-step_to.ensures) h c.in_ok-table.ensures.form of) (one_declared k mark x row refl lacks) rooted))
    c.at_root.ensures

pub returns-in_ok-but-in-Own-clause-depth : goal.returns-in_ok-but-in-Own-clause-depth
returns-in_ok-but-in-Own-clause-depth c =
    let step = c.in_ok-step_to.field-0 in
    let below = c.args.below in
    let table = c.in_ok-table.table in
    let row : Declared = record { stands = true; undeclared = c.in_ok-but-in-Own.field-0 } in
    let items = c.in_ok-push.ensures.items ∙ ap (λ xs. xs ++ (step, below) ∷ []) c.in_ok-branches.ensures.items in
    let of : IsOfBranches DeclaredRefuses ((step, below) ∷ []) table = subst (λ xs. IsOfBranches DeclaredRefuses xs table) items c.in_ok-table.ensures.refused in
    IfOk-weaker c.at_root.result (IsRooted table row) (λ all. tree_depth all ≤ tree_depth below + 1)
    (λ all rooted. rooted_depth table row all (tree_depth below + 1) rooted (one_depth step below table c.in_ok-table.ensures.form of)) c.at_root.ensures
