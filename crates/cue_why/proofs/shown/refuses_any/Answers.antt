use Rattle.std.proofs.Common.{◌≡◌, Some, None, Bor, refl, sym, ap, subst, ◌∙◌}
use Rattle.std.specs.Option.{option_map}
use Rattle.std.proofs.lemmas.Bool.{false≢true}
use Rattle.cue_row.specs.Row.{RefusesAsked}
use Rattle.cue_row.specs.declared.parts.RowParts.{RowParts as Row}
use Rattle.cue_row.specs.declared.question.Question as program
use Rattle.cue_table.specs.Tree.{row_of}
use Rattle.cue_why.specs.Inner.Parts.{IsHeldRow}
use Rattle.cue_why.proofs.Saying.{below_any, none_any, held_any, any_held, bare_of, not_free}
use Rattle.cue_why.proofs.shown.refuses_any.Goals as goal

pub returns-then-has_below : goal.returns-then-has_below
returns-then-has_below c = (λ t. below_any c.args.kind c.args.part.now c.row-row.ensures.form (c.has_below.ensures.0 c.if-has_below.true), λ h. refl)

pub returns-in-None : goal.returns-in-None
returns-in-None c =
    let bare = bare_of c.args.part.now.branch c.has_below.result c.has_below.ensures c.if-has_below.false in
    let none : row_of c.args.part.now.branch ≡ None = sym c.row-row.ensures.row ∙ ap (option_map (λ (row : Bor Row). row.now)) c.in-None.is in
    (λ t. absurd (false≢true t), λ h. absurd (none_any c.args.kind c.args.part.now bare none h))

pub returns-in_ok-held-in-Some : goal.returns-in_ok-held-in-Some
returns-in_ok-held-in-Some c =
    let part = c.args.part.now in
    let kind = c.args.kind in
    let row = c.in-Some.row.now in
    let held = c.in_ok-held-in-Some.held in
    let bare = bare_of part.branch c.has_below.result c.has_below.ensures c.if-has_below.false in
    let some : row_of part.branch ≡ Some row = sym c.row-row.ensures.row ∙ ap (option_map (λ (row : Bor Row). row.now)) c.in-Some.is in
    let is = subst (λ path. IsHeldRow kind path row held) c.steps.ensures c.in_ok-held-in-Some.ensures in
    let free = not_free c.is_free.result ((question : program.Question) → ¬ RefusesAsked held question) c.is_free.ensures in
    (λ t. held_any kind part row held bare some is (free.0 t), λ any. free.1 (any_held kind part row held bare some is any))
