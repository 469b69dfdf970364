use Rattle.std.proofs.Common.{◌≡◌, Some, sym, ap, subst, ◌∙◌, Bor}
use Rattle.std.specs.Option.{option_map}
use Rattle.cue_row.specs.declared.parts.RowParts.{RowParts as Row}
use Rattle.cue_table.specs.Tree.{row_of}
use Rattle.cue_why.specs.Inner.Parts.{IsHeldRow}
use Rattle.cue_why.proofs.Parts.{gains_row}
use Rattle.cue_why.proofs.trail.add_row.Goals as goal

pub returns-in_ok-narrow-in-Some : goal.returns-in_ok-narrow-in-Some
returns-in_ok-narrow-in-Some c =
    let there : row_of c.args.part.now.branch ≡ Some c.in-Some.own.now = sym c.row.ensures.row ∙ ap (option_map (λ (row : Bor Row). row.now)) c.in-Some.is in
    let held = subst (λ path. IsHeldRow c.args.kind path c.in-Some.own.now c.in_ok-held-in-Some.held) c.steps.ensures c.in_ok-held-in-Some.ensures in
    gains_row c.args.kind c.args.row.now c.args.part.now c.narrow.new.self c.in-Some.own.now c.in_ok-held-in-Some.held there held c.in_ok-narrow-in-Some.ensures.ok
