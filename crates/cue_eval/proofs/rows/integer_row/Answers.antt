use Rattle.std.proofs.Common.{◌≡◌, ◌↔◌, ◌∙◌, ℤ, ap, sym, subst, arith, w64, to_z, of_z}
use Rattle.std.proofs.lemmas.Int.{ints}
use Rattle.cue_row.specs.Kept.{integers_set}
use Rattle.cue_row.specs.Made.{lone_row}
use Rattle.cue_row.specs.Row.{RowRefusesQuestion}
use Rattle.cue_row.specs.declared.level.Level.TheVariants.{Optional}
use Rattle.cue_row.specs.declared.parts.RowParts.{RowParts as Row}
use Rattle.cue_eval.specs.Pairs.{plain_pair}
use Rattle.cue_eval.specs.Places.{ScalarRefuses}
use Rattle.cue_eval.specs.Sets.{integer_alone}
use Rattle.cue_eval.proofs.PlaceRows.{integer_refuses}
use Rattle.cue_eval.proofs.rows.integer_row.Goals as goal

pub returns : goal.returns
returns c question =
    let n = c.args.number in
    let number : to_z w64 (of_z w64 n) ≡ n = omega (arith, ints) in
    let is = c.of_integer.ensures ∙ ap (λ (m : ℤ). lone_row Optional (integers_set (m, m))) number in
    subst (λ (row : Row). RowRefusesQuestion row question ↔ ScalarRefuses (plain_pair (integer_alone n)) question) (sym is) (integer_refuses n (omega (arith, ints)) (omega (arith, ints)) question)
