use Rattle.std.proofs.Common.{◌≡◌, ◌&&◌, List, ℤ, [], ◌∷◌, ap, ◌∙◌, arith, w64, to_z, of_z}
use Rattle.std.specs.Prelude.{int_le}
use Rattle.std.proofs.lemmas.Int.{ints}
use Rattle.cue_sets.specs.Pieces.{is_member, least, greatest}
use Rattle.cue_eval.proofs.Integers.{between_bounds}
use Rattle.cue_eval.proofs.scalars.integers_between.Goals as goal

pub returns : goal.returns
returns c =
    let low : to_z w64 (of_z w64 c.args.low) ≡ c.args.low = omega (arith, ints) in
    let high : to_z w64 (of_z w64 c.args.high) ≡ c.args.high = omega (arith, ints) in
    let from_low = c.at_least-from_low.ensures ∙ ap (λ (m : ℤ). (m, greatest) ∷ []) low in
    let to_high = c.at_most-to_high.ensures ∙ ap (λ (m : ℤ). (least, m) ∷ []) high in
    c.of_integers.ensures (λ n. int_le c.args.low n && int_le n c.args.high)
    (λ n.
    between_bounds c.args.low c.args.high n c.in_ok-meet.field-0 (omega (arith, ints)) (omega (arith, ints))
    (c.in_ok-meet.ensures n ∙ ap (λ (s : List (ℤ × ℤ)). is_member s n && is_member c.at_most-to_high.result n) from_low
    ∙ ap (λ (s : List (ℤ × ℤ)). is_member ((c.args.low, greatest) ∷ []) n && is_member s n) to_high))
