use Rattle.std.proofs.Common.{◌≡◌, List, ℤ, [], ◌∷◌, sym, ap, ◌∙◌, arith, w64, to_z, of_z}
use Rattle.std.specs.Prelude.{int_le}
use Rattle.std.proofs.lemmas.Int.{ints}
use Rattle.cue_sets.specs.Pieces.{is_member, least, greatest}
use Rattle.cue_syntax.specs.declared.tree.Comparison.TheVariants.{Less, Greater}
use Rattle.cue_eval.specs.Sets as sets
use Rattle.cue_eval.specs.Pairs.{plain_pair}
use Rattle.cue_eval.proofs.Integers.{from_below, up_to}
use Rattle.cue_eval.proofs.scalars.bound_value.Goals as goal

pub returns-in-Less : goal.returns-in-Less
returns-in-Less c =
    let number : to_z w64 (of_z w64 c.args.number) ≡ c.args.number = omega (arith, ints) in
    c.integers_below.ensures ∙ ap (λ (m : ℤ). plain_pair (sets.bound_scalars Less m)) number ∙ ap (λ k. plain_pair (sets.bound_scalars k c.args.number)) (sym c.in-Less.is)

pub returns-in-AtMost : goal.returns-in-AtMost
returns-in-AtMost c =
    let number : to_z w64 (of_z w64 c.args.number) ≡ c.args.number = omega (arith, ints) in
    let set = c.at_most.ensures ∙ ap (λ (m : ℤ). (least, m) ∷ []) number in
    c.of_integers.ensures (λ n. int_le n c.args.number) (λ n. ap (λ (s : List (ℤ × ℤ)). is_member s n) set ∙ up_to c.args.number n (omega (arith, ints)))
    ∙ ap (λ k. plain_pair (sets.bound_scalars k c.args.number)) (sym c.in-AtMost.is)

pub returns-in-Greater : goal.returns-in-Greater
returns-in-Greater c =
    let number : to_z w64 (of_z w64 c.args.number) ≡ c.args.number = omega (arith, ints) in
    c.integers_above.ensures ∙ ap (λ (m : ℤ). plain_pair (sets.bound_scalars Greater m)) number ∙ ap (λ k. plain_pair (sets.bound_scalars k c.args.number)) (sym c.in-Greater.is)

pub returns-in-AtLeast : goal.returns-in-AtLeast
returns-in-AtLeast c =
    let number : to_z w64 (of_z w64 c.args.number) ≡ c.args.number = omega (arith, ints) in
    let set = c.at_least.ensures ∙ ap (λ (m : ℤ). (m, greatest) ∷ []) number in
    c.of_integers-in-AtLeast.ensures (λ n. int_le c.args.number n) (λ n. ap (λ (s : List (ℤ × ℤ)). is_member s n) set ∙ from_below c.args.number n (omega (arith, ints)))
    ∙ ap (λ k. plain_pair (sets.bound_scalars k c.args.number)) (sym c.in-AtLeast.is)
