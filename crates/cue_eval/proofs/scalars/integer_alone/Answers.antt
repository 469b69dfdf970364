use Rattle.std.proofs.Common.{◌≡◌, List, ℤ, [], ◌∷◌, ap, ◌∙◌, arith, w64, to_z, of_z}
use Rattle.std.specs.Ordering.{int_eq}
use Rattle.std.proofs.lemmas.Int.{ints}
use Rattle.cue_sets.specs.Pieces.{is_member}
use Rattle.cue_eval.proofs.Integers.{alone}
use Rattle.cue_eval.proofs.scalars.integer_alone.Goals as goal

pub returns : goal.returns
returns c =
    let number : to_z w64 (of_z w64 c.args.number) ≡ c.args.number = omega (arith, ints) in
    let set = c.one.ensures ∙ ap (λ (m : ℤ). (m, m) ∷ []) number in
    c.of_integers.ensures (λ n. int_eq n c.args.number)
    (λ n. ap (λ (s : List (ℤ × ℤ)). is_member s n) set ∙ alone c.args.number n (omega (arith, ints)) (omega (arith, ints)))
