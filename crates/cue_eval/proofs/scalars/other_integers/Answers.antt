use Rattle.std.proofs.Common.{◌≡◌, not, ◌&&◌, ℤ, ap, ◌∙◌, arith, w64, to_z, of_z}
use Rattle.std.specs.Ordering.{int_eq}
use Rattle.std.proofs.lemmas.Int.{ints}
use Rattle.cue_sets.specs.Pieces.{is_int64}
use Rattle.cue_eval.proofs.scalars.other_integers.Goals as goal

pub returns : goal.returns
returns c =
    let number : to_z w64 (of_z w64 c.args.number) ≡ c.args.number = omega (arith, ints) in
    c.of_integers.ensures (λ n. not (int_eq n c.args.number)) (λ n. c.in_ok-but.ensures n ∙ ap (λ (m : ℤ). is_int64 n && not (int_eq n m)) number)
