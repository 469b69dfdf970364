use Rattle.std.proofs.Common.{List, ℤ, ◌<ℤ◌, ap, ◌∙◌, arith}
use Rattle.std.specs.Prelude.{int_lt}
use Rattle.std.proofs.lemmas.Int.{ints}
use Rattle.cue_sets.specs.Pieces.{is_member}
use Rattle.cue_eval.proofs.Integers.{lt_from, no_piece, below_all}
use Rattle.cue_eval.proofs.scalars.integers_below.Goals as goal

pub returns-then-number-eqminus9223372036854775808 : goal.returns-then-number-eqminus9223372036854775808
returns-then-number-eqminus9223372036854775808 c =
    c.of_integers.ensures (λ n. int_lt n c.args.number)
    (λ n. ap (λ (s : List (ℤ × ℤ)). is_member s n) c.empty.ensures ∙ no_piece n (int_lt n c.args.number) (λ low high t. let under : n <ℤ c.args.number = lt_from n c.args.number t in omega (arith, ints)))

pub returns : goal.returns
returns c =
    c.of_integers-2.ensures (λ n. int_lt n c.args.number)
    (λ n. ap (λ (s : List (ℤ × ℤ)). is_member s n) c.at_most.ensures ∙ below_all c.args.number _ n (omega (arith, ints)) (omega (arith, ints)))
