use Rattle.std.proofs.Common.{List, ℤ, ◌<ℤ◌, ap, ◌∙◌, arith}
use Rattle.std.specs.Prelude.{int_lt}
use Rattle.std.proofs.lemmas.Int.{ints}
use Rattle.cue_sets.specs.Pieces.{is_member}
use Rattle.cue_eval.proofs.Integers.{lt_from, no_piece, above_all}
use Rattle.cue_eval.proofs.scalars.integers_above.Goals as goal

pub returns-then-number-eq9223372036854775807 : goal.returns-then-number-eq9223372036854775807
returns-then-number-eq9223372036854775807 c =
    c.of_integers.ensures (λ n. int_lt c.args.number n)
    (λ n. ap (λ (s : List (ℤ × ℤ)). is_member s n) c.empty.ensures ∙ no_piece n (int_lt c.args.number n) (λ low high t. let over : c.args.number <ℤ n = lt_from c.args.number n t in omega (arith, ints)))

pub returns : goal.returns
returns c =
    c.of_integers-2.ensures (λ n. int_lt c.args.number n)
    (λ n. ap (λ (s : List (ℤ × ℤ)). is_member s n) c.at_least.ensures ∙ above_all c.args.number _ n (omega (arith, ints)) (omega (arith, ints)))
