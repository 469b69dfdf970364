use Rattle.std.proofs.Common.{arith, rules}
use Rattle.cue_lex.proofs.Digits.{one_digit_min}
use Rattle.cue_lex.proofs.integer.magnitude.Goals as goal

pub returns : goal.returns
returns c = one_digit_min c.args.literal.now (omega (arith, c.in-len1.len_at_least, c.in-len1.len_below)) (search rules)
