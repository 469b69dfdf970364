use Rattle.std.proofs.Common.{arith}
use Rattle.std.proofs.lemmas.Str.{IsCharBoundary-after_ascii}
use Rattle.cue_lex.proofs.string.string.Goals as goal

pub range_from-inside-requires : goal.range_from-inside-requires
range_from-inside-requires c = λ _. IsCharBoundary-after_ascii c.args.text.now 0 c.utf8.text c.requires.nonempty (omega (arith, c.requires.quoted))
