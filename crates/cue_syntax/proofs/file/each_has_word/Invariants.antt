use Rattle.std.proofs.Common.{take}
use Rattle.cue_lex.specs.Inner.Kinds.{EachHasWord}
use Rattle.cue_syntax.proofs.file.each_has_word.Given as goal

abbrev pub invariant-loop-token : goal.invariant-loop-token
invariant-loop-token l = EachHasWord (take l.token-index l.tokens)
