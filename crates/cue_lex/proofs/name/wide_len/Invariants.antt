use Rattle.std.specs.Str.Iter.{chars_rest}
use Rattle.cue_lex.proofs.Words.{RunSoFar}
use Rattle.cue_lex.proofs.name.wide_len.Given as goal

abbrev pub invariant-loop-c : goal.invariant-loop-c
invariant-loop-c l = RunSoFar l.text l.len (chars_rest l.rest)
