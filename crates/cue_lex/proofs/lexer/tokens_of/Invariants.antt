use Rattle.std.proofs.Common.{length}
use denote.Text.{Utf8}
use denote.Shadow.{shadow}
use Rattle.cue_lex.proofs.Lexing.{LexedSoFar}
use Rattle.cue_lex.proofs.Beginning.{KeptSoFar}
use Rattle.cue_lex.proofs.lexer.tokens_of.Given as goal

-- the rest is text, and what stands before it was lexed
abbrev pub invariant-loop-rest : goal.invariant-loop-rest
invariant-loop-rest l = shadow (Utf8 l.rest) × LexedSoFar l.text l.tokens.items l.before.line_end l.before.is_minus l.at l.rest × KeptSoFar l.text l.before.line_end l.before.is_minus l.at l.rest

abbrev pub decreases-loop-rest : goal.decreases-loop-rest
decreases-loop-rest l = length l.rest
