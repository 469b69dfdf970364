use Rattle.std.proofs.Common.{length, string_bytes}
use denote.Text.{Utf8}
use denote.Shadow.{shadow}
use Rattle.cue_lex.proofs.Bodies.{BodySoFar}
use Rattle.cue_lex.proofs.string.body.Given as goal

-- the rest is text, and what stands before it was decoded
abbrev pub invariant-loop-rest : goal.invariant-loop-rest
invariant-loop-rest l = shadow (Utf8 l.rest) × BodySoFar l.start l.text (string_bytes l.decoded) l.len l.rest

abbrev pub decreases-loop-rest : goal.decreases-loop-rest
decreases-loop-rest l = length l.rest
