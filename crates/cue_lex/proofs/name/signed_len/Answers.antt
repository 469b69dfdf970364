use Rattle.std.proofs.Common.{rules}
use Rattle.std.proofs.lemmas.Str.{IsCharBoundary-start}
use Rattle.cue_lex.proofs.Longest.{sign_boundary}
use Rattle.cue_lex.proofs.name.signed_len.Goals as goal

pub range_from-requires : goal.range_from-requires
range_from-requires c = λ _. sign_boundary c.args.sign.now c.args.text.now c.utf8.sign c.utf8.text (search rules)

pub returns-then-not-starts_with-clause-boundary : goal.returns-then-not-starts_with-clause-boundary
returns-then-not-starts_with-clause-boundary c = IsCharBoundary-start c.args.text.now c.utf8.text

pub returns-else-len-gt0-clause-boundary : goal.returns-else-len-gt0-clause-boundary
returns-else-len-gt0-clause-boundary c = IsCharBoundary-start c.args.text.now c.utf8.text
