use Rattle.std.proofs.lemmas.Str.{IsCharBoundary-start}
use Rattle.cue_lex.proofs.name.word_len.Goals as goal

pub returns-in_default-clause-boundary : goal.returns-in_default-clause-boundary
returns-in_default-clause-boundary c = IsCharBoundary-start c.args.text.now c.utf8.text
