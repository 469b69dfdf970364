use Rattle.std.proofs.Common.{sym, ◌∙◌}
use Rattle.std.proofs.lemmas.Bool.{false≢true}
use Rattle.cue_owners.specs.Patterns.{IsPattern}
use Rattle.cue_owners.proofs.Named.{all_words, not_all, one_word_more}
use Rattle.cue_owners.proofs.grant.are_patterns.Goals as goal

pub returns-then-not-is_pattern : goal.returns-then-not-is_pattern
returns-then-not-is_pattern c =
    not_all IsPattern c.args.words.now c.loop-word.word-index _ c.loop-word-test.true
    (λ p. false≢true (sym c.if-not-is_pattern.true ∙ c.is_pattern.ensures.1 p))

pub loop-word-preserved : goal.loop-word-preserved
loop-word-preserved c =
    one_word_more IsPattern c.args.words.now c.loop-word.word-index _ c.loop-word-test.true c.loop-word.invariant (c.is_pattern.ensures.0 c.if-not-is_pattern.false)

pub returns : goal.returns
returns c = all_words IsPattern c.args.words.now c.loop-word.word-index c.loop-word-test.false c.loop-word.invariant
