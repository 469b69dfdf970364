use Rattle.std.proofs.Common.{sym, ◌∙◌}
use Rattle.std.proofs.lemmas.Bool.{false≢true}
use Rattle.cue_owners.proofs.Named.{some_words, no_patterns}
use Rattle.cue_owners.proofs.grant.is_row.Goals as goal

pub returns-then-not-is_name : goal.returns-then-not-is_name
returns-then-not-is_name c =
    (λ t. absurd (false≢true t), λ h. absurd (false≢true (sym c.if-not-is_name.true ∙ c.is_name.ensures.1 h.0)))

pub returns-then-not-is_token : goal.returns-then-not-is_token
returns-then-not-is_token c =
    (λ t. absurd (false≢true t), λ h. absurd (false≢true (sym c.if-not-is_token.true ∙ c.is_token.ensures.1 h.1)))

pub returns-then-is_empty : goal.returns-then-is_empty
returns-then-is_empty c =
    (λ t. absurd (false≢true t), λ h. absurd (no_patterns c.args.patterns.now c.is_empty.result c.is_empty.ensures c.if-is_empty.true h.2))

pub returns : goal.returns
returns c = (
  λ t. (
    c.is_name.ensures.0 c.if-not-is_name.false,
    c.is_token.ensures.0 c.if-not-is_token.false,
    some_words c.args.patterns.now c.is_empty.result c.is_empty.ensures c.if-is_empty.false,
    c.are_patterns.ensures.0 t,
  ),
  λ h. c.are_patterns.ensures.1 h.3,
)
