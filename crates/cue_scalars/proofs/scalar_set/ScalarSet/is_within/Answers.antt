use Rattle.std.proofs.Common.{sym, ◌∙◌}
use Rattle.std.proofs.lemmas.Bool.{false≢true}
use Rattle.cue_lattice.specs.declared.scalar.Scalar.TheVariants as scalars
use Rattle.cue_scalars.proofs.Within.{within_from_parts, plain_from_within}
use Rattle.cue_scalars.proofs.scalar_set.ScalarSet.is_within.Goals as goal

pub returns-then-not-is_plain_within : goal.returns-then-not-is_plain_within
returns-then-not-is_plain_within c =
    (λ e. absurd (false≢true e), λ h. let t = c.is_plain_within.ensures ∙ plain_from_within c.args.self.now c.args.other.now h in cc (t, c.if-not-is_plain_within.true))

pub returns-then-not-is_within : goal.returns-then-not-is_within
returns-then-not-is_within c =
    (λ e. absurd (false≢true e), λ h. let t = c.is_within.ensures.1 (λ n. h (scalars.Int n)) in cc (t, c.if-not-is_within.true))

pub returns : goal.returns
returns c = (
  λ e. within_from_parts c.args.self.now c.args.other.now (sym c.is_plain_within.ensures ∙ c.if-not-is_plain_within.false) (c.is_within.ensures.0 c.if-not-is_within.false) (c.is_within-2.ensures.0 e),
  λ h. c.is_within-2.ensures.1 (λ t. h (scalars.Text t)),
)
