use Rattle.cue_owners.specs.Patterns.{IsWide, IsKey}
use Rattle.cue_owners.proofs.Fitting.{front_key, no}
use Rattle.cue_owners.proofs.forms.is_pattern.Goals as goal

pub returns-in-Some : goal.returns-in-Some
returns-in-Some c =
    front_key c.args.word.now c.in-Some.key.now c.is_key-in-Some.result (no (IsWide c.args.word.now) c.is_wide.result c.if-is_wide.false c.is_wide.ensures) (no (IsKey c.args.word.now) c.is_key.result c.if-is_key.false c.is_key.ensures) c.in-Some.ensures c.is_key-in-Some.ensures
