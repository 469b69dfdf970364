use Rattle.cue_layers.specs.Bytes.{block_bytes}
use Rattle.cue_layers.specs.Inner.Reading.{IsWide, wide_bytes, IsLong}
use Rattle.cue_layers.proofs.ReadBytes.{second_missing, one_wide}
use Rattle.cue_layers.proofs.reading.says_at.Goals as goal

pub returns-in_err-state-clause-none : goal.returns-in_err-state-clause-none
returns-in_err-state-clause-none c =
    rw c.from_residual-in_err-state.ensures (second_missing IsWide wide_bytes IsLong block_bytes c.in_ok-revision.revision c.args.bytes.now c.in_ok-revision.rest.now one_wide c.in_ok-revision.ensures.some c.in_err-state.ensures.none)
