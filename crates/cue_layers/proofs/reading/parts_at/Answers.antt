use Rattle.cue_codec.specs.Parts.{text_bytes}
use Rattle.cue_codec.specs.Reading.{IsShort}
use Rattle.cue_layers.specs.Bytes.{block_bytes}
use Rattle.cue_layers.specs.Inner.Reading.{AreBoth, both_bytes, IsKind, kind_bytes, IsWide, wide_bytes, IsLong}
use Rattle.cue_layers.proofs.ReadBytes.{second_missing, one_key}
use Rattle.cue_layers.proofs.reading.parts_at.Goals as goal

pub returns-in_err-revision-clause-none : goal.returns-in_err-revision-clause-none
returns-in_err-revision-clause-none c =
    rw c.from_residual-in_err-revision.ensures (second_missing (AreBoth IsKind IsShort) (both_bytes kind_bytes text_bytes) (AreBoth IsWide IsLong) (both_bytes wide_bytes block_bytes)
    (c.in_ok-kind.kind, c.in_ok-kind.name.now) c.args.bytes.now c.in_ok-kind.rest.now one_key c.in_ok-kind.ensures.some c.in_err-revision.ensures.none)
