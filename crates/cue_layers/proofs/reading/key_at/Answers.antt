use Rattle.cue_codec.specs.Parts.{text_bytes}
use Rattle.cue_codec.specs.Reading.{IsShort}
use Rattle.cue_layers.specs.Inner.Reading.{IsKind, kind_bytes}
use Rattle.cue_layers.proofs.ReadBytes.{second_missing, one_kind}
use Rattle.cue_layers.proofs.reading.key_at.Goals as goal

pub returns-in_err-name-clause-none : goal.returns-in_err-name-clause-none
returns-in_err-name-clause-none c =
    rw c.from_residual-in_err-name.ensures (second_missing IsKind kind_bytes IsShort text_bytes c.in_ok-kind.kind c.args.bytes.now c.in_ok-kind.rest.now one_kind c.in_ok-kind.ensures.some c.in_err-name.ensures.none)
