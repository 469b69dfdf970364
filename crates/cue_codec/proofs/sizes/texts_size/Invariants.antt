use Rattle.std.proofs.Common.{◌≡◌, ◌+◌, length, take}
use Rattle.std.specs.List.{flat_map}
use Rattle.cue_codec.specs.Parts.{text_bytes}
use Rattle.cue_codec.specs.Size.{at_most_64_bits}
use Rattle.cue_codec.proofs.sizes.texts_size.Given as goal

abbrev pub invariant-loop-text : goal.invariant-loop-text
invariant-loop-text l = l.size ≡ at_most_64_bits (8 + length (flat_map text_bytes (take l.text-index l.texts)))
