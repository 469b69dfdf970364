use Rattle.std.proofs.Common.{take}
use Rattle.cue_layers_site.proofs.Listed.{AreOthers, bytes_of}
use Rattle.cue_layers_site.proofs.conditions.has_tag.Given as goal

abbrev pub invariant-loop-other : goal.invariant-loop-other
invariant-loop-other l = AreOthers (bytes_of (take l.other-index l.tags)) l.fn.tag
