use Rattle.std.proofs.Common.{map, take}
use Rattle.cue_service.specs.Entries.{pieces_of}
use Rattle.cue_service.specs.Pulls.{CoversAll}
use Rattle.cue_service.proofs.desk.SiteCore.may_bring.Given as goal

abbrev pub invariant-loop-entry : goal.invariant-loop-entry
invariant-loop-entry l = CoversAll l.all (pieces_of (map (λ v. v.items) (take l.entry-index l.entries)))
