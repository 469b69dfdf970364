use Rattle.std.proofs.Common.{IsTrue, map, take}
use Rattle.cue_service.specs.Answering.{GathersPieces}
use Rattle.cue_service.specs.Entries.{pieces_of}
use Rattle.cue_service.specs.Pulls.{CoversAll, IsOfListed}
use Rattle.cue_service.proofs.desk.SiteCore.gather_entries.Given as goal

abbrev pub invariant-loop-entry : goal.invariant-loop-entry
invariant-loop-entry l = record {
  gathers : GathersPieces (pieces_of (map (λ v. v.items) (take l.entry-index l.entries))) l.fn.self l.self;
  brings : IsTrue l.sufficed → IsOfListed l.fn.self → CoversAll l.self.board (pieces_of (map (λ v. v.items) (take l.entry-index l.entries)));
}
