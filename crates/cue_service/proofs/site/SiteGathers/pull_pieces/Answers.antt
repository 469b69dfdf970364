use Rattle.std.proofs.Common.{subst}
use Rattle.cue_journal.specs.Blocks.{recovered_pieces}
use Rattle.cue_service.specs.declared.desk.SiteCore.{SiteCore}
use Rattle.cue_service.specs.Answering.{GathersPieces}
use Rattle.cue_service.specs.Entries.{pieces_of}
use Rattle.cue_service.specs.Pulls.{CoversAll, IsOfListed}
use Rattle.cue_service.proofs.Gathered.{gathers_none}
use Rattle.cue_service.proofs.site.SiteGathers.pull_pieces.Goals as goal

pub returns-then-not-has_room-clause-gathers : goal.returns-then-not-has_room-clause-gathers
returns-then-not-has_room-clause-gathers g c = record {
  gathers = gathers_none (pieces_of (recovered_pieces c.args.bytes.now)) c.args.self.now.desk c.has_room.new.self.desk c.has_room.ensures.same;
  files = c.has_room.ensures.files;
}

pub returns-clause-gathers : goal.returns-clause-gathers
returns-clause-gathers g c = record {
  gathers = subst (λ (desk : SiteCore). GathersPieces (pieces_of (recovered_pieces c.args.bytes.now)) desk c.gather_pieces.new.self) (c.has_room.ensures.desk c.if-not-has_room.false) c.gather_pieces.ensures.gathers;
  files = c.has_room.ensures.files;
}

pub returns-clause-brings : goal.returns-clause-brings
returns-clause-brings g c = λ well.
    subst (λ (desk : SiteCore). IsOfListed desk → CoversAll c.gather_pieces.new.self.board (pieces_of (recovered_pieces c.args.bytes.now))) (c.has_room.ensures.desk c.if-not-has_room.false) (c.gather_pieces.ensures.brings well)
