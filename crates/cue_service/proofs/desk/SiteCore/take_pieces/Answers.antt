use Rattle.cue_journal.specs.Blocks.{recovered_pieces}
use Rattle.cue_service.specs.Entries.{pieces_of}
use Rattle.cue_service.proofs.Gathered.{same_desk, gathers_none}
use Rattle.cue_service.proofs.desk.SiteCore.take_pieces.Goals as goal

pub returns-clause-ok : goal.returns-clause-ok
returns-clause-ok c = gathers_none (pieces_of (recovered_pieces c.args.bytes.now)) c.args.self.now c.args.self.now (same_desk c.args.self.now)
