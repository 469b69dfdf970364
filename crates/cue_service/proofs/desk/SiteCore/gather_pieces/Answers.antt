use Rattle.cue_journal.specs.Blocks.{recovered_pieces}
use Rattle.cue_service.specs.Entries.{pieces_of}
use Rattle.cue_service.proofs.Gathered.{gathers_none}
use Rattle.cue_service.proofs.desk.SiteCore.gather_pieces.Goals as goal

pub returns-in-Err-clause-gathers : goal.returns-in-Err-clause-gathers
returns-in-Err-clause-gathers c =
    let same = c.in-Err.ensures.err in
    gathers_none (pieces_of (recovered_pieces c.args.bytes.now)) c.args.self.now _ (record { rules = same.rules; table = same.table; waits = same.waits; pieces = same.pieces })
