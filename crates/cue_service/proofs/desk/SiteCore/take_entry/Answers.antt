use Rattle.cue_service.proofs.Pulls.{covers_known}
use Rattle.cue_service.proofs.desk.SiteCore.take_entry.Goals as goal

pub returns-then-branch-clause-brings : goal.returns-then-branch-clause-brings
returns-then-branch-clause-brings c of acceptable = covers_known c.args.self.now c.args.entry.now of (c.in_ok-contains_entry-in-Text.ensures c.if-branch.true)
