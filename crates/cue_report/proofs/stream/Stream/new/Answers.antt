use Rattle.std.proofs.Common.{false}
use Rattle.cue_report.proofs.Flows.{none_behind}
use Rattle.cue_report.proofs.stream.Stream.new.Goals as goal

pub returns-clause-pending : goal.returns-clause-pending
returns-clause-pending c = none_behind false c.in_ok-writer.writer.tokens c.in_ok-writer.ensures.tokens
