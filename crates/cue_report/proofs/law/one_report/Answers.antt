use Rattle.cue_report.proofs.OneReport.{one_report}
use Rattle.cue_report.proofs.law.one_report.Goals as goal

pub returns : goal.returns
returns c = λ a b same. one_report _ _ same
