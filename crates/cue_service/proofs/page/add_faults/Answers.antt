use Rattle.cue_service.proofs.Opening.{on_ok}
use Rattle.cue_service.proofs.page.add_faults.Goals as goal

pub returns-clause-page : goal.returns-clause-page
returns-clause-page c = on_ok c.add_lines-3.result (λ next page. next (c.in_ok-add_lines.ensures page)) c.add_lines-3.ensures
