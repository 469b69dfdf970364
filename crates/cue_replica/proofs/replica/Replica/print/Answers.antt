use Rattle.std.proofs.Common.{◌≡◌, string_bytes, IfOk, subst}
use Rattle.std.proofs.lemmas.Result.{IfOk-weaker}
use Rattle.cue_replica.specs.Language.{Table}
use Rattle.cue_replica.specs.PrintedAgain.{IsStateReadAgain}
use Rattle.cue_replica.specs.Reports.{printed_text}
use Rattle.cue_replica.proofs.PrintedAgain.{text_again}
use Rattle.cue_replica.proofs.replica.Replica.print.Goals as goal

pub returns-clause-again : goal.returns-clause-again
returns-clause-again c =
    let table = c.self.inside.table in
    subst (λ (t : Table). IfOk c.print.result (λ text. IsStateReadAgain t (string_bytes text))) c.self.view_is
    (IfOk-weaker c.print.result (λ text. string_bytes text ≡ printed_text table) (λ text. IsStateReadAgain table (string_bytes text))
    (λ text is. text_again table (string_bytes text) c.self.invariant is) c.print.ensures)
