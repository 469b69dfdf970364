use Rattle.std.proofs.Common.{◌≡◌, [], ◌∷◌, ◌++◌, drop, length, subst}
use Rattle.json.specs.Print.{print, print_from, token_text}
use Rattle.json.specs.Reads.{token_of}
use Rattle.cue_report.specs.Stream.{PendingText, opener}
use Rattle.cue_report.proofs.Flows.{one_behind}
use Rattle.cue_report.proofs.stream.Stream.write.Goals as goal

pub returns-clause-pending : goal.returns-clause-pending
returns-clause-pending c =
    let inside = c.self.inside in
    let token = token_of c.args.token in
    subst (λ (v : PendingText). drop (length (token_text (opener inside.primed))) (print c.token.new.self.tokens) ≡ v.pending ++ print_from v.owes (token ∷ [])) c.self.view_is
    (one_behind inside.primed inside.owes inside.writer.tokens c.token.new.self.tokens c.self.invariant.rest token c.self.invariant.tokens c.self.invariant.owes c.in_ok-token.ensures.ok)
