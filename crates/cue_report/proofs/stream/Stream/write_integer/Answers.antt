use Rattle.std.proofs.Common.{◌≡◌, [], ◌∷◌, ◌++◌, drop, length, ap, subst, ◌∙◌}
use Rattle.std.proofs.Math.Facts.{to_z-of_z}
use Rattle.std.specs.Fmt.{signed_decimal}
use Rattle.json.specs.Print.{print, print_from, token_text}
use Rattle.json.specs.Token.{number}
use Rattle.cue_report.specs.Stream.{PendingText, opener}
use Rattle.cue_report.proofs.Flows.{one_behind}
use Rattle.cue_report.proofs.stream.Stream.write_integer.Goals as goal

pub returns-clause-pending : goal.returns-clause-pending
returns-clause-pending c =
    let inside = c.self.inside in
    let token = number (signed_decimal c.args.integer) in
    subst (λ (v : PendingText). drop (length (token_text (opener inside.primed))) (print c.i64.new.self.tokens) ≡ v.pending ++ print_from v.owes (token ∷ [])) c.self.view_is
    (one_behind inside.primed inside.owes inside.writer.tokens c.i64.new.self.tokens c.self.invariant.rest token c.self.invariant.tokens c.self.invariant.owes (c.in_ok-i64.ensures.ok ∙ ap (λ z. inside.writer.tokens ++ number (signed_decimal z) ∷ []) (to_z-of_z c.ranges.integer)))
