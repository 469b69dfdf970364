use Rattle.std.proofs.Common.{◌≡◌, ℕ, List, true, refl, rules, subst}
use Rattle.std.proofs.lemmas.Result.{err_from_is_err_and}
use Rattle.cue_replica.specs.Language.{language}
use Rattle.cue_program.specs.Outlets.{AddsBytes, passage_of}
use Rattle.cue_program.specs.declared.stop.RunError.TheVariants.{Device}
use Rattle.cue_program.proofs.Pieces.{untold_at_flush}
use Rattle.cue_program.proofs.writing.write_state.Goals as goal

pub returns-in_err-flush-clause-untold : goal.returns-in_err-flush-clause-untold
returns-in_err-flush-clause-untold g c =
    let contents = g.W.Write.contents in
    let failed : c.flush.new.self.failed ≡ true = search rules in
    let p = err_from_is_err_and c.from_residual-in_err-flush.result c.from_residual-in_err-flush.ensures.1 in
    rw (p.1, p.2) (untold_at_flush contents c.args.out.now c.write_rest.new.out c.flush.new.self (language.written c.args.site.now) Device
    (subst (λ (bytes : List ℕ). AddsBytes (passage_of contents c.args.out.now c.write_rest.new.out) bytes) c.in_ok-state.ensures c.in_ok-write_rest.ensures.written)
    c.flush.ensures.kept failed refl)
