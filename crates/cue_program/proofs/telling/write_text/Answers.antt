use Rattle.std.proofs.Common.{refl, subst}
use Rattle.std.proofs.lemmas.Result.{err_from_is_err_and}
use Rattle.cue_replica.specs.Answers.{of_text}
use Rattle.cue_program.specs.Outlets.{AddsBytes, BreaksAfter, passage_of}
use Rattle.cue_program.specs.declared.stop.RunError.TheVariants.{Device}
use Rattle.cue_program.proofs.Tellings.{end_cut, text_added}
use Rattle.cue_program.proofs.telling.write_text.Goals as goal

pub returns-in_ok-write_out-in-Ok-clause-told : goal.returns-in_ok-write_out-in-Ok-clause-told
returns-in_ok-write_out-in-Ok-clause-told g c =
    let contents = g.W.Write.contents in
    let mid = c.write_answer.new.out in
    text_added contents (of_text c.args.question) c.args.site.now c.args.out.now mid c.write_out.new.self c.in-Ok.status c.in-Ok.ensures.told
    (subst (AddsBytes (passage_of contents mid c.write_out.new.self)) c.line_end.ensures c.in_ok-write_out-in-Ok.ensures.told)

pub returns-in_err-write_out-in-Ok-clause-cut : goal.returns-in_err-write_out-in-Ok-clause-cut
returns-in_err-write_out-in-Ok-clause-cut g c =
    let contents = g.W.Write.contents in
    let mid = c.write_answer.new.out in
    let p = err_from_is_err_and c.from_residual.result c.from_residual.ensures.1 in
    rw (p.1, p.2) (end_cut contents (of_text c.args.question) c.args.site.now c.args.out.now mid c.write_out.new.self c.in-Ok.status c.in-Ok.ensures.told Device refl
    (subst (BreaksAfter (passage_of contents mid c.write_out.new.self)) c.line_end.ensures c.in_err-write_out-in-Ok.ensures.broken))
