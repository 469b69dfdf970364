use Rattle.std.proofs.Common.{IfErr, IfOk, subst, sym}
use Rattle.cue_replica.specs.declared.SiteQuestion.{SiteQuestion}
use Rattle.cue_replica.specs.declared.Status.TheVariants.{Done}
use Rattle.cue_program.specs.Outlets.{passage_of}
use Rattle.cue_program.specs.Runs.{IsAnswerAdded, IsAnswerCut}
use Rattle.cue_program.proofs.Tellings.{state_added, state_cut}
use Rattle.cue_program.proofs.telling.write_out.Goals as goal

pub returns-in_ok-write_state-in-None-clause-told : goal.returns-in_ok-write_state-in-None-clause-told
returns-in_ok-write_state-in-None-clause-told g c =
    let passage = passage_of g.W.Write.contents c.args.out.now c.write_state.new.out in
    subst (λ (question : SiteQuestion). IsAnswerAdded question c.args.site.now passage Done) (sym c.in-None.ensures.state) (state_added c.args.site.now passage c.in_ok-write_state-in-None.ensures.written)

pub returns-in-Some-clause-told : goal.returns-in-Some-clause-told
returns-in-Some-clause-told g c =
    let passage = passage_of g.W.Write.contents c.args.out.now c.write_text.new.out in
    subst (λ (question : SiteQuestion). IfOk c.write_text.result (IsAnswerAdded question c.args.site.now passage)) c.in-Some.ensures.text c.write_text.ensures.told

pub returns-in-Some-clause-cut : goal.returns-in-Some-clause-cut
returns-in-Some-clause-cut g c =
    let passage = passage_of g.W.Write.contents c.args.out.now c.write_text.new.out in
    subst (λ (question : SiteQuestion). IfErr c.write_text.result (IsAnswerCut question c.args.site.now passage)) c.in-Some.ensures.text c.write_text.ensures.cut
