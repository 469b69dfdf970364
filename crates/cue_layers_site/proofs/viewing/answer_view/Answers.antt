use Rattle.std.proofs.Common.{[], inl, subst}
use Rattle.cue_replica.specs.Language.{Table}
use Rattle.cue_service.specs.Answering.{IsAsked}
use Rattle.cue_layers_site.specs.Views.{answer_limit}
use Rattle.cue_layers_site.proofs.Outcomes.{on_ok}
use Rattle.cue_layers_site.proofs.viewing.answer_view.Goals as goal

pub returns-in-Ok : goal.returns-in-Ok
returns-in-Ok c =
    on_ok c.answer_question.result (λ asked. (
      c.in_ok-whole.whole,
      c.in_ok-whole.ensures,
      inl (c.in-Ok.view, c.in-Ok.ensures.view, subst (λ (t : Table). IsAsked answer_limit c.args.question t c.args.request.now [] c.answer_question.new.response) c.new-board.ensures asked),
    )) c.answer_question.ensures.asked
