use Rattle.std.proofs.Common.{refl, sym, subst}
use Rattle.cue_service.specs.declared.route.Route.{Route}
use Rattle.cue_service.specs.Answering.{AnswersAs}
use Rattle.cue_service.specs.Statuses.{place_fields}
use Rattle.cue_service.proofs.Asking.{asked_more}
use Rattle.cue_service.proofs.Opening.{on_ok}
use Rattle.cue_service.proofs.desk.SiteCore.answer_as.Goals as goal

pub returns-in_ok-answer_question-in-Ask-clause-ok : goal.returns-in_ok-answer_question-in-Ask-clause-ok
returns-in_ok-answer_question-in-Ask-clause-ok c =
    on_ok c.name_with_state.result
    (λ named. subst (λ (r : Route). AnswersAs r c.args.self.now c.args.request.now c.name_with_state.new.response (record c.args.self.now { board = c.answer_question.new.board; standing = c.note_sizes.new.self })) (sym c.in-Ask.is) (
      record { rules = refl; table = c.answer_question.ensures.same; waits = refl; pieces = refl },
      asked_more c.args.self.now.rules.limit c.in-Ask.question c.args.self.now.board c.args.request.now (place_fields c.in-Ask.question c.args.self.now.pieces) c.answer_question.new.response c.name_with_state.new.response c.in_ok-answer_question-in-Ask.ensures.asked c.name_with_state.ensures.status c.name_with_state.ensures.body named,
    ))
    c.name_with_state.ensures.named
