use Rattle.std.proofs.Common.{Option, Some, None, IfSome, IfNone, ◌≤◌, length, sym, subst}
use Rattle.cue_replica.specs.Answers.{IsWholeAnswer}
use Rattle.cue_replica.specs.Language.{Table}
use Rattle.cue_replica.specs.declared.answers.Answer.{Answer}
use Rattle.cue_service.specs.declared.kept.CachedAnswer.{CachedAnswer}
use Rattle.cue_service.specs.Kept.{IsCachedAnswer, IsFoundWithin, IsWithin}
use Rattle.cue_service.specs.Limits.{IsOverLimit}
use Rattle.cue_service.proofs.Bounded.{same_within}
use Rattle.cue_service.proofs.board.CachedTable.answer_within.Goals as goal

pub returns-in-Whole-clause-found : goal.returns-in-Whole-clause-found
returns-in-Whole-clause-found c =
    let found = subst (λ (t : Table). IsCachedAnswer c.args.question t c.in-Some.found.now) c.self.view_is (c.in-Some.ensures c.self.inside.table c.self.invariant) in
    same_within c.args.limit c.args.question c.args.self.now c.in-Whole.told c.in_ok-share.field-0 c.in_ok-share.ensures
    (subst (λ (a : CachedAnswer). IsCachedAnswer c.args.question c.args.self.now a) c.in-Whole.is found)
    (subst (λ (a : CachedAnswer). IsWithin c.args.limit a) c.in-Whole.is (c.is_over.ensures.within c.if-is_over.false))
