use Rattle.std.proofs.Common.{ℕ, List, Option, Some, None, IfSome, IfNone, ◌≤◌, length, sym, subst}
use Rattle.cue_replica.specs.Answers.{IsWholeAnswer}
use Rattle.cue_replica.specs.Language.{Table}
use Rattle.cue_replica.specs.declared.answers.Answer.{Answer}
use Rattle.cue_service.specs.declared.kept.KeptAnswer.{KeptAnswer}
use Rattle.cue_service.specs.Kept.{IsKeptAnswer}
use Rattle.cue_service.proofs.Bounded.{same_within}
use Rattle.cue_service.specs.Limits.{IsOverLimit}
use Rattle.cue_service.proofs.board.CachedTable.make_answer.Goals as goal

pub invariant_of-self : goal.invariant_of-self
invariant_of-self c =
    let found = subst (λ (o : Option Answer). IfSome o (λ answer. IsWholeAnswer c.args.question c.self.inside.table answer × (length answer.bytes.items ≤ c.args.limit))) c.in-Some.is c.in_ok-answer.ensures.some in
    c.keep.ensures c.self.inside.table c.self.invariant (c.in-Some.answer, found.0, c.in_ok-told-in-Some.ensures.bytes, c.in_ok-told-in-Some.ensures.status)

pub invariant_of-self-in-None : goal.invariant_of-self-in-None
invariant_of-self-in-None c =
    c.keep-in-None.ensures c.self.inside.table c.self.invariant
    (subst (λ (o : Option Answer). IfNone o (IsOverLimit c.args.limit c.args.question c.self.inside.table)) c.in-None.is c.in_ok-answer.ensures.none)

pub returns-in_ok-shared-in-Some-clause-found : goal.returns-in_ok-shared-in-Some-clause-found
returns-in_ok-shared-in-Some-clause-found c =
    let found = subst (λ (o : Option Answer). IfSome o (λ answer. IsWholeAnswer c.args.question c.self.inside.table answer × (length answer.bytes.items ≤ c.args.limit))) c.in-Some.is c.in_ok-answer.ensures.some in
    let told = c.in_ok-told-in-Some in
    same_within c.args.limit c.args.question c.args.self.now told.told c.in_ok-shared-in-Some.shared c.in_ok-shared-in-Some.ensures
    (subst (λ (t : Table). IsKeptAnswer c.args.question t told.told) c.self.view_is (c.in-Some.answer, found.0, told.ensures.bytes, told.ensures.status))
    (subst (λ (l : List ℕ). length l ≤ c.args.limit) (sym told.ensures.bytes) found.1)
