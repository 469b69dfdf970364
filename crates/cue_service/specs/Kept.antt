-- What was told of a table, and is kept as long as it stands.
use Rattle.std.specs.Prelude.{◌≡◌, ◌≤◌, ℕ, length, IfSome, Option, Some, None}
use Rattle.cue_replica.specs.Language.{Table}
use Rattle.cue_replica.specs.Answers.{IsWholeAnswer}
use Rattle.cue_replica.specs.declared.question.SiteQuestion.{SiteQuestion}
use Rattle.cue_replica.specs.declared.question.SiteQuestion.TheVariants as questions
use Rattle.cue_replica.specs.declared.answers.Answer.{Answer}
use Rattle.cue_service.specs.declared.kept.AnswerCache.{AnswerCache}
use Rattle.cue_service.specs.declared.kept.CachedAnswer.{CachedAnswer}
use Rattle.cue_service.specs.declared.kept.CachedAnswer.TheVariants.{Whole, LongerThan}
use Rattle.cue_service.specs.declared.kept.KeptAnswer.{KeptAnswer}
use Rattle.cue_service.specs.Limits.{IsOverLimit}
use Rattle.cue_service.specs.Tags.{tag_of}

-- it is what is told of the table
abbrev pub IsKeptAnswer : SiteQuestion → Table → KeptAnswer → Type 0
IsKeptAnswer question table told =
    (answer : Answer) × IsWholeAnswer question table answer × (told.bytes ≡ answer.bytes.items)
    × (told.status ≡ answer.status)

-- so it is, or it is longer than a limit
abbrev pub IsCachedAnswer : SiteQuestion → Table → CachedAnswer → Type 0
IsCachedAnswer question table (Whole told) = IsKeptAnswer question table told
IsCachedAnswer question table (LongerThan limit) = IsOverLimit limit question table

-- an answer that is kept has no more bytes than the limit
abbrev pub IsWithin : ℕ → CachedAnswer → Type 0
IsWithin limit (Whole told) = length told.bytes ≤ limit
IsWithin limit (LongerThan length) = Unit {0}

-- it has no more bytes than the limit, or it is over it
abbrev pub IsFoundWithin : ℕ → SiteQuestion → Table → Option KeptAnswer → Type 0
IsFoundWithin limit question table None = IsOverLimit limit question table
IsFoundWithin limit question table (Some told) =
    IsKeptAnswer question table told × (length told.bytes ≤ limit)

-- all that is kept is of this table
pub record AreAnswersKept (table : Table) (kept : AnswerCache) : Type 0 where
  pub tag : IfSome kept.tag (λ tag. tag.bytes ≡ tag_of table)
  pub export : IfSome kept.export (IsCachedAnswer questions.Export table)
  pub print : IfSome kept.print (IsCachedAnswer questions.Print table)
  pub report : IfSome kept.report (IsCachedAnswer questions.Report table)
  pub state : IfSome kept.state (IsCachedAnswer questions.State table)
