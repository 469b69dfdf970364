-- What each call writes and tells, by the store's own meaning of states and texts.
use Rattle.std.specs.Prelude.{ℕ, List, [], ◌∷◌, Result, MatchResult}
use Rattle.cue_lattice.specs.World.{Piece, text, state}
use Rattle.cue_replica.specs.Accepted.{IsOfPieces}
use Rattle.cue_replica.specs.Language.{Table}
use Rattle.cue_replica.specs.Answers.{IsWholeAnswer}
use Rattle.cue_replica.specs.declared.question.SiteQuestion.{SiteQuestion}
use Rattle.cue_replica.specs.declared.question.SiteQuestion.TheVariants as questions
use Rattle.cue_replica.specs.declared.answers.Answer.{Answer}
use Rattle.cue_embed.specs.declared.outcome.CallOutcome.{CallOutcome}
use Rattle.cue_embed.specs.declared.outcome.CallError.{CallError}
use Rattle.cue_embed.specs.Outcomes.{IsOutcomeOf}
use Rattle.cue_embed.specs.Stops.{IsMemoryError, IsStateStop, IsSubmitStop, IsMergeError}

-- The answer to the question of a site that has accepted exactly these pieces: each is acceptable,
-- and its table is valid, and their unification.
abbrev pub IsCallAnswer : SiteQuestion → List Piece → Answer → Type 0
IsCallAnswer question pieces answer =
    (table : Table) × IsOfPieces table pieces × IsWholeAnswer question table answer

-- What is written and told where an answer is such a one, and otherwise there is none for such a
-- reason.
abbrev pub IsCallOutcome : (Answer → Type 0) → (CallError → Type 0) → List ℕ → List ℕ → CallOutcome → Type 0
IsCallOutcome IsAnswer IsStop old new outcome =
    (answer : Result Answer CallError) × MatchResult answer IsAnswer IsStop
    × IsOutcomeOf answer old new outcome

-- the state of a new site
abbrev pub IsNew : List ℕ → List ℕ → CallOutcome → Type 0
IsNew = IsCallOutcome (IsCallAnswer questions.State []) IsMemoryError

-- the state of a site that has accepted just a state and a text
abbrev pub IsSubmitted : List ℕ → List ℕ → List ℕ → List ℕ → CallOutcome → Type 0
IsSubmitted bytes more =
    IsCallOutcome (IsCallAnswer questions.State (state bytes ∷ text more ∷ [])) (IsSubmitStop bytes more)

-- the state of a site that has accepted just two states
abbrev pub IsMergedState : List ℕ → List ℕ → List ℕ → List ℕ → CallOutcome → Type 0
IsMergedState bytes other =
    IsCallOutcome (IsCallAnswer questions.State (state bytes ∷ state other ∷ [])) (IsMergeError bytes other)

-- what a site answers that has accepted just a state
abbrev pub AnswersState : SiteQuestion → List ℕ → List ℕ → List ℕ → CallOutcome → Type 0
AnswersState question bytes = IsCallOutcome (IsCallAnswer question (state bytes ∷ [])) (IsStateStop bytes)
