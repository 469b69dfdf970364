-- What a call came to, and what it wrote.
use Rattle.std.specs.Prelude.{◌≡◌, ◌⊎◌, ℕ, ◌<◌, ◌≤◌, List, ◌++◌, length, drop, Result, Ok, Err}
use Rattle.cue_replica.specs.Accepted.{number_of}
use Rattle.cue_replica.specs.Answers.{code_of}
use Rattle.cue_replica.specs.declared.answers.Answer.{Answer}
use Rattle.cue_embed.specs.declared.outcome.CallOutcome.{CallOutcome}
use Rattle.cue_embed.specs.declared.outcome.CallError.{CallError}

-- the outcome of a call that has an answer of so many bytes
abbrev pub outcome_of_answer : ℕ → ℕ → CallOutcome
outcome_of_answer length status =
    record { length = length; place = 0; status = status; refusal = 0; input = 0 }

-- the outcome of a call that has none, for this reason
abbrev pub outcome_of_error : CallError → CallOutcome
outcome_of_error stop =
    record {
      length = 0;
      place = stop.why.place;
      status = 1;
      refusal = number_of stop.why.kind;
      input = stop.input;
    }

-- The bytes are written to the front, and what stood behind them is kept; or they have no room
-- there, which is told with their number, and all is kept.
abbrev pub IsGiven : List ℕ → ℕ → List ℕ → List ℕ → CallOutcome → Type 0
IsGiven bytes status old new outcome =
    ((length bytes ≤ length old) × (new ≡ bytes ++ drop (length bytes) old)
    × (outcome ≡ outcome_of_answer (length bytes) status))
    ⊎ ((length old < length bytes) × (new ≡ old) × (outcome ≡ outcome_of_answer (length bytes) 5))

-- The answer is given with its status, or it is told why there is none, and all is kept.
abbrev pub IsOutcomeOf : Result Answer CallError → List ℕ → List ℕ → CallOutcome → Type 0
IsOutcomeOf (Ok answer) old new outcome =
    IsGiven answer.bytes.items (code_of answer.status) old new outcome
IsOutcomeOf (Err stop) old new outcome = (new ≡ old) × (outcome ≡ outcome_of_error stop)
