-- What a run makes of its inputs.
use Rattle.std.specs.Prelude.{◌≡◌, ◌⊎◌, ℕ, List, true}
use Rattle.cue_replica.specs.Answers.{IsShown}
use Rattle.cue_replica.specs.declared.Answer.{Answer}
use Rattle.cue_replica.specs.declared.SiteQuestion.{SiteQuestion}
use Rattle.cue_replica.specs.declared.Status.{Status}
use Rattle.cue_replica.specs.Language.{Table, language}
use Rattle.cue_program.specs.Calls.{FileCall, PutsFile}
use Rattle.cue_program.specs.Inputs.{Inputs, IsUnified, IsInputRefused, IsInputUnread}
use Rattle.cue_program.specs.Outlets.{AddsBytes, HasBegun, Passage}
use Rattle.cue_program.specs.Stopped.{StopsPutting}
use Rattle.cue_program.specs.Stops.{IsDeviceStop, IsMemoryStop}
use Rattle.cue_program.specs.declared.stop.RunError.{RunError}

-- the answer to the question about a site that has taken all inputs
abbrev pub IsAnswerOn : SiteQuestion → Inputs → Answer → Type 0
IsAnswerOn question inputs shown =
    (table : Table) × IsUnified inputs table
    × IsShown question table shown.bytes.items shown.status

-- an answer was added to a stream
abbrev pub IsAnswerAdded : SiteQuestion → Table → Passage → Status → Type 0
IsAnswerAdded question table passage status =
    (shown : List ℕ) × IsShown question table shown status × AddsBytes passage shown

-- Why not all of an answer was added, which is made while it is written: a call of the stream
-- failed; or memory ran out. What was added is the front of the answer.
abbrev pub IsAnswerCut : SiteQuestion → Table → Passage → RunError → Type 0
IsAnswerCut question table passage stop =
    ((IsDeviceStop stop × (passage.has_failed ≡ true)) ⊎ IsMemoryStop stop)
    × ((shown : List ℕ) (status : Status) → IsShown question table shown status
    → HasBegun passage shown)

-- What ends a run before all inputs were taken: the first that is refused, or can't be read; or
-- memory ran out.
abbrev pub IsStopOn : Inputs → RunError → Type 0
IsStopOn inputs stop = IsInputRefused inputs stop ⊎ IsInputUnread inputs stop ⊎ IsMemoryStop stop

-- the state bytes of a site that has taken all inputs were put under the name, by the calls that
-- put them there and no others
abbrev pub IsMergeOn : {S D M : Type 0} → (S → FileCall D M → S → Type 0) → List ℕ → Inputs
    → S → S → Type 0
IsMergeOn Makes name inputs old new =
    (table : Table) × IsUnified inputs table × PutsFile Makes name (language.written table) old new

-- What ends a merge: what ends a run, and then no file was asked for but those that were read; or
-- all inputs were taken, and the bytes could not be put under the name or memory ran out.
abbrev pub IsMergeStopOn : {S D M : Type 0} → (S → FileCall D M → S → Type 0) → List ℕ → Inputs
    → S → S → RunError → Type 0
IsMergeStopOn Makes name inputs old new stop =
    (IsStopOn inputs stop × (new ≡ old))
    ⊎ ((table : Table) × IsUnified inputs table × (IsDeviceStop stop ⊎ IsMemoryStop stop)
    × StopsPutting Makes name old new)
