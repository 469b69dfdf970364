-- Whole runs of the program, on devices whose bytes are known or not.
use Rattle.std.specs.Prelude.{◌≡◌, ◌⊎◌, ℕ, List, [], ◌++◌, Option, Some, None, Ok, Err, codes, true}
use Rattle.cue_replica.specs.Answers.{IsShown, HasBytesAndStatus, code_of}
use Rattle.cue_replica.specs.Language.{Table}
use Rattle.cue_program.specs.declared.Answer.{Answer}
use Rattle.cue_program.specs.declared.SiteQuestion.{SiteQuestion}
use Rattle.cue_program.specs.declared.Status.{Status}
use Rattle.cue_program.specs.declared.Status.TheVariants as statuses
use Rattle.cue_program.specs.declared.RunError.{RunError}
use Rattle.cue_program.specs.Calls.{FileCall}
use Rattle.cue_program.specs.Files.{Holdings}
use Rattle.cue_program.specs.Inputs.{IsUnified, Inputs, inputs_of}
use Rattle.cue_program.specs.Outlets.{AddsBytes, BreaksAfter, IsOutputUntouched, Passage}
use Rattle.cue_program.specs.Runs.{IsAnswerAdded, IsMergeOn, IsMergeStopOn, IsStopOn}
use Rattle.cue_command.specs.declared.fault.CommandError.{CommandError}
use Rattle.cue_command.specs.declared.fault.CommandError.TheVariants as faults
use Rattle.cue_command.specs.Faults.{IsComplaint, IsMemoryFault, EndsByFault, fault_of}
use Rattle.cue_command.specs.Networks.{IsNetworkEndedBy, IsTalkOn, IsTalkStopOn, NetworkReach}
use Rattle.cue_command.specs.Words.{WordsMeaning, asking, merging, serving, pushing, looping, meaning_of_words}

-- What stands around a run: what lies where, as far as that is known, and what the reader had; and
-- what its calls came to: that none was made but those that only read; that a merge put the state
-- of inputs at a name, or was stopped; and what the calls of a network came to.
pub record RunWorld : Type 1 where
  pub held : Option Holdings
  pub input : Option (List ℕ)
  pub OnlyReads : Type 0
  pub Merges : List ℕ → Inputs → Type 0
  pub StopsMerging : List ℕ → Inputs → RunError → Type 0
  pub network : NetworkReach

-- it stands around a run between two moments of its runtime
abbrev pub run_world : {S D M : Type 0} → (S → Option Holdings) → (S → FileCall D M → S → Type 0)
    → NetworkReach → S → S → Option (List ℕ) → RunWorld
run_world held Makes network old new input = record {
  held = held old;
  input = input;
  OnlyReads = new ≡ old;
  Merges = λ name inputs. IsMergeOn Makes name inputs old new;
  StopsMerging = λ name inputs stop. IsMergeStopOn Makes name inputs old new stop;
  network = network;
}

-- The answer to what is asked for. Merging says nothing; and what a site is asked is told while it
-- is made (`IsAnswerWritten`).
abbrev pub IsAnswerTo : WordsMeaning → RunWorld → Answer → Type 0
IsAnswerTo (asking question files) at answer = ⊥
IsAnswerTo (merging out files) at answer =
    at.Merges out (inputs_of at.held files at.input) × HasBytesAndStatus answer [] statuses.Done
IsAnswerTo (serving port count) at answer =
    at.network.Serves port count (Ok answer) × at.OnlyReads
IsAnswerTo (pushing port files) at answer =
    IsTalkOn (at.network.Pushes port) (inputs_of at.held files at.input) (Ok answer)
    × at.OnlyReads
IsAnswerTo (looping files) at answer =
    IsTalkOn at.network.Loops (inputs_of at.held files at.input) (Ok answer) × at.OnlyReads

-- What stops what is asked for.
abbrev pub IsStopTo : WordsMeaning → RunWorld → RunError → Type 0
IsStopTo (asking question files) at stop =
    IsStopOn (inputs_of at.held files at.input) stop × at.OnlyReads
IsStopTo (merging out files) at stop =
    at.StopsMerging out (inputs_of at.held files at.input) stop
IsStopTo (serving port count) at stop =
    IsNetworkEndedBy (λ halt. at.network.Serves port count (Err halt)) stop × at.OnlyReads
IsStopTo (pushing port files) at stop =
    IsTalkStopOn (at.network.Pushes port) (inputs_of at.held files at.input) stop
    × at.OnlyReads
IsStopTo (looping files) at stop =
    IsTalkStopOn at.network.Loops (inputs_of at.held files at.input) stop × at.OnlyReads

-- the words ask for something, to which this is the answer
abbrev pub IsAnswerToWords : List (List ℕ) → RunWorld → Answer → Type 0
IsAnswerToWords words at answer =
    (what : WordsMeaning) × (meaning_of_words words ≡ Some what) × IsAnswerTo what at answer

-- why there is no answer to the words: they ask for nothing, or memory ran out before anything was
-- read, or what they ask for was stopped
abbrev pub IsFaultOfWords : List (List ℕ) → RunWorld → CommandError → Type 0
IsFaultOfWords words at fault =
    ((fault ≡ faults.Usage) × (meaning_of_words words ≡ None) × at.OnlyReads)
    ⊎ (IsMemoryFault fault × at.OnlyReads)
    ⊎ ((what : WordsMeaning) × (meaning_of_words words ≡ Some what)
    × ((stop : RunError) × IsStopTo what at stop × (fault ≡ fault_of stop)))

-- the run ends with an answer to the words: its bytes were added to the output, the status is the
-- answer's, and where faults go nothing was added
abbrev pub IsRunAnswered : List (List ℕ) → RunWorld → Passage → Passage → ℕ → Type 0
IsRunAnswered words at out faults status =
    (answer : Answer) × IsAnswerToWords words at answer × (status ≡ code_of answer.status)
    × AddsBytes out answer.bytes.items × IsOutputUntouched faults

-- the run ends with a fault of the words, which is told
abbrev pub IsStopped : List (List ℕ) → RunWorld → Passage → Passage → ℕ → Type 0
IsStopped words at out faults status =
    (fault : CommandError) × IsFaultOfWords words at fault × EndsByFault fault status out faults

-- an answer to the words could not be written: some of it in front was, then a call of the output
-- failed, and that is told where faults go
abbrev pub IsUnwritten : List (List ℕ) → RunWorld → Passage → Passage → ℕ → Type 0
IsUnwritten words at out faults status =
    (answer : Answer) × IsAnswerToWords words at answer × (status ≡ 4)
    × BreaksAfter out answer.bytes.items × IsComplaint faults

-- the words ask this about inputs, all of which a site has taken that holds this table; no file
-- changed
abbrev pub IsAskedOf : List (List ℕ) → RunWorld → SiteQuestion → Table → Type 0
IsAskedOf words at question table =
    (files : List (List ℕ)) × (meaning_of_words words ≡ Some (asking question files))
    × IsUnified (inputs_of at.held files at.input) table
    × at.OnlyReads

-- these bytes, or some of them in front and then the line that tells that memory ran out
abbrev pub IsCutBy : List ℕ → List ℕ → Type 0
IsCutBy bytes said =
    (front back : List ℕ) × (bytes ≡ front ++ back)
    × (said ≡ front ++ codes "refused 24 Memory\n")

-- How a run ends that writes an answer about a table while it makes it: all of it was added to the
-- output, and the status is the answer's; or what was made before memory ran out, and then the line
-- that tells it; or some of that in front, and then a call of the output failed, which is told
-- where faults go.
abbrev pub EndsByAnswer : SiteQuestion → Table → Passage → Passage → ℕ → Type 0
EndsByAnswer question table out faults status =
    ((ended : Status) × (status ≡ code_of ended) × IsAnswerAdded question table out ended
    × IsOutputUntouched faults)
    ⊎ ((status ≡ 1)
    × ((shown : List ℕ) (ended : Status) → IsShown question table shown ended
    → (said : List ℕ) × IsCutBy shown said × AddsBytes out said)
    × IsOutputUntouched faults)
    ⊎ ((status ≡ 4) × (out.has_failed ≡ true)
    × ((shown : List ℕ) (ended : Status) → IsShown question table shown ended
    → (said : List ℕ) × ((said ≡ shown) ⊎ IsCutBy shown said) × BreaksAfter out said)
    × IsComplaint faults)

-- the run writes the answer that the words ask for
abbrev pub IsAnswerWritten : List (List ℕ) → RunWorld → Passage → Passage → ℕ → Type 0
IsAnswerWritten words at out faults status =
    (question : SiteQuestion) × (table : Table) × IsAskedOf words at question table
    × EndsByAnswer question table out faults status

-- How a run on these words ends, by what became of the output and of where faults go.
abbrev pub IsRun : List (List ℕ) → RunWorld → Passage → Passage → ℕ → Type 0
IsRun words at out faults status =
    IsRunAnswered words at out faults status
    ⊎ IsStopped words at out faults status
    ⊎ IsUnwritten words at out faults status
    ⊎ IsAnswerWritten words at out faults status
