-- Whole runs of the program, on devices whose bytes are known or not.
use Rattle.std.specs.Prelude.{◌≡◌, ◌⊎◌, ℕ, List, [], ◌++◌, Option, Some, None, codes, decimal, map, true}
use Rattle.cue_replica.specs.Answers.{IsShown, code_of}
use Rattle.cue_replica.specs.declared.answers.Answer.{Answer}
use Rattle.cue_replica.specs.Language.{Table}
use Rattle.cue_policies.specs.declared.kind.LayerKind.{LayerKind}
use Rattle.cue_program.specs.declared.SiteQuestion.{SiteQuestion}
use Rattle.cue_program.specs.declared.SiteQuestion.TheVariants as questions
use Rattle.cue_program.specs.declared.Status.{Status}
use Rattle.cue_program.specs.Calls.{FileCall}
use Rattle.cue_program.specs.Files.{Holdings, known_at}
use Rattle.cue_program.specs.Outlets.{AddsBytes, BreaksAfter, IsOutputUntouched, Passage}
use Rattle.cue_program.specs.Runs.{IsAnswerAdded}
use Rattle.cue_layers_program.specs.Answers.{IsJoinedView, IsLayerList, IsShownOf, IsShowStop, IsViewStop}
use Rattle.cue_layers_program.specs.Changes.{PutOrder, order, IsPutMade, IsPutStop, IsRemoved}
use Rattle.cue_layers_program.specs.Changes.{IsRemovalStop}
use Rattle.cue_layers_program.specs.Joined.{IsJoinStop}
use Rattle.cue_layers_program.specs.Merges.{IsMapMerge, IsMapMergeStop}
use Rattle.cue_layers_program.specs.Tries.{IsTried, IsTryStop}
use Rattle.cue_layers_program.specs.declared.stop.LayersStop.{LayersStop}
use Rattle.cue_layers_command.specs.Faults.{IsLayersComplaint, IsMemoryLayersFault, EndsByLayersFault, layers_fault_of}
use Rattle.cue_layers_command.specs.Places.{IsPlaceText, IsWhyOf, absent_line}
use Rattle.cue_layers_command.specs.Words.{ArgumentsMeaning, meaning_of_arguments, putting, removing, trying, merging, asking}
use Rattle.cue_layers_command.specs.Words.{listing, showing, tracing}
use Rattle.cue_layers_command.specs.declared.fault.LayersCommandError.{LayersCommandError}
use Rattle.cue_layers_command.specs.declared.fault.LayersCommandError.TheVariants as faults

-- What is around a run: what lies where, as far as that is known, and what the reader had; and what
-- its calls came to: that none was made but those that only read; that a layer was put into the map
-- in a file, or removed from it, or a put was tried, or files were joined into one; or what stopped
-- that.
pub record LayersRunWorld : Type 1 where
  pub held : Option Holdings
  pub input : Option (List ℕ)
  pub OnlyReads : Type 0
  pub Puts : PutOrder → ℕ → Type 0
  pub StopsPutting : PutOrder → LayersStop → Type 0
  pub Removes : LayerKind → (name map : List ℕ) → Option ℕ → Type 0
  pub StopsRemoving : LayerKind → (name map : List ℕ) → LayersStop → Type 0
  pub Tries : PutOrder → Answer → Type 0
  pub StopsTrying : PutOrder → LayersStop → Type 0
  pub Merges : List ℕ → List (Option (List ℕ)) → Type 0
  pub StopsMerging : List ℕ → List (Option (List ℕ)) → LayersStop → Type 0

-- it is around a run between two moments of its runtime
abbrev pub layers_run_world : {S D M : Type 0} → (S → Option Holdings) → (S → FileCall D M → S → Type 0)
    → S → S → Option (List ℕ) → LayersRunWorld
layers_run_world held Makes old new input = record {
  held = held old;
  input = input;
  OnlyReads = new ≡ old;
  Puts = λ order revision. IsPutMade Makes held order old new revision;
  StopsPutting = λ order stop. IsPutStop Makes held order old new stop;
  Removes = λ kind name map revision. IsRemoved Makes held kind name map old new revision;
  StopsRemoving = λ kind name map stop. IsRemovalStop Makes held kind name map old new stop;
  Tries = λ order answer. IsTried Makes held order old new answer;
  StopsTrying = λ order stop. IsTryStop Makes held order old new stop;
  Merges = λ name files. IsMapMerge Makes name files old new;
  StopsMerging = λ name files stop. IsMapMergeStop Makes name files old new stop;
}

-- what is known of files by their names
abbrev pub known_files : Option Holdings → List (List ℕ) → List (Option (List ℕ))
known_files held files = map (known_at held) files

-- ---- what is printed

-- the line of a revision
abbrev pub revision_line : ℕ → List ℕ
revision_line revision = decimal revision ++ codes "\n"

-- a removal prints the revision, or that the name was never put
abbrev pub IsRemovalText : List ℕ → Option ℕ → List ℕ → ℕ → Type 0
IsRemovalText name (Some revision) bytes status = (bytes ≡ revision_line revision) × (status ≡ 0)
IsRemovalText name None bytes status = (bytes ≡ absent_line name) × (status ≡ 1)

-- The text that is printed for what is asked for, and the exit status. The view of files, and what a
-- name says, are printed while they are made (`IsSiteTo`).
abbrev pub IsTextTo : ArgumentsMeaning → LayersRunWorld → List ℕ → ℕ → Type 0
IsTextTo (putting kind map name files limit) at bytes status =
    (revision : ℕ) × at.Puts (order kind name map files at.input limit) revision
    × (bytes ≡ revision_line revision) × (status ≡ 0)
IsTextTo (removing kind map name) at bytes status =
    (revision : Option ℕ) × at.Removes kind name map revision
    × IsRemovalText name revision bytes status
IsTextTo (trying kind map name files limit) at bytes status =
    (answer : Answer) × at.Tries (order kind name map files at.input limit) answer
    × (bytes ≡ answer.bytes.items) × (status ≡ code_of answer.status)
IsTextTo (merging out files) at bytes status =
    at.Merges out (known_files at.held files) × (bytes ≡ []) × (status ≡ 0)
IsTextTo (asking question None files limit) at bytes status = ⊥
IsTextTo (asking question (Some path) files limit) at bytes status =
    IsPlaceText question path (known_files at.held files) limit bytes status × at.OnlyReads
IsTextTo (listing files) at bytes status =
    IsLayerList (known_files at.held files) bytes × (status ≡ 0) × at.OnlyReads
IsTextTo (showing kind file name) at bytes status =
    IsShownOf (known_at at.held file) kind name None × (bytes ≡ absent_line name)
    × (status ≡ 1) × at.OnlyReads
IsTextTo (tracing path files) at bytes status =
    IsWhyOf path (known_files at.held files) × (status ≡ 0) × at.OnlyReads

-- the question that is answered about this table, which is printed while it is made
abbrev pub IsSiteTo : ArgumentsMeaning → LayersRunWorld → SiteQuestion → Table → Type 0
IsSiteTo (asking question None files limit) at of table =
    (of ≡ question) × IsJoinedView limit (known_files at.held files) table × at.OnlyReads
IsSiteTo (showing kind file name) at of table =
    (of ≡ questions.Print) × IsShownOf (known_at at.held file) kind name (Some table)
    × at.OnlyReads
IsSiteTo _ at of table = ⊥

-- ---- what stops it

-- the fault of a run that was stopped by one of these
abbrev pub IsLayersRunEndedBy : (LayersStop → Type 0) → LayersCommandError → Type 0
IsLayersRunEndedBy IsStop fault = (stop : LayersStop) × IsStop stop × (fault ≡ layers_fault_of stop)

-- Why there is nothing to print for what is asked for: what stopped it; or memory ran out before the
-- text was made; or the path is none.
abbrev pub IsFaultTo : ArgumentsMeaning → LayersRunWorld → LayersCommandError → Type 0
IsFaultTo (putting kind map name files limit) at fault =
    IsLayersRunEndedBy (at.StopsPutting (order kind name map files at.input limit)) fault
IsFaultTo (removing kind map name) at fault =
    IsLayersRunEndedBy (at.StopsRemoving kind name map) fault
    ⊎ (IsMemoryLayersFault fault × at.Removes kind name map None)
IsFaultTo (trying kind map name files limit) at fault =
    IsLayersRunEndedBy (at.StopsTrying (order kind name map files at.input limit)) fault
IsFaultTo (merging out files) at fault =
    IsLayersRunEndedBy (at.StopsMerging out (known_files at.held files)) fault
IsFaultTo (asking question None files limit) at fault =
    IsLayersRunEndedBy (IsViewStop limit (known_files at.held files)) fault × at.OnlyReads
IsFaultTo (asking question (Some path) files limit) at fault =
    (IsLayersRunEndedBy (IsViewStop limit (known_files at.held files)) fault
    ⊎ IsMemoryLayersFault fault ⊎ (fault ≡ faults.Usage))
    × at.OnlyReads
IsFaultTo (listing files) at fault =
    IsLayersRunEndedBy (IsJoinStop (known_files at.held files)) fault × at.OnlyReads
IsFaultTo (showing kind file name) at fault =
    (IsLayersRunEndedBy (IsShowStop (known_at at.held file) name) fault ⊎ IsMemoryLayersFault fault) × at.OnlyReads
IsFaultTo (tracing path files) at fault =
    (IsLayersRunEndedBy (IsJoinStop (known_files at.held files)) fault ⊎ IsMemoryLayersFault fault ⊎ (fault ≡ faults.Usage))
    × at.OnlyReads

-- Why there is nothing to print for the arguments: they ask for nothing, or memory ran out before
-- anything was read, or what they ask for was stopped.
abbrev pub IsFaultOfArguments : List (List ℕ) → LayersRunWorld → LayersCommandError → Type 0
IsFaultOfArguments words at fault =
    ((fault ≡ faults.Usage) × (meaning_of_arguments words ≡ None) × at.OnlyReads)
    ⊎ (IsMemoryLayersFault fault × at.OnlyReads)
    ⊎ ((what : ArgumentsMeaning) × (meaning_of_arguments words ≡ Some what) × IsFaultTo what at fault)

-- ---- how a run ends

-- A text was written: all of it was added to the output, and where faults go nothing was; or some of
-- it in front was, then a call of the output failed, and that is said where faults go.
abbrev pub EndsByText : List ℕ → ℕ → Passage → Passage → ℕ → Type 0
EndsByText bytes code out faults status =
    ((status ≡ code) × AddsBytes out bytes × IsOutputUntouched faults)
    ⊎ ((status ≡ 4) × BreaksAfter out bytes × IsLayersComplaint faults)

-- these bytes, or some of them in front and then the line of a run for which memory ran out
abbrev pub IsLayersAnswerCutBy : List ℕ → List ℕ → Type 0
IsLayersAnswerCutBy bytes said =
    (front back : List ℕ) × (bytes ≡ front ++ back)
    × (said ≡ front ++ codes "refused 24 Memory\n")

-- How a run ends that writes an answer about a table while it makes it: all of it was added to the
-- output, and the status is the answer's; or what was made before memory ran out, and then the line
-- of that; or some of that in front, and then a call of the output failed, which is said where
-- faults go.
abbrev pub EndsByLayersAnswer : SiteQuestion → Table → Passage → Passage → ℕ → Type 0
EndsByLayersAnswer question table out faults status =
    ((ended : Status) × (status ≡ code_of ended) × IsAnswerAdded question table out ended
    × IsOutputUntouched faults)
    ⊎ ((status ≡ 1)
    × ((shown : List ℕ) (ended : Status) → IsShown question table shown ended
    → (said : List ℕ) × IsLayersAnswerCutBy shown said × AddsBytes out said)
    × IsOutputUntouched faults)
    ⊎ ((status ≡ 4) × (out.has_failed ≡ true)
    × ((shown : List ℕ) (ended : Status) → IsShown question table shown ended
    → (said : List ℕ) × ((said ≡ shown) ⊎ IsLayersAnswerCutBy shown said) × BreaksAfter out said)
    × IsLayersComplaint faults)

-- the run writes the text that the arguments ask for
abbrev pub IsTextWritten : List (List ℕ) → LayersRunWorld → Passage → Passage → ℕ → Type 0
IsTextWritten words at out faults status =
    (what : ArgumentsMeaning) × (meaning_of_arguments words ≡ Some what) × (bytes : List ℕ) × (code : ℕ)
    × IsTextTo what at bytes code × EndsByText bytes code out faults status

-- the run writes the answer that they ask for
abbrev pub IsLayersAnswerWritten : List (List ℕ) → LayersRunWorld → Passage → Passage → ℕ → Type 0
IsLayersAnswerWritten words at out faults status =
    (what : ArgumentsMeaning) × (meaning_of_arguments words ≡ Some what) × (question : SiteQuestion) × (table : Table)
    × IsSiteTo what at question table × EndsByLayersAnswer question table out faults status

-- the run was stopped
abbrev pub IsLayersRunStopped : List (List ℕ) → LayersRunWorld → Passage → Passage → ℕ → Type 0
IsLayersRunStopped words at out faults status =
    (fault : LayersCommandError) × IsFaultOfArguments words at fault × EndsByLayersFault fault status out faults

-- How a run on these arguments ends, by what became of the output and of where faults go.
abbrev pub IsLayersRun : List (List ℕ) → LayersRunWorld → Passage → Passage → ℕ → Type 0
IsLayersRun words at out faults status =
    IsTextWritten words at out faults status
    ⊎ IsLayersAnswerWritten words at out faults status
    ⊎ IsLayersRunStopped words at out faults status
