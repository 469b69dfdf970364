-- What is told of a run that has no answer, and how it ends.
use Rattle.std.specs.Prelude.{Bool, true, false, ◌≡◌, ◌⊎◌, ◌++◌, [], ℕ, List, codes, decimal}
use Rattle.std.specs.Prelude.{unwrap_or}
use Rattle.cue_replica.specs.Accepted.{number_of, name_at}
use Rattle.cue_program.specs.Outlets.{AddsBytes, BreaksAfter, IsSaid, IsOutputUntouched, Passage}
use Rattle.cue_program.specs.declared.Kind.{Kind}
use Rattle.cue_program.specs.declared.Kind.TheVariants as kinds
use Rattle.cue_program.specs.declared.RunError.{RunError}
use Rattle.cue_program.specs.declared.RunError.TheVariants as stops
use Rattle.cue_command.specs.declared.fault.CommandError.{CommandError}
use Rattle.cue_command.specs.declared.fault.CommandError.TheVariants as faults
use Rattle.cue_command.specs.declared.fault.RunRefusal.{RunRefusal}
use Rattle.cue_command.specs.declared.fault.RunRefusal.TheVariants as runs

-- the name of a kind of refusal
abbrev pub name_of : Kind → List ℕ
name_of kind = unwrap_or (name_at (number_of kind)) []

-- what is told of each refusal
abbrev pub kind_text : Kind → List ℕ
kind_text kind = codes "refused " ++ decimal (number_of kind) ++ codes " " ++ name_of kind

-- A refusal as text: the number and the name of its kind, and of an input's also the place in it,
-- and which input it is.
abbrev pub refusal_text : RunRefusal → List ℕ
refusal_text (runs.Run kind) = kind_text kind
refusal_text (runs.Input why input) =
    kind_text why.kind ++ codes " at " ++ decimal why.place ++ codes " in " ++ decimal input

-- a fault as text
abbrev pub fault_text : CommandError → List ℕ
fault_text faults.Usage = codes "usage fault"
fault_text faults.Device = codes "device fault"
fault_text (faults.Refused refusal) = refusal_text refusal

-- and its line
abbrev pub line_of : CommandError → List ℕ
line_of fault = fault_text fault ++ codes "\n"

-- the fault of a run that was stopped by this
abbrev pub fault_of : RunError → CommandError
fault_of stops.Device = faults.Device
fault_of (stops.Refused kind) = faults.Refused (runs.Run kind)
fault_of (stops.RefusedInput why input) = faults.Refused (runs.Input why input)

abbrev pub IsFaultOf : RunError → CommandError → Type 0
IsFaultOf stop fault = fault ≡ fault_of stop

-- memory ran out
abbrev pub IsMemoryFault : CommandError → Type 0
IsMemoryFault fault = IsFaultOf (stops.Refused kinds.Memory) fault

-- the fault is told as an answer
abbrev pub is_refusal : CommandError → Bool
is_refusal faults.Usage = false
is_refusal faults.Device = false
is_refusal (faults.Refused refusal) = true

-- the exit status of a run that was stopped: a fault of a device has one of its own
abbrev pub status_of_fault : CommandError → ℕ
status_of_fault faults.Usage = 1
status_of_fault faults.Device = 4
status_of_fault (faults.Refused refusal) = 1

-- a fault is told where faults go: a line was added, or some of it in front and a call failed
abbrev pub IsComplaint : Passage → Type 0
IsComplaint faults = (text : List ℕ) × IsSaid faults (text ++ codes "\n")

-- A refusal is told by this line, which is added to the output, and faults are left as they are; or
-- it is not, since a call of the output failed, and that is told where faults go.
abbrev pub IsRefusedFault : List ℕ → ℕ → Passage → Passage → Type 0
IsRefusedFault line status out faults =
    ((status ≡ 1) × AddsBytes out line × IsOutputUntouched faults)
    ⊎ ((status ≡ 4) × BreaksAfter out line × IsComplaint faults)

-- How a run ends that was stopped by a fault, by what became of the output and of where faults go:
-- a refusal is told by its line. A usage fault and a failed device leave the output as it is, and
-- are told where faults go.
abbrev pub EndsByFault : CommandError → ℕ → Passage → Passage → Type 0
EndsByFault fault status out faults =
    ((is_refusal fault ≡ true) × IsRefusedFault (line_of fault) status out faults)
    ⊎ ((is_refusal fault ≡ false) × (status ≡ status_of_fault fault) × IsOutputUntouched out
    × IsComplaint faults)
