-- What is written of a run that has no answer, and how it ends.
use Rattle.std.specs.Prelude.{Bool, true, false, ◌≡◌, ◌⊎◌, ◌++◌, [], ℕ, List, codes, decimal}
use Rattle.std.specs.Prelude.{unwrap_or}
use Rattle.cue_lattice.specs.Refusal.{number_of as kind_number, name_at as kind_name_at}
use Rattle.cue_lattice.specs.declared.refusal.Refusal.{Refusal}
use Rattle.cue_layers.specs.Refusals.{reason_name_at, number_of_reason, place_of_refusal}
use Rattle.cue_layers.specs.declared.refusal.LayersRefusal.{LayersRefusal}
use Rattle.cue_layers.specs.declared.refusal.LayersRefusal.TheVariants as reasons
use Rattle.cue_layers_program.specs.declared.stop.LayersStop.{LayersStop}
use Rattle.cue_layers_program.specs.declared.stop.LayersStop.TheVariants as ends
use Rattle.cue_program.specs.Outlets.{AddsBytes, BreaksAfter, IsSaid, IsOutputUntouched, Passage}
use Rattle.cue_program.specs.declared.Kind.{Kind}
use Rattle.cue_program.specs.declared.Kind.TheVariants as kinds
use Rattle.cue_program.specs.declared.RunError.{RunError}
use Rattle.cue_program.specs.declared.RunError.TheVariants as stops
use Rattle.cue_layers_command.specs.declared.fault.LayersCommandError.{LayersCommandError}
use Rattle.cue_layers_command.specs.declared.fault.LayersCommandError.TheVariants as faults
use Rattle.cue_layers_command.specs.declared.fault.LayersRunRefusal.{LayersRunRefusal}
use Rattle.cue_layers_command.specs.declared.fault.LayersRunRefusal.TheVariants as runs

-- the number and the name of a kind of refusal
abbrev pub layers_kind_text : Kind → List ℕ
layers_kind_text kind = codes "refused " ++ decimal (kind_number kind) ++ codes " "
    ++ unwrap_or (kind_name_at (kind_number kind)) []

-- the number and the name of a reason
abbrev pub reason_text : LayersRefusal → List ℕ
reason_text why = codes "refused " ++ decimal (number_of_reason why) ++ codes " "
    ++ unwrap_or (reason_name_at (number_of_reason why)) []

-- and the place
abbrev pub placed_text : LayersRefusal → List ℕ
placed_text why = reason_text why ++ codes " at " ++ decimal (place_of_refusal why)

-- A refusal as text: the number and the name of its reason; where what was asked for is refused, or
-- an input, also the place; and which input it is.
abbrev pub layers_refusal_text : LayersRunRefusal → List ℕ
layers_refusal_text (runs.Run kind) = layers_kind_text kind
layers_refusal_text (runs.Request why) = placed_text why
layers_refusal_text (runs.Input why input) = placed_text why ++ codes " in " ++ decimal input

-- a fault as text
abbrev pub layers_fault_text : LayersCommandError → List ℕ
layers_fault_text faults.Usage = codes "usage fault"
layers_fault_text faults.Device = codes "device fault"
layers_fault_text (faults.Refused refusal) = layers_refusal_text refusal

-- and its line
abbrev pub layers_line_of : LayersCommandError → List ℕ
layers_line_of fault = layers_fault_text fault ++ codes "\n"

-- the fault of a run that was stopped by this
abbrev pub fault_of_layers_stop : RunError → LayersCommandError
fault_of_layers_stop stops.Device = faults.Device
fault_of_layers_stop (stops.Refused kind) = faults.Refused (runs.Run kind)
fault_of_layers_stop (stops.RefusedInput why input) = faults.Refused (runs.Input (reasons.Store why) input)

abbrev pub IsLayersFaultOf : RunError → LayersCommandError → Type 0
IsLayersFaultOf stop fault = fault ≡ fault_of_layers_stop stop

-- What was refused where maps of layers are: memory that ran out, and too many reads, are of the run
-- itself; all else is of what was asked for.
abbrev pub kind_refusal : Refusal → Kind → LayersRunRefusal
kind_refusal why kinds.Version = runs.Request (reasons.Store why)
kind_refusal why kind = runs.Run kind

abbrev pub store_refusal : Refusal → LayersRunRefusal
store_refusal why = kind_refusal why why.kind

abbrev pub run_refusal : LayersRefusal → LayersRunRefusal
run_refusal (reasons.Store why) = store_refusal why
run_refusal why = runs.Request why

-- the fault of a run that was stopped by this, where maps of layers are
abbrev pub layers_fault_of : LayersStop → LayersCommandError
layers_fault_of ends.Device = faults.Device
layers_fault_of (ends.Refused why) = faults.Refused (run_refusal why)
layers_fault_of (ends.RefusedInput why input) = faults.Refused (runs.Input why input)

abbrev pub IsOfLayers : LayersStop → LayersCommandError → Type 0
IsOfLayers stop fault = fault ≡ layers_fault_of stop

-- memory ran out
abbrev pub IsMemoryLayersFault : LayersCommandError → Type 0
IsMemoryLayersFault fault = IsLayersFaultOf (stops.Refused kinds.Memory) fault

-- the fault is written as an answer
abbrev pub is_layers_refusal : LayersCommandError → Bool
is_layers_refusal faults.Usage = false
is_layers_refusal faults.Device = false
is_layers_refusal (faults.Refused refusal) = true

-- the exit status of a run that was stopped: a fault of a device has one of its own
abbrev pub layers_status_of : LayersCommandError → ℕ
layers_status_of faults.Usage = 1
layers_status_of faults.Device = 4
layers_status_of (faults.Refused refusal) = 1

-- what was asked for is refused: the name, the put, the map or the limit
abbrev pub is_request : LayersCommandError → Bool
is_request (faults.Refused (runs.Request why)) = true
is_request _ = false

-- what is said beside a refusal: nothing, or, of what was asked for, a line
abbrev pub IsMeaning : LayersCommandError → List ℕ → Type 0
IsMeaning fault text = (text ≡ [])
    ⊎ ((is_request fault ≡ true) × ((front : List ℕ) × (text ≡ front ++ codes "\n")))

-- a line was added where faults go, or some of it in front and a call failed
abbrev pub IsLayersComplaint : Passage → Type 0
IsLayersComplaint faults = (text : List ℕ) × IsSaid faults (text ++ codes "\n")

-- where faults go is left as it is, or a line there says what was asked for
abbrev pub IsExplained : LayersCommandError → Passage → Type 0
IsExplained fault faults =
    IsOutputUntouched faults ⊎ ((is_request fault ≡ true) × IsLayersComplaint faults)

-- A refusal is written as its line, which is added to the output; or it is not, since a call of the
-- output failed, and that is said where faults go.
abbrev pub IsLayersRefused : LayersCommandError → ℕ → Passage → Passage → Type 0
IsLayersRefused fault status out faults =
    ((status ≡ 1) × AddsBytes out (layers_line_of fault) × IsExplained fault faults)
    ⊎ ((status ≡ 4) × BreaksAfter out (layers_line_of fault) × IsLayersComplaint faults)

-- How a run ends that was stopped by a fault, by what became of the output and of where faults go:
-- a refusal is written as its line. A usage fault and a failed device leave the output as it is, and
-- are said where faults go.
abbrev pub EndsByLayersFault : LayersCommandError → ℕ → Passage → Passage → Type 0
EndsByLayersFault fault status out faults =
    ((is_layers_refusal fault ≡ true) × IsLayersRefused fault status out faults)
    ⊎ ((is_layers_refusal fault ≡ false) × (status ≡ layers_status_of fault) × IsOutputUntouched out
    × IsLayersComplaint faults)
