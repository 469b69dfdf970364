-- What ends a run of the program of layers before it has an answer.
use Rattle.std.specs.Prelude.{◌≡◌, ℕ, List, Option}
use Rattle.cue_lattice.specs.Refusal.{refusal_at}
use Rattle.cue_layers.specs.declared.LayersRefusal.{LayersRefusal}
use Rattle.cue_layers.specs.declared.LayersRefusal.TheVariants.{Store}
use Rattle.cue_layers.specs.Refusals.{out_of_memory}
use Rattle.cue_program.specs.Stops.{IsUnreadable}
use Rattle.cue_program.specs.declared.RunError.{RunError}
use Rattle.cue_program.specs.declared.RunError.TheVariants as stops
use Rattle.cue_layers_program.specs.declared.stop.LayersStop.{LayersStop}
use Rattle.cue_layers_program.specs.declared.stop.LayersStop.TheVariants as ends

-- what ends a run of single sites, as a run of layers tells it
abbrev pub stop_of : RunError → LayersStop
stop_of stops.Device = ends.Device
stop_of (stops.Refused kind) = ends.Refused (Store (refusal_at kind 0))
stop_of (stops.RefusedInput why number) = ends.RefusedInput (Store why) number

-- a device failed
abbrev pub IsDeviceLayersStop : LayersStop → Type 0
IsDeviceLayersStop stop = stop ≡ ends.Device

-- a refusal of no single input
abbrev pub IsRefusalLayersStop : LayersRefusal → LayersStop → Type 0
IsRefusalLayersStop why stop = stop ≡ ends.Refused why

-- memory ran out, of no single input
abbrev pub IsMemoryLayersStop : LayersStop → Type 0
IsMemoryLayersStop = IsRefusalLayersStop out_of_memory

-- why an input could not be read of which these bytes are known
abbrev pub IsUnreadLayersStop : Option (List ℕ) → LayersStop → Type 0
IsUnreadLayersStop known stop = (end : RunError) × IsUnreadable known end × (stop ≡ stop_of end)
