-- What a writer of layers bytes still has to write.
use Rattle.std.specs.Prelude.{ℕ, ◌+◌, List, [], ◌∷◌, ◌++◌, length, Option, Some, None}
use Rattle.std.specs.Int.{w64, to_be_bytes}
use Rattle.std.specs.List.{flat_map, AllByRecursion}
use Rattle.cue_codec.specs.Parts.{text_bytes}
use Rattle.cue_policies.specs.declared.kind.LayerKind.{LayerKind}
use Rattle.cue_layers.specs.declared.layers_writer.LayerWalk.{LayerWalk}
use Rattle.cue_layers.specs.Bytes.{layer_bytes}
use Rattle.cue_layers.specs.Layers.{kind_byte}
use Rattle.cue_layers.specs.Inner.Reading.{HasShortName}

-- what begins the bytes of a layer, the state bytes of which are so many
abbrev pub head_bytes : LayerKind → List ℕ → ℕ → ℕ → List ℕ
head_bytes kind name revision size =
    kind_byte kind ∷ (text_bytes name ++ (to_be_bytes w64 revision ++ to_be_bytes w64 size))

-- what is left of the state of a layer that was begun
abbrev pub state_left : Option (List ℕ) → List ℕ
state_left None = []
state_left (Some bytes) = bytes

abbrev pub walk_bytes : LayerWalk → List ℕ
walk_bytes walk = state_left walk.state ++ flat_map layer_bytes walk.layers.now

-- a state that was begun has to be ended, also where none of its bytes is left
abbrev pub steps_left : Option (List ℕ) → ℕ
steps_left None = 0
steps_left (Some bytes) = 1

abbrev pub walk_size : LayerWalk → ℕ
walk_size walk = length (walk_bytes walk) + steps_left walk.state

-- the names of the layers that are left have lengths of 2 bytes
abbrev pub IsWalk : LayerWalk → Type 0
IsWalk walk = AllByRecursion HasShortName walk.layers.now
