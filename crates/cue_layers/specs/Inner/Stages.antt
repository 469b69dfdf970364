-- What a reader of layers bytes has taken in, by what it keeps.
use Rattle.std.specs.Prelude.{◌≡◌, ℕ, zero, suc, ◌+◌, ◌<◌, ◌≤◌, ◌^◌, List, [], ◌∷◌, ◌++◌, length, take, Some, slice_get}
use Rattle.std.specs.Int.{w16, w64, to_be_bytes}
use Rattle.std.specs.List.{flat_map}
use Rattle.cue_codec.specs.Pieces.{Intake, so_far, other_version, no_state, failed}
use Rattle.cue_codec.specs.Reading.{IsShort}
use Rattle.cue_lattice.specs.declared.refusal.Kind.{Kind}
use Rattle.cue_policies.specs.declared.kind.LayerKind.{LayerKind}
use Rattle.cue_replica.specs.Language.{Table, language}
use Rattle.cue_replica.specs.Reading.{HasFaultAt}
use Rattle.cue_layers.specs.declared.layer.Layer.{Layer}
use Rattle.cue_layers.specs.declared.stage.LayersRead.{LayersRead}
use Rattle.cue_layers.specs.declared.stage.LayerStart.{LayerStart}
use Rattle.cue_layers.specs.declared.stage.StateRead.{StateRead}
use Rattle.cue_layers.specs.declared.stage.Stage.{Stage}
use Rattle.cue_layers.specs.declared.stage.Stage.TheVariants as stages
use Rattle.cue_layers.specs.Bytes.{layers_mark, version, layer_bytes, layers_bytes}
use Rattle.cue_layers.specs.Layers.{IsMap, kind_byte}
use Rattle.cue_layers.specs.Pieces as pieces
use Rattle.cue_layers.specs.Pieces.{LayersIntake, IsLayersIntake}
use Rattle.cue_layers.specs.Inner.Reading.{AreFront, IsKeyBehind, MayHave}
use Rattle.cue_layers.specs.Inner.Walks.{head_bytes}

-- the mark and the version
abbrev pub front_bytes : List ℕ
front_bytes = layers_mark ++ version ∷ []

-- the byte at an index of these
abbrev pub front_byte : ℕ → ℕ
front_byte zero = 254
front_byte (suc zero) = 76
front_byte (suc (suc zero)) = 65
front_byte (suc (suc (suc zero))) = 89
front_byte (suc (suc (suc (suc n)))) = version

-- how the state bytes in layers begin
abbrev pub state_front : List ℕ
state_front = 254 ∷ 67 ∷ 85 ∷ 69 ∷ 2 ∷ []

-- the kind, and the length of the name
abbrev pub start_bytes : LayerStart → List ℕ
start_bytes start = kind_byte start.kind ∷ to_be_bytes w16 start.len

-- what begins layers bytes, and the layers that were read
abbrev pub read_bytes : LayersRead → List ℕ
read_bytes read = layers_mark ++ (version ∷ (to_be_bytes w64 read.count ++ flat_map layer_bytes read.layers.items))

-- and what begins another layer
abbrev pub before_state : LayersRead → StateRead → List ℕ
before_state read state = read_bytes read ++ head_bytes state.kind state.name state.revision state.size

-- what was taken in with a state behind other bytes
abbrev pub intake_behind : List ℕ → Intake → LayersIntake
intake_behind before (so_far taken) = pieces.so_far (before ++ taken)
intake_behind before other_version = pieces.no_layers
intake_behind before no_state = pieces.no_layers
intake_behind before failed = pieces.failed

abbrev pub intake_of : Stage → LayersIntake
intake_of (stages.Front count) = pieces.so_far (take count front_bytes)
intake_of (stages.Count bytes) = pieces.so_far (front_bytes ++ bytes.items)
intake_of (stages.Start read bytes) = pieces.so_far (read_bytes read ++ bytes.items)
intake_of (stages.Head read start bytes) = pieces.so_far (read_bytes read ++ (start_bytes start ++ bytes.items))
intake_of (stages.State read state) = intake_behind (before_state read state) state.reader
intake_of (stages.Whole layers) = pieces.so_far (layers_bytes layers.items)
intake_of stages.OtherVersion = pieces.other_version
intake_of stages.NoLayers = pieces.no_layers
intake_of stages.Failed = pieces.failed

-- the name, the revision, the length of the state bytes, and how these begin
pub record IsHead (len : ℕ) (name : List ℕ) (revision size : ℕ) (state bytes : List ℕ) : Type 0 where
  pub parts : bytes ≡ name ++ (to_be_bytes w64 revision ++ (to_be_bytes w64 size ++ state))
  pub name_len : length name ≡ len
  pub short : IsShort name
  pub state_len : length state ≡ 5
  pub revision_small : revision < 2 ^ 64
  pub size_small : size < 2 ^ 64

-- a layer that begins so can come behind others
pub record CanBegin (layers : List Layer) (kind : LayerKind) (name : List ℕ) (revision size : ℕ)
    (state : List ℕ) : Type 0 where
  pub may : MayHave kind name revision
  pub long : 13 ≤ size
  pub front : (rest : List ℕ) × (state ≡ state_front ++ rest)
  pub behind : IsKeyBehind layers kind name

-- some of the layers of a map, but not all
pub record IsPartRead (read : LayersRead) : Type 0 where
  pub front : AreFront read.layers.items
  pub more : length read.layers.items < read.count
  pub small : read.count < 2 ^ 64

-- a reader was handed all of a state but so many bytes
abbrev pub IsFed : ℕ → ℕ → Intake → Type 0
IsFed size missing (so_far taken) = (length taken + missing ≡ size) × (slice_get taken 4 ≡ Some 2)
IsFed size missing other_version = Unit {0}
IsFed size missing no_state = Unit {0}
IsFed size missing failed = ⊥

-- a layer that can come behind others, the state of which is being read
pub record IsStateRead (layers : List Layer) (state : StateRead) : Type 0 where
  pub may : MayHave state.kind state.name state.revision
  pub behind : IsKeyBehind layers state.kind state.name
  pub revision_small : state.revision < 2 ^ 64
  pub size_small : state.size < 2 ^ 64
  pub fed : IsFed state.size state.missing state.reader

abbrev pub IsSound : Stage → Type 0
IsSound (stages.Front count) = count < 5
IsSound (stages.Count bytes) = length bytes.items < 8
IsSound (stages.Start read bytes) = IsPartRead read × (length bytes.items < 3)
IsSound (stages.Head read start bytes) =
    IsPartRead read × (start.len ≤ 255) × (length bytes.items < start.len + 21)
IsSound (stages.State read state) =
    IsPartRead read × IsStateRead read.layers.items state × (0 < state.missing)
IsSound (stages.Whole layers) = IsMap layers.items
IsSound stages.OtherVersion = Unit {0}
IsSound stages.NoLayers = Unit {0}
IsSound stages.Failed = Unit {0}

-- all of these bytes were taken in
abbrev pub HasTaken : List ℕ → Stage → Type 0
HasTaken bytes stage = IsSound stage × IsLayersIntake bytes (intake_of stage)

-- bytes that a memory can hold, of the version of states in layers
abbrev pub IsStateInLayers : List ℕ → Type 0
IsStateInLayers bytes = (length bytes < 2 ^ 64) × (slice_get bytes 4 ≡ Some 2)

-- a reader of state bytes stands at no fault
abbrev pub HasNoFault : Intake → Type 0
HasNoFault intake = (kind : Kind) → ¬ HasFaultAt intake kind

-- the table of the bytes that a reader was handed
pub record IsContentRead (intake : Intake) (content : Table) : Type 0 where
  pub valid : language.IsValid content
  pub spelled : (bytes : List ℕ) → intake ≡ so_far bytes → IsStateInLayers bytes
      → language.written content ≡ bytes
  pub no_fault : HasNoFault intake

-- no table has the bytes that a reader was handed
abbrev pub IsNoContentRead : Intake → Type 0
IsNoContentRead intake =
    (bytes : List ℕ) → intake ≡ so_far bytes → IsStateInLayers bytes
    → (table : Table) → language.IsValid table → language.written table ≡ bytes → ⊥
