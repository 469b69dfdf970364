-- Layers bytes in pieces: what a reader has taken in.
use Rattle.std.specs.Prelude.{◌≡◌, ℕ, ◌<◌, ◌^◌, List, [], ◌++◌, length}
use Rattle.cue_lattice.specs.Refusal.{refusal_at}
use Rattle.cue_lattice.specs.declared.refusal.Kind.{Kind}
use Rattle.cue_lattice.specs.declared.refusal.Kind.TheVariants as kinds
use Rattle.cue_layers.specs.declared.layer.Layer.{Layer}
use Rattle.cue_layers.specs.declared.refusal.LayersRefusal.{LayersRefusal}
use Rattle.cue_layers.specs.declared.refusal.LayersRefusal.TheVariants.{NotLayers, Store}
use Rattle.cue_layers.specs.Bytes.{IsLayersBytes, IsOtherLayersVersion, IsLayersFault}

-- What a reader has taken in: these bytes so far; or a fault that stands, whatever follows: the
-- version is another one, or no layers bytes begin so; or memory ran out.
pub data LayersIntake : Type 0 where
  so_far : List ℕ → LayersIntake
  other_version : LayersIntake
  no_layers : LayersIntake
  failed : LayersIntake

-- Whatever follows these bytes, they are of no other version, and no map has them, of any number of
-- bytes that a memory can hold.
pub record IsNoLayersPrefix (bytes : List ℕ) : Type 0 where
  pub known : (rest : List ℕ) → ¬ IsOtherLayersVersion (bytes ++ rest)
  pub none : (layers : List Layer) (rest : List ℕ) → length (bytes ++ rest) < 2 ^ 64
      → ¬ IsLayersBytes (bytes ++ rest) layers

-- what a reader has taken in that was handed all of these bytes
abbrev pub IsLayersIntake : List ℕ → LayersIntake → Type 0
IsLayersIntake bytes (so_far taken) = taken ≡ bytes
IsLayersIntake bytes other_version = IsOtherLayersVersion bytes
IsLayersIntake bytes no_layers = IsNoLayersPrefix bytes
IsLayersIntake bytes failed = ⊥

-- A piece was taken in: it stands behind the bytes before it, or there is a fault now that stands.
-- Behind such a fault pieces are dropped.
abbrev pub IsTakenIn : LayersIntake → List ℕ → LayersIntake → Type 0
IsTakenIn (so_far bytes) piece new = IsLayersIntake (bytes ++ piece) new
IsTakenIn other_version piece new = new ≡ other_version
IsTakenIn no_layers piece new = new ≡ no_layers
IsTakenIn failed piece new = ⊥

-- Memory ran out while a piece was taken in, or it did before: for good.
abbrev pub IsNotTakenIn : LayersIntake → Kind → LayersIntake → Type 0
IsNotTakenIn (so_far bytes) kind new = (kind ≡ kinds.Memory) × (new ≡ failed)
IsNotTakenIn other_version kind new = ⊥
IsNotTakenIn no_layers kind new = ⊥
IsNotTakenIn failed kind new = (kind ≡ kinds.Failed) × (new ≡ failed)

-- these are all bytes that the reader has taken in, as many as a memory can hold
abbrev pub HasTakenIn : LayersIntake → List ℕ → Type 0
HasTakenIn intake bytes = IsLayersIntake bytes intake × (length bytes < 2 ^ 64)

-- the fault at which a reader stands, whatever it is handed further
abbrev pub HasFaultAt : LayersIntake → LayersRefusal → Type 0
HasFaultAt (so_far bytes) why = ⊥
HasFaultAt other_version why = why ≡ Store (refusal_at kinds.Version 0)
HasFaultAt no_layers why = why ≡ NotLayers
HasFaultAt failed why = why ≡ Store (refusal_at kinds.Failed 0)

-- What a reader has taken in tells of all bytes that it was handed, however they were cut.
pub record AreReadInPieces : Type 0 where
  -- a new reader was handed no bytes
  pub none : IsLayersIntake [] (so_far [])
  -- one that takes in a piece more was handed that piece too
  pub more : (bytes piece : List ℕ) (old new : LayersIntake) → IsLayersIntake bytes old
      → IsTakenIn old piece new → IsLayersIntake (bytes ++ piece) new
  -- where it stands at a fault, that is the fault of its bytes, whatever follows them, as many
  -- bytes as a memory can hold
  pub stands : (bytes rest : List ℕ) (intake : LayersIntake) (why : LayersRefusal)
      → IsLayersIntake bytes intake → HasFaultAt intake why → length (bytes ++ rest) < 2 ^ 64
      → IsLayersFault (bytes ++ rest) why
