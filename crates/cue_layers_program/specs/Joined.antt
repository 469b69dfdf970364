-- Files that are joined to one map of layers.
use Rattle.std.specs.Prelude.{◌≡◌, ◌⊎◌, ℕ, ◌+◌, List, [], ◌∷◌, ◌++◌, Option, length, map}
use Rattle.cue_lattice.specs.World.{Piece, AllAlong}
use Rattle.cue_lattice.specs.declared.refusal.Refusal.{Refusal}
use Rattle.cue_layers.specs.Bytes.{layers_mark, IsLayersBytes, IsLayersRefusal}
use Rattle.cue_layers.specs.Maps.{IsMapOfPuts, commons_put, put_of}
use Rattle.cue_layers.specs.Puts.{Put}
use Rattle.cue_layers.specs.declared.Layer.{Layer}
use Rattle.cue_layers.specs.declared.LayersRefusal.{LayersRefusal}
use Rattle.cue_layers.specs.declared.LayersRefusal.TheVariants.{Store}
use Rattle.cue_program.specs.Files.{IsWholeFile}
use Rattle.cue_program.specs.Inputs.{IsFilePiece, IsPieceRefusal}
use Rattle.cue_replica.specs.Accepted.{IsAcceptable}
use Rattle.cue_layers_program.specs.Stops.{IsMemoryLayersStop, IsUnreadLayersStop}
use Rattle.cue_layers_program.specs.declared.stop.LayersStop.{LayersStop}
use Rattle.cue_layers_program.specs.declared.stop.LayersStop.TheVariants as ends

-- bytes that begin as all layers bytes do
abbrev pub BeginsLayers : List ℕ → Type 0
BeginsLayers bytes = (rest : List ℕ) × (bytes ≡ layers_mark ++ rest)

-- What a file with these bytes says, as puts. Layers bytes say the layers of their map; any others a
-- put of the commons, of one state or text.
abbrev pub ArePutsOf : List ℕ → List Put → Type 0
ArePutsOf bytes puts =
    ((layers : List Layer) × IsLayersBytes bytes layers × (puts ≡ map put_of layers))
    ⊎ ((BeginsLayers bytes → ⊥)
    × ((piece : Piece) × IsFilePiece bytes piece × IsAcceptable piece
    × (puts ≡ commons_put (piece ∷ []) ∷ [])))

-- a file says these puts, as far as its bytes are known
abbrev pub HasPuts : Option (List ℕ) → List Put → Type 0
HasPuts file puts = (bytes : List ℕ) × IsWholeFile file bytes × ArePutsOf bytes puts

-- the puts of all files, in their order
abbrev pub all_puts : List (List Put) → List Put
all_puts [] = []
all_puts (puts ∷ others) = puts ++ all_puts others

-- The layers are the map of exactly the puts of all these files, in their order.
abbrev pub IsJoined : List (Option (List ℕ)) → List Layer → Type 0
IsJoined files layers =
    (puts : List (List Put)) × AllAlong HasPuts files puts × IsMapOfPuts (all_puts puts) layers

-- why a file with these bytes is refused
abbrev pub IsFileRefusal : List ℕ → LayersRefusal → Type 0
IsFileRefusal bytes why =
    (BeginsLayers bytes × IsLayersRefusal bytes why)
    ⊎ ((BeginsLayers bytes → ⊥)
    × ((piece : Piece) × (reason : Refusal) × IsFilePiece bytes piece
    × IsPieceRefusal piece reason × (why ≡ Store reason)))

-- The first file that is refused, told with its number from 1. Those before it have a map.
abbrev pub IsFileRefused : List (Option (List ℕ)) → LayersStop → Type 0
IsFileRefused files stop =
    (front back : List (Option (List ℕ))) × (file : Option (List ℕ)) × (layers : List Layer)
    × (bytes : List ℕ) × (why : LayersRefusal) × (files ≡ front ++ file ∷ back)
    × IsJoined front layers × IsWholeFile file bytes × IsFileRefusal bytes why
    × (stop ≡ ends.RefusedInput why (length front + 1))

-- the first file that can't be read
abbrev pub IsFileUnread : List (Option (List ℕ)) → LayersStop → Type 0
IsFileUnread files stop =
    (front back : List (Option (List ℕ))) × (file : Option (List ℕ)) × (layers : List Layer)
    × (files ≡ front ++ file ∷ back) × IsJoined front layers × IsUnreadLayersStop file stop

-- What stops a run before its files are joined: the first that is refused, or can't be read; or
-- memory ran out.
abbrev pub IsJoinStop : List (Option (List ℕ)) → LayersStop → Type 0
IsJoinStop files stop = IsFileRefused files stop ⊎ IsFileUnread files stop ⊎ IsMemoryLayersStop stop
