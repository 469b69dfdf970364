-- Why a call on layers is refused: numbers and names, and which refusal a put may come to.
use Rattle.std.specs.Prelude.{◌≡◌, ◌⊎◌, ℕ, zero, suc, List, [], ◌∷◌, ◌++◌, codes, Option, Some, None, take, slice_get}
use Rattle.std.specs.List.{AllByRecursion}
use Rattle.cue_lattice.specs.Refusal.{number_of as kind_number, names as kind_names, memory}
use Rattle.cue_lattice.specs.World.{Piece, text, state, pieces_refuse}
use Rattle.cue_lattice.specs.declared.refusal.Refusal.{Refusal}
use Rattle.cue_policies.specs.declared.error.ViewError.{ViewError}
use Rattle.cue_policies.specs.declared.error.ViewError.TheVariants as errors
use Rattle.cue_policies.specs.declared.kind.LayerKind.{LayerKind}
use Rattle.cue_policies.specs.declared.kind.LayerKind.TheVariants as kinds
use Rattle.cue_policies.specs.WellFormed.{IsWellFormed}
use Rattle.cue_replica.specs.Accepted.{IsAcceptable}
use Rattle.cue_replica.specs.Language.{language}
use Rattle.cue_layers.specs.declared.layer.Layer.{Layer}
use Rattle.cue_layers.specs.declared.piece.Piece.{Piece as OwnedPiece}
use Rattle.cue_layers.specs.declared.piece.Piece.TheVariants as pieces
use Rattle.cue_layers.specs.declared.refusal.LayersRefusal.{LayersRefusal}
use Rattle.cue_layers.specs.declared.refusal.LayersRefusal.TheVariants as reasons
use Rattle.cue_layers.specs.Layers.{key}
use Rattle.cue_layers.specs.Names.{IsLayerName, IsBadAt}
use Rattle.cue_layers.specs.Puts.{of_layers, IsUsedUp}

-- the numbers go on where those of single texts and states end
abbrev pub number_of_reason : LayersRefusal → ℕ
number_of_reason (reasons.Store why) = kind_number why.kind
number_of_reason (reasons.InPiece index why) = kind_number why.kind
number_of_reason reasons.NotLayers = 26
number_of_reason (reasons.BadName place) = 27
number_of_reason reasons.NotWellFormed = 28
number_of_reason reasons.RevisionsUsed = 29
number_of_reason reasons.ViewTooLarge = 30

-- the names, in the order of the numbers
abbrev pub reason_names : List (List ℕ)
reason_names =
    kind_names
    ++ codes "NotLayers" ∷
    codes "BadName" ∷
    codes "NotWellFormed" ∷
    codes "RevisionsUsed" ∷
    codes "ViewTooLarge" ∷
    []

-- the name of the reason with this number, where one has it
abbrev pub reason_name_at : ℕ → Option (List ℕ)
reason_name_at zero = None
reason_name_at (suc n) = slice_get reason_names n

-- a byte of the text, or of the name; 0 where there is none
abbrev pub place_of_refusal : LayersRefusal → ℕ
place_of_refusal (reasons.Store why) = why.place
place_of_refusal (reasons.InPiece index why) = why.place
place_of_refusal (reasons.BadName place) = place
place_of_refusal reason = 0

-- the piece, counted from 0
abbrev pub index_of : LayersRefusal → Option ℕ
index_of (reasons.InPiece index why) = Some index
index_of reason = None

-- out of memory
abbrev pub out_of_memory : LayersRefusal
out_of_memory = reasons.Store memory

-- why a view of a map is refused, as a reason of this crate
abbrev pub refusal_of : ViewError → LayersRefusal
refusal_of (errors.Memory cause) = out_of_memory
refusal_of errors.TooLarge = reasons.ViewTooLarge

-- a piece, as worlds have it
abbrev pub piece_of_refusal : OwnedPiece → Piece
piece_of_refusal (pieces.Text t) = text t
piece_of_refusal (pieces.State bytes) = state bytes.items

-- why a piece is refused
abbrev pub IsPieceFault : Piece → Refusal → Type 0
IsPieceFault (text t) why = language.IsTextFault t why
IsPieceFault (state bytes) why = language.IsStateFault bytes why

-- the first piece that is refused, and why
abbrev pub IsFirstFault : List Piece → ℕ → Refusal → Type 0
IsFirstFault pieces index why =
    AllByRecursion IsAcceptable (take index pieces)
    × ((piece : Piece) × (slice_get pieces index ≡ Some piece) × IsPieceFault piece why)

-- Why pieces are refused: the first fault, or memory ran out.
abbrev pub IsPiecesRefusal : List Piece → LayersRefusal → Type 0
IsPiecesRefusal pieces (reasons.InPiece index why) = IsFirstFault pieces index why
IsPiecesRefusal pieces why = why ≡ out_of_memory

-- what is put there may be a layer of that kind
abbrev pub MayBe : LayerKind → List Piece → Type 0
MayBe kinds.Layer pieces = Unit {0}
MayBe kinds.Policy pieces = IsWellFormed (pieces_refuse language pieces)

-- Why a put is refused, where memory suffices. The name is looked at first, then each piece in
-- turn, then whether a policy is well formed, and then the revisions.
abbrev pub IsPutFault : List Layer → LayerKind → List ℕ → List Piece → LayersRefusal → Type 0
IsPutFault layers kind name pieces (reasons.BadName place) = IsBadAt name place
IsPutFault layers kind name pieces (reasons.InPiece index why) =
    IsLayerName name × IsFirstFault pieces index why
IsPutFault layers kind name pieces reasons.NotWellFormed =
    IsLayerName name × AllByRecursion IsAcceptable pieces × ¬ MayBe kind pieces
IsPutFault layers kind name pieces reasons.RevisionsUsed =
    IsLayerName name × AllByRecursion IsAcceptable pieces × MayBe kind pieces
    × IsUsedUp of_layers layers (key kind name)
IsPutFault layers kind name pieces reason = ⊥

-- Memory may run out, but not before the name was looked at.
abbrev pub IsPutRefusal : List Layer → LayerKind → List ℕ → List Piece → LayersRefusal → Type 0
IsPutRefusal layers kind name pieces why =
    IsPutFault layers kind name pieces why ⊎ ((why ≡ out_of_memory) × IsLayerName name)
