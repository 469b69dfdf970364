-- What the calls on a map leave, and laws of joins.
use Rattle.std.specs.Prelude.{◌≡◌, ℕ, ◌<◌, ◌^◌, List, [], ◌∷◌, ◌++◌}
use Rattle.std.specs.List.{AllByRecursion}
use Rattle.cue_lattice.specs.Question.{Refusals, SameAnswers}
use Rattle.cue_lattice.specs.World.{Piece, pieces_refuse}
use Rattle.cue_policies.specs.declared.kind.LayerKind.{LayerKind}
use Rattle.cue_replica.specs.Accepted.{IsAcceptable}
use Rattle.cue_replica.specs.Language.{Table, language}
use Rattle.cue_replica.specs.Replica.{AddsRefusals}
use Rattle.cue_layers.specs.declared.layer.Layer.{Layer}
use Rattle.cue_layers.specs.Layers.{IsMap, key}
use Rattle.cue_layers.specs.Maps.{IsMapOfPuts, IsJoin, commons_put}
use Rattle.cue_layers.specs.Names.{IsLayerName}
use Rattle.cue_layers.specs.Puts.{Put, of_layers, IsNextRevision, SameMembers}
use Rattle.cue_layers.specs.Refusals.{MayBe}

-- A layer of this key and revision, which refuses just what the pieces do, was joined to the map.
pub record IsOnePut (old : List Layer) (kind : LayerKind) (name : List ℕ) (pieces : List Piece)
    (new : List Layer) (revision : ℕ) : Type 0 where
  pub is_name : IsLayerName name
  pub acceptable : AllByRecursion IsAcceptable pieces
  pub may_be : MayBe kind pieces
  pub is_next : IsNextRevision of_layers old (key kind name) revision
  pub small : revision < 2 ^ 64
  pub content : Table
  pub refuses : SameAnswers (language.table_refuses content) (pieces_refuse language pieces)
  pub joined : IsJoin old
      (record { kind = kind; name = name; revision = revision; content = content } ∷ []) new

-- The commons refuses what it did, and what was added. All other layers are as they were.
abbrev pub CommonsGrows : List Layer → Refusals → List Layer → Type 0
CommonsGrows (old ∷ layers) added (new ∷ others) =
    (new ≡ record old { content = new.content }) × AddsRefusals old.content added new.content
    × (others ≡ layers)
CommonsGrows layers added others = ⊥

-- maps of one set of puts are equal
abbrev pub AreEqualOfOneSet : Type 0
AreEqualOfOneSet =
    (a b : List Layer) (ps qs : List Put) → IsMapOfPuts ps a → IsMapOfPuts qs b → SameMembers ps qs → a ≡ b

-- the join of two maps is the map of both sets of puts
abbrev pub JoinsPuts : Type 0
JoinsPuts =
    (a b joined : List Layer) (ps qs : List Put) → IsMapOfPuts ps a → IsMapOfPuts qs b
    → IsJoin a b joined → IsMapOfPuts (ps ++ qs) joined

-- it does not matter which of two maps is joined to which
abbrev pub IsCommutative : Type 0
IsCommutative = (a b c d : List Layer) → IsJoin a b c → IsJoin b a d → c ≡ d

-- nor which two of three are joined first
abbrev pub IsAssociative : Type 0
IsAssociative =
    (a b c ab bc left right : List Layer) → IsJoin a b ab → IsJoin ab c left
    → IsJoin b c bc → IsJoin a bc right → left ≡ right

-- a map that is joined to itself stays
abbrev pub IsIdempotent : Type 0
IsIdempotent = (a joined : List Layer) → IsMap a → IsJoin a a joined → joined ≡ a

-- a put adds to the set of the map, and so does what goes into the commons
pub record AddsPuts : Type 0 where
  pub put : (old new : List Layer) (ps : List Put) (kind : LayerKind) (name : List ℕ)
      (pieces : List Piece) (revision : ℕ) → IsMapOfPuts ps old
      → IsOnePut old kind name pieces new revision
      → IsMapOfPuts (ps ++ record { kind = kind; name = name; revision = revision; pieces = pieces } ∷ [])
      new
  pub commons : (old new : List Layer) (ps : List Put) (piece : Piece) → IsMapOfPuts ps old → IsMap new
      → CommonsGrows old (pieces_refuse language (piece ∷ [])) new
      → IsMapOfPuts (ps ++ commons_put (piece ∷ []) ∷ []) new
