-- What owners put, and which of it counts.
use Rattle.std.specs.Prelude.{◌≡◌, ◌↔◌, ◌⊎◌, ℕ, ◌+◌, ◌<◌, ◌≤◌, List}
use Rattle.std.specs.List.{AllByRecursion}
use Rattle.cue_lattice.specs.OneOf.{OneOf}
use Rattle.cue_lattice.specs.Path.{Path}
use Rattle.cue_lattice.specs.Question.{Question, Refusals}
use Rattle.cue_lattice.specs.World.{Piece, pieces_refuse}
use Rattle.cue_policies.specs.declared.kind.LayerKind.{LayerKind}
use Rattle.cue_replica.specs.Language.{language}
use Rattle.cue_layers.specs.declared.layer.Layer.{Layer}
use Rattle.cue_layers.specs.Layers.{Key, key, key_of}

-- One act of an owner. The put says what its pieces say together; without pieces it removes.
pub record Put : Type 0 where
  pub kind : LayerKind
  pub name : List ℕ
  pub revision : ℕ
  pub pieces : List Piece

-- How the members of a list speak: each of a key, at a revision, and by what it refuses.
pub record Claims (X : Type 0) : Type 1 where
  pub key : X → Key
  pub revision : X → ℕ
  pub refuses : X → Refusals

-- so do puts, and so do layers
abbrev pub of_puts : Claims Put
of_puts = record {
  key = λ put. key put.kind put.name;
  revision = λ put. put.revision;
  refuses = λ put. pieces_refuse language put.pieces;
}

abbrev pub of_layers : Claims Layer
of_layers = record {
  key = key_of;
  revision = λ layer. layer.revision;
  refuses = λ layer. language.table_refuses layer.content;
}

-- the element is in the list
abbrev pub HasElement : {X : Type 0} → List X → X → Type 0
HasElement xs x = OneOf (λ member. member ≡ x) xs

-- one set, in whatever order and however often its members came
abbrev pub SameMembers : {X : Type 0} → List X → List X → Type 0
SameMembers {X} xs ys = (x : X) → HasElement xs x ↔ HasElement ys x

-- the member speaks of the key of the layer, at its revision
pub record IsOfKey {X : Type 0} (claims : Claims X) (layer : Layer) (x : X) : Type 0 where
  pub key : claims.key x ≡ key_of layer
  pub revision : claims.revision x ≡ layer.revision

-- The layer is that of its key: its revision is the greatest of the key, and it refuses what one
-- member at that revision refuses.
pub record IsCurrent {X : Type 0} (claims : Claims X) (xs : List X) (layer : Layer) : Type 0 where
  pub revision : OneOf (IsOfKey claims layer) xs
  pub greatest : (x : X) → HasElement xs x → claims.key x ≡ key_of layer
      → claims.revision x ≤ layer.revision
  pub refuses : (path : Path) (question : Question)
      → language.table_refuses layer.content path question
      ↔ OneOf (λ x. IsOfKey claims layer x × claims.refuses x path question) xs

-- The layers are those of all keys of a list: each is the current one of its key, and no key of the
-- list is without a layer.
pub record AreCurrent {X : Type 0} (claims : Claims X) (xs : List X) (layers : List Layer)
    : Type 0 where
  pub each : AllByRecursion (IsCurrent claims xs) layers
  pub all : (x : X) → HasElement xs x → OneOf (λ layer. key_of layer ≡ claims.key x) layers

-- The next revision of a key: above each that the list has, and one more than one of them, or 1.
pub record IsNextRevision {X : Type 0} (claims : Claims X) (xs : List X) (key : Key) (revision : ℕ)
    : Type 0 where
  pub above : (x : X) → HasElement xs x → claims.key x ≡ key → claims.revision x < revision
  pub next : (revision ≡ 1)
      ⊎ OneOf (λ x. (claims.key x ≡ key) × (revision ≡ claims.revision x + 1)) xs

-- the greatest revision
abbrev pub last_revision : ℕ
last_revision = 18446744073709551615

-- the key has had it
abbrev pub IsUsedUp : {X : Type 0} → Claims X → List X → Key → Type 0
IsUsedUp claims xs key =
    OneOf (λ x. (claims.key x ≡ key) × (claims.revision x ≡ last_revision)) xs
