-- Two lists of layers in order, which are joined.
use Rattle.std.specs.Prelude.{◌≡◌, ◌↔◌, ◌⊎◌, ◌+◌, ◌<◌, List, [], ◌∷◌, ◌++◌, length}
use Rattle.std.specs.List.{AllByRecursion}
use Rattle.std.specs.declared.cmp.Ordering.{Ordering}
use Rattle.std.specs.declared.cmp.Ordering.TheVariants.{Less, Equal, Greater}
use Rattle.cue_lattice.specs.Path.{Path}
use Rattle.cue_lattice.specs.Question.{Question, IsAsNarrowAs}
use Rattle.cue_replica.specs.Language.{language}
use Rattle.cue_layers.specs.declared.layer.Layer.{Layer}
use Rattle.cue_layers.specs.Layers.{IsKeyBefore, IsInOrder, IsLayer, key_of}
use Rattle.cue_layers.specs.Puts.{HasElement, of_layers}
use Rattle.cue_layers.specs.Inner.Covers.{IsCovered, Covers}

-- where both layers have one key and one revision, the second refuses what the first does
abbrev pub IsTieOf : Layer → Layer → Type 0
IsTieOf x y = key_of x ≡ key_of y → x.revision ≡ y.revision
    → IsAsNarrowAs (language.table_refuses y.content) (language.table_refuses x.content)

-- the layer with what another one says at the same revision
pub record IsTiedWith (layer other tied : Layer) : Type 0 where
  pub same : tied ≡ record other { content = tied.content }
  pub valid : language.IsValid other.content → language.IsValid tied.content
  pub refuses : (path : Path) (question : Question)
      → language.table_refuses tied.content path question
      ↔ (language.table_refuses other.content path question
      ⊎ ((layer.revision ≡ other.revision) × language.table_refuses layer.content path question))

-- the layer with what the list says of its key at the same revision
pub record IsTied (own : List Layer) (other tied : Layer) : Type 0 where
  pub same : tied ≡ record other { content = tied.content }
  pub layer : AllByRecursion IsLayer own → IsLayer other → IsLayer tied
  pub covered : IsCovered of_layers of_layers tied (own ++ other ∷ [])
  pub covers : IsCovered of_layers of_layers other (tied ∷ [])
  pub ties : AllByRecursion (λ x. IsTieOf x tied) own

-- all ties of two lists
abbrev pub HaveTies : List Layer → List Layer → Type 0
HaveTies own others = (x y : Layer) → HasElement own x → HasElement others y → IsTieOf x y

-- the last layer of each
pub record HaveLast (own others : List Layer) (x y : Layer) : Type 0 where
  pub own_front : List Layer
  pub others_front : List Layer
  pub own_parts : own ≡ own_front ++ x ∷ []
  pub others_parts : others ≡ others_front ++ y ∷ []

-- how the last layers of two lists compare; a list without any comes first
abbrev pub IsLastOrder : List Layer → List Layer → Ordering → Type 0
IsLastOrder own others Less =
    (own ≡ []) ⊎ ((x : Layer) × (y : Layer) × HaveLast own others x y × IsKeyBefore (key_of x) (key_of y))
IsLastOrder own others Greater =
    (0 < length own) × ((others ≡ [])
    ⊎ ((x : Layer) × (y : Layer) × HaveLast own others x y × IsKeyBefore (key_of y) (key_of x)))
IsLastOrder own others Equal =
    (x : Layer) × (y : Layer) × HaveLast own others x y × (key_of x ≡ key_of y)

-- the last layer was taken from two lists, of which these are left
pub record TakesLast (own others : List Layer) (x : Layer) (own_left others_left : List Layer)
    : Type 0 where
  pub own_taken : List Layer
  pub others_taken : List Layer
  pub own_parts : own ≡ own_left ++ own_taken
  pub others_parts : others ≡ others_left ++ others_taken
  pub some : HasElement (own_taken ++ others_taken) x
  pub covers : Covers of_layers of_layers (own_taken ++ others_taken) (x ∷ [])
  pub own_before : AllByRecursion (λ y. IsKeyBefore (key_of y) (key_of x)) own_left
  pub others_before : AllByRecursion (λ y. IsKeyBefore (key_of y) (key_of x)) others_left
  pub shorter : length own_left + length others_left < length own + length others

-- both are empty
abbrev pub AreEmpty : List Layer → List Layer → Type 0
AreEmpty own others = (own ≡ []) × (others ≡ [])

-- a list in order of some layers of two lists, which speaks for all of them
pub record IsMerged (own others merged : List Layer) : Type 0 where
  pub in_order : IsInOrder merged
  pub some : (x : Layer) → HasElement merged x → HasElement (own ++ others) x
  pub covers : Covers of_layers of_layers (own ++ others) merged
