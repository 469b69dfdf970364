-- A layer that replaces that of its key.
use Rattle.std.specs.Prelude.{◌≡◌, ℕ, ◌<◌, ◌^◌, List, [], ◌∷◌}
use Rattle.cue_policies.specs.declared.kind.LayerKind.{LayerKind}
use Rattle.cue_policies.specs.declared.kind.LayerKind.TheVariants as kinds
use Rattle.cue_policies.specs.WellFormed.{IsWellFormed}
use Rattle.cue_replica.specs.Language.{Table, language}
use Rattle.cue_layers.specs.declared.layer.Layer.{Layer}
use Rattle.cue_layers.specs.Layers.{key}
use Rattle.cue_layers.specs.Maps.{IsJoin}
use Rattle.cue_layers.specs.Puts.{of_layers, IsNextRevision}

-- the table may be that of a layer of this kind
pub record MayPut (kind : LayerKind) (content : Table) : Type 0 where
  pub valid : language.IsValid content
  pub well_formed : kind ≡ kinds.Policy → IsWellFormed (language.table_refuses content)

pub record Replaces (old : List Layer) (kind : LayerKind) (name : List ℕ) (content : Table)
    (new : List Layer) (revision : ℕ) : Type 0 where
  pub is_next : IsNextRevision of_layers old (key kind name) revision
  pub small : revision < 2 ^ 64
  pub joined : IsJoin old
      (record { kind = kind; name = name; revision = revision; content = content } ∷ []) new
