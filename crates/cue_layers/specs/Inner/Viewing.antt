-- What a layer adds to a table that gathers the layers of a kind.
use Rattle.std.specs.Prelude.{◌≡◌, ◌⊎◌, ◌↔◌}
use Rattle.cue_lattice.specs.Path.{Path}
use Rattle.cue_lattice.specs.Question.{Question}
use Rattle.cue_policies.specs.declared.kind.LayerKind.{LayerKind}
use Rattle.cue_replica.specs.Language.{Table, language}
use Rattle.cue_layers.specs.declared.layer.Layer.{Layer}

-- the layer is of the kind, and refuses the question
abbrev pub LayerRefuses : LayerKind → Path → Question → Layer → Type 0
LayerRefuses kind path question layer =
    (layer.kind ≡ kind) × language.table_refuses layer.content path question

-- the new table refuses what the old one did, and what the layer does, where it is of the kind
abbrev pub AddsLayer : LayerKind → Layer → Table → Table → Type 0
AddsLayer kind layer old new =
    (path : Path) (question : Question) → language.table_refuses new path question
    ↔ (language.table_refuses old path question ⊎ LayerRefuses kind path question layer)
