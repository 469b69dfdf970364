-- The view of a map of layers: what a site exports, reports and prints.
use Rattle.std.specs.Prelude.{◌≡◌, ◌⊎◌, ℕ, ◌<◌, List, map}
use Rattle.std.specs.List.{AllByRecursion}
use Rattle.cue_lattice.specs.Question.{SameAnswers}
use Rattle.cue_policies.specs.Laws.{LawParts}
use Rattle.cue_policies.specs.Rows.{row_count}
use Rattle.cue_policies.specs.Tables.{TablesRefuse}
use Rattle.cue_policies.specs.WellFormed.{IsPlain}
use Rattle.cue_policies.specs.declared.kind.LayerKind.TheVariants as kinds
use Rattle.cue_replica.specs.Language.{Table, language}
use Rattle.cue_layers.specs.declared.layer.Layer.{Layer}
use Rattle.cue_layers.specs.declared.refusal.LayersRefusal.{LayersRefusal}
use Rattle.cue_layers.specs.declared.refusal.LayersRefusal.TheVariants.{ViewTooLarge}
use Rattle.cue_layers.specs.Refusals.{out_of_memory}

-- each layer, with its kind and its table
abbrev pub parts_of_layers : List Layer → LawParts
parts_of_layers = map (λ layer. (layer.kind, layer.content))

-- the table is valid, and refuses exactly what the view of the layers refuses
pub record IsViewOf (layers : List Layer) (view : Table) : Type 0 where
  pub valid : language.IsValid view
  pub refuses : SameAnswers (language.table_refuses view) (TablesRefuse (parts_of_layers layers))

-- the layer is no policy, or has no pattern
abbrev pub LayersHaveNoPattern : Layer → Type 0
LayersHaveNoPattern layer = layer.kind ≡ kinds.Policy → IsPlain (language.table_refuses layer.content)

-- Some policy has a pattern, and the view has more rows than the limit.
pub record IsTooLarge (limit : ℕ) (layers : List Layer) : Type 0 where
  pub patterns : ¬ AllByRecursion LayersHaveNoPattern layers
  pub rows : (view : Table) → IsViewOf layers view → limit < row_count view

-- why there is no view: it is too large, or memory ran out
abbrev pub IsViewRefusal : ℕ → List Layer → LayersRefusal → Type 0
IsViewRefusal limit layers why =
    ((why ≡ ViewTooLarge) × IsTooLarge limit layers) ⊎ (why ≡ out_of_memory)
