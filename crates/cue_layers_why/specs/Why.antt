-- Which layers of a map are named for a path, and with what.
use Rattle.std.specs.Prelude.{◌≡◌, ◌⊎◌, List, [], ◌∷◌, ◌++◌, map}
use Rattle.cue_lattice.specs.Path.{Step, Path}
use Rattle.cue_lattice.specs.Question.{Refusals}
use Rattle.cue_layers.specs.View.{parts_of_layers}
use Rattle.cue_layers.specs.declared.layer.Layer.{Layer}
use Rattle.cue_policies.specs.Tables.{TablesRefuse}
use Rattle.cue_row.specs.declared.parts.RowParts.{RowParts as Row}
use Rattle.cue_table.specs.Tree.{Tree}
use Rattle.cue_why.specs.Finding.{Makes}
use Rattle.cue_why.specs.Least.{IsLeft, IsLeastList}
use Rattle.cue_why.specs.Reported.{IsLabelReported}
use Rattle.cue_why.specs.Shown.{AreShown}
use Rattle.cue_layers_why.specs.declared.naming.LayerPart.{LayerPart}
use Rattle.cue_layers_why.specs.declared.naming.NamedLayer.{NamedLayer}

-- what the view of layers refuses
abbrev pub LayersRefuse : List Layer → Refusals
LayersRefuse layers = TablesRefuse (parts_of_layers layers)

-- some layers make what the report of the view of all says at a path
abbrev pub LayersMake : List Layer → Path → List Layer → Type 0
LayersMake all path some = Makes (LayersRefuse all) (LayersRefuse some) path

-- The path for which parts are shown: where the label alone is reported, the path without it.
abbrev pub IsShownPath : Refusals → Path → Path → Type 0
IsShownPath view path shown =
    (IsLabelReported view path × ((step : Step) × (path ≡ shown ++ step ∷ [])))
    ⊎ ((¬ IsLabelReported view path) × (shown ≡ path))

abbrev pub part_pair : LayerPart → Path × Tree Row
part_pair part = (part.written, part.table)

-- the layer is named, with its parts that are shown for the path
pub record IsNamed (path : Path) (layer : Layer) (named : NamedLayer) : Type 0 where
  pub kind : named.kind ≡ layer.kind
  pub name : named.name ≡ layer.name
  pub parts : AreShown layer.kind layer.content path (map part_pair named.parts.items)

-- the layers are named, in their order
abbrev pub AreNamed : Path → List Layer → List NamedLayer → Type 0
AreNamed path [] named = named ≡ []
AreNamed path (layer ∷ layers) [] = ⊥
AreNamed path (layer ∷ layers) (one ∷ named) = IsNamed path layer one × AreNamed path layers named

-- The layers that are named make what is reported at the path, and none of them can be left out:
-- each layer in the order of the map was left out, once, where the others suffice.
pub record IsWhy (layers : List Layer) (path : Path) (named : List NamedLayer) : Type 0 where
  pub makers : List Layer
  pub left : IsLeft (LayersMake layers path) [] layers makers
  pub least : IsLeastList (LayersMake layers path) makers
  pub shown : Path
  pub shown_is : IsShownPath (LayersRefuse layers) path shown
  pub named_are : AreNamed shown makers named
