-- Layers and the sources that they are taken for.
use Rattle.std.specs.Prelude.{◌≡◌, Bool, true, false, List, [], ◌∷◌, ◌++◌, map}
use Rattle.cue_lattice.specs.Path.{Step, Path}
use Rattle.cue_layers.specs.declared.layer.Layer.{Layer}
use Rattle.cue_why.specs.Shown.{AreShown}
use Rattle.cue_why.specs.declared.source.LayerSource.{LayerSource}
use Rattle.cue_layers_why.specs.Why.{part_pair}
use Rattle.cue_layers_why.specs.declared.naming.NamedLayer.{NamedLayer}

pub record IsSource (layer : Layer) (source : LayerSource) : Type 0 where
  pub kind : source.kind ≡ layer.kind
  pub name : source.name ≡ layer.name
  pub table : source.table.now ≡ layer.content

abbrev pub AreSources : List Layer → List LayerSource → Type 0
AreSources [] sources = sources ≡ []
AreSources (layer ∷ layers) [] = ⊥
AreSources (layer ∷ layers) (source ∷ sources) = IsSource layer source × AreSources layers sources

pub record IsNamedSource (path : Path) (source : LayerSource) (named : NamedLayer) : Type 0 where
  pub kind : named.kind ≡ source.kind
  pub name : named.name ≡ source.name
  pub parts : AreShown source.kind source.table.now path (map part_pair named.parts.items)

abbrev pub AreNamedSources : Path → List LayerSource → List NamedLayer → Type 0
AreNamedSources path [] named = named ≡ []
AreNamedSources path (source ∷ sources) [] = ⊥
AreNamedSources path (source ∷ sources) (one ∷ named) =
    IsNamedSource path source one × AreNamedSources path sources named

-- the path itself, or without its last step, where it has one
abbrev pub IsFront : Path → Bool → Path → Type 0
IsFront path false front = front ≡ path
IsFront [] true front = front ≡ []
IsFront (step ∷ path) true front = (last : Step) × ((step ∷ path) ≡ front ++ last ∷ [])
