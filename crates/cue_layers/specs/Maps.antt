-- Maps of layers, and the sets of puts that they are of.
use Rattle.std.specs.Prelude.{List, [], ◌∷◌, ◌++◌}
use Rattle.cue_lattice.specs.World.{Piece, state}
use Rattle.cue_policies.specs.declared.kind.LayerKind.TheVariants as kinds
use Rattle.cue_replica.specs.Language.{language}
use Rattle.cue_layers.specs.declared.layer.Layer.{Layer}
use Rattle.cue_layers.specs.Layers.{IsMap}
use Rattle.cue_layers.specs.Puts.{Put, of_puts, of_layers, AreCurrent}

-- a put of the commons, whose revision is always 0
abbrev pub commons_put : List Piece → Put
commons_put pieces =
    record { kind = kinds.Layer; name = []; revision = 0; pieces = pieces }

-- a layer of a map as a put, whose only piece is the state bytes of its table
abbrev pub put_of : Layer → Put
put_of layer =
    record {
      kind = layer.kind;
      name = layer.name;
      revision = layer.revision;
      pieces = state (language.written layer.content) ∷ [];
    }

-- The map of a set of puts. The commons is there also where nobody put anything into it.
pub record IsMapOfPuts (puts : List Put) (layers : List Layer) : Type 0 where
  pub is_map : IsMap layers
  pub current : AreCurrent of_puts (commons_put [] ∷ puts) layers

-- The join of two maps has for each key the layer of the greater revision, and where both have the
-- same one, their unification.
pub record IsJoin (a b joined : List Layer) : Type 0 where
  pub is_map : IsMap joined
  pub current : AreCurrent of_layers (a ++ b) joined
