-- Laws of worlds of layers.
use Rattle.std.specs.Prelude.{◌≡◌, List}
use Rattle.cue_replica.specs.Language.{Table}
use Rattle.cue_layers.specs.Maps.{IsMapOfPuts}
use Rattle.cue_layers.specs.Puts.{Put, SameMembers}
use Rattle.cue_layers.specs.View.{IsViewOf}
use Rattle.cue_layers.specs.declared.layer.Layer.{Layer}
use Rattle.cue_layers_world.specs.Sites.{HaveEqualViews}
use Rattle.cue_layers_world.specs.World.{LayerSets, LayersReach}
use Rattle.cue_layers_world.specs.declared.world.LayersEvent.{LayersEvent}
use Rattle.cue_layers_world.specs.declared.world.LayersOutcome.{LayersOutcome}

-- a list of events with these outcomes leads to one world of sets at most
abbrev pub AreReachedOnce : Type 0
AreReachedOnce =
    (sets a b : LayerSets) (events : List LayersEvent) (outcomes : List LayersOutcome)
    → LayersReach sets events outcomes a → LayersReach sets events outcomes b → a ≡ b

-- two views of one map are the same table
abbrev pub HaveOneView : Type 0
HaveOneView =
    (layers : List Layer) (v w : Table) → IsViewOf layers v → IsViewOf layers w → v ≡ w

-- maps of one set of puts have equal views
abbrev pub HaveEqualViewsOfOneSet : Type 0
HaveEqualViewsOfOneSet =
    (a b : List Layer) (ps qs : List Put) → IsMapOfPuts ps a → IsMapOfPuts qs b → SameMembers ps qs
    → HaveEqualViews a b
