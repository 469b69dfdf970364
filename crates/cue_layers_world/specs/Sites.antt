-- The maps and the messages of a world, by the sets of puts that they are of.
use Rattle.std.specs.Prelude.{◌≡◌, ◌↔◌, ℕ, List, Some, slice_get, Vec}
use Rattle.std.specs.Global.{Global}
use Rattle.cue_replica.specs.Language.{Table}
use Rattle.cue_replica.specs.Reports as reports
use Rattle.cue_layers.specs.Bytes.{layers_bytes}
use Rattle.cue_layers.specs.Maps.{IsMapOfPuts}
use Rattle.cue_layers.specs.Puts.{Put, SameMembers}
use Rattle.cue_layers.specs.View.{IsViewOf, IsTooLarge}
use Rattle.cue_layers.specs.declared.layer.Layer.{Layer}
use Rattle.cue_layers_world.specs.World.{puts_at}

-- a site has the map of exactly these puts
abbrev pub IsSiteOf : List Layer → List Put → Type 0
IsSiteOf layers puts = IsMapOfPuts puts layers

-- a message has the layers bytes of the map of exactly these puts
abbrev pub IsMessageOfMap : Vec ℕ Global → List Put → Type 0
IsMessageOfMap message puts =
    (layers : List Layer) × IsMapOfPuts puts layers × (message.items ≡ layers_bytes layers)

-- R holds of the maps of each two sites with the same set of puts
abbrev pub HoldsOfAlikeMaps : (List Layer → List Layer → Type 0) → List (List Layer)
    → List (List Put) → Type 0
HoldsOfAlikeMaps R sites sets =
    (i j : ℕ) (a b : List Layer) → slice_get sites i ≡ Some a → slice_get sites j ≡ Some b
    → SameMembers (puts_at sets i) (puts_at sets j) → R a b

-- sites with the same set of puts have equal maps
abbrev pub AreEqualMaps : List (List Layer) → List (List Put) → Type 0
AreEqualMaps = HoldsOfAlikeMaps (λ a b. a ≡ b)

-- Both maps have the same layers bytes. With one limit both views are too large, or neither is. Both
-- views are one table, with the same conflicts, the same gaps, the same export, the same printed text
-- and the same state bytes.
pub record HaveEqualViews (a b : List Layer) : Type 0 where
  pub bytes : layers_bytes a ≡ layers_bytes b
  pub too_large : (limit : ℕ) → IsTooLarge limit a ↔ IsTooLarge limit b
  pub views : (v w : Table) → IsViewOf a v → IsViewOf b w → (v ≡ w) × reports.HaveEqualReports v w

-- and equal views
abbrev pub AreSitesOfEqualViews : List (List Layer) → List (List Put) → Type 0
AreSitesOfEqualViews = HoldsOfAlikeMaps HaveEqualViews
