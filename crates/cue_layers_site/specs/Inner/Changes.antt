-- A change of a map.
use Rattle.std.specs.Prelude.{◌≡◌, ℕ, List, [], ◌∷◌}
use Rattle.http_server.specs.declared.response.Response.{Response}
use Rattle.http_server.specs.Response.{IsResponse}
use Rattle.cue_policies.specs.declared.kind.LayerKind.{LayerKind}
use Rattle.cue_layers.specs.declared.layer.Layer.{Layer}
use Rattle.cue_layers.specs.Layers.{IsMap, key, key_of}
use Rattle.cue_layers.specs.Maps.{IsJoin}
use Rattle.cue_layers.specs.Puts.{HasElement}
use Rattle.cue_layers_site.specs.declared.refusal.ChangeRefusal.{ChangeRefusal}
use Rattle.cue_layers_site.specs.declared.refusal.ChangeRefusal.TheVariants.{Unknown, Barred, Absent, Unmet}
use Rattle.cue_layers_site.specs.declared.store.LayersStore.{LayersStore}
use Rattle.cue_layers_site.specs.declared.store.MapChange.{MapChange}
use Rattle.cue_layers_site.specs.Statuses.{layer_tag_field}
use Rattle.cue_layers_site.specs.Stores.{IsAdded}

-- it leaves the join of the map and of what was joined
pub record IsChangeOf (map : List Layer) (change : MapChange) : Type 0 where
  pub is_map : IsMap change.more
  pub joined : IsJoin map change.more change.next

-- It says neither who may write, nor what a map has: it is of what was sent, of the disk or of memory.
abbrev pub IsNameReason : ChangeRefusal → Type 0
IsNameReason Unknown = ⊥
IsNameReason Barred = ⊥
IsNameReason Absent = ⊥
IsNameReason Unmet = ⊥
IsNameReason why = Unit {0}

-- the answer says that a change is done, with the tag of the layer of a key
abbrev pub IsDoneAnswer : LayerKind → List ℕ → List Layer → Response → Type 0
IsDoneAnswer kind name map response =
    (layer : Layer) × HasElement map layer × (key_of layer ≡ key kind name)
    × IsResponse 204 (layer_tag_field layer ∷ []) [] response

module _ {D : Type 0} (seen : D → List ℕ) (may_leave : D → List ℕ → Type 0) where
  -- the map is replaced by the join of another one to it, and that is answered
  pub record IsReplaced (kind : LayerKind) (name : List ℕ) (next : List Layer) (old : LayersStore D) (response : Response) (new : LayersStore D) : Type 0 where
    pub map : new.map ≡ next
    pub more : List Layer
    pub added : IsAdded seen may_leave more old new
    pub answer : IsDoneAnswer kind name next response
