-- A map of layers on the disk: what a change leaves, and what the disk stands for.
use Rattle.std.specs.Prelude.{◌≡◌, ◌⊎◌, ℕ, Bool, true, false, List, [], ◌∷◌, ◌++◌}
use Rattle.cue_journal.specs.Batches.{batch_bytes}
use Rattle.cue_journal.specs.Blocks.{recovered_pieces}
use Rattle.cue_journal.specs.Pairs.{IsPairReady, HasSameEntries, MayLeave, entries_of_pair, is_whole}
use Rattle.cue_journal.specs.Settled.{IsBatch}
use Rattle.cue_layers.specs.declared.layer.Layer.{Layer}
use Rattle.cue_layers.specs.Layers.{IsMap}
use Rattle.cue_layers.specs.Maps.{IsJoin}
use Rattle.cue_layers_site.specs.declared.store.LayersStore.{LayersStore}
use Rattle.cue_layers_site.specs.Entries.{StandForMap, layers_entry}

-- the map of a store
abbrev pub map_of : {D : Type 0} → LayersStore D → List Layer
map_of store = store.map

-- the map, what waits and the files are the same
pub record IsStoreStill {D : Type 0} (old new : LayersStore D) : Type 0 where
  pub map : new.map ≡ old.map
  pub waits : new.batch ≡ old.batch
  pub files : new.files ≡ old.files

module _ {D : Type 0} (seen : D → List ℕ) (may_leave : D → List ℕ → Type 0) where
  -- the map and what waits are the same, and the files have the same entries
  pub record IsStoreSame (old new : LayersStore D) : Type 0 where
    pub map : new.map ≡ old.map
    pub waits : batch_bytes new.batch ≡ batch_bytes old.batch
    pub files : HasSameEntries seen may_leave old.files new.files

  -- another map was joined to that of the store, and waits behind what waited
  pub record IsAdded (more : List Layer) (old new : LayersStore D) : Type 0 where
    pub is_map : IsMap more
    pub joined : IsJoin old.map more new.map
    pub waits : IsBatch (batch_bytes old.batch) → IsBatch (batch_bytes new.batch)
        × (recovered_pieces (batch_bytes new.batch)
        ≡ recovered_pieces (batch_bytes old.batch) ++ layers_entry more ∷ [])
    pub files : HasSameEntries seen may_leave old.files new.files

  -- The disk stands for this map, and with what waits for that of the store.
  pub record IsKept (store : LayersStore D) (on_disk : List Layer) : Type 0 where
    pub ready : IsPairReady seen may_leave store.files
    pub batch : IsBatch (batch_bytes store.batch)
    pub disk : StandForMap (entries_of_pair seen store.files) on_disk
    pub all : StandForMap (entries_of_pair seen store.files ++ recovered_pieces (batch_bytes store.batch)) store.map

  -- a crash leaves what stands for one of two maps
  abbrev pub LeavesMaps : LayersStore D → List Layer → List Layer → Type 0
  LeavesMaps store before after =
      (left : List (List ℕ)) → MayLeave may_leave store.files left
      → StandForMap left before ⊎ StandForMap left after

  -- the end of a round
  pub record SettlesLayers (old : LayersStore D) (stands : Bool) (new : LayersStore D) : Type 0 where
    pub same : new.map ≡ old.map
    -- where it stands, the disk stands for the map
    pub kept : (on_disk : List Layer) → stands ≡ true → IsKept old on_disk → IsKept new new.map
    pub crash : (on_disk : List Layer) → IsKept old on_disk → LeavesMaps new on_disk new.map
    -- once one does not stand, none does
    pub whole_before : stands ≡ true → is_whole old.files ≡ true
    pub broken_after : stands ≡ false → is_whole new.files ≡ false
