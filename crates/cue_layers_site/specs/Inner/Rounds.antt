-- The two steps at the end of a round.
use Rattle.std.specs.Prelude.{◌≡◌, ℕ, Bool, true, false, List, []}
use Rattle.cue_journal.specs.Batches.{batch_bytes}
use Rattle.cue_journal.specs.Pairs.{MayLeave, is_whole}
use Rattle.cue_layers.specs.declared.layer.Layer.{Layer}
use Rattle.cue_layers_site.specs.declared.store.LayersStore.{LayersStore}
use Rattle.cue_layers_site.specs.Entries.{StandForMap}
use Rattle.cue_layers_site.specs.Stores.{IsKept, LeavesMaps}

module _ {D : Type 0} (seen : D → List ℕ) (may_leave : D → List ℕ → Type 0) where
  -- what waits reaches the disk
  pub record IsCommittedBy (old : LayersStore D) (stands : Bool) (new : LayersStore D) : Type 0 where
    pub same : new.map ≡ old.map
    pub kept : (on_disk : List Layer) → stands ≡ true → IsKept seen may_leave old on_disk → IsKept seen may_leave new new.map
    pub crash : (on_disk : List Layer) → IsKept seen may_leave old on_disk → LeavesMaps seen may_leave new on_disk new.map
    pub whole_before : stands ≡ true → is_whole old.files ≡ true
    pub broken_after : stands ≡ false → is_whole new.files ≡ false
    pub empty : batch_bytes new.batch ≡ []

  -- the map takes the place of a long journal
  pub record IsCondensedBy (old : LayersStore D) (stands : Bool) (new : LayersStore D) : Type 0 where
    pub same : new.map ≡ old.map
    pub kept : stands ≡ true → batch_bytes old.batch ≡ [] → IsKept seen may_leave old old.map → IsKept seen may_leave new new.map
    pub crash : batch_bytes old.batch ≡ [] → IsKept seen may_leave old old.map
        → (left : List (List ℕ)) → MayLeave may_leave new.files left → StandForMap left old.map
    pub broken_after : stands ≡ false → is_whole new.files ≡ false
