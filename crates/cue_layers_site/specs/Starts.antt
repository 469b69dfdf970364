-- A store of layers at its start.
use Rattle.std.specs.Prelude.{◌++◌, ℕ, List, IsTrue, Bool}
use Rattle.cue_journal.specs.Journals.{disk_of}
use Rattle.cue_journal.specs.Pairs.{growing_of, spare_of}
use Rattle.cue_journal.specs.Starts.{AreOfFiles}
use Rattle.cue_layers_site.specs.declared.store.LayersStore.{LayersStore}
use Rattle.cue_layers_site.specs.Entries.{StandForMap}
use Rattle.cue_layers_site.specs.Stores.{IsKept}

-- no wrong answer of either disk was taken as true
abbrev pub IsCleanStore : {D : Type 0} → (D → Bool) → LayersStore D → Type 0
IsCleanStore is_clean store =
    IsTrue (is_clean (disk_of (spare_of store.files))) × IsTrue (is_clean (disk_of (growing_of store.files)))

-- its map is the join of the entries of both files, and the disk stands for it
pub record IsStartedStore {D : Type 0} (seen : D → List ℕ) (may_leave : D → List ℕ → Type 0) (first second : D) (store : LayersStore D) : Type 0 where
  pub spare : List (List ℕ)
  pub growing : List (List ℕ)
  pub files : AreOfFiles spare growing (seen first) (seen second)
  pub stands : StandForMap (spare ++ growing) store.map
  pub kept : IsKept seen may_leave store store.map
