-- What the disk stands for stays so.
use Rattle.std.proofs.Common.{◌≡◌, ◌⊎◌, ℕ, List, [], ◌∷◌, ◌++◌, refl, sym, ap, ◌∙◌, subst, inl, inr, append_assoc, append-nil}
use Rattle.cue_journal.specs.Blocks.{recovered_pieces}
use Rattle.cue_journal.specs.Settled.{IsBatch}
use Rattle.cue_journal.specs.Batches.{batch_bytes}
use Rattle.cue_journal.specs.Pairs.{IsPairReady, IsCommitted, entries_of_pair}
use Rattle.cue_layers.specs.declared.layer.Layer.{Layer}
use Rattle.cue_layers_site.specs.declared.store.LayersStore.{LayersStore}
use Rattle.cue_layers_site.specs.Entries.{StandForMap, layers_entry}
use Rattle.cue_layers_site.specs.Stores.{IsStoreSame, IsAdded, IsKept}
use Rattle.cue_layers_site.proofs.Stands.{stand_more}

pub no_batch : (batch : List ℕ) → batch ≡ [] → IsBatch batch
no_batch batch is = subst IsBatch (sym is) (record { stands = λ rest. refl; opens = inl refl })

pub none_recovered : (batch : List ℕ) → batch ≡ [] → recovered_pieces batch ≡ []
none_recovered batch is = ap recovered_pieces is

module _ {D : Type 0} (seen : D → List ℕ) (may_leave : D → List ℕ → Type 0) where
  -- nothing changed but the room of the files
  pub same_kept : (old new : LayersStore D) (on_disk : List Layer) → IsStoreSame seen may_leave old new → IsKept seen may_leave old on_disk → IsKept seen may_leave new on_disk
  same_kept old new on_disk same before =
      let entries = sym (same.files.entries before.ready) in
      record {
        ready = same.files.ready before.ready;
        batch = subst IsBatch (sym same.waits) before.batch;
        disk = subst (λ (l : List (List ℕ)). StandForMap l on_disk) entries before.disk;
        all = subst (StandForMap (entries_of_pair seen new.files ++ recovered_pieces (batch_bytes new.batch))) (sym same.map)
            (subst (λ (b : List ℕ). StandForMap (entries_of_pair seen new.files ++ recovered_pieces b) old.map) (sym same.waits)
            (subst (λ (l : List (List ℕ)). StandForMap (l ++ recovered_pieces (batch_bytes old.batch)) old.map) entries before.all));
      }

  -- one more map
  pub added_kept : (old new : LayersStore D) (on_disk more : List Layer) → IsAdded seen may_leave more old new → IsKept seen may_leave old on_disk → IsKept seen may_leave new on_disk
  added_kept old new on_disk more added before =
      let waits = added.waits before.batch in
      let entries = entries_of_pair seen old.files in
      let same = sym (added.files.entries before.ready) in
      let is : entries ++ recovered_pieces (batch_bytes new.batch) ≡ (entries ++ recovered_pieces (batch_bytes old.batch)) ++ layers_entry more ∷ [] =
      ap (λ (l : List (List ℕ)). entries ++ l) waits.1 ∙ sym (append_assoc entries (recovered_pieces (batch_bytes old.batch)) (layers_entry more ∷ [])) in
      record {
        ready = added.files.ready before.ready;
        batch = waits.0;
        disk = subst (λ (l : List (List ℕ)). StandForMap l on_disk) same before.disk;
        all = subst (λ (l : List (List ℕ)). StandForMap (l ++ recovered_pieces (batch_bytes new.batch)) new.map) same
            (subst (λ (l : List (List ℕ)). StandForMap l new.map) (sym is) (stand_more _ old.map more new.map before.all added.is_map added.joined));
      }

  -- entries that stand for the map of a new store
  pub opened : (store : LayersStore D) (map : List Layer) → IsPairReady seen may_leave store.files → StandForMap (entries_of_pair seen store.files) map
      → store.map ≡ map → batch_bytes store.batch ≡ [] → IsKept seen may_leave store map
  opened store map ready stands is empty = record {
    ready = ready;
    batch = no_batch (batch_bytes store.batch) empty;
    disk = stands;
    all = subst (λ (l : List (List ℕ)). StandForMap l store.map) (sym (ap (λ (l : List (List ℕ)). entries_of_pair seen store.files ++ l) (none_recovered _ empty) ∙ append-nil _))
        (subst (StandForMap (entries_of_pair seen store.files)) (sym is) stands);
  }

  -- after a commit
  pub committed : (old new : LayersStore D) (on_disk : List Layer) → IsKept seen may_leave old on_disk → IsPairReady seen may_leave new.files
      → entries_of_pair seen new.files ≡ entries_of_pair seen old.files ++ recovered_pieces (batch_bytes old.batch) → new.map ≡ old.map
      → batch_bytes new.batch ≡ [] → IsKept seen may_leave new new.map
  committed old new on_disk before ready entries map empty =
      opened new new.map ready
      (subst (λ (l : List (List ℕ)). StandForMap l new.map) (sym entries) (subst (StandForMap (entries_of_pair seen old.files ++ recovered_pieces (batch_bytes old.batch))) (sym map) before.all))
      refl empty

  -- a crash within a commit
  pub commit_leaves : (old : LayersStore D) (on_disk : List Layer) (left : List (List ℕ)) → IsKept seen may_leave old on_disk
      → IsCommitted (entries_of_pair seen old.files) (recovered_pieces (batch_bytes old.batch)) left → StandForMap left on_disk ⊎ StandForMap left old.map
  commit_leaves old on_disk left before (inl is) = inl (subst (λ (l : List (List ℕ)). StandForMap l on_disk) (sym is) before.disk)
  commit_leaves old on_disk left before (inr is) = inr (subst (λ (l : List (List ℕ)). StandForMap l old.map) (sym is) before.all)
