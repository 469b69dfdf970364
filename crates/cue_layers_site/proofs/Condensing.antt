-- The map in the place of a journal.
use Rattle.std.proofs.Common.{◌≡◌, ℕ, List, [], ◌∷◌, ◌++◌, refl, sym, ap, ◌∙◌, subst, inl, inr, Result, Ok, Err, IfOk, is_ok, true, false}
use Rattle.cue_journal.specs.Blocks.{recovered_pieces}
use Rattle.cue_journal.specs.Frames.{file_entries}
use Rattle.cue_journal.specs.Settled.{IsBatch}
use Rattle.cue_journal.specs.Batches.{batch_bytes}
use Rattle.cue_journal.specs.Journals.{disk_of, IsEnough}
use Rattle.cue_journal.specs.declared.journal.Room.{Room}
use Rattle.cue_journal.specs.declared.journal.Room.TheVariants.{Enough, Refused}
use Rattle.cue_journal.specs.Pairs.{IsPairReady, IsCondensed, MayLeave, entries_of_pair, growing_of, spare_of}
use Rattle.cue_journal.specs.declared.pair.JournalPair.{JournalPair}
use Rattle.cue_journal.proofs.Files.{entries_left}
use Rattle.cue_layers.specs.declared.layer.Layer.{Layer}
use Rattle.cue_layers_site.specs.declared.store.LayersStore.{LayersStore}
use Rattle.cue_layers_site.specs.Entries.{StandForMap, layers_entry}
use Rattle.cue_layers_site.specs.Stores.{IsKept}
use Rattle.cue_layers_site.specs.Inner.Rounds.{IsCondensedBy}
use Rattle.cue_layers_site.proofs.Stands.{snapshot_stands, both_stand}
use Rattle.cue_layers_site.proofs.Kept.{no_batch, none_recovered, opened}

pub never_ok : {P : Type 0} → false ≡ true → P
never_ok failed = absurd cc

-- whatever a crash leaves of a snapshot stands for the map
condensed_stands : (spare growing batch left : List (List ℕ)) (map : List Layer) → StandForMap (spare ++ growing) map
    → batch ≡ layers_entry map ∷ [] → IsCondensed spare growing batch left → StandForMap left map
condensed_stands spare growing batch left map all is (inl before) = subst (λ (l : List (List ℕ)). StandForMap l map) (sym before) all
condensed_stands spare growing batch left map all is (inr (inl both)) =
    subst (λ (l : List (List ℕ)). StandForMap l map) (sym (both ∙ ap (λ (b : List (List ℕ)). (spare ++ b) ++ growing) is)) (both_stand spare growing map all)
condensed_stands spare growing batch left map all is (inr (inr alone)) =
    subst (λ (l : List (List ℕ)). StandForMap l map) (sym (alone ∙ ap (λ (b : List (List ℕ)). spare ++ b) is)) (snapshot_stands spare growing map all)

module _ {D : Type 0} (seen : D → List ℕ) (may_leave : D → List ℕ → Type 0) where
  -- a crash leaves the entries of files that are as between two calls
  left_as_is : (files : JournalPair D) (left : List (List ℕ)) → IsPairReady seen may_leave files → MayLeave may_leave files left → left ≡ entries_of_pair seen files
  left_as_is files left ready may =
      may.4
      ∙ ap (λ (l : List (List ℕ)). l ++ file_entries may.1) (entries_left _ _ _ ready.spare.settled may.0 may.2)
      ∙ ap (λ (l : List (List ℕ)). file_entries (seen (disk_of (spare_of files))) ++ l) (entries_left _ _ _ ready.growing.settled may.1 may.3)

  -- no snapshot was written
  pub not_condensed : (old new : LayersStore D) → new.files ≡ old.files → new.map ≡ old.map → batch_bytes new.batch ≡ batch_bytes old.batch → IsCondensedBy seen may_leave old true new
  not_condensed old new files map waits = record {
    same = map;
    kept = λ stands empty before.
        opened seen may_leave new new.map (subst (IsPairReady seen may_leave) (sym files) before.ready)
        (subst (λ (f : JournalPair D). StandForMap (entries_of_pair seen f) new.map) (sym files) (subst (StandForMap (entries_of_pair seen old.files)) (sym map) before.disk))
        refl (waits ∙ empty);
    crash = λ empty before left may.
        subst (λ (l : List (List ℕ)). StandForMap l old.map) (sym (left_as_is old.files left before.ready (subst (λ (f : JournalPair D). MayLeave may_leave f left) files may))) before.disk;
    broken_after = λ fails. never_ok (sym fails);
  }

  -- what is in the batch: one entry
  one_entry : (old batch entry : List ℕ) → old ≡ [] → (IsBatch old → IsBatch batch × (recovered_pieces batch ≡ recovered_pieces old ++ entry ∷ [])) → IsBatch batch × (recovered_pieces batch ≡ entry ∷ [])
  one_entry old batch entry empty added =
      let done = added (no_batch old empty) in
      (done.0, done.1 ∙ ap (λ (l : List (List ℕ)). l ++ entry ∷ []) (none_recovered old empty))

  pub condensed_left : (old : LayersStore D) (batch : List ℕ) → IsKept seen may_leave old old.map → batch_bytes old.batch ≡ []
      → (IsBatch (batch_bytes old.batch) → IsBatch batch × (recovered_pieces batch ≡ recovered_pieces (batch_bytes old.batch) ++ layers_entry old.map ∷ []))
      → (left : List (List ℕ))
      → (IsPairReady seen may_leave old.files → IsBatch batch → IsCondensed (file_entries (seen (disk_of (spare_of old.files)))) (file_entries (seen (disk_of (growing_of old.files)))) (recovered_pieces batch) left)
      → StandForMap left old.map
  condensed_left old batch before empty added left crash =
      let one = one_entry (batch_bytes old.batch) batch (layers_entry old.map) empty added in
      condensed_stands (file_entries (seen (disk_of (spare_of old.files)))) (file_entries (seen (disk_of (growing_of old.files)))) (recovered_pieces batch) left old.map before.disk one.1 (crash before.ready one.0)

  -- a snapshot that was written, or refused
  pub condensed_or_kept : {E : Type 0} (r : Result Room E) → is_ok r ≡ true → (old new : LayersStore D) (batch : List ℕ)
      → IsKept seen may_leave old old.map → batch_bytes old.batch ≡ []
      → (IsBatch (batch_bytes old.batch) → IsBatch batch × (recovered_pieces batch ≡ recovered_pieces (batch_bytes old.batch) ++ layers_entry old.map ∷ []))
      → IfOk r (λ room. IsEnough room → IsPairReady seen may_leave old.files → IsBatch batch
      → IsPairReady seen may_leave new.files × (entries_of_pair seen new.files ≡ file_entries (seen (disk_of (spare_of old.files))) ++ recovered_pieces batch))
      → IfOk r (λ room. ¬ IsEnough room → IsPairReady seen may_leave old.files → IsPairReady seen may_leave new.files × (entries_of_pair seen new.files ≡ entries_of_pair seen old.files))
      → new.map ≡ old.map → batch_bytes new.batch ≡ [] → IsKept seen may_leave new new.map
  condensed_or_kept (Ok Enough) fine old new batch before empty added condensed kept map none =
      let one = one_entry (batch_bytes old.batch) batch (layers_entry old.map) empty added in
      let done = condensed tt before.ready one.0 in
      let there : StandForMap (entries_of_pair seen new.files) old.map =
      condensed_stands (file_entries (seen (disk_of (spare_of old.files)))) (file_entries (seen (disk_of (growing_of old.files)))) (recovered_pieces batch) (entries_of_pair seen new.files) old.map before.disk one.1 (inr (inr done.1)) in
      opened seen may_leave new new.map done.0 (subst (StandForMap (entries_of_pair seen new.files)) (sym map) there) refl none
  condensed_or_kept (Ok (Refused error)) fine old new batch before empty added condensed kept map none =
      let done = kept (λ enough. enough) before.ready in
      opened seen may_leave new new.map done.0
      (subst (λ (l : List (List ℕ)). StandForMap l new.map) (sym done.1) (subst (StandForMap (entries_of_pair seen old.files)) (sym map) before.disk)) refl none
  condensed_or_kept (Err error) failed old new batch before empty added condensed kept map none = never_ok failed
