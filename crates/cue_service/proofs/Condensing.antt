-- The state of a site in the place of a journal.
use Rattle.std.proofs.Common.{◌≡◌, ◌<◌, ◌^◌, ℕ, List, [], ◌∷◌, ◌++◌, length, sym, ap, ◌∙◌, subst, append-nil, inr, Result, Ok, Err, IfOk, is_ok, true, false}
use Rattle.cue_lattice.specs.World.{Piece, IsUnified, IsSoundLanguage}
use Rattle.cue_replica.specs.Language.{Table, language}
use Rattle.cue_journal.specs.Blocks.{recovered_pieces}
use Rattle.cue_journal.specs.Frames.{file_entries}
use Rattle.cue_journal.specs.Settled.{IsBatch}
use Rattle.cue_journal.specs.Batches.{batch_bytes}
use Rattle.cue_journal.specs.Journals.{disk_of, IsEnough}
use Rattle.cue_journal.specs.declared.journal.Room.{Room}
use Rattle.cue_journal.specs.declared.journal.Room.TheVariants.{Enough, Refused}
use Rattle.cue_journal.specs.Pairs.{IsPairReady, IsCondensed, MayLeave, entries_of_pair, growing_of, spare_of}
use Rattle.cue_journal.specs.declared.pair.JournalPair.{JournalPair}
use Rattle.cue_journal.proofs.Files.{entries_left}
use Rattle.cue_service.specs.declared.site.Site.{Site}
use Rattle.cue_service.specs.Entries.{StandFor}
use Rattle.cue_service.specs.Sites.{IsConsistent}
use Rattle.cue_service.specs.Inner.Rounds.{IsCondensedBy}
use Rattle.cue_service.proofs.Consistent.{still_consistent, no_batch, none_recovered, own_state, condensed_stands, committed}

never_ok : {P : Type 0} → false ≡ true → P
never_ok failed = absurd cc

module _ {D : Type 0} (seen : D → List ℕ) (may_leave : D → List ℕ → Type 0) (sound : IsSoundLanguage Table language) where
  -- a crash leaves the entries of files that are as between two calls
  left_as_is : (files : JournalPair D) (left : List (List ℕ)) → IsPairReady seen may_leave files → MayLeave may_leave files left → left ≡ entries_of_pair seen files
  left_as_is files left ready may =
      may.4
      ∙ ap (λ (l : List (List ℕ)). l ++ file_entries may.1) (entries_left _ _ _ ready.spare.settled may.0 may.2)
      ∙ ap (λ (l : List (List ℕ)). file_entries (seen (disk_of files.spare)) ++ l) (entries_left _ _ _ ready.growing.settled may.1 may.3)

  -- no snapshot was written
  pub not_condensed : (old new : Site D) → new.files ≡ old.files → new.desk.board ≡ old.desk.board → batch_bytes new.desk.batch ≡ batch_bytes old.desk.batch
      → new.desk.pieces ≡ old.desk.pieces → IsCondensedBy seen may_leave old true new
  not_condensed old new files table waits listed = record {
    consistent = λ pieces stands empty before. still_consistent seen may_leave old new pieces pieces table waits files before;
    crash = λ pieces empty before left may.
        subst (λ (l : List (List ℕ)). StandFor l pieces) (sym (left_as_is old.files left before.ready (subst (λ (f : JournalPair D). MayLeave may_leave f left) files may))) before.disk;
    broken_after = λ fails. never_ok (sym fails);
    listed = listed;
  }

  -- what is in the batch: one entry
  one_entry : (old batch bytes : List ℕ) → old ≡ [] → (IsBatch old → IsBatch batch × (recovered_pieces batch ≡ recovered_pieces old ++ (1 ∷ bytes) ∷ [])) → IsBatch batch × (recovered_pieces batch ≡ (1 ∷ bytes) ∷ [])
  one_entry old batch bytes empty added =
      let done = added (no_batch old empty) in
      (done.0, done.1 ∙ ap (λ (l : List (List ℕ)). l ++ (1 ∷ bytes) ∷ []) (none_recovered old empty))

  pub condensed_left : (old : Site D) (pieces : List Piece) (bytes batch : List ℕ) → IsConsistent seen may_leave old pieces pieces → batch_bytes old.desk.batch ≡ []
      → length bytes < 2 ^ 64 → bytes ≡ language.written old.desk.board
      → (IsBatch (batch_bytes old.desk.batch) → IsBatch batch × (recovered_pieces batch ≡ recovered_pieces (batch_bytes old.desk.batch) ++ (1 ∷ bytes) ∷ []))
      → (left : List (List ℕ))
      → (IsPairReady seen may_leave old.files → IsBatch batch → IsCondensed (file_entries (seen (disk_of (spare_of old.files)))) (file_entries (seen (disk_of (growing_of old.files)))) (recovered_pieces batch) left)
      → StandFor left pieces
  condensed_left old pieces bytes batch before empty fits written added left crash =
      let one = one_entry (batch_bytes old.desk.batch) batch bytes empty added in
      let own = own_state sound old.desk.board pieces bytes before.held written fits in
      condensed_stands (file_entries (seen (disk_of (spare_of old.files)))) (file_entries (seen (disk_of (growing_of old.files)))) (recovered_pieces batch) left pieces bytes before.disk own.0 own.1 one.1 (crash before.ready one.0)

  pub condensed_site : (old new : Site D) (pieces : List Piece) (bytes batch : List ℕ) → IsConsistent seen may_leave old pieces pieces → batch_bytes old.desk.batch ≡ []
      → length bytes < 2 ^ 64 → bytes ≡ language.written old.desk.board
      → (IsBatch (batch_bytes old.desk.batch) → IsBatch batch × (recovered_pieces batch ≡ recovered_pieces (batch_bytes old.desk.batch) ++ (1 ∷ bytes) ∷ []))
      → (IsPairReady seen may_leave old.files → IsBatch batch → IsPairReady seen may_leave new.files × (entries_of_pair seen new.files ≡ file_entries (seen (disk_of (spare_of old.files))) ++ recovered_pieces batch))
      → new.desk.board ≡ old.desk.board → batch_bytes new.desk.batch ≡ [] → IsConsistent seen may_leave new pieces pieces
  condensed_site old new pieces bytes batch before empty fits written added condensed table none =
      let one = one_entry (batch_bytes old.desk.batch) batch bytes empty added in
      let own = own_state sound old.desk.board pieces bytes before.held written fits in
      let done = condensed before.ready one.0 in
      let there : StandFor (entries_of_pair seen new.files) pieces =
      condensed_stands (file_entries (seen (disk_of (spare_of old.files)))) (file_entries (seen (disk_of (growing_of old.files)))) (recovered_pieces batch) (entries_of_pair seen new.files) pieces bytes before.disk own.0 own.1 one.1 (inr (inr done.1)) in
      record {
        ready = done.0;
        batch = no_batch (batch_bytes new.desk.batch) none;
        held = subst (λ (t : Table). IsUnified language t pieces) (sym table) before.held;
        disk = there;
        all = subst (λ (l : List (List ℕ)). StandFor l pieces) (sym (ap (λ (l : List (List ℕ)). entries_of_pair seen new.files ++ l) (none_recovered (batch_bytes new.desk.batch) none) ∙ append-nil (entries_of_pair seen new.files))) there;
      }

  -- a snapshot that was refused
  pub kept_site : (old new : Site D) (pieces : List Piece) → IsConsistent seen may_leave old pieces pieces → batch_bytes old.desk.batch ≡ []
      → (IsPairReady seen may_leave old.files → IsPairReady seen may_leave new.files × (entries_of_pair seen new.files ≡ entries_of_pair seen old.files))
      → new.desk.board ≡ old.desk.board → batch_bytes new.desk.batch ≡ [] → IsConsistent seen may_leave new pieces pieces
  kept_site old new pieces before empty kept table none =
      let done = kept before.ready in
      let entries = entries_of_pair seen old.files in
      let all : entries_of_pair seen new.files ≡ entries ++ recovered_pieces (batch_bytes old.desk.batch) =
      done.1 ∙ sym (append-nil entries) ∙ sym (ap (λ (l : List (List ℕ)). entries ++ l) (none_recovered (batch_bytes old.desk.batch) empty)) in
      committed seen may_leave old new pieces pieces before done.0 all table none

  -- a snapshot that was written, or refused
  pub condensed_or_kept : {E : Type 0} (r : Result Room E) → is_ok r ≡ true → (old new : Site D) (pieces : List Piece) (bytes batch : List ℕ)
      → IsConsistent seen may_leave old pieces pieces → batch_bytes old.desk.batch ≡ []
      → length bytes < 2 ^ 64 → bytes ≡ language.written old.desk.board
      → (IsBatch (batch_bytes old.desk.batch) → IsBatch batch × (recovered_pieces batch ≡ recovered_pieces (batch_bytes old.desk.batch) ++ (1 ∷ bytes) ∷ []))
      → IfOk r (λ room. IsEnough room → IsPairReady seen may_leave old.files → IsBatch batch
      → IsPairReady seen may_leave new.files × (entries_of_pair seen new.files ≡ file_entries (seen (disk_of (spare_of old.files))) ++ recovered_pieces batch))
      → IfOk r (λ room. ¬ IsEnough room → IsPairReady seen may_leave old.files → IsPairReady seen may_leave new.files × (entries_of_pair seen new.files ≡ entries_of_pair seen old.files))
      → new.desk.board ≡ old.desk.board → batch_bytes new.desk.batch ≡ [] → IsConsistent seen may_leave new pieces pieces
  condensed_or_kept (Ok Enough) fine old new pieces bytes batch before empty fits written added condensed kept table none =
      condensed_site old new pieces bytes batch before empty fits written added (condensed tt) table none
  condensed_or_kept (Ok (Refused error)) fine old new pieces bytes batch before empty fits written added condensed kept table none =
      kept_site old new pieces before empty (kept (λ enough. enough)) table none
  condensed_or_kept (Err error) failed old new pieces bytes batch before empty fits written added condensed kept table none = never_ok failed
