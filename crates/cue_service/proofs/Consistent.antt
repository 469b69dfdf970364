-- A site stays consistent.
use Rattle.std.proofs.Common.{◌≡◌, ◌⊎◌, ◌<◌, ◌^◌, ℕ, List, [], ◌∷◌, ◌++◌, length, refl, sym, ap, ◌∙◌, subst, inl, inr, append_assoc, append-nil}
use Rattle.cue_lattice.specs.World.{Piece, IsUnified, IsSoundLanguage, state, pieces_refuse}
use Rattle.cue_replica.specs.Accepted.{IsOfPieces}
use Rattle.cue_replica.specs.Language.{Table, language}
use Rattle.cue_replica.proofs.Adding.{one_piece, unified_more}
use Rattle.cue_journal.specs.Blocks.{recovered_pieces}
use Rattle.cue_journal.specs.Settled.{IsBatch}
use Rattle.cue_journal.specs.Batches.{batch_bytes}
use Rattle.cue_journal.specs.Pairs.{IsPairReady, IsCommitted, IsCondensed, entries_of_pair}
use Rattle.cue_journal.specs.declared.pair.JournalPair.{JournalPair}
use Rattle.cue_service.specs.declared.site.Site.{Site}
use Rattle.cue_service.specs.Answering.{IsSame, IsPieceTaken, IsTagKnown}
use Rattle.cue_service.specs.Entries.{entry_of, pieces_of, AreEntriesAlike, StandFor}
use Rattle.cue_service.specs.Sites.{IsConsistent}
use Rattle.cue_service.proofs.Alike.{stand_more, same_refl, snapshot_stands, both_stand}

pub no_batch : (batch : List ℕ) → batch ≡ [] → IsBatch batch
no_batch batch is = subst IsBatch (sym is) (record { stands = λ rest. refl; opens = inl refl })

pub none_recovered : (batch : List ℕ) → batch ≡ [] → recovered_pieces batch ≡ []
none_recovered batch is = ap recovered_pieces is

module _ {D : Type 0} (seen : D → List ℕ) (may_leave : D → List ℕ → Type 0) where
  -- the table and what waits are the same
  pub still_consistent : (old new : Site D) (on_disk pieces : List Piece) → new.desk.board ≡ old.desk.board → batch_bytes new.desk.batch ≡ batch_bytes old.desk.batch
      → new.files ≡ old.files → IsConsistent seen may_leave old on_disk pieces → IsConsistent seen may_leave new on_disk pieces
  still_consistent old new on_disk pieces table waits files before = record {
    ready = subst (IsPairReady seen may_leave) (sym files) before.ready;
    batch = subst IsBatch (sym waits) before.batch;
    held = subst (λ (t : Table). IsUnified language t pieces) (sym table) before.held;
    disk = subst (λ (f : JournalPair D). StandFor (entries_of_pair seen f) on_disk) (sym files) before.disk;
    all = subst (λ (b : List ℕ). StandFor (entries_of_pair seen new.files ++ recovered_pieces b) pieces) (sym waits)
        (subst (λ (f : JournalPair D). StandFor (entries_of_pair seen f ++ recovered_pieces (batch_bytes old.desk.batch)) pieces) (sym files) before.all);
  }

  -- nothing changed but counts
  pub same_consistent : (old new : Site D) (on_disk pieces : List Piece) → IsSame old.desk new.desk → new.files ≡ old.files
      → IsConsistent seen may_leave old on_disk pieces → IsConsistent seen may_leave new on_disk pieces
  same_consistent old new on_disk pieces same files before = still_consistent old new on_disk pieces same.table same.waits files before

  -- a piece that the table says already
  pub known_consistent : (old new : Site D) (on_disk pieces : List Piece) (piece : Piece) → IsTagKnown piece old.desk new.desk → new.files ≡ old.files
      → IsConsistent seen may_leave old on_disk pieces → IsConsistent seen may_leave new on_disk (pieces ++ piece ∷ [])
  known_consistent old new on_disk pieces piece known files before =
      let still = still_consistent old new on_disk pieces known.same.table known.same.waits files before in
      let more : IsUnified language new.desk.board (pieces ++ piece ∷ []) =
      unified_more old.desk.board new.desk.board _ pieces (piece ∷ []) before.held known.adds known.valid (one_piece piece) in
      record {
        ready = still.ready;
        batch = still.batch;
        held = more;
        disk = still.disk;
        all = record {
          acceptable = still.all.acceptable;
          alike = λ path question.
              let a = still.all.alike path question in
              let u = still.held.1 path question in
              let v = more.1 path question in
              (λ h. v.0 (u.1 (a.0 h)), λ h. a.1 (u.0 (v.1 h)));
        };
      }

  -- one more piece
  pub taken_consistent : (old new : Site D) (on_disk pieces : List Piece) (piece : Piece) → IsPieceTaken piece old.desk new.desk → new.files ≡ old.files
      → IsConsistent seen may_leave old on_disk pieces → IsConsistent seen may_leave new on_disk (pieces ++ piece ∷ [])
  taken_consistent old new on_disk pieces piece taken files before =
      let waits = taken.waits before.batch in
      let entries = entries_of_pair seen old.files in
      let is : entries ++ recovered_pieces (batch_bytes new.desk.batch) ≡ (entries ++ recovered_pieces (batch_bytes old.desk.batch)) ++ entry_of piece ∷ [] =
      ap (λ (l : List (List ℕ)). entries ++ l) waits.1 ∙ sym (append_assoc entries (recovered_pieces (batch_bytes old.desk.batch)) (entry_of piece ∷ [])) in
      record {
        ready = subst (IsPairReady seen may_leave) (sym files) before.ready;
        batch = waits.0;
        held = unified_more old.desk.board new.desk.board _ pieces (piece ∷ []) before.held taken.adds taken.valid (one_piece piece);
        disk = subst (λ (f : JournalPair D). StandFor (entries_of_pair seen f) on_disk) (sym files) before.disk;
        all = subst (λ (f : JournalPair D). StandFor (entries_of_pair seen f ++ recovered_pieces (batch_bytes new.desk.batch)) (pieces ++ piece ∷ [])) (sym files)
            (subst (λ (l : List (List ℕ)). StandFor l (pieces ++ piece ∷ [])) (sym is) (stand_more _ pieces piece before.all taken.acceptable));
      }

  -- entries that are the pieces of a new table
  pub opened : (site : Site D) (pieces : List Piece) → IsPairReady seen may_leave site.files → IsOfPieces site.desk.board pieces
      → pieces ≡ pieces_of (entries_of_pair seen site.files) → batch_bytes site.desk.batch ≡ [] → IsConsistent seen may_leave site pieces pieces
  opened site pieces ready of is empty =
      let there : StandFor (entries_of_pair seen site.files) pieces = record {
        acceptable = subst (λ (l : List Piece). Rattle.std.specs.List.AllByRecursion Rattle.cue_replica.specs.Accepted.IsAcceptable l) is of.0;
        alike = subst (λ (l : List Piece). AreEntriesAlike (pieces_of (entries_of_pair seen site.files)) l) (sym is) (same_refl (pieces_refuse language (pieces_of (entries_of_pair seen site.files))));
      } in
      record {
        ready = ready;
        batch = no_batch (batch_bytes site.desk.batch) empty;
        held = of.1;
        disk = there;
        all = subst (λ (l : List (List ℕ)). StandFor l pieces) (sym (ap (λ (l : List (List ℕ)). entries_of_pair seen site.files ++ l) (none_recovered _ empty) ∙ append-nil _)) there;
      }

  -- after a commit
  pub committed : (old new : Site D) (on_disk pieces : List Piece) → IsConsistent seen may_leave old on_disk pieces → IsPairReady seen may_leave new.files
      → entries_of_pair seen new.files ≡ entries_of_pair seen old.files ++ recovered_pieces (batch_bytes old.desk.batch) → new.desk.board ≡ old.desk.board
      → batch_bytes new.desk.batch ≡ [] → IsConsistent seen may_leave new pieces pieces
  committed old new on_disk pieces before ready entries table empty =
      let there : StandFor (entries_of_pair seen new.files) pieces = subst (λ (l : List (List ℕ)). StandFor l pieces) (sym entries) before.all in
      record {
        ready = ready;
        batch = no_batch (batch_bytes new.desk.batch) empty;
        held = subst (λ (t : Table). IsUnified language t pieces) (sym table) before.held;
        disk = there;
        all = subst (λ (l : List (List ℕ)). StandFor l pieces) (sym (ap (λ (l : List (List ℕ)). entries_of_pair seen new.files ++ l) (none_recovered _ empty) ∙ append-nil _)) there;
      }

  -- a crash within a commit
  pub commit_leaves : (old : Site D) (on_disk pieces : List Piece) (left : List (List ℕ)) → IsConsistent seen may_leave old on_disk pieces
      → IsCommitted (entries_of_pair seen old.files) (recovered_pieces (batch_bytes old.desk.batch)) left → StandFor left on_disk ⊎ StandFor left pieces
  commit_leaves old on_disk pieces left before (inl is) = inl (subst (λ (l : List (List ℕ)). StandFor l on_disk) (sym is) before.disk)
  commit_leaves old on_disk pieces left before (inr is) = inr (subst (λ (l : List (List ℕ)). StandFor l pieces) (sym is) before.all)

-- the state of a table is the piece that stands for all of its pieces
pub own_state : IsSoundLanguage Table language → (table : Table) (pieces : List Piece) (bytes : List ℕ) → IsUnified language table pieces → bytes ≡ language.written table
    → length bytes < 2 ^ 64 → language.IsState bytes × AreEntriesAlike (state bytes ∷ []) pieces
own_state sound table pieces bytes unified is fits =
    let own = sound.reads_own table unified.0 (subst (λ (b : List ℕ). length b < 2 ^ 64) is fits) in
    let P : List ℕ → Type 0 = λ b. language.IsState b × AreEntriesAlike (state b ∷ []) pieces in
    subst P (sym is) (
      own.0,
      λ path question.
          let one = one_piece (state (language.written table)) path question in
          let o = own.1 path question in
          let u = unified.1 path question in
          (λ h. u.0 (o.0 (one.1 h)), λ h. one.0 (o.1 (u.1 h))),
    )

-- whatever a crash leaves of a snapshot stands for the pieces
pub condensed_stands : (spare growing batch left : List (List ℕ)) (pieces : List Piece) (bytes : List ℕ) → StandFor (spare ++ growing) pieces
    → language.IsState bytes → AreEntriesAlike (state bytes ∷ []) pieces → batch ≡ (1 ∷ bytes) ∷ [] → IsCondensed spare growing batch left → StandFor left pieces
condensed_stands spare growing batch left pieces bytes all is_state alike is (inl before) = subst (λ (l : List (List ℕ)). StandFor l pieces) (sym before) all
condensed_stands spare growing batch left pieces bytes all is_state alike is (inr (inl both)) =
    subst (λ (l : List (List ℕ)). StandFor l pieces) (sym (both ∙ ap (λ (b : List (List ℕ)). (spare ++ b) ++ growing) is)) (both_stand spare growing pieces bytes all is_state alike)
condensed_stands spare growing batch left pieces bytes all is_state alike is (inr (inr alone)) =
    subst (λ (l : List (List ℕ)). StandFor l pieces) (sym (alone ∙ ap (λ (b : List (List ℕ)). spare ++ b) is)) (snapshot_stands spare growing pieces bytes all is_state alike)
