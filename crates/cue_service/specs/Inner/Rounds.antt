-- The two steps at the end of a round.
use Rattle.std.specs.Prelude.{◌≡◌, ℕ, Bool, true, false, List, []}
use Rattle.cue_lattice.specs.World.{Piece}
use Rattle.cue_journal.specs.Batches.{batch_bytes}
use Rattle.cue_journal.specs.Pairs.{MayLeave, is_whole}
use Rattle.cue_service.specs.declared.site.Site.{Site}
use Rattle.cue_service.specs.Entries.{StandFor}
use Rattle.cue_service.specs.Sites.{IsConsistent, Leaves}

module _ {D : Type 0} (seen : D → List ℕ) (may_leave : D → List ℕ → Type 0) where
  -- what waits reaches the disk
  pub record IsCommittedBy (old : Site D) (stands : Bool) (new : Site D) : Type 0 where
    pub consistent : (on_disk pieces : List Piece) → stands ≡ true → IsConsistent seen may_leave old on_disk pieces
        → IsConsistent seen may_leave new pieces pieces
    pub crash : (on_disk pieces : List Piece) → IsConsistent seen may_leave old on_disk pieces → Leaves seen may_leave new on_disk pieces
    pub whole_before : stands ≡ true → is_whole old.files ≡ true
    pub broken_after : stands ≡ false → is_whole new.files ≡ false
    pub empty : batch_bytes new.desk.batch ≡ []
    pub listed : new.desk.pieces ≡ old.desk.pieces

  -- the state takes the place of a long journal
  pub record IsCondensedBy (old : Site D) (stands : Bool) (new : Site D) : Type 0 where
    pub consistent : (pieces : List Piece) → stands ≡ true → batch_bytes old.desk.batch ≡ [] → IsConsistent seen may_leave old pieces pieces
        → IsConsistent seen may_leave new pieces pieces
    pub crash : (pieces : List Piece) → batch_bytes old.desk.batch ≡ [] → IsConsistent seen may_leave old pieces pieces
        → (left : List (List ℕ)) → MayLeave may_leave new.files left → StandFor left pieces
    pub broken_after : stands ≡ false → is_whole new.files ≡ false
    pub listed : new.desk.pieces ≡ old.desk.pieces
