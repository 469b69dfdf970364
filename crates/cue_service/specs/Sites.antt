-- A site: what its table is made of, and what of that is on the disk.
use Rattle.std.specs.Prelude.{◌≡◌, ◌⊎◌, ℕ, Bool, true, false, List, ◌++◌}
use Rattle.cue_lattice.specs.World.{Piece, IsUnified}
use Rattle.cue_replica.specs.Language.{language}
use Rattle.http.specs.declared.request.Request.{Request}
use Rattle.http_server.specs.declared.response.Response.{Response}
use Rattle.cue_journal.specs.Blocks.{recovered_pieces}
use Rattle.cue_journal.specs.Settled.{IsBatch}
use Rattle.cue_journal.specs.Batches.{batch_bytes}
use Rattle.cue_journal.specs.Pairs.{IsPairReady, HasSameEntries, MayLeave, entries_of_pair, is_whole}
use Rattle.cue_service.specs.declared.site.Site.{Site}
use Rattle.cue_service.specs.Answering.{AnswersRequest, GathersState, GathersPieces, IsSame}
use Rattle.cue_service.specs.Entries.{StandFor}

-- the answer to a request, of the table that the site holds then
pub record AnswersAt {D : Type 0} (seen : D → List ℕ) (may_leave : D → List ℕ → Type 0) (old : Site D) (request : Request (List ℕ)) (response : Response) (new : Site D) : Type 0 where
  pub answer : AnswersRequest old.desk request response new.desk
  pub files : HasSameEntries seen may_leave old.files new.files

-- the state of another site comes
pub record GathersAt {D : Type 0} (seen : D → List ℕ) (may_leave : D → List ℕ → Type 0) (bytes : List ℕ) (old new : Site D) : Type 0 where
  pub gathers : GathersState bytes old.desk new.desk
  pub files : HasSameEntries seen may_leave old.files new.files

-- pieces of another site come
pub record GathersPiecesAt {D : Type 0} (seen : D → List ℕ) (may_leave : D → List ℕ → Type 0) (pieces : List Piece) (old new : Site D) : Type 0 where
  pub gathers : GathersPieces pieces old.desk new.desk
  pub files : HasSameEntries seen may_leave old.files new.files

-- only counts change
pub record IsSiteUntouched {D : Type 0} (old new : Site D) : Type 0 where
  pub same : IsSame old.desk new.desk
  pub files : new.files ≡ old.files

module _ {D : Type 0} (seen : D → List ℕ) (may_leave : D → List ℕ → Type 0) where
  -- The table is the unification of exactly the pieces. The disk stands for some of them, and with
  -- what waits for all.
  pub record IsConsistent (site : Site D) (on_disk pieces : List Piece) : Type 0 where
    pub ready : IsPairReady seen may_leave site.files
    pub batch : IsBatch (batch_bytes site.desk.batch)
    pub held : IsUnified language site.desk.board pieces
    pub disk : StandFor (entries_of_pair seen site.files) on_disk
    pub all : StandFor (entries_of_pair seen site.files ++ recovered_pieces (batch_bytes site.desk.batch)) pieces

  -- a crash leaves what stands for the pieces that were on the disk, or for all
  abbrev pub Leaves : Site D → List Piece → List Piece → Type 0
  Leaves site on_disk pieces =
      (left : List (List ℕ)) → MayLeave may_leave site.files left
      → StandFor left on_disk ⊎ StandFor left pieces

  -- the end of a round
  pub record Settles (old : Site D) (stands : Bool) (new : Site D) : Type 0 where
    -- where it stands, all pieces are on the disk
    pub consistent : (on_disk pieces : List Piece) → stands ≡ true → IsConsistent old on_disk pieces
        → IsConsistent new pieces pieces
    pub crash : (on_disk pieces : List Piece) → IsConsistent old on_disk pieces → Leaves new on_disk pieces
    pub listed : new.desk.pieces ≡ old.desk.pieces
    -- once one does not stand, none does
    pub whole_before : stands ≡ true → is_whole old.files ≡ true
    pub broken_after : stands ≡ false → is_whole new.files ≡ false
