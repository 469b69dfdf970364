-- What a site promises of each round of calls.
use Rattle.std.specs.Prelude.{◌==◌, ◌≡◌, ◌⊎◌, ℕ, Bool, true, List, [], ◌∷◌, ◌++◌, if◌then◌else◌}
use Rattle.cue_lattice.specs.World.{Piece, IsInSet}
use Rattle.http_server.specs.Exchange.{Call, Chain}
use Rattle.cue_service.specs.declared.site.Site.{Site}
use Rattle.cue_service.specs.Listing.{AreListed}
use Rattle.cue_service.specs.Requests.{piece_in}
use Rattle.cue_service.specs.Sites.{AnswersAt, GathersPiecesAt, IsConsistent, Leaves, Settles}

-- the piece of a call that was answered with 204
abbrev pub acknowledged_by : Call → List Piece
acknowledged_by call = if call.1.status == 204 then piece_in call.0 ∷ [] else []

-- these are some of the others, in their order
abbrev pub AreSomeOf : List Piece → List Piece → Type 0
AreSomeOf some [] = some ≡ []
AreSomeOf some (piece ∷ pieces) =
    ((others : List Piece) × (some ≡ piece ∷ others) × AreSomeOf others pieces) ⊎ AreSomeOf some pieces

-- the pieces that calls acknowledged, in order
abbrev pub acknowledged_pieces : List Call → List Piece
acknowledged_pieces [] = []
acknowledged_pieces (call ∷ calls) = acknowledged_by call ++ acknowledged_pieces calls

module _ {D : Type 0} (seen : D → List ℕ) (may_leave : D → List ℕ → Type 0) where
  -- after any calls the site has accepted just the pieces from before and those acknowledged
  abbrev pub AreHeld : Type 0
  AreHeld =
      (old called : Site D) (calls : List Call) (on_disk pieces : List Piece)
      → IsConsistent seen may_leave old on_disk pieces → Chain (AnswersAt seen may_leave) old calls called
      → IsConsistent seen may_leave called on_disk (pieces ++ acknowledged_pieces calls)

  -- It lists what it did, and behind that some of those acknowledged, in their order. Each that was
  -- acknowledged is listed.
  abbrev pub AreListedStill : Type 0
  AreListedStill =
      (old called : Site D) (calls : List Call) (accepted : List Piece)
      → AreListed accepted old.desk.pieces → Chain (AnswersAt seen may_leave) old calls called
      → (more : List Piece) × AreSomeOf more (acknowledged_pieces calls)
      × ((piece : Piece) → IsInSet (acknowledged_pieces calls) piece → IsInSet (accepted ++ more) piece)
      × AreListed (accepted ++ more) called.desk.pieces

  -- so it has, with some of the pieces of another site that come
  abbrev pub AreGathered : Type 0
  AreGathered =
      (old new : Site D) (pulled on_disk pieces accepted : List Piece)
      → IsConsistent seen may_leave old on_disk pieces → AreListed accepted old.desk.pieces
      → GathersPiecesAt seen may_leave pulled old new
      → (taken : List Piece) × AreSomeOf taken pulled
      × IsConsistent seen may_leave new on_disk (pieces ++ taken)
      × AreListed (accepted ++ taken) new.desk.pieces

  -- where the round stands, all are on the disk
  abbrev pub Stands : Type 0
  Stands =
      (old called new : Site D) (calls : List Call) (on_disk pieces : List Piece)
      → IsConsistent seen may_leave old on_disk pieces → Chain (AnswersAt seen may_leave) old calls called
      → Settles seen may_leave called true new
      → IsConsistent seen may_leave new (pieces ++ acknowledged_pieces calls) (pieces ++ acknowledged_pieces calls)

  -- a crash leaves what was on the disk before, or all
  abbrev pub Survives : Type 0
  Survives =
      (old called new : Site D) (calls : List Call) (verdict : Bool) (on_disk pieces : List Piece)
      → IsConsistent seen may_leave old on_disk pieces → Chain (AnswersAt seen may_leave) old calls called
      → Settles seen may_leave called verdict new
      → Leaves seen may_leave new on_disk (pieces ++ acknowledged_pieces calls)
