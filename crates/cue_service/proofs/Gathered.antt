-- Pieces of another site, one after the other.
use Rattle.std.proofs.Common.{◌≡◌, ℕ, List, [], ◌∷◌, ◌++◌, refl, sym, ap, ◌∙◌, subst, inl, inr}
use Rattle.cue_lattice.specs.World.{Piece, piece_refuses}
use Rattle.cue_replica.specs.Language.{Table, language}
use Rattle.cue_replica.specs.Replica.{AddsRefusals}
use Rattle.cue_journal.specs.Blocks.{recovered_pieces}
use Rattle.cue_journal.specs.Settled.{IsBatch}
use Rattle.cue_journal.specs.Batches.{batch_bytes}
use Rattle.cue_journal.specs.Listed.{Listed}
use Rattle.cue_service.specs.declared.desk.SiteCore.{SiteCore}
use Rattle.cue_service.specs.Answering.{IsSame, IsPieceTaken, GathersPiece, GathersPieces}
use Rattle.cue_service.specs.Entries.{entry_of}
use Rattle.cue_service.specs.Listing.{AreListed}

pub same_desk : (desk : SiteCore) → IsSame desk desk
same_desk desk = record { rules = refl; table = refl; waits = refl; pieces = refl }

pub both_same : (old mid new : SiteCore) → IsSame old mid → IsSame mid new → IsSame old new
both_same old mid new first second = record {
  rules = second.rules ∙ first.rules;
  table = second.table ∙ first.table;
  waits = second.waits ∙ first.waits;
  pieces = second.pieces ∙ first.pieces;
}

pub taken_from : (piece : Piece) (old mid new : SiteCore) → IsSame old mid → IsPieceTaken piece mid new → IsPieceTaken piece old new
taken_from piece old mid new same taken = record {
  rules = taken.rules ∙ same.rules;
  acceptable = taken.acceptable;
  fits = taken.fits;
  adds = subst (λ (t : Table). AddsRefusals t (piece_refuses language piece) new.board) same.table taken.adds;
  valid = taken.valid;
  waits = subst (λ (b : List ℕ). IsBatch b → IsBatch (batch_bytes new.batch) × (recovered_pieces (batch_bytes new.batch) ≡ recovered_pieces b ++ entry_of piece ∷ [])) same.waits taken.waits;
  same_run = taken.same_run ∙ ap (λ (l : Listed). l.run) same.pieces;
  listed = λ accepted listed. taken.listed accepted (subst (AreListed accepted) (sym same.pieces) listed);
}

piece_from : (piece : Piece) (old mid new : SiteCore) → IsSame old mid → GathersPiece piece mid new → GathersPiece piece old new
piece_from piece old mid new same (inl taken) = inl (taken_from piece old mid new same taken)
piece_from piece old mid new same (inr still) = inr (both_same old mid new same still)

-- nothing is taken
pub gathers_none : (pieces : List Piece) (old new : SiteCore) → IsSame old new → GathersPieces pieces old new
gathers_none [] old new same = same
gathers_none (piece ∷ pieces) old new same = (old, inr (same_desk old), gathers_none pieces old new same)

-- one more
pub gathers_more : (pieces : List Piece) (piece : Piece) (old mid new : SiteCore) → GathersPieces pieces old mid → GathersPiece piece mid new → GathersPieces (pieces ++ piece ∷ []) old new
gathers_more [] piece old mid new same step = (new, piece_from piece old mid new same step, same_desk new)
gathers_more (first ∷ pieces) piece old mid new gathers step = (gathers.0, gathers.1, gathers_more pieces piece gathers.0 mid new gathers.2 step)

-- and nothing of the others
pub gathers_rest : (pieces others : List Piece) (old new : SiteCore) → GathersPieces pieces old new → GathersPieces (pieces ++ others) old new
gathers_rest [] others old new same = gathers_none others old new same
gathers_rest (piece ∷ pieces) others old new gathers = (gathers.0, gathers.1, gathers_rest pieces others gathers.0 new gathers.2)
