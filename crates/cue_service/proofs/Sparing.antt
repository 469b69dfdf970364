-- What a desk is after older pieces were given up.
use Rattle.std.proofs.Common.{◌≡◌, ℕ, List, ◌∷◌, [], ◌++◌, sym, ap, ◌∙◌, subst}
use Rattle.cue_lattice.specs.World.{Piece, piece_refuses}
use Rattle.cue_replica.specs.Language.{Table, language}
use Rattle.cue_replica.specs.Replica.{AddsRefusals}
use Rattle.cue_journal.specs.Blocks.{recovered_pieces}
use Rattle.cue_journal.specs.Settled.{IsBatch}
use Rattle.cue_journal.specs.Batches.{batch_bytes}
use Rattle.cue_journal.specs.Listed.{Listed, GivesUp}
use Rattle.cue_journal.proofs.Sound.{none_given_up}
use Rattle.cue_service.specs.declared.desk.SiteCore.{SiteCore}
use Rattle.cue_service.specs.declared.route.Route.{Route}
use Rattle.cue_service.specs.declared.route.Route.TheVariants.{Ask, Pieces, Take, Health, Metrics, Page, OtherMethod, Unknown}
use Rattle.cue_service.specs.Answering.{IsSame, IsSpared, IsPieceTaken, LeavesUnanswered}
use Rattle.cue_service.specs.Entries.{entry_of}
use Rattle.cue_service.proofs.Listing.{listed_less}

pub spared : (old new : SiteCore) → IsSame old new → IsSpared old new
spared old new same = record {
  rules = same.rules;
  table = same.table;
  waits = same.waits;
  pieces = subst (GivesUp old.pieces) (sym same.pieces) (none_given_up old.pieces);
}

pub spared_from : (old mid new : SiteCore) → mid.rules ≡ old.rules → mid.board ≡ old.board → batch_bytes mid.batch ≡ batch_bytes old.batch → GivesUp old.pieces mid.pieces → IsSame mid new → IsSpared old new
spared_from old mid new rules table waits gives same = record {
  rules = same.rules ∙ rules;
  table = same.table ∙ table;
  waits = same.waits ∙ waits;
  pieces = subst (GivesUp old.pieces) (sym same.pieces) gives;
}

pub taken_spared : (piece : Piece) (old mid new : SiteCore) → mid.rules ≡ old.rules → mid.board ≡ old.board → batch_bytes mid.batch ≡ batch_bytes old.batch → GivesUp old.pieces mid.pieces → IsPieceTaken piece mid new → IsPieceTaken piece old new
taken_spared piece old mid new rules table waits gives taken = record {
  rules = taken.rules ∙ rules;
  acceptable = taken.acceptable;
  fits = taken.fits;
  adds = subst (λ (t : Table). AddsRefusals t (piece_refuses language piece) new.board) table taken.adds;
  valid = taken.valid;
  waits = subst (λ (b : List ℕ). IsBatch b → IsBatch (batch_bytes new.batch) × (recovered_pieces (batch_bytes new.batch) ≡ recovered_pieces b ++ entry_of piece ∷ [])) waits taken.waits;
  same_run = taken.same_run ∙ ap (λ (l : Listed). l.run) gives.2;
  listed = λ accepted listed. taken.listed accepted (listed_less old.pieces mid.pieces gives accepted listed);
}

pub unanswered : (route : Route) (old new : SiteCore) → LeavesUnanswered route old new → IsSpared old new
unanswered (Ask question) old new same = spared old new same
unanswered Pieces old new same = spared old new same
unanswered (Take hand) old new same = same
unanswered Health old new same = spared old new same
unanswered Metrics old new same = spared old new same
unanswered Page old new same = spared old new same
unanswered OtherMethod old new same = spared old new same
unanswered Unknown old new same = spared old new same

pub same_unanswered : (route : Route) (old new : SiteCore) → IsSame old new → LeavesUnanswered route old new
same_unanswered (Ask question) old new same = same
same_unanswered Pieces old new same = same
same_unanswered (Take hand) old new same = spared old new same
same_unanswered Health old new same = same
same_unanswered Metrics old new same = same
same_unanswered Page old new same = same
same_unanswered OtherMethod old new same = same
same_unanswered Unknown old new same = same
