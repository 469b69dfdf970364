-- A site over two files that were read.
use Rattle.std.proofs.Common.{◌≡◌, ◌++◌, ℕ, List, [], sym, ap}
use Rattle.cue_lattice.specs.World.{Piece}
use Rattle.cue_replica.specs.Accepted.{IsOfPieces}
use Rattle.cue_replica.specs.Language.{Table}
use Rattle.cue_journal.specs.Pairs.{IsPairReady, entries_of_pair}
use Rattle.cue_journal.specs.Starts.{IsStarted}
use Rattle.cue_journal.specs.declared.pair.JournalPair.{JournalPair}
use Rattle.cue_service.specs.declared.rules.SiteRules.{SiteRules}
use Rattle.cue_service.specs.declared.site.Site.{Site}
use Rattle.cue_service.specs.Entries.{pieces_of}
use Rattle.cue_service.specs.Listing.{AreListed}
use Rattle.cue_service.specs.Sites.{IsConsistent}
use Rattle.cue_service.specs.Starts.{IsStartedSite}

pub site_started : {D : Type 0} (seen : D → List ℕ) (may_leave : D → List ℕ → Type 0) (first second : D) (rules : SiteRules) (run : ℕ)
    (site : Site D) (files : JournalPair D) (spare growing : List (List ℕ)) (table : Table)
    → IsStarted seen may_leave first second files spare growing → IsOfPieces table (pieces_of (spare ++ growing))
    → (IsPairReady seen may_leave files → (pieces : List Piece) → IsOfPieces table pieces → pieces ≡ pieces_of (entries_of_pair seen files) → IsConsistent seen may_leave site pieces pieces)
    → AreListed [] site.desk.pieces → site.desk.pieces.run ≡ run → site.desk.rules ≡ rules
    → IsStartedSite seen may_leave first second rules run site
site_started seen may_leave first second rules run site files spare growing table started of consistent listed is_run are_rules = record {
  spare = spare;
  growing = growing;
  files = started.all;
  consistent = consistent started.ready (pieces_of (spare ++ growing)) of (ap pieces_of (sym started.entries));
  listed = listed;
  run_number = is_run;
  rules_are = are_rules;
}
