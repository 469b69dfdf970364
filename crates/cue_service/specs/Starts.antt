-- A site at its start.
use Rattle.std.specs.Prelude.{◌≡◌, ◌++◌, ℕ, List, [], IsTrue, Bool}
use Rattle.cue_journal.specs.Journals.{disk_of}
use Rattle.cue_journal.specs.Pairs.{growing_of, spare_of}
use Rattle.cue_journal.specs.Starts.{AreOfFiles}
use Rattle.cue_service.specs.declared.rules.SiteRules.{SiteRules}
use Rattle.cue_service.specs.declared.site.Site.{Site}
use Rattle.cue_service.specs.Entries.{pieces_of}
use Rattle.cue_service.specs.Listing.{AreListed}
use Rattle.cue_service.specs.Sites.{IsConsistent}

-- no wrong answer of either disk was taken as true
abbrev pub IsCleanSite : {D : Type 0} → (D → Bool) → Site D → Type 0
IsCleanSite is_clean site =
    IsTrue (is_clean (disk_of (spare_of site.files))) × IsTrue (is_clean (disk_of (growing_of site.files)))

-- It has accepted just the pieces that both files have, and all are on the disk. It lists none, in the run of its number, and has these
-- rules.
pub record IsStartedSite {D : Type 0} (seen : D → List ℕ) (may_leave : D → List ℕ → Type 0) (first second : D) (rules : SiteRules) (run : ℕ) (site : Site D) : Type 0 where
  pub spare : List (List ℕ)
  pub growing : List (List ℕ)
  pub files : AreOfFiles spare growing (seen first) (seen second)
  pub consistent : IsConsistent seen may_leave site (pieces_of (spare ++ growing)) (pieces_of (spare ++ growing))
  pub listed : AreListed [] site.desk.pieces
  pub run_number : site.desk.pieces.run ≡ run
  pub rules_are : site.desk.rules ≡ rules
