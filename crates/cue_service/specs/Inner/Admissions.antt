-- What comes of a piece that is posted.
use Rattle.std.specs.Prelude.{◌≡◌, ◌⊎◌}
use Rattle.cue_lattice.specs.World.{Piece}
use Rattle.cue_service.specs.declared.admission.Admission.{Admission}
use Rattle.cue_service.specs.declared.admission.Admission.TheVariants.{Accepted, OverLimit}
use Rattle.cue_service.specs.declared.desk.SiteCore.{SiteCore}
use Rattle.cue_service.specs.Answering.{IsPieceTaken, IsTagKnown}
use Rattle.cue_service.specs.Limits.{CostsTooMuch}

-- it is taken; or it is not, and the site changes as this says
abbrev pub IsAdmitted : (SiteCore → SiteCore → Type 0) → Piece → Admission → SiteCore → SiteCore → Type 0
IsAdmitted IsChange piece Accepted old new = IsPieceTaken piece old new
IsAdmitted IsChange piece (OverLimit question) old new =
    IsChange old new × CostsTooMuch old.rules.limit old.board piece

-- so it is, or it is known
abbrev pub IsAdmittedOrKnown : (SiteCore → SiteCore → Type 0) → Piece → Admission → SiteCore → SiteCore → Type 0
IsAdmittedOrKnown IsChange piece admission old new =
    IsAdmitted IsChange piece admission old new ⊎ ((admission ≡ Accepted) × IsTagKnown piece old new)
