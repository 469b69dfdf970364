-- That there is one report: what two configurations with the same answers are told is one and the
-- same.
use Rattle.std.specs.Prelude.{◌≡◌, List, string_bytes}
use Rattle.cue_lattice.specs.Question.{Refusals}
use Rattle.cue_report.specs.Export.{IsExport}
use Rattle.cue_report.specs.Gaps.{AreGaps}
use Rattle.cue_report.specs.Listing.{AreConflicts}
use Rattle.cue_report.specs.declared.conflict.Conflict.{Conflict}
use Rattle.cue_report.specs.declared.gap.Gap.{Gap}
use Rattle.cue_report.specs.declared.outcome.Export.{Export}
use Rattle.cue_report.specs.declared.outcome.Export.TheVariants.{Json, Conflicts, Incomplete}

-- the same JSON, byte for byte, or the same conflicts or gaps
abbrev pub IsSameExport : Export → Export → Type 0
IsSameExport (Json a) (Json b) = string_bytes a ≡ string_bytes b
IsSameExport (Conflicts a) (Conflicts b) = a.items ≡ b.items
IsSameExport (Incomplete a) (Incomplete b) = a.items ≡ b.items
IsSameExport a b = ⊥

-- All that may be told of the one and of the other is the same.
pub record HaveOneReport (a b : Refusals) : Type 0 where
  pub conflicts : (xs ys : List Conflict) → AreConflicts a xs → AreConflicts b ys → xs ≡ ys
  pub gaps : (xs ys : List Gap) → AreGaps a xs → AreGaps b ys → xs ≡ ys
  pub exports : (x y : Export) → IsExport a x → IsExport b y → IsSameExport x y
