-- The lines that tell what is in the way of an export.
use Rattle.std.specs.Prelude.{◌≡◌, ℕ, List, [], ◌∷◌, ◌++◌, Bool, true, false, not, Option, codes}
use Rattle.std.specs.Io.KnownBytes.{Appends}
use Rattle.std.specs.List.{flat_map}
use Rattle.cue_device.specs.Texts.{WritesPrefix}
use Rattle.cue_lattice.specs.Bools.{is_nil}
use Rattle.cue_lattice.specs.Path.{Path}
use Rattle.cue_lattice.specs.Question.{Refusals}
use Rattle.cue_report.specs.Gaps.{AreGaps}
use Rattle.cue_report.specs.Listing.{AreConflicts}
use Rattle.cue_report.specs.declared.conflict.Conflict.{Conflict}
use Rattle.cue_report.specs.declared.gap.Gap.{Gap}
use Rattle.cue_row.specs.PathText.{path_text}

abbrev pub space : ℕ
space = 0x20

abbrev pub line_break : ℕ
line_break = 0x0a

-- what ends a line: why it is there
abbrev pub report_line_end : List ℕ → List ℕ
report_line_end why = space ∷ why ++ line_break ∷ []

-- what is reported, where, and why
abbrev pub line_of_report : List ℕ → Path → List ℕ → List ℕ
line_of_report what path why = what ++ (path_text path ++ report_line_end why)

-- the causes of a conflict, by whether there is no value and whether the label is not allowed; with
-- neither, no words
abbrev pub cause_text : Bool → Bool → List ℕ
cause_text true true = codes "no value, label not allowed"
cause_text true false = codes "no value"
cause_text false true = codes "label not allowed"
cause_text false false = []

-- what is lacking, by whether the place is missing
abbrev pub lack_text : Bool → List ℕ
lack_text true = codes "missing"
lack_text false = codes "not a single value"

abbrev pub conflict_line : Conflict → List ℕ
conflict_line conflict =
    line_of_report (codes "conflict ") conflict.path (cause_text conflict.no_value conflict.not_allowed)

abbrev pub gap_line : Gap → List ℕ
gap_line gap = line_of_report (codes "incomplete ") gap.path (lack_text gap.missing)

-- known bytes grow by a line for each conflict, in the order of their paths, and whether there is
-- one is told
abbrev pub WritesConflicts : Refusals → Bool → Option (List ℕ) → Option (List ℕ) → Type 0
WritesConflicts refuses some old new =
    (found : List Conflict) × AreConflicts refuses found × (some ≡ not (is_nil found))
    × Appends old new (flat_map conflict_line found)

-- they grow by the front of those lines
abbrev pub WritesConflictsPrefix : Refusals → Option (List ℕ) → Option (List ℕ) → Type 0
WritesConflictsPrefix refuses old new =
    (found : List Conflict) → AreConflicts refuses found
    → WritesPrefix old new (flat_map conflict_line found)

-- so of gaps
abbrev pub WritesGaps : Refusals → Bool → Option (List ℕ) → Option (List ℕ) → Type 0
WritesGaps refuses some old new =
    (found : List Gap) × AreGaps refuses found × (some ≡ not (is_nil found))
    × Appends old new (flat_map gap_line found)

abbrev pub WritesGapsPrefix : Refusals → Option (List ℕ) → Option (List ℕ) → Type 0
WritesGapsPrefix refuses old new =
    (found : List Gap) → AreGaps refuses found → WritesPrefix old new (flat_map gap_line found)
