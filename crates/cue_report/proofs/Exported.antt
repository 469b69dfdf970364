-- The text of an export, told part after part.
use Rattle.std.proofs.Common.{◌≡◌, ◌≢◌, ℕ, Bool, true, false, not, List, [], ◌∷◌, ◌++◌, Option, refl, sym, subst, ◌∙◌}
use Rattle.std.specs.Io.KnownBytes.{Appends}
use Rattle.std.specs.List.{flat_map}
use Rattle.cue_device.specs.Texts.{WritesPrefix}
use Rattle.cue_device.proofs.Texts.{appends_then, begins_later}
use Rattle.cue_lattice.specs.Bools.{is_nil}
use Rattle.cue_lattice.specs.Question.{Refusals, SameAnswers}
use Rattle.serde_json.specs.Written.{compact_text}
use Rattle.cue_report.specs.ExportText.{IsExportOf, WritesExport, WritesExportPrefix}
use Rattle.cue_report.specs.Gaps.{AreGaps}
use Rattle.cue_report.specs.Lines.{conflict_line, gap_line, WritesConflicts, WritesConflictsPrefix, WritesGaps, WritesGapsPrefix}
use Rattle.cue_report.specs.Listing.{AreConflicts}
use Rattle.cue_report.specs.declared.outcome.ExportKind.TheVariants.{Json, Conflicts, Incomplete}
use Rattle.cue_report.specs.Inner.Writing.{WritesDocumentPrefix}
use Rattle.cue_report.proofs.Clear.{clear_from}
use Rattle.cue_report.proofs.OneReport.{one_conflicts, one_gaps}
use Rattle.cue_report.proofs.Settled.{settled}

pub same_answers : (refuses : Refusals) → SameAnswers refuses refuses
same_answers refuses path question = (λ h. h, λ h. h)

-- what begins the empty text begins each one
begins_any : (u v : Option (List ℕ)) (text : List ℕ) → WritesPrefix u v [] → WritesPrefix u v text
begins_any u v text b = record { front = []; back = text; whole = refl; added = subst (Appends u v) (sym (empty b.front b.back b.whole)) b.added }
  where
    empty : (front back : List ℕ) → [] ≡ front ++ back → [] ≡ front
    empty [] back e = refl
    empty (x ∷ front) back e = cc

none_told : {X : Type 0} (xs : List X) → false ≡ not (is_nil xs) → xs ≡ []
none_told [] e = refl
none_told (x ∷ xs) e = cc

some_told : {X : Type 0} (xs : List X) → true ≡ not (is_nil xs) → xs ≢ []
some_told [] e n = cc
some_told (x ∷ xs) e n = cc

-- ---- conflicts
pub conflicts_told : (refuses : Refusals) (some : Bool) (u v : Option (List ℕ)) → some ≡ true → WritesConflicts refuses some u v → WritesExport refuses Conflicts u v
conflicts_told refuses some u v s (found, are, is, added) = (flat_map conflict_line found, (found, some_told found (sym s ∙ is), are, refl), added)

pub conflicts_begun : (refuses : Refusals) (u v : Option (List ℕ)) → WritesConflictsPrefix refuses u v → WritesExportPrefix refuses u v
conflicts_begun refuses u v b Conflicts text (found, some, are, e) = subst (WritesPrefix u v) (sym e) (b found are)
conflicts_begun refuses u v b Incomplete text (none, h) = begins_any u v text (b [] none)
conflicts_begun refuses u v b Json text (none, full, h) = begins_any u v text (b [] none)

-- nothing conflicts, and nothing was told
pub record IsClean (refuses : Refusals) (u v : Option (List ℕ)) : Type 0 where
  pub none : AreConflicts refuses []
  pub added : Appends u v []

pub no_conflicts : (refuses : Refusals) (some : Bool) (u v : Option (List ℕ)) → some ≡ false → WritesConflicts refuses some u v → IsClean refuses u v
no_conflicts refuses some u v s (found, are, is, added) =
    let none = none_told found (sym s ∙ is) in
    record { none = subst (AreConflicts refuses) none are; added = subst (λ xs. Appends u v (flat_map conflict_line xs)) none added }

-- ---- gaps
pub gaps_told : (refuses : Refusals) (some : Bool) (u v w : Option (List ℕ)) → IsClean refuses u v → some ≡ true → WritesGaps refuses some v w → WritesExport refuses Incomplete u w
gaps_told refuses some u v w clean s (gaps, are, is, added) =
    (flat_map gap_line gaps, (clean.none, (gaps, some_told gaps (sym s ∙ is), are, refl)), appends_then u v w [] (flat_map gap_line gaps) clean.added added)

pub gaps_begun : (refuses : Refusals) (u v w : Option (List ℕ)) → IsClean refuses u v → WritesGapsPrefix refuses v w → WritesExportPrefix refuses u w
gaps_begun refuses u v w clean b Conflicts text (found, some, are, e) = absurd (some (one_conflicts refuses refuses found [] (same_answers refuses) are clean.none))
gaps_begun refuses u v w clean b Incomplete text (none, (gaps, some, are, e)) = subst (WritesPrefix u w) (sym e) (begins_later u v w [] (flat_map gap_line gaps) clean.added (b gaps are))
gaps_begun refuses u v w clean b Json text (none, full, h) = begins_any u w text (begins_later u v w [] [] clean.added (b [] full))

-- everything is a single value, and nothing was told
pub record IsFull (refuses : Refusals) (u v : Option (List ℕ)) : Type 0 where
  pub none : AreConflicts refuses []
  pub full : AreGaps refuses []
  pub added : Appends u v []

pub no_gaps : (refuses : Refusals) (some : Bool) (u v w : Option (List ℕ)) → IsClean refuses u v → some ≡ false → WritesGaps refuses some v w → IsFull refuses u w
no_gaps refuses some u v w clean s (gaps, are, is, added) =
    let none = none_told gaps (sym s ∙ is) in
    record {
      none = clean.none;
      full = subst (AreGaps refuses) none are;
      added = appends_then u v w [] [] clean.added (subst (λ xs. Appends v w (flat_map gap_line xs)) none added);
    }

-- ---- the document
pub json_told : (refuses : Refusals) (u v w : Option (List ℕ)) (text : List ℕ) → IsFull refuses u v → IsExportOf refuses Json text → Appends v w text → WritesExport refuses Json u w
json_told refuses u v w text h is added = (text, is, appends_then u v w [] text h.added added)

pub json_begun : (refuses : Refusals) (u v w : Option (List ℕ)) → IsFull refuses u v → WritesDocumentPrefix refuses v w → WritesExportPrefix refuses u w
json_begun refuses u v w full b Conflicts text (found, some, are, e) = absurd (some (one_conflicts refuses refuses found [] (same_answers refuses) are full.none))
json_begun refuses u v w full b Incomplete text (none, (gaps, some, are, e)) = absurd (some (one_gaps refuses refuses gaps [] (same_answers refuses) are full.full))
json_begun refuses u v w full b Json text (none, all, (json, shape, e)) =
    subst (WritesPrefix u w) (sym e) (begins_later u v w [] (compact_text json) full.added (b (clear_from refuses full.none) (settled refuses full.none full.full) json shape))
