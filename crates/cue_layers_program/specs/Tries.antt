-- What a put would change in the report of a map.
use Rattle.std.specs.Prelude.{◌≡◌, ◌⊎◌, ℕ, Bool, not, List, [], ◌∷◌, ◌++◌, Option, codes}
use Rattle.std.specs.List.{concat, filter, list_any, starts_with}
use Rattle.std.specs.Prelude.{nat_eq, if◌then◌else◌}
use Rattle.std.specs.Str.{bytes_eq}
use Rattle.cue_replica.specs.Answers.{IsAnswer}
use Rattle.cue_replica.specs.declared.Answer.{Answer}
use Rattle.cue_replica.specs.declared.SiteQuestion.TheVariants as questions
use Rattle.cue_replica.specs.declared.Status.{Status}
use Rattle.cue_replica.specs.declared.Status.TheVariants as statuses
use Rattle.cue_layers.specs.View.{IsTooLarge, IsViewOf}
use Rattle.cue_layers.specs.declared.Layer.{Layer}
use Rattle.cue_layers.specs.declared.LayersRefusal.TheVariants as reasons
use Rattle.cue_layers.specs.Names.{IsLayerName}
use Rattle.cue_program.specs.Calls.{FileCall}
use Rattle.cue_program.specs.Files.{Holdings}
use Rattle.cue_program.specs.Inputs.{inputs_of}
use Rattle.cue_program.specs.Parts.{lines_of}
use Rattle.cue_replica.specs.Language.{Table}
use Rattle.cue_layers_program.specs.Changes.{IsBadName, IsMapChange, IsChangeStop, PutOrder}
use Rattle.cue_layers_program.specs.MapFiles.{ReadsMap, StopsReadingMap}
use Rattle.cue_layers_program.specs.Stops.{IsRefusalLayersStop}
use Rattle.cue_layers_program.specs.declared.stop.LayersStop.{LayersStop}

-- the report of the view of a map, where it is not too large
abbrev pub IsReport : ℕ → List Layer → List ℕ → Type 0
IsReport limit layers report =
    (IsTooLarge limit layers → ⊥)
    × ((view : Table) × (status : Status) × IsViewOf layers view
    × IsAnswer questions.Report view report status)

-- the report of a map before a change: none where the view is too large
abbrev pub IsFormerReport : ℕ → List Layer → List ℕ → Type 0
IsFormerReport limit layers report =
    IsReport limit layers report ⊎ (IsTooLarge limit layers × (report ≡ []))

-- whether the line is among these
abbrev pub is_among : List (List ℕ) → List ℕ → Bool
is_among lines line = list_any (λ other. bytes_eq other line) lines

-- the lines of a report that are none of a former one
abbrev pub new_lines : List ℕ → List ℕ → List (List ℕ)
new_lines former report = filter (λ line. not (is_among (lines_of former) line)) (lines_of report)

-- the line of a conflict
abbrev pub is_conflict : List ℕ → Bool
is_conflict line = starts_with nat_eq line (codes "conflict ")

-- The status of lines of a report: that of conflicts, where one of them is of a conflict; else that
-- of gaps, where there are any.
abbrev pub status_of_lines : List (List ℕ) → Status
status_of_lines [] = statuses.Done
status_of_lines (line ∷ lines) =
    if list_any is_conflict (line ∷ lines) then statuses.Conflicts else statuses.Incomplete

-- the answer has the lines of the report that are none of the former one, with their status
pub record AreNewLines (former report : List ℕ) (answer : Answer) : Type 0 where
  pub lines : answer.bytes.items ≡ concat (new_lines former report)
  pub status : answer.status ≡ status_of_lines (new_lines former report)

-- What a put would change in the report: the map was read, and nothing was written.
abbrev pub IsTried : {S D M : Type 0} → (S → FileCall D M → S → Type 0) → (S → Option Holdings)
    → PutOrder → S → S → Answer → Type 0
IsTried Makes held order old new answer =
    (before after : List Layer) × (revision : ℕ) × (former report : List ℕ)
    × ReadsMap Makes held order.map before old new
    × IsMapChange before order.kind order.name (inputs_of (held new) order.files order.input) after revision
    × IsFormerReport order.limit before former × IsReport order.limit after report
    × AreNewLines former report answer

-- What stopped a try: what stops a put that is not yet made, or the view is too large after it.
abbrev pub IsTryStop : {S D M : Type 0} → (S → FileCall D M → S → Type 0) → (S → Option Holdings)
    → PutOrder → S → S → LayersStop → Type 0
IsTryStop Makes held order old new stop =
    (IsBadName order.name stop × (new ≡ old))
    ⊎ (IsLayerName order.name × StopsReadingMap Makes held order.map old new stop)
    ⊎ (IsLayerName order.name × ((before : List Layer) × ReadsMap Makes held order.map before old new
    × IsChangeStop before order.kind order.name (inputs_of (held new) order.files order.input) stop))
    ⊎ ((before after : List Layer) × (revision : ℕ) × ReadsMap Makes held order.map before old new
    × IsMapChange before order.kind order.name (inputs_of (held new) order.files order.input) after revision
    × IsTooLarge order.limit after × IsRefusalLayersStop reasons.ViewTooLarge stop)
