-- What was asked of files where bytes could not be put at a name.
use Rattle.std.specs.Prelude.{◌≡◌, ◌⊎◌, ℕ, zero, suc, List, Option, Some, None, Bool, false}
use Rattle.cue_program.specs.Calls.{FileCall, looked_at, looked_behind, followed, opened, asked_mode}
use Rattle.cue_program.specs.Calls.{set_mode, wrote, synced, renamed, removed, Creates, TriesNames}
use Rattle.cue_program.specs.declared.files.FileForm.{FileForm}
use Rattle.cue_program.specs.declared.files.FileForm.TheVariants as forms

-- One call on an open file alone, whatever it came to; or the mode of the file at a place was asked
-- for.
abbrev pub Touches : {S D M : Type 0} → (S → FileCall D M → S → Type 0) → List ℕ → D → D
    → S → S → Type 0
Touches {S} {D} {M} Makes place file file' before after =
    ((mode : Option M) × (file' ≡ file) × Makes before (asked_mode place mode) after)
    ⊎ ((mode : M) × (done : Bool) × (file' ≡ file) × Makes before (set_mode file mode done) after)
    ⊎ ((piece : List ℕ) × (done : Bool) × Makes before (wrote file piece file' done) after)
    ⊎ ((done : Bool) × (file' ≡ file) × Makes before (synced file done) after)

-- so many of them
unfoldable pub TouchesIn : {S D M : Type 0} → (S → FileCall D M → S → Type 0) → List ℕ → ℕ → D → D
    → S → S → Type 0
TouchesIn Makes place zero file file' before after = (file' ≡ file) × (after ≡ before)
TouchesIn {S} {D} Makes place (suc n) file file' before after =
    (f : D) × (s : S) × TouchesIn Makes place n file f before s
    × Touches Makes place f file' s after

abbrev pub OnlyTouches : {S D M : Type 0} → (S → FileCall D M → S → Type 0) → List ℕ → D
    → S → S → Type 0
OnlyTouches {S} {D} Makes place file before after =
    (n : ℕ) × (file' : D) × TouchesIn Makes place n file file' before after

-- A new file was not filled, or it was and could not be moved to the place.
abbrev pub StopsFilling : {S D M : Type 0} → (S → FileCall D M → S → Type 0) → List ℕ → List ℕ → D
    → S → S → Type 0
StopsFilling {S} Makes draft place file before after =
    (s : S) × OnlyTouches Makes place file before s
    × ((after ≡ s) ⊎ Makes s (renamed draft place false) after)

-- The file or the nothing at a place was not replaced: no new file was made beside it; or one was,
-- which alone was touched, and was taken away.
abbrev pub StopsReplacing : {S D M : Type 0} → (S → FileCall D M → S → Type 0) → List ℕ
    → S → S → Type 0
StopsReplacing {S} {D} Makes place before after =
    ((n : ℕ) × TriesNames Makes place n before after)
    ⊎ ((draft : List ℕ) × (file : D) × (s t : S) × (done : Bool)
    × Creates Makes place draft file before s × StopsFilling Makes draft place file s t
    × Makes t (removed draft done) after)

-- What stands under a name was not written as it stands, or only in part.
abbrev pub StopsOverwriting : {S D M : Type 0} → (S → FileCall D M → S → Type 0) → List ℕ
    → S → S → Type 0
StopsOverwriting {S} {D} Makes name before after =
    Makes before (opened name None) after
    ⊎ ((file : D) × (s : S) × Makes before (opened name (Some file)) s
    × OnlyTouches Makes name file s after)

-- The bytes were not put behind a link.
abbrev pub StopsBehind : {S D M : Type 0} → (S → FileCall D M → S → Type 0) → List ℕ → FileForm
    → S → S → Type 0
StopsBehind {S} Makes name forms.File before after =
    Makes before (followed name None) after
    ⊎ ((place : List ℕ) × (s : S) × Makes before (followed name (Some place)) s
    × StopsReplacing Makes place s after)
StopsBehind Makes name form before after = StopsOverwriting Makes name before after

-- They were not put under a name where such a thing stands.
abbrev pub StopsAtCall : {S D M : Type 0} → (S → FileCall D M → S → Type 0) → List ℕ → FileForm
    → S → S → Type 0
StopsAtCall Makes name forms.Nothing before after = StopsReplacing Makes name before after
StopsAtCall Makes name forms.File before after = StopsReplacing Makes name before after
StopsAtCall {S} Makes name forms.Link before after =
    Makes before (looked_behind name None) after
    ⊎ ((form : FileForm) × (s : S) × Makes before (looked_behind name (Some form)) s
    × StopsBehind Makes name form s after)
StopsAtCall Makes name forms.Special before after = StopsOverwriting Makes name before after

-- The bytes were not put under a name: no more than these calls were made.
abbrev pub StopsPutting : {S D M : Type 0} → (S → FileCall D M → S → Type 0) → List ℕ
    → S → S → Type 0
StopsPutting {S} Makes name before after =
    Makes before (looked_at name None) after
    ⊎ ((form : FileForm) × (s : S) × Makes before (looked_at name (Some form)) s
    × StopsAtCall Makes name form s after)
