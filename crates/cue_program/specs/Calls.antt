-- What is asked of files while bytes are put at a name, call by call, in the order of the calls.
-- `Makes before call after` says that a call was made between two moments of the files.
use Rattle.std.specs.Prelude.{◌≡◌, ℕ, zero, suc, List, [], ◌++◌, Option, Some, None, Bool}
use Rattle.std.specs.Prelude.{true, false, codes}
use Rattle.cue_program.specs.declared.files.FileForm.{FileForm}
use Rattle.cue_program.specs.declared.files.FileForm.TheVariants as forms

-- A call, with what it came to: `None` or `false` where it failed. A draft is a file that is open
-- to be written; what is written to it makes it another one.
pub data FileCall (Draft Mode : Type 0) : Type 0 where
  -- what stands under a name was looked at, a link as such
  looked_at : List ℕ → Option FileForm → FileCall Draft Mode
  -- and what it leads to
  looked_behind : List ℕ → Option FileForm → FileCall Draft Mode
  -- the place that a name leads to
  followed : List ℕ → Option (List ℕ) → FileCall Draft Mode
  -- a new file was made at a place where nothing stood
  created : List ℕ → Option Draft → FileCall Draft Mode
  -- what stands at a place was opened, to be written as it stands
  opened : List ℕ → Option Draft → FileCall Draft Mode
  -- the mode of the file at a place
  asked_mode : List ℕ → Option Mode → FileCall Draft Mode
  -- a file was given a mode
  set_mode : Draft → Mode → Bool → FileCall Draft Mode
  -- bytes were written to a file, all of them; or, where this failed, some in front
  wrote : Draft → List ℕ → Draft → Bool → FileCall Draft Mode
  -- what was written to a file has reached the disk
  synced : Draft → Bool → FileCall Draft Mode
  -- the file at a place was moved to another, in one step, whatever file stood there
  renamed : List ℕ → List ℕ → Bool → FileCall Draft Mode
  -- the file at a place was taken away
  removed : List ℕ → Bool → FileCall Draft Mode

-- the names that are tried for a new file beside a place
unfoldable pub names_beside : ℕ → List ℕ → List ℕ
names_beside zero place = place
names_beside (suc n) place = names_beside n place ++ codes ".part"

-- So many of these names were tried, one after the other, and no new file was made.
unfoldable pub TriesNames : {S D M : Type 0} → (S → FileCall D M → S → Type 0) → List ℕ → ℕ → S → S → Type 0
TriesNames Makes place zero before after = after ≡ before
TriesNames {S} Makes place (suc n) before after =
    (s : S) × TriesNames Makes place n before s × Makes s (created (names_beside (suc n) place) None) after

-- A new file was made under the next of them.
abbrev pub Creates : {S D M : Type 0} → (S → FileCall D M → S → Type 0) → List ℕ → List ℕ → D
    → S → S → Type 0
Creates {S} Makes place draft file before after =
    (n : ℕ) × (s : S) × TriesNames Makes place n before s × (draft ≡ names_beside (suc n) place)
    × Makes s (created draft (Some file)) after

-- The bytes were written to a file, in so many pieces.
unfoldable pub WritesIn : {S D M : Type 0} → (S → FileCall D M → S → Type 0) → ℕ → List ℕ
    → D → D → S → S → Type 0
WritesIn Makes zero bytes file file' before after =
    (bytes ≡ []) × (file' ≡ file) × (after ≡ before)
WritesIn {S} {D} Makes (suc n) bytes file file' before after =
    (front piece : List ℕ) × (f : D) × (s : S) × (bytes ≡ front ++ piece)
    × WritesIn Makes n front file f before s × Makes s (wrote f piece file' true) after

abbrev pub WritesBytes : {S D M : Type 0} → (S → FileCall D M → S → Type 0) → List ℕ
    → D → D → S → S → Type 0
WritesBytes Makes bytes file file' before after =
    (n : ℕ) × WritesIn Makes n bytes file file' before after

-- A new file was given the mode of the old one, where there is one at the place.
abbrev pub TakesMode : {S D M : Type 0} → (S → FileCall D M → S → Type 0) → List ℕ → Bool → D
    → S → S → Type 0
TakesMode {S} {D} {M} Makes place true file before after =
    (mode : M) × (s : S) × Makes before (asked_mode place (Some mode)) s
    × Makes s (set_mode file mode true) after
TakesMode Makes place false file before after = after ≡ before

-- It was filled: it was given its mode and all bytes, and then they reached the disk.
abbrev pub FillsFile : {S D M : Type 0} → (S → FileCall D M → S → Type 0) → List ℕ → Bool → List ℕ → D
    → S → S → Type 0
FillsFile {S} {D} Makes place is_file bytes file before after =
    (file' : D) × (s t : S) × TakesMode Makes place is_file file before s
    × WritesBytes Makes bytes file file' s t × Makes t (synced file' true) after

-- And then it was moved to the place.
abbrev pub FillsAndMoves : {S D M : Type 0} → (S → FileCall D M → S → Type 0) → List ℕ → List ℕ
    → Bool → List ℕ → D → S → S → Type 0
FillsAndMoves {S} Makes draft place is_file bytes file before after =
    (s : S) × FillsFile Makes place is_file bytes file before s
    × Makes s (renamed draft place true) after

-- The bytes took the place of a file, or of nothing: a new file was made beside it, was filled, and
-- was moved there.
abbrev pub ReplacesFile : {S D M : Type 0} → (S → FileCall D M → S → Type 0) → List ℕ → Bool → List ℕ
    → S → S → Type 0
ReplacesFile {S} {D} Makes place is_file bytes before after =
    (draft : List ℕ) × (file : D) × (s : S) × Creates Makes place draft file before s
    × FillsAndMoves Makes draft place is_file bytes file s after

-- The bytes were written to what stands under a name, as it stands.
abbrev pub Overwrites : {S D M : Type 0} → (S → FileCall D M → S → Type 0) → List ℕ → List ℕ
    → S → S → Type 0
Overwrites {S} {D} Makes name bytes before after =
    (file file' : D) × (s : S) × Makes before (opened name (Some file)) s
    × WritesBytes Makes bytes file file' s after

-- The bytes were put behind a link: in the place of the file that it leads to; anything else was
-- written as it stands.
abbrev pub PutsBehind : {S D M : Type 0} → (S → FileCall D M → S → Type 0) → List ℕ → FileForm → List ℕ
    → S → S → Type 0
PutsBehind {S} Makes name forms.File bytes before after =
    (place : List ℕ) × (s : S) × Makes before (followed name (Some place)) s
    × ReplacesFile Makes place true bytes s after
PutsBehind Makes name form bytes before after = Overwrites Makes name bytes before after

-- They were put under a name where such a thing stands.
abbrev pub PutsAt : {S D M : Type 0} → (S → FileCall D M → S → Type 0) → List ℕ → FileForm → List ℕ
    → S → S → Type 0
PutsAt Makes name forms.Nothing bytes before after =
    ReplacesFile Makes name false bytes before after
PutsAt Makes name forms.File bytes before after = ReplacesFile Makes name true bytes before after
PutsAt {S} Makes name forms.Link bytes before after =
    (form : FileForm) × (s : S) × Makes before (looked_behind name (Some form)) s
    × PutsBehind Makes name form bytes s after
PutsAt Makes name forms.Special bytes before after =
    Overwrites Makes name bytes before after

-- The bytes were put under a name: these calls were made, and no others.
abbrev pub PutsFile : {S D M : Type 0} → (S → FileCall D M → S → Type 0) → List ℕ → List ℕ
    → S → S → Type 0
PutsFile {S} Makes name bytes before after =
    (form : FileForm) × (s : S) × Makes before (looked_at name (Some form)) s
    × PutsAt Makes name form bytes s after
