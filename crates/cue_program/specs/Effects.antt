-- What calls come to where each does what it says: what lies where before and after it.
use Rattle.std.specs.Prelude.{◌≡◌, ◌⊎◌, ℕ, List, [], ◌++◌, Some, None, Bool, true, false, ⊤}
use Rattle.cue_program.specs.Calls.{FileCall, looked_at, looked_behind, followed, created, opened}
use Rattle.cue_program.specs.Calls.{asked_mode, set_mode, wrote, synced, renamed, removed, PutsFile}
use Rattle.cue_program.specs.Files.{Holdings, IsElsewhereSame, IsFilePut}
use Rattle.cue_program.specs.Files.{IsUnharmed}
use Rattle.cue_program.specs.Stopped.{StopsPutting}
use Rattle.cue_program.specs.declared.files.FileForm.{FileForm}
use Rattle.cue_program.specs.declared.files.FileForm.TheVariants as forms

-- nothing changed
abbrev pub IsUnchanged : Holdings → Holdings → Type 0
IsUnchanged = IsElsewhereSame (λ place. ⊥)

-- nothing changed but what lies at the place
abbrev pub IsTouchedAt : List ℕ → Holdings → Holdings → Type 0
IsTouchedAt place = IsElsewhereSame (λ other. other ≡ place)

-- such a thing stands under the name, which leads to itself where it is no link's
abbrev pub LiesAt : List ℕ → FileForm → Holdings → Type 0
LiesAt name forms.Nothing h =
    (h.place_of name ≡ name) × (h.is_special name ≡ false) × (h.bytes_at name ≡ None)
LiesAt name forms.File h = (h.place_of name ≡ name) × (h.is_special name ≡ false)
LiesAt name forms.Link h = ⊤
LiesAt name forms.Special h = (h.place_of name ≡ name) × (h.is_special name ≡ true)

-- whether something special stands where a link leads to that is told so: nothing is special, too
abbrev pub is_special_behind : FileForm → Bool
is_special_behind forms.File = false
is_special_behind _ = true

-- a new file without bytes lies at the place, where nothing lay
pub record IsNewAt (place : List ℕ) (old new : Holdings) : Type 0 where
  pub touched : IsTouchedAt place old new
  pub free : old.bytes_at place ≡ None
  pub empty : new.bytes_at place ≡ Some []

-- bytes were put behind those of the file at the place
pub record IsLonger (place piece : List ℕ) (old new : Holdings) : Type 0 where
  pub touched : IsTouchedAt place old new
  pub bytes : (had : List ℕ) → old.bytes_at place ≡ Some had
      → new.bytes_at place ≡ Some (had ++ piece)
  pub mode : new.mode_at place ≡ old.mode_at place

-- the file at the place got the mode
pub record HasMode (place : List ℕ) (number : ℕ) (old new : Holdings) : Type 0 where
  pub touched : IsTouchedAt place old new
  pub bytes : new.bytes_at place ≡ old.bytes_at place
  pub mode : new.mode_at place ≡ number

-- the file at a place took the place of what lay at another
pub record HasMoved (from to : List ℕ) (old new : Holdings) : Type 0 where
  pub touched : IsElsewhereSame (λ place. (place ≡ from) ⊎ (place ≡ to)) old new
  pub bytes : new.bytes_at to ≡ old.bytes_at from
  pub mode : new.mode_at to ≡ old.mode_at from
  pub gone : new.bytes_at from ≡ None

-- What a call does, where an open file lies at a place, and a mode is a number.
abbrev pub HasEffect : {D M : Type 0} → (D → List ℕ) → (M → ℕ) → FileCall D M → Holdings → Holdings → Type 0
HasEffect at mode (looked_at name (Some form)) old new = IsUnchanged old new × LiesAt name form old
HasEffect at mode (looked_at name None) old new = IsUnchanged old new
HasEffect at mode (looked_behind name (Some form)) old new =
    IsUnchanged old new × (old.is_special (old.place_of name) ≡ is_special_behind form)
HasEffect at mode (looked_behind name None) old new = IsUnchanged old new
HasEffect at mode (followed name (Some place)) old new =
    IsUnchanged old new × (place ≡ old.place_of name) × (old.place_of place ≡ place)
HasEffect at mode (followed name None) old new = IsUnchanged old new
HasEffect at mode (created place (Some file)) old new = IsNewAt place old new × (at file ≡ place)
HasEffect at mode (created place None) old new = IsUnchanged old new
HasEffect at mode (opened name (Some file)) old new = IsUnchanged old new × (at file ≡ old.place_of name)
HasEffect at mode (opened name None) old new = IsUnchanged old new
HasEffect at mode (asked_mode place (Some m)) old new =
    IsUnchanged old new × (mode m ≡ old.mode_at (old.place_of place))
HasEffect at mode (asked_mode place None) old new = IsUnchanged old new
HasEffect at mode (set_mode file m true) old new = HasMode (at file) (mode m) old new
HasEffect at mode (set_mode file m false) old new = IsTouchedAt (at file) old new
HasEffect at mode (wrote file piece file' true) old new =
    IsLonger (at file) piece old new × (at file' ≡ at file)
HasEffect at mode (wrote file piece file' false) old new =
    IsTouchedAt (at file) old new × (at file' ≡ at file)
HasEffect at mode (synced file done) old new = IsUnchanged old new
HasEffect at mode (renamed from to true) old new = HasMoved from to old new
HasEffect at mode (renamed from to false) old new = IsUnchanged old new
HasEffect at mode (removed place done) old new = IsTouchedAt place old new

-- each call does what it says to what a shelf holds
abbrev pub CallsHaveEffects : {S D M : Type 0} → (S → FileCall D M → S → Type 0) → (S → Holdings)
    → (D → List ℕ) → (M → ℕ) → Type 0
CallsHaveEffects {S} {D} {M} Makes held at mode =
    (a b : S) (call : FileCall D M) → Makes a call b → HasEffect at mode call (held a) (held b)

-- Wherever each call does what it says, the calls that put bytes under a name put them there, and
-- those that were made where they could not be put harm no file.
pub record ArePut {S D M : Type 0} (Makes : S → FileCall D M → S → Type 0) : Type 0 where
  pub puts : (held : S → Holdings) (at : D → List ℕ) (mode : M → ℕ)
      → CallsHaveEffects Makes held at mode → (name bytes : List ℕ) (a b : S)
      → PutsFile Makes name bytes a b → IsFilePut name bytes (held a) (held b)
  pub stops : (held : S → Holdings) (at : D → List ℕ) (mode : M → ℕ)
      → CallsHaveEffects Makes held at mode → (name : List ℕ) (a b : S)
      → StopsPutting Makes name a b → IsUnharmed name (held a) (held b)
