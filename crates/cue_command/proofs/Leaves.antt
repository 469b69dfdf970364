-- The program's commands, and what a walk of each comes to.
use Rattle.std.proofs.Common.{◌≡◌, ◌∙◌, ℕ, Bool, true, false, List, [], ◌∷◌, ◌++◌, Option, Some, None, codes, refl, sym, ap, append_assoc, append-nil}
use Rattle.std.specs.Prelude.{option_and_then}
use Rattle.clap.specs.Walk.{Row, Text, arg_by_long, arg_by_short}
use Rattle.clap.specs.Simple.{Shape, built, built_leaf, inherited, marked_built, on_top, with_leaf_noted}
use Rattle.clap.specs.Faults.{defaults_fault}
use Rattle.clap.specs.declared.parser.matches.ValueSource.TheVariants.{CommandLine}
use Rattle.clap.specs.declared.builder.value_parser.Reading.TheVariants.{AsWritten}
use Rattle.cue_command.specs.inner.Apps.{of_files, of_first, of_two, store}
use Rattle.cue_command.specs.Words.{arguments}
use Rattle.cue_command.proofs.Machines.{AllText, Ends, Leaves, Place, Puts, ends, run}

-- the program when its flags were settled, from which its commands take theirs
abbrev pub above : Shape
above = (on_top with_leaf_noted (on_top marked_built store)).top

abbrev pub files_leaf : Text → Shape
files_leaf name = built_leaf (inherited above (of_files name).top)

abbrev pub first_leaf : Text → Text → Shape
first_leaf name first = built_leaf (inherited above (of_first name first).top)

abbrev pub two_leaf : Text → Text → Text → Shape
two_leaf name first second = built_leaf (inherited above (of_two name first second).top)

-- the program's commands, when it is built
leaves_are : (built store).subs ≡ files_leaf (codes "export") ∷ files_leaf (codes "print") ∷ files_leaf (codes "report") ∷ files_leaf (codes "state")
    ∷ first_leaf (codes "merge") (codes "OUT") ∷ two_leaf (codes "serve") (codes "PORT") (codes "COUNT") ∷ first_leaf (codes "push") (codes "PORT")
    ∷ files_leaf (codes "loop") ∷ []
leaves_are = refl

-- a row of the words
abbrev pub row : Text → List Text → Row
row id values = record {
  id = id;
  values = values;
  count = None;
  source = Some CommandLine;
  reading = AsWritten;
}

-- the row of the inputs, where there are any
abbrev pub file_rows : List Text → List Row
file_rows [] = []
file_rows (file ∷ files) = row (codes "FILE") (file ∷ files) ∷ []

-- ---- inputs alone

-- how many inputs the walk has taken: none, or these and the last, which is pending
pub data Taken : Type 0 where
  none : Taken
  some : List Text → Text → Taken

abbrev pub taken : Taken → List Text
taken none = []
taken (some files file) = files ++ file ∷ []

abbrev pub more : Taken → Text → Taken
more none word = some [] word
more (some files file) word = some (files ++ file ∷ []) word

-- where the walk stands behind these rows, before place n, and what is pending there before any input
abbrev pub behind : List Row → Option (Text × List Text) → ℕ → Taken → Place
behind rows pending n none = record { rows = rows; pending = pending; several = false; position = n }
behind rows pending n (some files file) = record {
  rows = rows ++ file_rows files;
  pending = Some (codes "FILE", file ∷ []);
  several = true;
  position = n;
}

module _ (name : Text) where
  abbrev s : Shape
  s = files_leaf name

  abbrev place : Taken → Place
  place = behind [] None 1

  abbrev step : Taken → Text → Option Taken
  step τ word = Some (more τ word)

  puts : (σ : Taken) (b : Bool) (word : Text) → Puts s (λ _. refl) (λ _. refl) Taken place step σ b word (step σ word)
  puts none true word = (refl, refl)
  puts none false word = (refl, refl)
  puts (some [] last) true word = (refl, refl)
  puts (some [] last) false word = (refl, refl)
  puts (some (f ∷ fs) last) true word = (refl, refl)
  puts (some (f ∷ fs) last) false word = (refl, refl)

  abbrev gives : Taken → Option (List Row)
  gives τ = Some (file_rows (taken τ))

  leaves : (σ : Taken) (b : Bool) → Leaves s (λ _. refl) (λ _. refl) Taken place step puts σ b (gives σ)
  unfolding defaults_fault
  leaves none true = (refl, refl)
  leaves none false = (refl, refl)
  leaves (some [] last) true = (refl, refl)
  leaves (some [] last) false = (refl, refl)
  leaves (some (f ∷ fs) last) true = (refl, refl)
  leaves (some (f ∷ fs) last) false = (refl, refl)

  all : (σ : Taken) (files : List Text) → option_and_then gives (run s (λ _. refl) (λ _. refl) Taken place step σ files) ≡ Some (file_rows (taken σ ++ files))
  all σ [] = ap (λ fs. Some (file_rows fs)) (sym (append-nil (taken σ)))
  all none (file ∷ files) = all (some [] file) files
  all (some fs f) (file ∷ files) = all (some (fs ++ f ∷ []) file) files ∙ ap (λ xs. Some (file_rows xs)) (append_assoc (fs ++ f ∷ []) (file ∷ []) files)

  pub files_end : (words : List Text) → AllText words → Ends s words (option_and_then (λ files. Some (file_rows files)) (arguments words))
  files_end words text = ends s (λ _. refl) (λ _. refl) Taken place step puts gives leaves none refl (λ files. Some (file_rows files)) (all none) words text

-- ---- an argument, and inputs

abbrev pub first_id : Bool → Text
first_id true = codes "OUT"
first_id false = codes "PORT"

pub data First : Type 0 where
  start : First
  held : Text → Taken → First

abbrev first_place : Bool → First → Place
first_place w start = record { rows = []; pending = None; several = false; position = 1 }
first_place w (held first none) = record { rows = []; pending = Some (first_id w, first ∷ []); several = false; position = 2 }
first_place w (held first (some files file)) = record {
  rows = row (first_id w) (first ∷ []) ∷ file_rows files;
  pending = Some (codes "FILE", file ∷ []);
  several = true;
  position = 2;
}

abbrev first_step : First → Text → Option First
first_step start word = Some (held word none)
first_step (held first files) word = Some (held first (more files word))

abbrev pub first_rows : Bool → List Text → Option (List Row)
first_rows w [] = None
first_rows w (first ∷ files) = Some (row (first_id w) (first ∷ []) ∷ file_rows files)

abbrev first_gives : Bool → First → Option (List Row)
first_gives w start = None
first_gives w (held first files) = first_rows w (first ∷ taken files)

module _ (name : Text) where
  abbrev leaf : Bool → Shape
  leaf w = first_leaf name (first_id w)

  abbrev long : (w : Bool) (word : Text) → arg_by_long (leaf w).rules word ≡ None
  long true word = refl
  long false word = refl

  abbrev short : (w : Bool) (x : ℕ) → arg_by_short (leaf w).rules x ≡ None
  short true x = refl
  short false x = refl

  first_puts : (w : Bool) (σ : First) (b : Bool) (word : Text) → Puts (leaf w) (long w) (short w) First (first_place w) first_step σ b word (first_step σ word)
  first_puts true start true word = (refl, refl)
  first_puts true start false word = (refl, refl)
  first_puts true (held o none) true word = (refl, refl)
  first_puts true (held o none) false word = (refl, refl)
  first_puts true (held o (some [] last)) true word = (refl, refl)
  first_puts true (held o (some [] last)) false word = (refl, refl)
  first_puts true (held o (some (f ∷ fs) last)) true word = (refl, refl)
  first_puts true (held o (some (f ∷ fs) last)) false word = (refl, refl)
  first_puts false start true word = (refl, refl)
  first_puts false start false word = (refl, refl)
  first_puts false (held o none) true word = (refl, refl)
  first_puts false (held o none) false word = (refl, refl)
  first_puts false (held o (some [] last)) true word = (refl, refl)
  first_puts false (held o (some [] last)) false word = (refl, refl)
  first_puts false (held o (some (f ∷ fs) last)) true word = (refl, refl)
  first_puts false (held o (some (f ∷ fs) last)) false word = (refl, refl)

  first_leaves : (w : Bool) (σ : First) (b : Bool) → Leaves (leaf w) (long w) (short w) First (first_place w) first_step (first_puts w) σ b (first_gives w σ)
  unfolding defaults_fault
  first_leaves true start true = tt
  first_leaves true start false = tt
  first_leaves true (held o none) true = (refl, refl)
  first_leaves true (held o none) false = (refl, refl)
  first_leaves true (held o (some [] last)) true = (refl, refl)
  first_leaves true (held o (some [] last)) false = (refl, refl)
  first_leaves true (held o (some (f ∷ fs) last)) true = (refl, refl)
  first_leaves true (held o (some (f ∷ fs) last)) false = (refl, refl)
  first_leaves false start true = tt
  first_leaves false start false = tt
  first_leaves false (held o none) true = (refl, refl)
  first_leaves false (held o none) false = (refl, refl)
  first_leaves false (held o (some [] last)) true = (refl, refl)
  first_leaves false (held o (some [] last)) false = (refl, refl)
  first_leaves false (held o (some (f ∷ fs) last)) true = (refl, refl)
  first_leaves false (held o (some (f ∷ fs) last)) false = (refl, refl)

  held_all : (w : Bool) (o : Text) (τ : Taken) (files : List Text)
      → option_and_then (first_gives w) (run (leaf w) (long w) (short w) First (first_place w) first_step (held o τ) files) ≡ first_rows w (o ∷ taken τ ++ files)
  held_all w o τ [] = ap (λ fs. first_rows w (o ∷ fs)) (sym (append-nil (taken τ)))
  held_all w o none (file ∷ files) = held_all w o (some [] file) files
  held_all w o (some fs f) (file ∷ files) = held_all w o (some (fs ++ f ∷ []) file) files ∙ ap (λ xs. first_rows w (o ∷ xs)) (append_assoc (fs ++ f ∷ []) (file ∷ []) files)

  first_all : (w : Bool) (files : List Text) → option_and_then (first_gives w) (run (leaf w) (long w) (short w) First (first_place w) first_step start files) ≡ first_rows w files
  first_all w [] = refl
  first_all w (file ∷ files) = held_all w file none files

  pub first_end : (w : Bool) (words : List Text) → AllText words → Ends (leaf w) words (option_and_then (first_rows w) (arguments words))
  first_end w words text = ends (leaf w) (long w) (short w) First (first_place w) first_step (first_puts w) (first_gives w) (first_leaves w) start refl (first_rows w) (first_all w) words text

-- ---- two arguments

data Pair : Type 0 where
  neither : Pair
  port_only : Text → Pair
  both : Text → Text → Pair

abbrev pair_place : Pair → Place
pair_place neither = record { rows = []; pending = None; several = false; position = 1 }
pair_place (port_only port) = record { rows = []; pending = Some (codes "PORT", port ∷ []); several = false; position = 2 }
pair_place (both port count) = record {
  rows = row (codes "PORT") (port ∷ []) ∷ [];
  pending = Some (codes "COUNT", count ∷ []);
  several = false;
  position = 3;
}

abbrev pair_step : Pair → Text → Option Pair
pair_step neither word = Some (port_only word)
pair_step (port_only port) word = Some (both port word)
pair_step (both port count) word = None

abbrev pub pair_rows : List Text → Option (List Row)
pair_rows (port ∷ count ∷ []) = Some (row (codes "PORT") (port ∷ []) ∷ row (codes "COUNT") (count ∷ []) ∷ [])
pair_rows _ = None

abbrev pair_gives : Pair → Option (List Row)
pair_gives neither = None
pair_gives (port_only port) = None
pair_gives (both port count) = pair_rows (port ∷ count ∷ [])

module _ (name : Text) where
  abbrev served : Shape
  served = two_leaf name (codes "PORT") (codes "COUNT")

  pair_puts : (σ : Pair) (b : Bool) (word : Text) → Puts served (λ _. refl) (λ _. refl) Pair pair_place pair_step σ b word (pair_step σ word)
  pair_puts neither true word = (refl, refl)
  pair_puts neither false word = (refl, refl)
  pair_puts (port_only port) true word = (refl, refl)
  pair_puts (port_only port) false word = (refl, refl)
  pair_puts (both port count) true word = tt
  pair_puts (both port count) false word = tt

  pair_leaves : (σ : Pair) (b : Bool) → Leaves served (λ _. refl) (λ _. refl) Pair pair_place pair_step pair_puts σ b (pair_gives σ)
  unfolding defaults_fault
  pair_leaves neither true = tt
  pair_leaves neither false = tt
  pair_leaves (port_only port) true = tt
  pair_leaves (port_only port) false = tt
  pair_leaves (both port count) true = (refl, refl)
  pair_leaves (both port count) false = (refl, refl)

  pair_all : (files : List Text) → option_and_then pair_gives (run served (λ _. refl) (λ _. refl) Pair pair_place pair_step neither files) ≡ pair_rows files
  pair_all [] = refl
  pair_all (port ∷ []) = refl
  pair_all (port ∷ count ∷ []) = refl
  pair_all (port ∷ count ∷ more ∷ files) = refl

  pub pair_end : (words : List Text) → AllText words → Ends served words (option_and_then pair_rows (arguments words))
  pair_end words text = ends served (λ _. refl) (λ _. refl) Pair pair_place pair_step pair_puts pair_gives pair_leaves neither refl pair_rows pair_all words text
