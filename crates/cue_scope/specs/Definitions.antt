-- The definitions of a text, and their names.
use Rattle.std.specs.Prelude.{ℕ, ◌≡◌, cond, List, [], ◌∷◌, ◌++◌, Option}
use Rattle.std.specs.List.{position_from}
use Rattle.std.specs.Option.{is_some}
use Rattle.std.specs.Str.{bytes_eq}
use Rattle.cue_lattice.specs.declared.refusal.Kind.TheVariants as kinds
use Rattle.cue_lattice.specs.declared.refusal.Refusal.{Refusal}
use Rattle.cue_syntax.specs.declared.tree.Label.{Label}
use Rattle.cue_scope.specs.First.{IsFirstName}
use Rattle.cue_syntax.specs.Syntax.{Expression, Entries, no_entries, entry, definition}

-- `#Name: label: value`: its name, where that stands, and the chain of labels before its value
pub record Definition : Type 0 where
  pub name : List ℕ
  pub place : ℕ
  pub chain : List Label
  pub value : Expression

-- in text order; they are numbered from 0 in this order
abbrev pub definitions : Entries → List Definition
definitions no_entries = []
definitions (entry (definition name place chain e) es) =
    record { name = name; place = place; chain = chain; value = e } ∷ definitions es
definitions (entry _ es) = definitions es

-- the number of the first definition of this name
abbrev pub number_of_name : List ℕ → List Definition → Option ℕ
number_of_name name ds = position_from (λ d. bytes_eq name d.name) 0 ds

-- the places of the definitions whose name an earlier one has, where these stood before
abbrev pub repeats_after : List Definition → List Definition → List ℕ
repeats_after before [] = []
repeats_after before (d ∷ ds) =
    cond (is_some (number_of_name d.name before)) (d.place ∷ []) []
    ++ repeats_after (before ++ d ∷ []) ds

abbrev pub repeated_names : List Definition → List ℕ
repeated_names ds = repeats_after [] ds

-- the refusal names the first definition whose name an earlier one has
pub record IsRepeat (ds : List Definition) (refusal : Refusal) : Type 0 where
  pub kind : refusal.kind ≡ kinds.Repeated
  pub first : IsFirstName refusal.place (repeated_names ds)
