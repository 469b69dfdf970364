-- What an expression refuses: this is its meaning.
use Rattle.std.specs.Prelude.{◌≡◌, ◌⊎◌, ◌+◌, ℕ, zero, suc, Bool, true, false, List, [], ◌∷◌}
use Rattle.cue_lattice.specs.Path.{Path, label, index}
use Rattle.cue_lattice.specs.Question.{Question}
use Rattle.cue_scope.specs.Core.{Core, top, conjunction, struct, close, list, closed, Cores}
use Rattle.cue_scope.specs.Core.{no_cores, core, Elements, ends, goes_on, each, element}
use Rattle.cue_scope.specs.Core.{Members, no_members, member, dots}
use Rattle.cue_eval.specs.Pairs.{pair}
use Rattle.cue_eval.specs.Literals.{literals}
use Rattle.cue_eval.specs.Places.{IsAtPlace, ScalarRefuses, StructRefuses, ListRefuses, MarkRefuses}
use Rattle.cue_eval.specs.Places.{ClosingRefuses}

-- a struct literal, of whose fields it is told what they refuse
abbrev pub LiteralRefuses : (List ℕ → Path → Question → Type 0) → Path → Question → Type 0
LiteralRefuses fields [] question = StructRefuses question
LiteralRefuses fields (label l ∷ path) question = fields l path question
LiteralRefuses fields (index i ∷ path) question = ⊥

-- a list literal, of whose elements it is told what they refuse
abbrev pub ElementsRefuse : (Question → Type 0) → (ℕ → Path → Question → Type 0) → Path
    → Question → Type 0
ElementsRefuse here elements [] question = here question
ElementsRefuse here elements (label l ∷ path) question = ⊥
ElementsRefuse here elements (index i ∷ path) question = elements i path question

-- how many elements a list writes one by one
abbrev pub count_of_elements : Elements → ℕ
count_of_elements ends = 0
count_of_elements goes_on = 0
count_of_elements (each c) = 0
count_of_elements (element c es) = count_of_elements es + 1

-- it goes on behind them
abbrev pub is_open_list : Elements → Bool
is_open_list ends = false
is_open_list goes_on = true
is_open_list (each c) = true
is_open_list (element c es) = is_open_list es

abbrev mutual
  pub Refuses : Core → Path → Question → Type 0
  Refuses top path question = ⊥
  Refuses (conjunction cs) path question = PartsRefuse cs path question
  Refuses (struct ms) path question = LiteralRefuses (FieldRefuses ms) path question
  Refuses (list es) path question =
      ElementsRefuse (ListRefuses (count_of_elements es) (is_open_list es)) (ElementRefuses es) path question
  -- `close` closes its own place alone
  Refuses (close ms) path question =
      LiteralRefuses (FieldRefuses ms) path question ⊎ IsAtPlace (ClosingRefuses (ms ∷ [])) path question
  -- a definition is closed wherever its body writes a struct
  Refuses (closed c) path question =
      Refuses c path question ⊎ ClosingRefuses (literals c path) question
  -- all else is scalar
  Refuses c path question = IsAtPlace (ScalarRefuses (pair c)) path question

  -- `a & b` refuses what a or b refuses
  pub PartsRefuse : Cores → Path → Question → Type 0
  PartsRefuse no_cores path question = ⊥
  PartsRefuse (core c cs) path question = Refuses c path question ⊎ PartsRefuse cs path question

  -- what the declarations of a label refuse, at a path below it
  pub FieldRefuses : Members → List ℕ → Path → Question → Type 0
  FieldRefuses no_members l path question = ⊥
  FieldRefuses (member k mark c ms) l path question =
      ((k ≡ l) × (IsAtPlace (MarkRefuses mark) path question ⊎ Refuses c path question))
      ⊎ FieldRefuses ms l path question
  FieldRefuses (dots ms) l path question = FieldRefuses ms l path question

  -- what the element at an index refuses, at a path below it; behind those that are written one by
  -- one it is what each further element is
  pub ElementRefuses : Elements → ℕ → Path → Question → Type 0
  ElementRefuses ends i path question = ⊥
  ElementRefuses goes_on i path question = ⊥
  ElementRefuses (each c) i path question = Refuses c path question
  ElementRefuses (element c es) zero path question = Refuses c path question
  ElementRefuses (element c es) (suc i) path question = ElementRefuses es i path question
