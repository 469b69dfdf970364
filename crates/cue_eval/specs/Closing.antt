-- What closing adds to an expression: it looks at the struct literals that the expression writes
-- itself, since those in definitions that it names are closed already.
use Rattle.std.specs.Prelude.{◌≡◌, ◌⊎◌, ◌↔◌, ℕ, zero, suc, Bool, true, List, [], ◌∷◌}
use Rattle.std.specs.List.{list_any}
use Rattle.cue_lattice.specs.Path.{Path, label, index}
use Rattle.cue_lattice.specs.Question.{allows}
use Rattle.cue_scope.specs.Core.{Core, conjunction, struct, close, list, closed, Cores, no_cores}
use Rattle.cue_scope.specs.Core.{core, Elements, ends, goes_on, each, element, Members}
use Rattle.cue_scope.specs.Core.{no_members, member, dots}
use Rattle.cue_eval.specs.Literals.{literals, has_declaration, has_dots, LeaveOut}
use Rattle.cue_eval.specs.Refuses.{Refuses}

-- at the place of a struct literal, or below it
abbrev pub AtStruct : Type 0 → (List ℕ → Path → Type 0) → Path → Type 0
AtStruct here fields [] = here
AtStruct here fields (label l ∷ path) = fields l path
AtStruct here fields (index i ∷ path) = ⊥

-- below a list literal
abbrev pub AtList : (ℕ → Path → Type 0) → Path → Type 0
AtList elements [] = ⊥
AtList elements (label l ∷ path) = ⊥
AtList elements (index i ∷ path) = elements i path

-- One of the struct literals at a path does: of those that the expression writes itself `own` says
-- which, and `used` whether one does in a definition that it names.
abbrev mutual
  pub OneDoes : (Members → Type 0) → (Core → Path → Type 0) → Core → Path → Type 0
  OneDoes own used (conjunction cs) path = OneOfParts own used cs path
  OneDoes own used (struct ms) path = AtStruct (own ms) (OneOfFields own used ms) path
  OneDoes own used (close ms) path = AtStruct (own ms) (OneOfFields own used ms) path
  OneDoes own used (list es) path = AtList (OneOfElements own used es) path
  OneDoes own used (closed c) path = used c path
  OneDoes own used _ path = ⊥

  pub OneOfParts : (Members → Type 0) → (Core → Path → Type 0) → Cores → Path → Type 0
  OneOfParts own used no_cores path = ⊥
  OneOfParts own used (core c cs) path = OneDoes own used c path ⊎ OneOfParts own used cs path

  -- at a path below a label
  pub OneOfFields : (Members → Type 0) → (Core → Path → Type 0) → Members → List ℕ → Path → Type 0
  OneOfFields own used no_members l path = ⊥
  OneOfFields own used (member k mark c ms) l path =
      ((k ≡ l) × OneDoes own used c path) ⊎ OneOfFields own used ms l path
  OneOfFields own used (dots ms) l path = OneOfFields own used ms l path

  -- at a path below an index
  pub OneOfElements : (Members → Type 0) → (Core → Path → Type 0) → Elements → ℕ → Path → Type 0
  OneOfElements own used ends i path = ⊥
  OneOfElements own used goes_on i path = ⊥
  OneOfElements own used (each c) i path = OneDoes own used c path
  OneOfElements own used (element c es) zero path = OneDoes own used c path
  OneOfElements own used (element c es) (suc i) path = OneOfElements own used es i path

-- one of the struct literals at a path that the expression itself writes passes the test
abbrev pub OneOfOwn : (Members → Bool) → Core → Path → Type 0
OneOfOwn test = OneDoes (λ ms. test ms ≡ true) (λ c path. ⊥)

-- one of those in definitions that it names does
abbrev pub OneOfUsed : (Members → Bool) → Core → Path → Type 0
OneOfUsed test = OneDoes (λ ms. ⊥) (λ c path. list_any test (literals c path) ≡ true)

-- each struct literal is passed
abbrev pub any_literal : Members → Bool
any_literal ms = true

-- Some struct literals are written by the expression itself, none at the path has a `...`, and its
-- own don't declare the label.
pub record LeaveOutOwn (c : Core) (path : Path) (l : List ℕ) : Type 0 where
  pub some : OneOfOwn any_literal c path
  pub without_dots : ¬ OneOfOwn has_dots c path
  pub used_without_dots : ¬ OneOfUsed has_dots c path
  pub undeclared : ¬ OneOfOwn (has_declaration l) c path

-- The struct literals at a path are those that the expression writes itself, and those in
-- definitions that it names.
abbrev pub AreOwnOrUsed : Type 0
AreOwnOrUsed = (test : Members → Bool) (c : Core) (path : Path) →
    (list_any test (literals c path) ≡ true) ↔ (OneOfOwn test c path ⊎ OneOfUsed test c path)

-- Where definitions that are named write struct literals, one has a `...`, or labels are left out
-- already.
abbrev pub UsedAreClosed : Type 0
UsedAreClosed = (c : Core) (path : Path) →
    OneOfUsed any_literal c path
    → OneOfUsed has_dots c path ⊎ ((k : List ℕ) × Refuses c path (allows k))

-- Where no label is left out yet, closing leaves out what the expression's own literals don't
-- declare.
abbrev pub IsClosedByOwn : Type 0
IsClosedByOwn = (c : Core) (path : Path) (l : List ℕ) →
    ((k : List ℕ) → ¬ Refuses c path (allows k))
    → LeaveOut (literals c path) l ↔ LeaveOutOwn c path l
