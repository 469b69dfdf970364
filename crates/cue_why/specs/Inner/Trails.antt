-- What is refused along one path, as the code has it: a row for the root, and one behind each step.
use Rattle.std.specs.Prelude.{◌≡◌, ◌↔◌, ◌⊎◌, suc, List, [], ◌∷◌, ◌++◌, length}
use Rattle.std.specs.List.{AllByRecursion}
use Rattle.cue_lattice.specs.Path.{Step, label, index, Path}
use Rattle.cue_lattice.specs.Question.{Question, Refusals, allows, level_at_most, length_at_most}

module _ {R : Type 0} (refuses : R → Question → Type 0) where
  -- what rows refuse along a path
  abbrev pub TrailRefuses : Path → List R → Refusals
  TrailRefuses steps [] place question = ⊥
  TrailRefuses steps (row ∷ rows) [] question = refuses row question
  TrailRefuses [] (row ∷ rows) (step ∷ place) question = ⊥
  TrailRefuses (first ∷ steps) (row ∷ rows) (step ∷ place) question =
      (first ≡ step) × TrailRefuses steps rows place question

  -- each row refuses what one of two others refuses
  abbrev pub AreMet : List R → List R → List R → Type 0
  AreMet [] other rows = rows ≡ []
  AreMet (a ∷ one) [] rows = rows ≡ []
  AreMet (a ∷ one) (b ∷ other) rows =
      (row : R) × (more : List R) × (rows ≡ row ∷ more)
      × ((question : Question) → refuses row question ↔ (refuses a question ⊎ refuses b question))
      × AreMet one other more

  -- the rows refuse what is refused at each beginning of a path
  pub record IsTrail (refused : Refusals) (path : Path) (rows : List R) : Type 0 where
    pub long : length rows ≡ suc (length path)
    pub same : (place after : Path) → path ≡ place ++ after → (question : Question)
        → TrailRefuses path rows place question ↔ refused place question

  -- a step is demanded, by the row above it and the rows from behind it on
  abbrev pub IsDemandedBy : R → Step → List R → Type 0
  IsDemandedBy above (label l) [] = ⊥
  IsDemandedBy above (label l) (row ∷ rows) = refuses row (level_at_most 0)
  IsDemandedBy above (index n) rows = refuses above (length_at_most n)

  -- a row does not allow the label of a step
  abbrev pub IsRefusedBy : R → Step → Type 0
  IsRefusedBy above (label l) = refuses above (allows l)
  IsRefusedBy above (index n) = ⊥

  -- one row more than there are steps, none of which refuses anything
  pub record AreFree {X : Type 0} (steps : List X) (rows : List R) : Type 0 where
    pub long : length rows ≡ suc (length steps)
    pub free : AllByRecursion (λ row. (question : Question) → ¬ refuses row question) rows
