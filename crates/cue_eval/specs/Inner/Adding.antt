-- What closing adds, place by place.
use Rattle.std.specs.Prelude.{◌≡◌, ◌↔◌, ◌⊎◌, ◌+◌, ◌++◌, ◌≤◌, ◌<◌, ◌^◌, true, List, [], ◌∷◌, ℕ}
use Rattle.std.specs.Prelude.{Option, Some, None, All}
use Rattle.std.specs.List.{Contains}
use Rattle.std.specs.Option.{option_and_then}
use Rattle.cue_lattice.specs.Limits.{step_limit}
use Rattle.cue_lattice.specs.OneOf.{OneOf}
use Rattle.cue_lattice.specs.Path as paths
use Rattle.cue_lattice.specs.Path.{Path, label, index}
use Rattle.cue_lattice.specs.Question.{Question, allows}
use Rattle.cue_row.specs.declared.parts.RowParts.{RowParts as Row}
use Rattle.cue_row.specs.declared.question.Question as program
use Rattle.cue_row.specs.declared.step.Step.{Step}
use Rattle.cue_row.specs.LabelSets.{RefusesLabel}
use Rattle.cue_row.specs.Questions.{question_of}
use Rattle.cue_row.specs.Row.{RefusesAsked, IsRow}
use Rattle.cue_row.specs.Steps.{step_of}
use Rattle.cue_sets.specs.Texts.{is_text_member}
use Rattle.cue_scope.specs.Core.{Core, closed}
use Rattle.cue_scope.specs.Kept.{nodes_kept}
use Rattle.cue_scope.specs.Limits.{size, depth}
use Rattle.cue_scope.specs.Meaning.{nest_in_labels}
use Rattle.cue_scope.specs.Uses.{uses}
use Rattle.cue_syntax.specs.declared.tree.Label.{Label}
use Rattle.cue_syntax.specs.Syntax.{Expression}
use Rattle.cue_table.specs.Depth.{tree_depth}
use Rattle.cue_table.specs.Form.{IsTable}
use Rattle.cue_table.specs.Many.{element_given}
use Rattle.cue_table.specs.Refuses.{RowRefuses, TableRefuses}
use Rattle.cue_table.specs.Spans.{Span, field, elements}
use Rattle.cue_table.specs.Tree.{Tree, row_of, row_at, step_into}
use Rattle.cue_eval.specs.declared.close.Closed.{Closed}
use Rattle.cue_eval.specs.declared.left_out.ClosingPlace.{ClosingPlace}
use Rattle.cue_eval.specs.declared.declared.Declared.{Declared}
use Rattle.cue_eval.specs.declared.declared.DeclaredQuestion.TheVariants.{Stands}
use Rattle.cue_eval.specs.declared.declares.LiteralScope.{LiteralScope}
use Rattle.cue_eval.specs.Evaluated.{HasAnswersOf}
use Rattle.cue_eval.specs.Telling.{DeclaredRefuses}
use Rattle.cue_eval.specs.Inner.Told.{AreKnown, AreDots, meaning_in_scope}

-- a finite set of labels may stand, and no other
abbrev pub OnlyLabels : Option (List (List ℕ)) → Question → Type 0
OnlyLabels labels (allows l) = RefusesLabel labels l
OnlyLabels labels _ = ⊥

-- the labels that these literals don't declare are left out, where these are all but finitely many
abbrev pub LeftOut : Declared → Question → Type 0
LeftOut here (allows l) =
    (here.stands ≡ true) × (here.undeclared.0 ≡ true) × (is_text_member here.undeclared l ≡ true)
LeftOut here _ = ⊥

-- the row leaves out no label
abbrev pub AllowsAll : Option Row → Type 0
AllowsAll row =
    (l : List ℕ) → ¬ RowRefuses (λ (r : Row) (k : List ℕ). RefusesLabel r.labels k) row l

-- what closing adds at a place, where this row tells of the literals that the body writes itself,
-- this one where a literal has a `...`, and this is refused: the labels that aren't declared, where
-- no literal has a `...` and no label is left out yet
abbrev pub ClosingAdds : Option Declared → Option Declared → Option Row → Question → Type 0
ClosingAdds None dots row question = ⊥
ClosingAdds (Some here) dots row question =
    (¬ RowRefuses DeclaredRefuses dots Stands) × AllowsAll row × LeftOut here question

abbrev pub IsAddedBy : Tree Declared → Tree Declared → Tree Row → Tree Row → Type 0
IsAddedBy own dots rows sets = (path : Path) (question : program.Question) →
    TableRefuses RefusesAsked sets path question
    ↔ ClosingAdds (row_at own path) (row_at dots path) (row_at rows path) (question_of question)

-- the row of a branch that may be there, and that at a path below it
abbrev pub root_row : {R : Type 0} → Option (Tree R) → Option R
root_row branch = option_and_then row_of branch

abbrev pub row_below : {R : Type 0} → Option (Tree R) → Path → Option R
row_below branch path = option_and_then (λ tree. row_at tree path) branch

-- what closing adds at a place, and at a path below it
abbrev pub ClosingAddsHere : ClosingPlace → Question → Type 0
ClosingAddsHere place question =
    ClosingAdds (row_of place.own) (root_row place.dots) (root_row place.rows) question

abbrev pub ClosingAddsAt : ClosingPlace → Path → Question → Type 0
ClosingAddsAt place path question =
    ClosingAdds (row_at place.own path) (row_below place.dots path) (row_below place.rows path) question

-- the branch one step below one that may be there
abbrev pub step_below : {R : Type 0} → Option (Tree R) → paths.Step → Option (Tree R)
step_below branch step = option_and_then (λ tree. step_into tree step) branch

-- The second place is one step below the first.
pub record IsStepInto (place : ClosingPlace) (step : paths.Step) (below : ClosingPlace) : Type 0 where
  pub own : step_into place.own step ≡ Some below.own
  pub dots : below.dots ≡ step_below place.dots step
  pub rows : below.rows ≡ step_below place.rows step

-- the step is one of these
abbrev pub IsAmong : List Step → paths.Step → Type 0
IsAmong steps step = OneOf (λ one. step_of one ≡ step) steps

-- these are labels, and among them is each at which a branch stands
pub record AreOwnLabels (own : Tree Declared) (steps : List Step) : Type 0 where
  pub all : (text : List ℕ) (below : Tree Declared) → step_into own (label text) ≡ Some below
      → IsAmong steps (label text)
  pub labels : (i : ℕ) → ¬ IsAmong steps (index i)

-- The branches refuse what closing adds below these steps, and can be hung in.
pub record AreAddedAt (place : ClosingPlace) (steps : List Step)
    (branches : List (Step × Tree Row)) : Type 0 where
  pub refused : (step : paths.Step) (path : Path) (question : program.Question)
      → OneOf (λ one. (step_of one.0 ≡ step) × TableRefuses RefusesAsked one.1 path question) branches
      ↔ (IsAmong steps step × ClosingAddsAt place (step ∷ path) (question_of question))
  pub deep : All (λ one. tree_depth one.1 < step_limit) branches

-- the branches refuse what closing adds below labels, and can be hung in
abbrev pub AreFields : ClosingPlace → List (Step × Tree Row) → Type 0
AreFields place branches =
    (steps : List Step) × AreOwnLabels place.own steps × AreAddedAt place steps branches

-- The table refuses what closing adds below a place, and nothing there.
pub record IsAllBelow (place : ClosingPlace) (all : Tree Row) : Type 0 where
  pub root : (question : program.Question) → ¬ TableRefuses RefusesAsked all [] question
  pub below : (step : paths.Step) (path : Path) (question : program.Question)
      → TableRefuses RefusesAsked all (step ∷ path) question
      ↔ ClosingAddsAt place (step ∷ path) (question_of question)

-- none of the bounds is behind the first index and up to the second
abbrev pub NoneBetween : ℕ → ℕ → List ℕ → Type 0
NoneBetween i j = All (λ bound. (bound ≤ i) ⊎ (j < bound))

-- between bounds closing adds the same in all elements
abbrev pub AreBounds : ClosingPlace → List ℕ → Type 0
AreBounds place bounds =
    (i j : ℕ) → i ≤ j → NoneBetween i j bounds → (path : Path) (question : Question)
    → ClosingAddsAt place (index i ∷ path) question ↔ ClosingAddsAt place (index j ∷ path) question

-- between bounds all elements of a tree are alike
abbrev pub AreBoundsOf : {R : Type 0} → Tree R → List ℕ → Type 0
AreBoundsOf tree bounds =
    (i j : ℕ) → i ≤ j → NoneBetween i j bounds
    → step_into tree (index i) ≡ step_into tree (index j)

abbrev pub AreBoundsBelow : {R : Type 0} → Option (Tree R) → List ℕ → Type 0
AreBoundsBelow branch bounds =
    (i j : ℕ) → i ≤ j → NoneBetween i j bounds
    → step_below branch (index i) ≡ step_below branch (index j)

-- the bounds are indexes of 32 bits, or the one behind the last of these
abbrev pub AreFew : List ℕ → Type 0
AreFew = All (λ bound. bound ≤ 2 ^ 32)

-- the elements of a span stand below an index
abbrev pub IsSpanWithin : ℕ → Span → Type 0
IsSpanWithin n (field text) = Unit
IsSpanWithin n (elements i more) = i + more < n

-- the bounds have the first index of a span, and that behind its last one
abbrev pub HasBoundsOf : Span → List ℕ → Type 0
HasBoundsOf (field text) bounds = Unit
HasBoundsOf (elements i more) bounds = Contains bounds i × Contains bounds (i + more + 1)

-- the second list has all numbers of the first
abbrev pub AreKept : List ℕ → List ℕ → Type 0
AreKept old new = (n : ℕ) → Contains old n → Contains new n

-- The stretches are given so far that the elements from an index on have theirs, whatever is given
-- after them, and no others: those before it are what is given after.
pub record AreStretches (place : ClosingPlace) (from : ℕ) (given : List (ℕ × Tree Row)) : Type 0 where
  pub reached : (i : ℕ) (more : List (ℕ × Tree Row)) (path : Path) (question : program.Question)
      → from ≤ i → TableRefuses RefusesAsked (element_given i (given ++ more)) path question
      ↔ ClosingAddsAt place (index i ∷ path) (question_of question)
  pub others : (i : ℕ) (more : List (ℕ × Tree Row)) → i < from
      → element_given i (given ++ more) ≡ element_given i more

-- of a body it is known what closing asks
abbrev pub IsBodyKnown : LiteralScope → List Label → Expression → Type 0
IsBodyKnown known chain e =
    AreKnown known (uses (nodes_kept known.definitions.now) e) (size (meaning_in_scope known e))
    (depth (nest_in_labels chain (meaning_in_scope known e)))

-- The rows refuse what the body refuses where it is closed, and the dots are those of all its
-- literals.
pub record IsClosedBody (c : Core) (body : Closed) : Type 0 where
  pub form : IsTable RefusesAsked IsRow body.rows
  pub answers : HasAnswersOf (closed c) body.rows
  pub dots : AreDots c body.dots
