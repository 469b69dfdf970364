-- What is told of struct literals.
use Rattle.std.proofs.Common.{◌≡◌, ◌↔◌, inl, inr, ⊎_elim, ℕ, ◌+◌, ◌≤◌, Bool, true, false, not, ◌||◌, Option, Some, None, List, [], ◌∷◌, length, refl, sym, ap, subst, ◌∙◌, arith}
use Rattle.std.specs.Str.{bytes_eq}
use Rattle.std.proofs.lemmas.Bool.{false≢true}
use Rattle.cue_lattice.specs.OneOf.{OneOf}
use Rattle.cue_lattice.specs.Path as paths
use Rattle.cue_lattice.specs.Path.{Path, label, index}
use Rattle.cue_row.specs.Steps.{step_of}
use Rattle.cue_row.specs.declared.step.Step.{Step}
use Rattle.cue_sets.specs.Texts.{RefusesText}
use Rattle.cue_syntax.specs.declared.tree.Label.{Label}
use Rattle.cue_syntax.specs.declared.tree.Mark.{Mark}
use Rattle.cue_scope.specs.Core.{Core, struct, close, Members, no_members, member}
use Rattle.cue_scope.specs.Meaning.{nest_in_labels}
use Rattle.cue_table.specs.Depth.{tree_depth}
use Rattle.cue_table.specs.Form.{IsTable}
use Rattle.cue_table.specs.Many.{IsOfBranches}
use Rattle.cue_table.specs.Refuses.{RowRefuses, TableRefuses}
use Rattle.cue_table.specs.Tree.{Tree, row_at}
use Rattle.cue_table.proofs.Depth.{row_depth, refusals_depth}
use Rattle.cue_eval.specs.declared.declared.Declared.{Declared}
use Rattle.cue_eval.specs.declared.declared.DeclaredQuestion.{DeclaredQuestion}
use Rattle.cue_eval.specs.declared.declared.DeclaredQuestion.TheVariants.{Stands, Declares}
use Rattle.cue_eval.specs.declared.declares.LiteralSelection.{LiteralSelection}
use Rattle.cue_eval.specs.declared.declares.LiteralSelection.TheVariants.{Dotted}
use Rattle.cue_eval.specs.Closing.{AtStruct, OneOfFields}
use Rattle.cue_eval.specs.Telling.{DeclaredRefuses, IsDeclaredLabel}
use Rattle.cue_eval.specs.Inner.Telling.{literal_declares}
use Rattle.cue_eval.specs.Inner.Told.{DeclaresLiterals, DeclaresFields, IsRooted, own_literals_declare, used_literals_declare}

-- what is refused stands at a path that is no longer than the table is deep
refusing_row : (row : Option Declared) (asked : DeclaredQuestion) → RowRefuses DeclaredRefuses row asked → (r : Declared) × (row ≡ Some r)
refusing_row None asked h = absurd h
refusing_row (Some r) asked h = (r, refl)

pub told_depth : (table : Tree Declared) (path : Path) (asked : DeclaredQuestion) → TableRefuses DeclaredRefuses table path asked → length path ≤ tree_depth table
told_depth table path asked h = let row = refusing_row (row_at table path) asked h in row_depth table path row.0 row.1

-- ---- a struct literal by its fields
pub fields_told : (whose : LiteralSelection) (ms : Members) (given : List (Step × Tree Declared)) (table : Tree Declared)
    → IsTable DeclaredRefuses IsDeclaredLabel table → IsOfBranches DeclaredRefuses given table
    → ((step : paths.Step) (path : Path) (asked : DeclaredQuestion) → OneOf (λ (one : Step × Tree Declared). (step_of one.0 ≡ step) × TableRefuses DeclaredRefuses one.1 path asked) given
    ↔ AtStruct ⊥ (OneOfFields (own_literals_declare whose asked) (used_literals_declare whose) ms) (step ∷ path))
    → DeclaresFields whose ms table
fields_told whose ms given table form of same = record { form = form; told = by } where
  by : (path : Path) (asked : DeclaredQuestion) → TableRefuses DeclaredRefuses table path asked ↔ AtStruct ⊥ (OneOfFields (own_literals_declare whose asked) (used_literals_declare whose) ms) path
  by [] asked = (λ h. of.root asked h, λ h. absurd h)
  by (step ∷ path) asked =
      let below = of.below step path asked in
      let given = same step path asked in
      (λ h. given.0 (below.0 h), λ h. below.1 (given.1 h))

-- where nothing is told of the literal itself
pub untold : (whose : LiteralSelection) (ms : Members) (table : Tree Declared) → DeclaresFields whose ms table → ((asked : DeclaredQuestion) → ¬ own_literals_declare whose asked ms) → DeclaresLiterals whose (struct ms) table
untold whose ms table told none = record { form = told.form; told = by } where
  by : (path : Path) (asked : DeclaredQuestion) → TableRefuses DeclaredRefuses table path asked ↔ AtStruct (own_literals_declare whose asked ms) (OneOfFields (own_literals_declare whose asked) (used_literals_declare whose) ms) path
  by [] asked = (λ h. absurd ((told.told [] asked).0 h), λ h. absurd (none asked h))
  by (label l ∷ path) asked = told.told (label l ∷ path) asked
  by (index i ∷ path) asked = told.told (index i ∷ path) asked

-- and where it is told what it declares
pub own_told : (whose : LiteralSelection) (ms : Members) (table all : Tree Declared) (row : Declared) → DeclaresFields whose ms table → ((asked : DeclaredQuestion) → DeclaredRefuses row asked ↔ own_literals_declare whose asked ms) → IsRooted table row all → DeclaresLiterals whose (struct ms) all
own_told whose ms table all row told here rooted = record { form = rooted.form; told = by } where
  by : (path : Path) (asked : DeclaredQuestion) → TableRefuses DeclaredRefuses all path asked ↔ AtStruct (own_literals_declare whose asked ms) (OneOfFields (own_literals_declare whose asked) (used_literals_declare whose) ms) path
  by [] asked =
      let added = rooted.added [] asked in (
        λ h. ⊎_elim (λ o. absurd ((told.told [] asked).0 o)) (λ r. (here asked).0 r.1) (added.0 h),
        λ h. added.1 (inr (refl, (here asked).1 h)),
      )
  by (label l ∷ path) asked =
      let added = rooted.added (label l ∷ path) asked in (
        λ h. ⊎_elim (λ o. (told.told (label l ∷ path) asked).0 o) (λ r. let no : ⊥ = cc (r.0) in absurd no) (added.0 h),
        λ h. added.1 (inl ((told.told (label l ∷ path) asked).1 h)),
      )
  by (index i ∷ path) asked =
      let added = rooted.added (index i ∷ path) asked in (
        λ h. ⊎_elim (λ o. (told.told (index i ∷ path) asked).0 o) (λ r. let no : ⊥ = cc (r.0) in absurd no) (added.0 h),
        λ h. absurd h,
      )

-- what is told of a literal without `...`, where dots are told: nothing
pub one_dotless : (k : List ℕ) (mark : Mark) (c : Core) (asked : DeclaredQuestion) → ¬ own_literals_declare Dotted asked (member k mark c no_members)
one_dotless k mark c asked h = false≢true h

-- ---- a struct literal of one declaration
same_step : (k l : List ℕ) (step : paths.Step) → step ≡ label k → step ≡ label l → k ≡ l
same_step k l step e f = cc

pub one_field_told : (whose : LiteralSelection) (k : List ℕ) (mark : Mark) (c : Core) (step : Step) (below table : Tree Declared) → step_of step ≡ label k → DeclaresLiterals whose c below
    → IsTable DeclaredRefuses IsDeclaredLabel table → IsOfBranches DeclaredRefuses ((step, below) ∷ []) table → DeclaresFields whose (member k mark c no_members) table
one_field_told whose k mark c step below table is told form of = fields_told whose (member k mark c no_members) ((step, below) ∷ []) table form of same where
  same : (next : paths.Step) (path : Path) (asked : DeclaredQuestion) → OneOf (λ (one : Step × Tree Declared). (step_of one.0 ≡ next) × TableRefuses DeclaredRefuses one.1 path asked) ((step, below) ∷ [])
      ↔ AtStruct ⊥ (OneOfFields (own_literals_declare whose asked) (used_literals_declare whose) (member k mark c no_members)) (next ∷ path)
  same (label l) path asked = (
    λ h. ⊎_elim (λ g. inl (same_step k l (step_of step) is g.0, (told.told path asked).0 g.1)) (λ n. absurd n) h,
    λ h. ⊎_elim (λ g. inl (is ∙ ap label g.0, (told.told path asked).1 g.1)) (λ n. absurd n) h,
  )
  same (index i) path asked = (λ h. ⊎_elim (λ g. let e : label k ≡ index i = sym is ∙ g.0 in let no : ⊥ = cc in no) (λ n. n) h, λ h. absurd h)

not_listed : (b : Bool) → (not (b || false) ≡ false) ↔ ((b || false) ≡ true)
not_listed true = (λ h. refl, λ h. refl)
not_listed false = (λ h. absurd (false≢true (sym h)), λ h. absurd (false≢true h))

pub one_declared : (k : List ℕ) (mark : Mark) (c : Core) (row : Declared) → row.stands ≡ true → row.undeclared ≡ (true, k ∷ []) → (asked : DeclaredQuestion) → DeclaredRefuses row asked ↔ (literal_declares asked (member k mark c no_members) ≡ true)
one_declared k mark c row s u Stands = (λ h. refl, λ h. s)
one_declared k mark c row s u (Declares l) = subst (λ z. RefusesText z l ↔ ((bytes_eq k l || false) ≡ true)) (sym u) (not_listed (bytes_eq k l))

pub one_depth : (step : Step) (below table : Tree Declared) → IsTable DeclaredRefuses IsDeclaredLabel table → IsOfBranches DeclaredRefuses ((step, below) ∷ []) table → tree_depth table ≤ tree_depth below + 1
one_depth step below table form of = refusals_depth DeclaredRefuses IsDeclaredLabel table (tree_depth below + 1) form by where
  by : (path : Path) (asked : DeclaredQuestion) → TableRefuses DeclaredRefuses table path asked → length path ≤ tree_depth below + 1
  by [] asked h = omega arith
  by (next ∷ path) asked h = ⊎_elim (λ g. let d = told_depth below path asked g.1 in omega arith) (λ n. absurd n) ((of.below next path asked).0 h)

pub rooted_depth : (table : Tree Declared) (row : Declared) (all : Tree Declared) (n : ℕ) → IsRooted table row all → tree_depth table ≤ n → tree_depth all ≤ n
rooted_depth table row all n rooted h = refusals_depth DeclaredRefuses IsDeclaredLabel all n rooted.form by where
  by : (path : Path) (asked : DeclaredQuestion) → TableRefuses DeclaredRefuses all path asked → length path ≤ n
  by path asked r = ⊎_elim (λ g. let d = told_depth table path asked g in omega arith) (λ g. let e = ap length g.0 in omega arith) ((rooted.added path asked).0 r)

-- no chain of labels
pub no_chain : (whose : LiteralSelection) (chain : List Label) (c : Core) (table : Tree Declared) → length chain ≡ 0 → DeclaresLiterals whose c table → DeclaresLiterals whose (nest_in_labels chain c) table
no_chain whose [] c table e h = h
no_chain whose (l ∷ chain) c table e h = let no : ⊥ = omega (arith, e) in absurd no

-- what is told of a struct literal, is told of it in `close` too
pub close_told : (whose : LiteralSelection) (ms : Members) (table : Tree Declared) → DeclaresLiterals whose (struct ms) table → DeclaresLiterals whose (close ms) table
close_told whose ms table t = record { form = t.form; told = t.told }
