-- What a walk over a tree finds is what the rules of valid tables say of its rows.
use Rattle.std.proofs.Common.{◌≡◌, ◌↔◌, Bool, true, false, nat_lt, if◌then◌else◌, ℕ, ◌≤◌, [], ◌∷◌, ◌++◌, append_assoc, Option, Some, None, refl, sym, ap, subst, ◌∙◌, inr, ⊎_elim, arith}
use Rattle.std.proofs.lemmas.List.{append-nil}
use Rattle.std.specs.List.{AllByRecursion}
use Rattle.std.specs.Option.{option_and_then}
use Rattle.std.specs.declared.cmp.Ordering.{Ordering}
use Rattle.std.specs.declared.cmp.Ordering.TheVariants.{Less, Equal, Greater}
use Rattle.cue_lattice.specs.Limits.{step_limit}
use Rattle.cue_lattice.specs.Path.{Step, label, index, step_cmp, Path}
use Rattle.cue_row.specs.Row.{RefusesAsked, IsRow}
use Rattle.cue_row.specs.ValidRow.{IsWordStep, IsValidRow}
use Rattle.cue_row.specs.declared.parts.RowParts.{RowParts as Row}
use Rattle.cue_row.specs.declared.level.Level.TheVariants.{Optional}
use Rattle.cue_table.specs.Tree.{Tree, node, Children, none, child, Rest, no_rest, onward, row_of, empty, if_equal, find, find_with, branch_at, row_at, fixed_with}
use Rattle.cue_table.specs.Depth.{tree_depth}
use Rattle.cue_table.specs.Form.{IsTreeTaken, IsTree, AreBranches, IsRestOf, IsRowKept, IsTable}
use Rattle.cue_table.specs.Valid.{path_below, MayHold, IsOpenStruct, IsValidTable}
use Rattle.cue_table.specs.Inner.ValidWalk.{IsLevelAt, MayStand, HasChild, HasElement, IsSound, AreSound, IsRestSound}
use Rattle.cue_table.proofs.Order.{equal_steps}
use Rattle.cue_table.proofs.Branches.{find_first, find_rest, find_own}
use Rattle.cue_table.proofs.Depth.{found_row, row_found, found_later, taken_row, row_depth}
use Rattle.cue_table.proofs.Alike.{alike_from, fixed_alike}

abbrev pub Kept : Row → Type 0
Kept = IsRowKept RefusesAsked IsRow

-- the row of a branch that may be there
abbrev row_there : Option (Tree Row) → Option Row
row_there = option_and_then row_of

-- the rules on rows that stand at paths below a place
record Rules (at : Path → Option (Tree Row)) : Type 0 where
  valid : (path : Path) (row : Row) → row_there (at path) ≡ Some row → IsValidRow row
  words : (path : Path) (row : Row) → row_there (at path) ≡ Some row → AllByRecursion IsWordStep path
  levels : (path : Path) (n : ℕ) (row : Row) → row_there (at (path_below path (index n))) ≡ Some row → row.level ≡ Optional
  parents : (path : Path) (step : Step) (row : Row) → row_there (at (path_below path step)) ≡ Some row → (parent : Row) × (row_there (at path) ≡ Some parent)
  kinds : (path : Path) (step : Step) (parent row : Row) → row_there (at path) ≡ Some parent → row_there (at (path_below path step)) ≡ Some row → MayHold parent step
  elements : (path : Path) (row : Row) (i j : ℕ) → row_there (at path) ≡ Some row → row.least ≤ i → row.least ≤ j → at (path_below path (index i)) ≡ at (path_below path (index j))

-- what they say of all rows they say of those below a step
rules_further : (at : Path → Option (Tree Row)) (step : Step) → Rules at → Rules (λ path. at (step ∷ path))
rules_further at step h = record {
  valid = λ path row e. h.valid (step ∷ path) row e;
  words = λ path row e. (h.words (step ∷ path) row e).1;
  levels = λ path n row e. h.levels (step ∷ path) n row e;
  parents = λ path next row e. h.parents (step ∷ path) next row e;
  kinds = λ path next parent row d e. h.kinds (step ∷ path) next parent row d e;
  elements = λ path row i j e l m. h.elements (step ∷ path) row i j e l m;
}

rules_same : (a b : Path → Option (Tree Row)) → ((path : Path) → a path ≡ b path) → Rules a → Rules b
rules_same a b same h = record {
  valid = λ path row e. h.valid path row (ap row_there (same path) ∙ e);
  words = λ path row e. h.words path row (ap row_there (same path) ∙ e);
  levels = λ path n row e. h.levels path n row (ap row_there (same (path_below path (index n))) ∙ e);
  parents = λ path next row e. let above = h.parents path next row (ap row_there (same (path_below path next)) ∙ e) in (above.0, sym (ap row_there (same path)) ∙ above.1);
  kinds = λ path next parent row d e. h.kinds path next parent row (ap row_there (same path) ∙ d) (ap row_there (same (path_below path next)) ∙ e);
  elements = λ path row i j e l m. sym (same (path_below path (index i))) ∙ h.elements path row i j (ap row_there (same path) ∙ e) l m ∙ same (path_below path (index j));
}

-- a row stands above each row
above : (at : Path → Option (Tree Row)) (path more : Path) (row : Row) → Rules at → row_there (at (path ++ more)) ≡ Some row → (parent : Row) × (row_there (at path) ≡ Some parent)
above at path [] row h e = (row, ap (λ p. row_there (at p)) (sym (append-nil path)) ∙ e)
above at path (step ∷ more) row h e =
    let next = above at (path_below path step) more row h (ap (λ p. row_there (at p)) (append_assoc path (step ∷ []) more) ∙ e) in
    h.parents path step next.0 next.1

level_at : (at : Path → Option (Tree Row)) (step : Step) (row : Row) → Rules at → row_there (at (step ∷ [])) ≡ Some row → IsLevelAt step row
level_at at (label text) row h e = tt
level_at at (index n) row h e = h.levels [] n row e

-- a branch one step below a row may stand there, and the rules hold below it
step_sound :
    (parent : Row) (at : Path → Option (Tree Row)) (step : Step) (tree : Tree Row) → IsTreeTaken tree → IsTree Kept tree → Rules at → row_there (at []) ≡ Some parent
    → ((path : Path) → at (step ∷ path) ≡ branch_at tree path) → HasChild parent step (row_of tree) × Rules (branch_at tree)
step_sound parent at step tree t h rules root here =
    let inner = rules_same (λ path. at (step ∷ path)) (branch_at tree) here (rules_further at step rules) in
    let some = taken_row Kept tree t h in
    let row = above (branch_at tree) [] some.0 some.1 inner some.2 in
    let stands : row_there (at (step ∷ [])) ≡ Some row.0 = ap row_there (here []) ∙ row.1 in
    let fits : MayStand parent step row.0 = record {
      word = (rules.words (step ∷ []) row.0 stands).0;
      holds = rules.kinds [] step parent row.0 root stands;
      level = level_at at step row.0 rules stands;
    } in
    (subst (HasChild parent step) (sym row.1) fits, inner)

as_element : (parent : Row) (n : ℕ) (row : Option Row) → HasChild parent (index n) row → HasElement parent row
as_element parent n None h = absurd h
as_element parent n (Some row) h = record { holds = h.holds; level = h.level }

as_child : (parent : Row) (n : ℕ) (row : Option Row) → HasElement parent row → HasChild parent (index n) row
as_child parent n None h = absurd h
as_child parent n (Some row) h = record { word = tt; holds = h.holds; level = h.level }

one_below : (found : Option (Tree Row)) → option_and_then (λ branch. branch_at branch []) found ≡ found
one_below None = refl
one_below (Some tree) = refl

mutual
  -- where the rules hold of the rows of a branch, a walk finds it right
  sound : (tree : Tree Row) → IsTreeTaken tree → IsTree Kept tree → Rules (branch_at tree) → IsSound tree
  sound (node None children rest) t h rules =
      let some = taken_row Kept (node None children rest) t h in
      let root = above (branch_at (node None children rest)) [] some.0 some.1 rules some.2 in
      let no : None ≡ Some root.0 = root.1 in
      cc
  sound (node (Some row) children rest) t h rules =
      let at = branch_at (node (Some row) children rest) in (
        rules.valid [] row refl,
        fixed_alike Kept rest children row.least h.1 h.2
            (λ i j l m. sym (one_below (find_with rest (index i) children)) ∙ rules.elements [] row i j refl l m ∙ one_below (find_with rest (index j) children)),
        sound_below row at children h.1 rules refl (λ step tree e path. ap (λ found. option_and_then (λ branch. branch_at branch path) found) (find_own Kept rest step tree children h.2 e)),
        sound_onward row at children rest h.2 rules refl (λ step path. refl),
      )

  sound_below :
      (parent : Row) (at : Path → Option (Tree Row)) (children : Children Row) → AreBranches Kept children → Rules at → row_there (at []) ≡ Some parent
      → ((step : Step) (tree : Tree Row) → find step children ≡ Some tree → (path : Path) → at (step ∷ path) ≡ branch_at tree path)
      → AreSound parent children
  sound_below parent at none h rules root same = tt
  sound_below parent at (child step tree children) h rules root same =
      let here = step_sound parent at step tree h.1 h.2 rules root (same step tree (find_first step tree children)) in (
        here.0,
        sound tree h.1 h.2 here.1,
        sound_below parent at children h.3 rules root (λ s t e. same s t (found_later step tree children h.0 s t e (step_cmp s step) refl)),
      )

  sound_onward :
      (parent : Row) (at : Path → Option (Tree Row)) (children : Children Row) (rest : Rest Row) → IsRestOf Kept children rest → Rules at → row_there (at []) ≡ Some parent
      → ((step : Step) (path : Path) → at (step ∷ path) ≡ option_and_then (λ branch. branch_at branch path) (find_with rest step children))
      → IsRestSound parent rest
  sound_onward parent at children no_rest h rules root same = tt
  sound_onward parent at children (onward n tree) h rules root same =
      let here = step_sound parent at (index n) tree h.2 h.3 rules root
      (λ path. same (index n) path ∙ ap (λ found. option_and_then (λ branch. branch_at branch path) found) (find_rest n tree children n (omega arith))) in
      (as_element parent n (row_of tree) here.0, sound tree h.2 h.3 here.1)

sound_here :
    (parent : Row) (step next : Step) (here : Tree Row) (other : Option (Tree Row)) (tree : Tree Row) → HasChild parent next (row_of here) → IsSound here
    → (other ≡ Some tree → HasChild parent step (row_of tree) × IsSound tree)
    → (o : Ordering) → step_cmp step next ≡ o → if_equal o here other ≡ Some tree → HasChild parent step (row_of tree) × IsSound tree
sound_here parent step next here other tree h k others Less c e = others e
sound_here parent step next here other tree h k others Greater c e = others e
sound_here parent step next here other tree h k others Equal c e =
    let steps : step ≡ next = equal_steps step next c in
    let same : here ≡ tree = cc in
    let one : HasChild parent next (row_of tree) = subst (λ t. HasChild parent next (row_of t)) same h in
    (subst (λ s. HasChild parent s (row_of tree)) (sym steps) one, subst IsSound same k)

-- a branch that a walk found right
sound_own : (parent : Row) (step : Step) (children : Children Row) (tree : Tree Row) → AreSound parent children → find step children ≡ Some tree → HasChild parent step (row_of tree) × IsSound tree
sound_own parent step none tree h e = cc
sound_own parent step (child next here children) tree h e =
    sound_here parent step next here (find step children) tree h.0 h.1 (λ f. sound_own parent step children tree h.2 f) (step_cmp step next) refl e

sound_else :
    (parent : Row) (i : ℕ) (b : Bool) (own : Option (Tree Row)) (other tree : Tree Row) → (own ≡ Some tree → HasChild parent (index i) (row_of tree) × IsSound tree)
    → HasElement parent (row_of other) → IsSound other → (if b then own else Some other) ≡ Some tree → HasChild parent (index i) (row_of tree) × IsSound tree
sound_else parent i true own other tree f h k e = f e
sound_else parent i false own other tree f h k e =
    let same : other ≡ tree = cc in
    (as_child parent i (row_of tree) (subst (λ t. HasElement parent (row_of t)) same h), subst IsSound same k)

sound_found :
    (parent : Row) (rest : Rest Row) (step : Step) (children : Children Row) (tree : Tree Row) → AreSound parent children → IsRestSound parent rest
    → find_with rest step children ≡ Some tree → HasChild parent step (row_of tree) × IsSound tree
sound_found parent no_rest step children tree h k e = sound_own parent step children tree h e
sound_found parent (onward n other) (label text) children tree h k e = sound_own parent (label text) children tree h e
sound_found parent (onward n other) (index i) children tree h k e =
    sound_else parent i (nat_lt i n) (find (index i) children) other tree (λ f. sound_own parent (index i) children tree h f) k.0 k.1 e

child_word : (parent : Row) (step : Step) (row : Option Row) → HasChild parent step row → IsWordStep step
child_word parent step None h = absurd h
child_word parent step (Some row) h = h.word

-- a walk found the row above each row, and that it may stand there
sound_at :
    (tree : Tree Row) (path : Path) (step : Step) (row : Row) → IsSound tree → row_at tree (path_below path step) ≡ Some row
    → (parent : Row) × (row_at tree path ≡ Some parent) × MayStand parent step row
sound_at (node None children rest) path step row h e = absurd h
sound_at (node (Some parent) children rest) [] step row h e =
    let found = row_found (find_with rest step children) [] row e in
    (parent, refl, subst (HasChild parent step) found.2 (sound_found parent rest step children found.0 h.2 h.3 found.1).0)
sound_at (node (Some here) children rest) (next ∷ path) step row h e =
    let found = row_found (find_with rest next children) (path_below path step) row e in
    let below = sound_at found.0 path step row (sound_found here rest next children found.0 h.2 h.3 found.1).1 found.2 in
    (below.0, ap (λ f. found_row f path) found.1 ∙ below.1, below.2)

-- and that each row is valid, and labels are short
sound_row : (tree : Tree Row) (path : Path) (row : Row) → IsSound tree → row_at tree path ≡ Some row → IsValidRow row × AllByRecursion IsWordStep path
sound_row (node None children rest) path row h e = absurd h
sound_row (node (Some here) children rest) [] row h e = let same : here ≡ row = cc in (subst IsValidRow same h.0, tt)
sound_row (node (Some here) children rest) (step ∷ path) row h e =
    let found = row_found (find_with rest step children) path row e in
    let below = sound_found here rest step children found.0 h.2 h.3 found.1 in
    let more = sound_row found.0 path row below.1 found.2 in
    (more.0, (child_word here step (row_of found.0) below.0, more.1))

-- and that the elements of a list are alike from its least length on
sound_elements :
    (tree : Tree Row) (path : Path) (row : Row) (i j : ℕ) → IsSound tree → row_at tree path ≡ Some row → row.least ≤ i → row.least ≤ j
    → branch_at tree (path_below path (index i)) ≡ branch_at tree (path_below path (index j))
sound_elements (node None children rest) path row i j h e l m = absurd h
sound_elements (node (Some here) children rest) [] row i j h e l m =
    let same : here ≡ row = cc in
    let low : fixed_with rest children ≤ row.least = subst (λ (r : Row). fixed_with rest children ≤ r.least) same h.1 in
    ap (λ found. option_and_then (λ branch. branch_at branch []) found) (alike_from rest children i j (omega arith) (omega arith))
sound_elements (node (Some here) children rest) (step ∷ path) row i j h e l m =
    let found = row_found (find_with rest step children) path row e in
    let below = sound_elements found.0 path row i j (sound_found here rest step children found.0 h.2 h.3 found.1).1 found.2 l m in
    ap (λ f. option_and_then (λ branch. branch_at branch (path_below path (index i))) f) found.1 ∙ below
    ∙ sym (ap (λ f. option_and_then (λ branch. branch_at branch (path_below path (index j))) f) found.1)

one_row : (a : Option Row) (p q : Row) → a ≡ Some p → a ≡ Some q → p ≡ q
one_row a p q d e = cc

-- a table that a walk found right is valid
sound_valid :
    (tree : Tree Row) (row : Row) → IsTable RefusesAsked IsRow tree → tree_depth tree ≤ step_limit → row_of tree ≡ Some row → IsOpenStruct row × (row.level ≡ Optional) → IsSound tree
    → IsValidTable tree
sound_valid tree row form deep root top h = record {
  form = form;
  rows = λ path r e. (sound_row tree path r h e).0;
  paths = λ path r e. let long = row_depth tree path r e in omega arith;
  labels = λ path r e. (sound_row tree path r h e).1;
  root = inr (row, root, top.0);
  root_level = λ r e. subst (λ (x : Row). x.level ≡ Optional) (one_row (row_of tree) row r root e) top.1;
  element_levels = λ path n r e. (sound_at tree path (index n) r h e).2.level;
  parents = λ path step r e. let parent = sound_at tree path step r h e in (parent.0, parent.1);
  kinds = λ path step parent r d e. let found = sound_at tree path step r h e in subst (λ x. MayHold x step) (one_row (row_at tree path) found.0 parent found.1 d) found.2.holds;
  elements = λ path r i j e l m. sound_elements tree path r i j h e l m;
}

rules_of : (tree : Tree Row) → IsValidTable tree → Rules (branch_at tree)
rules_of tree h = record {
  valid = h.rows;
  words = h.labels;
  levels = h.element_levels;
  parents = h.parents;
  kinds = h.kinds;
  elements = h.elements;
}

-- in a valid table a row stands above each row
pub row_above : (tree : Tree Row) (path more : Path) (row : Row) → IsValidTable tree → row_at tree (path ++ more) ≡ Some row → (parent : Row) × (row_at tree path ≡ Some parent)
row_above tree path more row h e = above (branch_at tree) path more row (rules_of tree h) e

taken_at : (tree : Tree Row) (row : Row) → row_of tree ≡ Some row → IsTreeTaken tree
taken_at (node (Some here) children rest) row e = tt
taken_at (node None children rest) row e = cc

-- and a walk finds a valid table right
valid_sound : (tree : Tree Row) (row : Row) → row_of tree ≡ Some row → IsValidTable tree → IsSound tree
valid_sound tree row e h = sound tree (taken_at tree row e) h.form (rules_of tree h)

-- the row at the root of a valid table is an open struct, and optional
pub valid_root : (tree : Tree Row) (row : Row) → row_of tree ≡ Some row → IsValidTable tree → IsOpenStruct row × (row.level ≡ Optional)
valid_root tree row e h = (
  ⊎_elim
      (λ (none : tree ≡ empty). let no : row_of tree ≡ None = ap row_of none in let yes : row_of tree ≡ Some row = e in absurd (cc))
      (λ (some : (r : Row) × (row_at tree [] ≡ Some r) × IsOpenStruct r). subst IsOpenStruct (one_row (row_of tree) some.0 row some.1 e) some.2)
      h.root,
  h.root_level row e,
)

-- a table with a row at its root is valid just where that is one for a root and a walk finds the table right
pub valid_walk :
    (tree : Tree Row) (row : Row) → IsTable RefusesAsked IsRow tree → tree_depth tree ≤ step_limit → row_of tree ≡ Some row
    → ((IsOpenStruct row × (row.level ≡ Optional)) × IsSound tree) ↔ IsValidTable tree
valid_walk tree row form deep e = (
  λ h. sound_valid tree row form deep e h.0 h.1,
  λ h. (valid_root tree row e h, valid_sound tree row e h),
)
