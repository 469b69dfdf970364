-- How deep tables are: as deep as the longest path of a row.
use Rattle.std.proofs.Common.{◌≡◌, ◌+◌, max, nat_lt, Bool, true, false, if◌then◌else◌, ℕ, zero, suc, ◌<◌, ◌≤◌, [], ◌∷◌, length, Option, Some, None, refl, ap, subst, ◌∙◌, ⊎_elim, arith}
use Rattle.std.specs.Option.{option_and_then}
use Rattle.std.proofs.lemmas.Bool.{cases_lt}
use Rattle.std.specs.declared.cmp.Ordering.{Ordering}
use Rattle.std.specs.declared.cmp.Ordering.TheVariants.{Less, Equal, Greater}
use Rattle.cue_lattice.specs.Path.{Step, label, index, step_cmp, Path}
use Rattle.cue_table.specs.Tree.{Tree, node, Children, none, child, Rest, no_rest, onward, row_of, find, find_with, branch_at, row_at}
use Rattle.cue_table.specs.Depth.{tree_depth, children_depth, rest_depth}
use Rattle.cue_table.specs.Form.{IsStepBelowAll, IsTreeTaken, IsTree, AreBranches, IsRestOf, IsRowKept}
use Rattle.cue_table.specs.Refuses.{RowRefuses, TableRefuses}
use Rattle.cue_table.specs.Meet.{IsMet}
use Rattle.cue_table.specs.Inner.Meet.{chain}
use Rattle.cue_table.proofs.Finding.{found_here, found_form}
use Rattle.cue_table.proofs.Order.{equal_steps}
use Rattle.cue_table.proofs.Branches.{find_first, find_before, find_past, find_below, find_own, find_rest}

module _ {R : Type 0} where
  -- the row that is found at a step and then a path
  abbrev pub found_row : Option (Tree R) → Path → Option R
  found_row found path = option_and_then row_of (option_and_then (λ branch. branch_at branch path) found)

  -- the row at a step and then a path is the row at the path of the branch that is found at the step
  pub row_found : (found : Option (Tree R)) (path : Path) (row : R) → found_row found path ≡ Some row → (tree : Tree R) × (found ≡ Some tree) × (row_at tree path ≡ Some row)
  row_found None path row e = cc
  row_found (Some tree) path row e = (tree, refl, e)

  -- what is found among the later branches is found among all
  pub found_later : (s : Step) (t : Tree R) (children : Children R) → IsStepBelowAll s children → (step : Step) (tree : Tree R) → find step children ≡ Some tree → (o : Ordering) → step_cmp step s ≡ o → find step (child s t children) ≡ Some tree
  found_later s t children h step tree e Less c = find_before step s t children c ∙ e
  found_later s t children h step tree e Greater c = find_past step s t children c ∙ e
  found_later s t children h step tree e Equal c =
      let no : find step children ≡ None = ap (λ x. find x children) (equal_steps step s c) ∙ find_below s children h in
      cc

  -- what holds of each row holds of the row at a path
  pub kept_at : (P : R → Type 0) (tree : Tree R) (path : Path) (row : R) → IsTree P tree → row_at tree path ≡ Some row → P row
  kept_at P (node (Some here) children rest) [] row h e = let same : here ≡ row = cc in subst P same h.0
  kept_at P (node None children rest) [] row h e = cc
  kept_at P (node here children rest) (step ∷ path) row h e =
      let found = row_found (find_with rest step children) path row e in
      kept_at P found.0 path row (found_form P step (node here children rest) found.0 h found.1).1 found.2

  -- in each branch that is not empty a row stands
  mutual
    pub taken_row : (P : R → Type 0) (tree : Tree R) → IsTreeTaken tree → IsTree P tree → (path : Path) × (row : R) × (row_at tree path ≡ Some row)
    taken_row P (node (Some row) children rest) t h = ([], row, refl)
    taken_row P (node None none no_rest) t h = absurd t
    taken_row P (node None none (onward n tree)) t h =
        let below = taken_row P tree h.2.2 h.2.3 in
        (index n ∷ below.0, below.1, ap (λ found. found_row found below.0) (find_rest n tree none n (omega arith)) ∙ below.2)
    taken_row P (node None (child step tree children) rest) t h =
        let below = taken_row P tree h.1.1 h.1.2 in
        (step ∷ below.0, below.1, ap (λ found. found_row found below.0) (find_own P rest step tree (child step tree children) h.2 (find_first step tree children)) ∙ below.2)

  found_depth : (step : Step) (children : Children R) (tree : Tree R) → find step children ≡ Some tree → tree_depth tree < children_depth children
  found_depth step none tree e = cc
  found_depth step (child next here children) tree e = found_here (λ t. tree_depth t < children_depth (child next here children)) _ here (find step children) tree (omega arith) (λ f. let h = found_depth step children tree f in omega arith) e

  depth_else : (b : Bool) (own : Option (Tree R)) (rest tree : Tree R) (n : ℕ) → (own ≡ Some tree → tree_depth tree < n) → tree_depth rest < n → (if b then own else Some rest) ≡ Some tree → tree_depth tree < n
  depth_else true own rest tree n f h e = f e
  depth_else false own rest tree n f h e = let same : rest ≡ tree = cc in subst (λ t. tree_depth t < n) same h

  pub depth_with : (rest : Rest R) (step : Step) (children : Children R) (tree : Tree R) → find_with rest step children ≡ Some tree → tree_depth tree < max (children_depth children) (rest_depth rest)
  depth_with no_rest step children tree e = let h = found_depth step children tree e in omega arith
  depth_with (onward n other) (label text) children tree e = let h = found_depth (label text) children tree e in omega arith
  depth_with (onward n other) (index i) children tree e =
      depth_else (nat_lt i n) (find (index i) children) other tree (max (children_depth children) (tree_depth other + 1)) (λ f. let h = found_depth (index i) children tree f in omega arith) (omega arith) e

  -- no path of a row is longer than the tree is deep
  pub row_depth : (tree : Tree R) (path : Path) (row : R) → row_at tree path ≡ Some row → length path ≤ tree_depth tree
  row_depth tree [] row e = omega arith
  row_depth (node here children rest) (step ∷ path) row e =
      let found = row_found (find_with rest step children) path row e in
      let below = row_depth found.0 path row found.2 in
      let less = depth_with rest step children found.0 found.1 in
      omega arith

  mutual
    -- where no path of a row is longer than n, the tree is not deeper
    pub depth_rows : (P : R → Type 0) (n : ℕ) (tree : Tree R) → IsTree P tree → ((path : Path) (row : R) → row_at tree path ≡ Some row → length path ≤ n) → tree_depth tree ≤ n
    depth_rows P n (node here children rest) h short =
        let below = depth_below P n children h.1 (λ step path row e.
        let found = row_found (find step children) path row e in
        short (step ∷ path) row (ap (λ f. found_row f path) (find_own P rest step found.0 children h.2 found.1) ∙ found.2)) in
        let onward = depth_onward P n children rest h.2 (λ step path row e. short (step ∷ path) row e) in
        omega arith

    depth_onward :
        (P : R → Type 0) (n : ℕ) (children : Children R) (rest : Rest R) → IsRestOf P children rest
        → ((step : Step) (path : Path) (row : R) → found_row (find_with rest step children) path ≡ Some row → length (step ∷ path) ≤ n)
        → rest_depth rest ≤ n
    depth_onward P n children no_rest h short = omega arith
    depth_onward P zero children (onward m tree) h short =
        let row = taken_row P tree h.2 h.3 in
        let deep : length (index m ∷ row.0) ≤ 0 = short (index m) row.0 row.1 (ap (λ found. found_row found row.0) (find_rest m tree children m (omega arith)) ∙ row.2) in
        absurd (omega arith)
    depth_onward P (suc n) children (onward m tree) h short =
        let here : tree_depth tree ≤ n = depth_rows P n tree h.3 (λ path row e.
        let deep : length (index m ∷ path) ≤ suc n = short (index m) path row (ap (λ found. found_row found path) (find_rest m tree children m (omega arith)) ∙ e) in omega arith) in
        omega arith

    depth_below :
        (P : R → Type 0) (n : ℕ) (children : Children R) → AreBranches P children
        → ((step : Step) (path : Path) (row : R) → found_row (find step children) path ≡ Some row → length (step ∷ path) ≤ n)
        → children_depth children ≤ n
    depth_below P n none h short = omega arith
    depth_below P zero (child step tree children) h short =
        let row = taken_row P tree h.1 h.2 in
        let deep : length (step ∷ row.0) ≤ 0 = short step row.0 row.1 (ap (λ found. found_row found row.0) (find_first step tree children) ∙ row.2) in
        absurd (omega arith)
    depth_below P (suc n) (child step tree children) h short =
        let here : tree_depth tree ≤ n = depth_rows P n tree h.2 (λ path row e.
        let deep : length (step ∷ path) ≤ suc n = short step path row (ap (λ found. found_row found path) (find_first step tree children) ∙ e) in omega arith) in
        let others : children_depth children ≤ suc n = depth_below P (suc n) children h.3 (λ at path row e.
        let found = row_found (find at children) path row e in
        short at path row (ap (λ f. found_row f path) (found_later step tree children h.0 at found.0 found.1 (step_cmp at step) refl) ∙ found.2)) in
        omega arith

  -- one row alone is as deep as its path is long
  pub chain_depth : (path : Path) (row : R) → tree_depth (chain path row) ≤ length path
  chain_depth [] row = omega arith
  chain_depth (step ∷ path) row = let rest = chain_depth path row in omega arith

module _ {R Q : Type 0} (refuses : R → Q → Type 0) where
  -- a refusal tells a row
  refusing_row : (row : Option R) (question : Q) → RowRefuses refuses row question → (r : R) × (row ≡ Some r)
  refusing_row None question h = absurd h
  refusing_row (Some r) question h = (r, refl)

  -- where a table refuses something, the path is not longer than it is deep
  pub refused_depth : (tree : Tree R) (path : Path) (question : Q) → TableRefuses refuses tree path question → length path ≤ tree_depth tree
  refused_depth tree path question h = let row = refusing_row (row_at tree path) question h in row_depth tree path row.0 row.1

  -- where nothing is refused at paths longer than n, the table is not deeper
  pub refusals_depth :
      (is_value : R → Type 0) (tree : Tree R) (n : ℕ) → IsTree (IsRowKept refuses is_value) tree
      → ((path : Path) (question : Q) → TableRefuses refuses tree path question → length path ≤ n) → tree_depth tree ≤ n
  refusals_depth is_value tree n h short = depth_rows (IsRowKept refuses is_value) n tree h (λ path row e.
      ⊎_elim
      (λ (far : n < length path). absurd ((kept_at (IsRowKept refuses is_value) tree path row h e).1 (λ question r.
      let here : TableRefuses refuses tree path question = rw e r in
      let d = short path question here in absurd (omega arith))))
      (λ (near : length path ≤ n). near)
      (cases_lt n (length path)))

  -- the met table is not deeper than both
  pub met_depth :
      (is_value : R → Type 0) (a b met : Tree R) (n : ℕ) → IsTree (IsRowKept refuses is_value) met → IsMet refuses a b met
      → tree_depth a ≤ n → tree_depth b ≤ n → tree_depth met ≤ n
  met_depth is_value a b met n h m p q = refusals_depth is_value met n h (λ path question r.
      ⊎_elim (λ k. let d = refused_depth a path question k in omega arith) (λ k. let d = refused_depth b path question k in omega arith) ((m path question).0 r))
