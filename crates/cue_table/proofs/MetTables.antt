-- What is met of two valid tables is valid.
use Rattle.std.proofs.Common.{◌≡◌, ◌↔◌, ◌⊎◌, ◌≤◌, ℕ, inl, inr, ⊎_elim, [], ◌∷◌, ◌++◌, append_assoc, Option, Some, None, refl, sym, ap, subst, ◌∙◌, arith}
use Rattle.cue_lattice.specs.Path.{Step, label, index, Path}
use Rattle.cue_row.specs.declared.parts.RowParts.{RowParts as Row}
use Rattle.cue_row.specs.declared.level.Level.TheVariants.{Optional}
use Rattle.cue_row.specs.Row.{RefusesAsked, IsRow}
use Rattle.cue_row.specs.RowLaws.{same_rows}
use Rattle.std.specs.List.{AllByRecursion}
use Rattle.cue_row.specs.Steps.{IsWithinDepth}
use Rattle.cue_row.specs.ValidRow.{IsWordStep, IsValidRow}
use Rattle.cue_row.proofs.MetValid.{AreMetRows, met_valid, met_level, met_struct, met_list, met_structs, no_labels, least_above}
use Rattle.std.specs.Option.{option_and_then}
use Rattle.cue_row.specs.declared.question.Question.{Question}
use Rattle.cue_table.specs.Tree.{Tree, node, none, child, no_rest, onward, row_of, step_into, branch_at, row_at}
use Rattle.cue_table.specs.Form.{IsTableRow as Holds, IsTreeTaken, IsTree, IsTable}
use Rattle.cue_table.specs.Refuses.{RowRefuses, TableRefuses}
use Rattle.cue_table.proofs.Branches.{FoundRefuses}
use Rattle.cue_table.proofs.Exact.{IsFound, exact_branch}
use Rattle.cue_table.proofs.Finding.{found_form}
use Rattle.cue_table.specs.Meet.{IsUnion, IsMet}
use Rattle.cue_table.specs.Valid.{path_below, MayHold, IsOpenStruct, HasOpenRoot, IsValidTable}
use Rattle.cue_table.proofs.Depth.{kept_at, taken_row}
use Rattle.cue_table.proofs.Validity.{Kept, row_above, valid_root}
use Rattle.cue_table.proofs.ValidWalks.{valid_empty, nothing_at}

some_row : (o : Option Row) (question : Question) → RowRefuses RefusesAsked o question → (row : Row) × (o ≡ Some row)
some_row None question r = absurd r
some_row (Some row) question r = (row, refl)

found_append :
    (found : Option (Tree Row)) (path more : Path)
    → ((tree : Tree Row) → branch_at tree (path ++ more) ≡ option_and_then (λ branch. branch_at branch more) (branch_at tree path))
    → option_and_then (λ branch. branch_at branch (path ++ more)) found ≡ option_and_then (λ branch. branch_at branch more) (option_and_then (λ branch. branch_at branch path) found)
found_append None path more f = refl
found_append (Some tree) path more f = f tree

-- the branch at a path and then another
branch_append : (tree : Tree Row) (path more : Path) → branch_at tree (path ++ more) ≡ option_and_then (λ branch. branch_at branch more) (branch_at tree path)
branch_append tree [] more = refl
branch_append tree (step ∷ path) more = found_append (step_into tree step) path more (λ branch. branch_append branch path more)

found_more :
    (found : Option (Tree Row)) (path : Path) → ((tree : Tree Row) → found ≡ Some tree → IsFound RefusesAsked IsRow (branch_at tree path))
    → IsFound RefusesAsked IsRow (option_and_then (λ branch. branch_at branch path) found)
found_more None path f = tt
found_more (Some tree) path f = f tree refl

-- a branch below a tree in form is in form and not empty
found_at : (tree : Tree Row) (path : Path) (step : Step) → IsTree Kept tree → IsFound RefusesAsked IsRow (branch_at tree (path_below path step))
found_at tree [] step h = found_more (step_into tree step) [] (λ next e. found_form Kept step tree next h e)
found_at tree (next ∷ path) step h = found_more (step_into tree next) (path_below path step) (λ branch e. found_at branch path step (found_form Kept next tree branch h e).1)

-- the rows of three tables at one path, the third of which is met of the others
abbrev IsJoined : Option Row → Option Row → Option Row → Type 0
IsJoined None None m = m ≡ None
IsJoined (Some p) None m = m ≡ Some p
IsJoined None (Some q) m = m ≡ Some q
IsJoined (Some p) (Some q) m = (row : Row) × (m ≡ Some row) × AreMetRows p q row

joined : (x y z : Option Row) → Holds Kept x → Holds Kept y → Holds Kept z → IsUnion (RowRefuses RefusesAsked x) (RowRefuses RefusesAsked y) (RowRefuses RefusesAsked z) → IsJoined x y z
joined None None None h k l u = refl
joined None None (Some z) h k l u = absurd (l.1 (λ q r. ⊎_elim (λ n. absurd n) (λ n. absurd n) ((u q).0 r)))
joined (Some p) None None h k l u = absurd (h.1 (λ q r. (u q).1 (inl r)))
joined (Some p) None (Some z) h k l u = ap Some (same_rows z p l.0 h.0 (λ q. (λ r. ⊎_elim (λ n. n) (λ n. absurd n) ((u q).0 r), λ r. (u q).1 (inl r))))
joined None (Some p) None h k l u = absurd (k.1 (λ q r. (u q).1 (inr r)))
joined None (Some p) (Some z) h k l u = ap Some (same_rows z p l.0 k.0 (λ q. (λ r. ⊎_elim (λ n. absurd n) (λ n. n) ((u q).0 r), λ r. (u q).1 (inr r))))
joined (Some p) (Some s) None h k l u = absurd (h.1 (λ q r. (u q).1 (inl r)))
joined (Some p) (Some s) (Some z) h k l u = (z, refl, record { left = h.0; right = k.0; row = l.0; met = u })

holds_at : (tree : Tree Row) (path : Path) → IsTree Kept tree → Holds Kept (row_at tree path)
holds_at tree path h = by (row_at tree path) refl where
  by : (o : Option Row) → row_at tree path ≡ o → Holds Kept o
  by None e = tt
  by (Some row) e = kept_at Kept tree path row h e

-- two tables and what is met of them
record AreTables (a b m : Tree Row) : Type 0 where
  left : IsValidTable a
  right : IsValidTable b
  form : IsTable RefusesAsked IsRow m
  met : IsMet RefusesAsked a b m

turned : (a b m : Tree Row) → AreTables a b m → AreTables b a m
turned a b m h = record {
  left = h.right;
  right = h.left;
  form = h.form;
  met = λ path q. (λ r. ⊎_elim (λ x. inr x) (λ x. inl x) ((h.met path q).0 r), λ r. (h.met path q).1 (⊎_elim (λ x. inr x) (λ x. inl x) r));
}

joined_at : (a b m : Tree Row) (path : Path) → AreTables a b m → IsJoined (row_at a path) (row_at b path) (row_at m path)
joined_at a b m path h =
    joined (row_at a path) (row_at b path) (row_at m path) (holds_at a path h.left.form) (holds_at b path h.right.form) (holds_at m path h.form) (h.met path)

-- where a row stands in the met table, one stands in one of both
side : (x y z : Option Row) (row : Row) → IsJoined x y z → z ≡ Some row → ((p : Row) × (x ≡ Some p)) ⊎ ((p : Row) × (y ≡ Some p))
side None None z row j e = let no : Some row ≡ None = sym e ∙ j in cc
side (Some p) y z row j e = inl (p, refl)
side None (Some p) z row j e = inr (p, refl)

side_at : (a b m : Tree Row) (path : Path) (row : Row) → AreTables a b m → row_at m path ≡ Some row → ((p : Row) × (row_at a path ≡ Some p)) ⊎ ((p : Row) × (row_at b path ≡ Some p))
side_at a b m path row h e = side (row_at a path) (row_at b path) (row_at m path) row (joined_at a b m path h) e

-- and where one stands in the first
from_left : (x y z : Option Row) (p : Row) → IsJoined x y z → x ≡ Some p → (row : Row) × (z ≡ Some row)
from_left None y z p j e = cc
from_left (Some q) None z p j e = (q, j)
from_left (Some q) (Some r) z p j e = (j.0, j.1)

from_left_at : (a b m : Tree Row) (path : Path) (p : Row) → AreTables a b m → row_at a path ≡ Some p → (row : Row) × (row_at m path ≡ Some row)
from_left_at a b m path p h e = from_left (row_at a path) (row_at b path) (row_at m path) p (joined_at a b m path h) e

-- what holds of the rows of both, and of what is met of such rows, holds of the rows of the met table
each_met :
    (P : Row → Type 0) → ((p q m : Row) → AreMetRows p q m → P p → P q → P m) → (x y z : Option Row) (row : Row) → IsJoined x y z → z ≡ Some row
    → ((p : Row) → x ≡ Some p → P p) → ((p : Row) → y ≡ Some p → P p) → P row
each_met P met None None z row j e h k = let no : Some row ≡ None = sym e ∙ j in cc
each_met P met (Some p) None z row j e h k = h row (sym j ∙ e)
each_met P met None (Some p) z row j e h k = k row (sym j ∙ e)
each_met P met (Some p) (Some q) z row j e h k =
    let both : Some j.0 ≡ Some row = sym j.1 ∙ e in
    let same : j.0 ≡ row = cc in
    subst P same (met p q j.0 j.2 (h p refl) (k q refl))

each_met_at :
    (P : Row → Type 0) → ((p q m : Row) → AreMetRows p q m → P p → P q → P m) → (a b m : Tree Row) (path : Path) (row : Row) → AreTables a b m → row_at m path ≡ Some row
    → ((p : Row) → row_at a path ≡ Some p → P p) → ((p : Row) → row_at b path ≡ Some p → P p) → P row
each_met_at P met a b m path row h e = each_met P met (row_at a path) (row_at b path) (row_at m path) row (joined_at a b m path h) e

-- what may stand below a row may stand below what it is met to
may_met : (p q m : Row) (step : Step) → AreMetRows p q m → IsValidRow q → MayHold p step → MayHold m step
may_met p q m (label text) h v k = met_struct p q m h v k
may_met p q m (index n) h v k = met_list p q m h v k

may_left :
    (x y z : Option Row) (p row : Row) (step : Step) → IsJoined x y z → x ≡ Some p → z ≡ Some row → ((q : Row) → y ≡ Some q → IsValidRow q)
    → MayHold p step → MayHold row step
may_left None y z p row step j d e v k = cc
may_left (Some s) None z p row step j d e v k =
    let both : Some p ≡ Some row = sym d ∙ sym j ∙ e in
    let same : p ≡ row = cc in
    subst (λ r. MayHold r step) same k
may_left (Some s) (Some q) z p row step j d e v k =
    let both : Some j.0 ≡ Some row = sym j.1 ∙ e in
    let same : j.0 ≡ row = cc in
    let first : p ≡ s = cc in
    subst (λ r. MayHold r step) same (may_met s q j.0 step j.2 (v q refl) (subst (λ r. MayHold r step) first k))

-- what stands below a row in the first table may stand below the met row
may_at :
    (a b m : Tree Row) (path : Path) (step : Step) (parent below : Row) → AreTables a b m → row_at m path ≡ Some parent → row_at a (path_below path step) ≡ Some below
    → MayHold parent step
may_at a b m path step parent below h e f =
    let above = h.left.parents path step below f in
    may_left (row_at a path) (row_at b path) (row_at m path) above.0 parent step (joined_at a b m path h) above.1 e (λ q k. h.right.rows path q k)
    (h.left.kinds path step above.0 below above.1 f)

may_stand :
    (a b m : Tree Row) (path : Path) (step : Step) (parent row : Row) → AreTables a b m → row_at m path ≡ Some parent → row_at m (path_below path step) ≡ Some row
    → MayHold parent step
may_stand a b m path step parent row h e f =
    ⊎_elim (λ (k : (p : Row) × (row_at a (path_below path step) ≡ Some p)). may_at a b m path step parent k.0 h e k.1)
    (λ (k : (p : Row) × (row_at b (path_below path step) ≡ Some p)). may_at b a m path step parent k.0 (turned a b m h) e k.1)
    (side_at a b m (path_below path step) row h f)

has_parent : (a b m : Tree Row) (path : Path) (step : Step) (row : Row) → AreTables a b m → row_at m (path_below path step) ≡ Some row → (parent : Row) × (row_at m path ≡ Some parent)
has_parent a b m path step row h e =
    ⊎_elim
    (λ (k : (p : Row) × (row_at a (path_below path step) ≡ Some p)). let above = h.left.parents path step k.0 k.1 in from_left_at a b m path above.0 h above.1)
    (λ (k : (p : Row) × (row_at b (path_below path step) ≡ Some p)). let above = h.right.parents path step k.0 k.1 in from_left_at b a m path above.0 (turned a b m h) above.1)
    (side_at a b m (path_below path step) row h e)

-- of both sides, what is said of the paths of rows
path_met : (P : Path → Type 0) (a b m : Tree Row) (path : Path) (row : Row) → AreTables a b m → row_at m path ≡ Some row
    → ((p : Row) → row_at a path ≡ Some p → P path) → ((p : Row) → row_at b path ≡ Some p → P path) → P path
path_met P a b m path row h e left right =
    ⊎_elim (λ (k : (p : Row) × (row_at a path ≡ Some p)). left k.0 k.1) (λ (k : (p : Row) × (row_at b path ≡ Some p)). right k.0 k.1) (side_at a b m path row h e)

-- a table with no row at its root is empty, where both are that have none
no_root : (a b m : Tree Row) → AreTables a b m → (row_at a [] ≡ None) → (row_at b [] ≡ None) → (row : Row) (path : Path) → row_at m path ≡ Some row → ⊥
no_root a b m h p q row path e =
    let left = valid_empty a p h.left in
    let right = valid_empty b q h.right in
    ⊎_elim
    (λ (k : (s : Row) × (row_at a path ≡ Some s)). nothing_at path k.0 (sym (ap (λ t. row_at t path) left) ∙ k.1))
    (λ (k : (s : Row) × (row_at b path ≡ Some s)). nothing_at path k.0 (sym (ap (λ t. row_at t path) right) ∙ k.1))
    (side_at a b m path row h e)

none_left : (a b m : Tree Row) → AreTables a b m → row_of m ≡ None → row_at a [] ≡ None
none_left a b m h e = by (row_at a []) refl where
  by : (o : Option Row) → row_at a [] ≡ o → o ≡ None
  by None f = refl
  by (Some p) f = let row = from_left_at a b m [] p h f in let no : None ≡ Some row.0 = sym e ∙ row.1 in cc

not_taken : (a b m : Tree Row) → AreTables a b m → row_of m ≡ None → IsTreeTaken m → ⊥
not_taken a b m h e t =
    let some = taken_row Kept m t h.form in
    no_root a b m h (none_left a b m h e) (none_left b a m (turned a b m h) e) some.1 some.0 some.2

root_met : (a b m : Tree Row) → AreTables a b m → HasOpenRoot m
root_met a b (node (Some row) children rest) h =
    inr (
      row,
      refl,
      each_met_at IsOpenStruct (λ p q m k left right. (met_structs p q m k left.0 right.0, no_labels p q m k left.1 right.1)) a b (node (Some row) children rest) [] row h refl
          (λ p e. (valid_root a p e h.left).0) (λ p e. (valid_root b p e h.right).0),
    )
root_met a b (node None none no_rest) h = inl refl
root_met a b (node None none (onward n tree)) h = absurd (not_taken a b (node None none (onward n tree)) h refl tt)
root_met a b (node None (child step tree children) rest) h = absurd (not_taken a b (node None (child step tree children) rest) h refl tt)

-- a row is met to one with a least length that is no lower
least_left : (x y z : Option Row) (p row : Row) → IsJoined x y z → x ≡ Some p → z ≡ Some row → p.least ≤ row.least
least_left None y z p row j d e = cc
least_left (Some s) None z p row j d e =
    let both : Some p ≡ Some row = sym d ∙ sym j ∙ e in
    let same : p ≡ row = cc in
    subst (λ (r : Row). p.least ≤ r.least) same (omega arith)
least_left (Some s) (Some q) z p row j d e =
    let both : Some j.0 ≡ Some row = sym j.1 ∙ e in
    let same : j.0 ≡ row = cc in
    let first : s ≡ p = cc in
    subst (λ (r : Row). p.least ≤ r.least) same (subst (λ (r : Row). r.least ≤ j.0.least) first (least_above s q j.0 j.2))

-- from such an index on, the elements of a valid table refuse the same
alike_refuses :
    (a : Tree Row) (path : Path) (i j : ℕ) (more : Path) (question : Question) → IsValidTable a → ((p : Row) → row_at a path ≡ Some p → (p.least ≤ i) × (p.least ≤ j))
    → TableRefuses RefusesAsked a (path_below path (index i) ++ more) question → TableRefuses RefusesAsked a (path_below path (index j) ++ more) question
alike_refuses a path i j more question h low r = by (row_at a path) refl
  where
    to : TableRefuses RefusesAsked a (path_below path (index i) ++ more) question → (row : Row) × (row_at a (path_below path (index i) ++ more) ≡ Some row)
    to r = some_row (row_at a (path_below path (index i) ++ more)) question r

    by : (o : Option Row) → row_at a path ≡ o → TableRefuses RefusesAsked a (path_below path (index j) ++ more) question
    by None e =
        let row = to r in
        let above = row_above a path (index i ∷ more) row.0 h (ap (row_at a) (sym (append_assoc path (index i ∷ []) more)) ∙ row.1) in
        let no : None ≡ Some above.0 = sym e ∙ above.1 in
        absurd (cc)
    by (Some p) e =
        let same = h.elements path p i j e (low p e).0 (low p e).1 in
        let rows : row_at a (path_below path (index i) ++ more) ≡ row_at a (path_below path (index j) ++ more) =
        ap (option_and_then row_of) (branch_append a (path_below path (index i)) more)
        ∙ ap (λ found. option_and_then row_of (option_and_then (λ branch. branch_at branch more) found)) same
        ∙ sym (ap (option_and_then row_of) (branch_append a (path_below path (index j)) more)) in
        subst (λ o. RowRefuses RefusesAsked o question) rows r

alike_met :
    (a b m : Tree Row) (path : Path) (row : Row) (i j : ℕ) (more : Path) (question : Question) → AreTables a b m → row_at m path ≡ Some row → row.least ≤ i → row.least ≤ j
    → TableRefuses RefusesAsked m (path_below path (index i) ++ more) question → TableRefuses RefusesAsked m (path_below path (index j) ++ more) question
alike_met a b m path row i j more question h e k l r =
    (h.met (path_below path (index j) ++ more) question).1
    (⊎_elim
    (λ x. inl (alike_refuses a path i j more question h.left
    (λ p f. let low = least_left (row_at a path) (row_at b path) (row_at m path) p row (joined_at a b m path h) f e in (omega arith, omega arith)) x))
    (λ x. inr (alike_refuses b path i j more question h.right
    (λ p f. let low = least_left (row_at b path) (row_at a path) (row_at m path) p row (joined_at b a m path (turned a b m h)) f e in (omega arith, omega arith)) x))
    ((h.met (path_below path (index i) ++ more) question).0 r))

-- what a branch refuses at a path is what the table refuses there
as_table : (m : Tree Row) (path more : Path) (question : Question) → FoundRefuses RefusesAsked (branch_at m path) more question ↔ TableRefuses RefusesAsked m (path ++ more) question
as_table m path more question =
    let rows = ap (option_and_then row_of) (branch_append m path more) in
    (λ r. subst (λ o. RowRefuses RefusesAsked o question) (sym rows) r, λ r. subst (λ o. RowRefuses RefusesAsked o question) rows r)

elements_met :
    (a b m : Tree Row) (path : Path) (row : Row) (i j : ℕ) → AreTables a b m → row_at m path ≡ Some row → row.least ≤ i → row.least ≤ j
    → branch_at m (path_below path (index i)) ≡ branch_at m (path_below path (index j))
elements_met a b m path row i j h e k l =
    exact_branch RefusesAsked IsRow same_rows (branch_at m (path_below path (index i))) (branch_at m (path_below path (index j)))
    (found_at m path (index i) h.form) (found_at m path (index j) h.form)
    (λ more question. (
      λ r. (as_table m (path_below path (index j)) more question).1 (alike_met a b m path row i j more question h e k l ((as_table m (path_below path (index i)) more question).0 r)),
      λ r. (as_table m (path_below path (index i)) more question).1 (alike_met a b m path row j i more question h e l k ((as_table m (path_below path (index j)) more question).0 r)),
    ))

-- what is met of two valid tables is a valid table
pub met_tables : (a b m : Tree Row) → IsTable RefusesAsked IsRow m → IsMet RefusesAsked a b m → IsValidTable a → IsValidTable b → IsValidTable m
met_tables a b m form met left right =
    let h : AreTables a b m = record { left = left; right = right; form = form; met = met } in
    record {
      form = form;
      rows = λ path row e. each_met_at IsValidRow met_valid a b m path row h e (λ p k. left.rows path p k) (λ p k. right.rows path p k);
      paths = λ path row e. path_met IsWithinDepth a b m path row h e (λ p k. left.paths path p k) (λ p k. right.paths path p k);
      labels = λ path row e. path_met (AllByRecursion IsWordStep) a b m path row h e (λ p k. left.labels path p k) (λ p k. right.labels path p k);
      root = root_met a b m h;
      root_level = λ row e. each_met_at (λ r. r.level ≡ Optional) met_level a b m [] row h e (λ p k. left.root_level p k) (λ p k. right.root_level p k);
      element_levels = λ path n row e. each_met_at (λ r. r.level ≡ Optional) met_level a b m (path_below path (index n)) row h e
          (λ p k. left.element_levels path n p k) (λ p k. right.element_levels path n p k);
      parents = λ path step row e. has_parent a b m path step row h e;
      kinds = λ path step parent row d e. may_stand a b m path step parent row h d e;
      elements = λ path row i j e k l. elements_met a b m path row i j h e k l;
    }
