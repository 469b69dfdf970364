-- The list of its rows tells the tree.
use Rattle.std.proofs.Common.{◌≡◌, ℕ, [], ◌∷◌, Option, Some, None, refl, sym, ap, subst, ◌∙◌}
use Rattle.cue_lattice.specs.OneOf.{OneOf}
use Rattle.cue_lattice.specs.Path.{Step, step_cmp}
use Rattle.cue_table.specs.Tree.{Tree, node, Children, none, child, Rest, no_rest, onward, find}
use Rattle.cue_table.specs.Slots.{at, from, Place, rows_of}
use Rattle.cue_table.specs.Form.{IsTreeTaken}
use Rattle.cue_table.specs.Inner.Loose.{IsLoose, AreLoose, IsLooseRest}
use Rattle.cue_table.specs.Rows.{kept_rest, kept_row}
use Rattle.cue_table.proofs.Branches.{find_first}
use Rattle.cue_table.proofs.Finding.{found_here}
use Rattle.cue_table.proofs.Loosened.{loose_rise}
use Rattle.cue_table.proofs.Exact.{equal_children}
use Rattle.cue_table.proofs.Listed.{Is, kept_in, rest_kept, rest_is, rows_listed}

module _ {R : Type 0} (P : R → Type 0) where
  -- in each branch that is not empty a row is kept
  pub taken_kept : (tree : Tree R) → IsTreeTaken tree → IsLoose P tree → (place : Place) × (row : R) × (kept_row tree place ≡ Some row)
  taken_kept (node (Some row) children rest) t h = ([], row, refl)
  taken_kept (node None none no_rest) t h = absurd t
  taken_kept (node None none (onward n tree)) t h =
      let below = taken_kept tree h.2.0 h.2.1 in
      (from n ∷ below.0, below.1, ap (λ found. kept_in found below.0) (rest_kept n tree) ∙ below.2)
  taken_kept (node None (child step tree children) rest) t h =
      let below = taken_kept tree h.1.1 h.1.2 in
      (at step ∷ below.0, below.1, ap (λ found. kept_in found below.0) (find_first step tree children) ∙ below.2)

  -- the same rows are kept at the same places
  abbrev SameKept : Tree R → Tree R → Type 0
  SameKept a b = (place : Place) → kept_row a place ≡ kept_row b place

  -- the tree is told by the rows that it keeps
  abbrev IsKnown : Tree R → Type 0
  IsKnown tree = (other : Tree R) → IsLoose P other → SameKept tree other → tree ≡ other

  abbrev IsFound : Option (Tree R) → Type 0
  IsFound found = (tree : Tree R) → found ≡ Some tree → IsTreeTaken tree × IsLoose P tree

  own_found : (children : Children R) (step : Step) → AreLoose P children → IsFound (find step children)
  own_found none step h tree e = cc
  own_found (child next here children) step h tree e =
      found_here (λ t. IsTreeTaken t × IsLoose P t) (step_cmp step next) here (find step children) tree (h.1, h.2) (λ f. own_found children step h.3 tree f) e

  rest_found : (rest : Rest R) (n : ℕ) → IsLooseRest P rest → IsFound (kept_rest n rest)
  rest_found no_rest n h tree e = cc
  rest_found (onward m here) n h tree e = subst (λ t. IsTreeTaken t × IsLoose P t) (rest_is n m here tree e).1 h

  silent_kept : (tree : Tree R) → IsTreeTaken tree → IsLoose P tree → ((place : Place) → kept_row tree place ≡ None) → ⊥
  silent_kept tree t h silent =
      let some = taken_kept tree t h in
      let no : None ≡ Some some.1 = sym (silent some.0) ∙ some.2 in
      cc

  known_found : (o p : Option (Tree R)) → IsFound o → IsFound p → ((tree : Tree R) → o ≡ Some tree → IsKnown tree) → ((place : Place) → kept_in o place ≡ kept_in p place) → o ≡ p
  known_found None None f g known same = refl
  known_found (Some s) None f g known same = absurd (silent_kept s (f s refl).0 (f s refl).1 (λ place. same place))
  known_found None (Some t) f g known same = absurd (silent_kept t (g t refl).0 (g t refl).1 (λ place. sym (same place)))
  known_found (Some s) (Some t) f g known same = ap Some (known s refl t (g t refl).1 same)

  -- rests that are kept alike are the same
  same_rest : (q r : Rest R) → ((n : ℕ) → kept_rest n q ≡ kept_rest n r) → q ≡ r
  same_rest no_rest no_rest same = refl
  same_rest no_rest (onward n t) same = let no : None ≡ Some t = same n ∙ rest_kept n t in cc
  same_rest (onward m s) no_rest same = let no : Some s ≡ None = sym (rest_kept m s) ∙ same m in cc
  same_rest (onward m s) (onward n t) same =
      let there : kept_rest m (onward n t) ≡ Some s = sym (same m) ∙ rest_kept m s in
      let alike = rest_is m n t s there in
      λ i. onward (alike.0 i) (sym alike.1 i)

  mutual
    -- trees that keep the same rows are equal
    equal_kept : (a b : Tree R) → IsLoose P a → IsLoose P b → SameKept a b → a ≡ b
    equal_kept (node p cs q) (node s ds r) h k same =
        let row : p ≡ s = same [] in
        let children : cs ≡ ds =
        equal_children cs ds (loose_rise P cs h.1) (loose_rise P ds k.1)
        (λ step. known_found (find step cs) (find step ds) (own_found cs step h.1) (own_found ds step k.1) (known_own cs h.1 step) (λ place. same (at step ∷ place))) in
        let rest : q ≡ r =
        same_rest q r
        (λ n. known_found (kept_rest n q) (kept_rest n r) (rest_found q n h.2) (rest_found r n k.2) (known_rest q h.2 n) (λ place. same (from n ∷ place))) in
        λ i. node (row i) (children i) (rest i)

    known_own : (children : Children R) → AreLoose P children → (step : Step) (tree : Tree R) → find step children ≡ Some tree → IsKnown tree
    known_own none h step tree e other k same = cc
    known_own (child next here children) h step tree e other k same =
        found_here (λ t. SameKept t other → t ≡ other) (step_cmp step next) here (find step children) tree (λ alike. equal_kept here other h.2 k alike)
        (λ f alike. known_own children h.3 step tree f other k alike) e same

    known_rest : (rest : Rest R) → IsLooseRest P rest → (n : ℕ) (tree : Tree R) → kept_rest n rest ≡ Some tree → IsKnown tree
    known_rest no_rest h n tree e other k same = cc
    known_rest (onward m here) h n tree e other k same =
        let alike = (rest_is n m here tree e).1 in
        sym alike ∙ equal_kept here other h.1 k (subst (λ t. SameKept t other) (sym alike) same)

  same_options : (p q : Option R) → ((row : R) → p ≡ Some row → q ≡ Some row) → ((row : R) → q ≡ Some row → p ≡ Some row) → p ≡ q
  same_options None None f g = refl
  same_options None (Some row) f g = g row refl
  same_options (Some row) q f g = sym (f row refl)

  -- trees with the same list of rows are equal
  pub same_lists : (a b : Tree R) → IsLoose P a → IsLoose P b → rows_of a ≡ rows_of b → a ≡ b
  same_lists a b h k e =
      equal_kept a b h k
      (λ place. same_options (kept_row a place) (kept_row b place)
      (λ row f. (rows_listed P b k place row).0 (subst (OneOf (Is place row)) e ((rows_listed P a h place row).1 f)))
      (λ row f. (rows_listed P a h place row).0 (subst (OneOf (Is place row)) (sym e) ((rows_listed P b k place row).1 f))))
