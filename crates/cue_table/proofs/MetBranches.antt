-- Two places without a rest that are met by their rows and branches.
use Rattle.std.proofs.Common.{◌≡◌, [], ◌∷◌, Bool, true, not, Option, Some, None, sym, ap, subst, ◌∙◌}
use Rattle.std.specs.Option.{is_some}
use Rattle.cue_table.specs.declared.node.Node.TheInside.{Inside}
use Rattle.cue_table.specs.Tree.{Tree, Children, node, no_rest, onward, below, rest_below, row_of}
use Rattle.cue_table.specs.Refuses.{RowRefuses}
use Rattle.cue_table.specs.Meet.{IsMet, IsUnion}
use Rattle.cue_table.specs.Inner.Meet.{IsMerge}
use Rattle.cue_table.specs.Inner.View.{branches, rest_in, tree_of}
use Rattle.cue_table.specs.Inner.Parts.{or_row}
use Rattle.cue_table.proofs.Owned.{own_only, own_view}

trees_met :
    {R Q : Type 0} (refuses : R → Q → Type 0) (P : R → Type 0) (s t : Tree R) (row : Option R) (cs : Children R) → rest_below s ≡ no_rest → rest_below t ≡ no_rest
    → IsUnion (RowRefuses refuses (row_of s)) (RowRefuses refuses (row_of t)) (RowRefuses refuses row) → IsMerge refuses P (below s) (below t) cs → IsMet refuses s t (node row cs no_rest)
trees_met refuses P (node q ds no_rest) (node r es no_rest) row cs x y rows merge [] question = rows question
trees_met refuses P (node q ds no_rest) (node r es no_rest) row cs x y rows merge (step ∷ path) question = merge.refused step path question
trees_met refuses P (node q ds (onward n tree)) t row cs x y rows merge path question = absurd cc
trees_met refuses P (node q ds no_rest) (node r es (onward n tree)) row cs x y rows merge path question = absurd cc

-- the same of trees that nodes stand for, by the nodes' rows and branches
pub met_nodes :
    {R Q : Type 0} (refuses : R → Q → Type 0) (P : R → Type 0) (a b : Inside R Q) (s t new : Tree R) (row : Option R) (cs : Children R) → tree_of a ≡ s → tree_of b ≡ t → rest_in a.rest ≡ no_rest → rest_in b.rest ≡ no_rest
    → IsUnion (RowRefuses refuses a.row) (RowRefuses refuses b.row) (RowRefuses refuses row)
    → IsMerge refuses P (branches a.children.items) (branches b.children.items) cs → new ≡ node row cs no_rest → IsMet refuses s t new
met_nodes refuses P a b s t new row cs e f x y rows merge is =
    let left = own_only (branches a.children.items) a.rest x in
    let right = own_only (branches b.children.items) b.rest y in
    let both : IsMerge refuses P (below (tree_of a)) (below (tree_of b)) cs =
    subst (λ xs. IsMerge refuses P xs (below (tree_of b)) cs) (sym left) (subst (λ xs. IsMerge refuses P (branches a.children.items) xs cs) (sym right) merge) in
    let here = trees_met refuses P (tree_of a) (tree_of b) row cs x y rows both in
    subst (IsMet refuses s t) (sym is)
    (subst (λ u. IsMet refuses u t (node row cs no_rest)) e (subst (λ u. IsMet refuses (tree_of a) u (node row cs no_rest)) f here))

-- nothing is there
pub none_is : {X : Type 0} (o : Option X) (b : Bool) → b ≡ true → is_some o ≡ not b → o ≡ None
none_is None b e h = cc
none_is (Some x) b e h = let no : is_some (Some x) ≡ not true = h ∙ ap not e in cc

-- where neither the row nor the branches change, the place is the union
pub met_still :
    {R Q : Type 0} (refuses : R → Q → Type 0) (P : R → Type 0) (a b : Inside R Q) (s t : Tree R) (row : Option R) (cs : Children R) → tree_of a ≡ s → tree_of b ≡ t → rest_in a.rest ≡ no_rest → rest_in b.rest ≡ no_rest
    → row ≡ None → cs ≡ branches a.children.items → IsUnion (RowRefuses refuses a.row) (RowRefuses refuses b.row) (RowRefuses refuses (or_row row a.row))
    → IsMerge refuses P (branches a.children.items) (branches b.children.items) cs → IsMet refuses s t s
met_still refuses P a b s t row cs e f x y none same rows merge =
    met_nodes refuses P a b s t s a.row (branches a.children.items) e f x y
    (subst (λ o. IsUnion (RowRefuses refuses a.row) (RowRefuses refuses b.row) (RowRefuses refuses (or_row o a.row))) none rows)
    (subst (IsMerge refuses P (branches a.children.items) (branches b.children.items)) same merge)
    (sym (own_view a s e x) ∙ ap (node a.row (branches a.children.items)) x)
