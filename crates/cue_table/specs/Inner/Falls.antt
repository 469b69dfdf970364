-- Each branch of a node is smaller than the node.
use Rattle.std.specs.Prelude.{◌≡◌, ℕ, zero, suc, ◌+◌, ◌*◌, ◌≤◌, max, List, [], ◌∷◌, Option, Some}
use Rattle.std.specs.Prelude.{None}
use Rattle.std.specs.Prelude.{Box, Vec}
use Rattle.std.specs.Global.{Global}
use Rattle.std.proofs.Common.{arith}
use denote.Param.Weighed.{most}
use Rattle.cue_table.specs.Size.{tree_size, children_size}
use Rattle.cue_table.specs.Inner.Child.{Child, child_size, node_size}
use Rattle.cue_table.specs.Spans.{alike_elements}
use Rattle.cue_table.specs.Tree.{Tree, Children, none, child}
use Rattle.cue_table.specs.Inner.Join.{join_children}
use Rattle.cue_table.specs.Inner.View.{branches, child_of, more_of, run_branches, tree_of}
use Rattle.cue_table.specs.declared.child.Child.TheInside as held
use Rattle.cue_table.specs.declared.node.Node.TheInside.{Inside}
use Rattle.cue_table.specs.declared.child.Child.TheDeep.{deep-Child, deep-Node}
use Rattle.cue_lattice.specs.declared.narrow.Narrow.{Ghosts}
use Rattle.cue_table.specs.declared.node.Onward.{Onward}
use Rattle.cue_table.specs.declared.node.ElementRun.{ElementRun}

-- no branch is larger than all of them together
pub branches_fall : {R : Type 0} (cs : List (Child R))
    → max (most (λ (c : Child R). child_size c + 1) cs) 0
    ≤ 2 * children_size (branches cs) + 2
branches_fall [] = omega arith
branches_fall (c ∷ cs) = omega (arith, branches_fall cs)

alike_size : {R : Type 0} (i more : ℕ) (tree : Tree R) (others : Children R)
    → tree_size tree + children_size others ≤ children_size (alike_elements i more tree others)
alike_size i zero tree others = omega arith
alike_size i (suc more) tree others = omega (arith, alike_size (suc i) more tree others)

runs_fall : {R Q : Type 0} (rs : List (ElementRun R Q))
    → max (most (λ (r : ElementRun R Q). max (node_size r.node + 1) 0) rs) 0
    ≤ 2 * children_size (run_branches rs) + 2
runs_fall [] = omega arith
runs_fall (r ∷ rs) =
    omega (arith, runs_fall rs, alike_size r.first (more_of r.first r.more) r.node (run_branches rs))

join_size : {R : Type 0} (a b : Children R)
    → children_size (join_children a b) ≡ children_size a + children_size b
join_size none b = omega arith
join_size (child step tree children) b = omega (arith, join_size children b)

module _ {R Q : Type 0} (narrow : Ghosts R Q) where
  parts_of_fall : (row : Option R) (children : Vec (Child R) Global)
      (rest : Option (Box (Onward R Q) Global))
      → deep-Node R Q narrow (record { row = row; children = children; rest = rest })
      ≤ node_size (tree_of (record { row = row; children = children; rest = rest }))
  parts_of_fall row children None = omega (arith, branches_fall children.items)
  parts_of_fall row children (Some b) =
      omega (
        arith,
        branches_fall children.items,
        runs_fall b.value.runs.items,
        join_size (branches children.items) (run_branches b.value.runs.items),
      )

  pub parts_fall : (a : Inside R Q) → deep-Node R Q narrow a ≤ node_size (tree_of a)
  parts_fall a = parts_of_fall a.row a.children a.rest

  pub held_falls : (a : held.Inside R Q) → deep-Child R Q narrow a ≤ child_size (child_of a)
  held_falls a = omega arith
