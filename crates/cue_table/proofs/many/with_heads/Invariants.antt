use Rattle.std.proofs.Common.{◌≡◌, ◌++◌, map}
use Rattle.std.specs.Vec.Iter.{into_iter_items}
use Rattle.cue_table.proofs.many.with_heads.Given as goal

-- the branches so far, and those that are left, are all
abbrev pub invariant-loop-child : goal.invariant-loop-child
invariant-loop-child g l = map (λ one. one.1) l.headed.items ++ into_iter_items l.child-iterator ≡ l.fn.children.items
