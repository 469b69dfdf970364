use Rattle.std.proofs.Common.{◌≡◌, ◌++◌, map}
use Rattle.std.specs.Vec.Iter.{into_iter_items}
use Rattle.cue_table.proofs.many.without_heads.Given as goal

-- the branches so far, and those that are left, are all
abbrev pub invariant-loop-child : goal.invariant-loop-child
invariant-loop-child g l = l.children.items ++ map (λ one. one.1) (into_iter_items l.child-iterator) ≡ map (λ one. one.1) l.fn.headed.items
