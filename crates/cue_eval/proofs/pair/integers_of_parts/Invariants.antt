use Rattle.std.proofs.Common.{◌≡◌, ◌++◌, drop, map}
use Rattle.cue_syntax.specs.declared.tree.Expr.TheVariants.{OtherInteger}
use Rattle.cue_eval.proofs.pair.integers_of_parts.Given as goal

-- the integers so far, and the parts that are left, are all parts
abbrev pub invariant-loop-part : goal.invariant-loop-part
invariant-loop-part l = map OtherInteger l.numbers.items ++ drop l.part-index l.parts ≡ l.parts
