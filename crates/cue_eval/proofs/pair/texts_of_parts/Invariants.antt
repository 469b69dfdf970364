use Rattle.std.proofs.Common.{◌≡◌, ◌++◌, drop, map}
use Rattle.cue_syntax.specs.declared.tree.Expr.TheVariants.{OtherText}
use Rattle.cue_eval.proofs.pair.texts_of_parts.Given as goal

-- the texts so far, and the parts that are left, are all parts
abbrev pub invariant-loop-part : goal.invariant-loop-part
invariant-loop-part l = map OtherText l.texts.items ++ drop l.part-index l.parts ≡ l.parts
