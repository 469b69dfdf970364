use Rattle.std.proofs.Common.{◌≡◌, ℕ, List, drop}
use Rattle.cue_scope.specs.Core.{Core}
use Rattle.cue_scope.specs.Definitions.{Definition}
use Rattle.cue_scope.specs.Meaning.{meant_members}
use Rattle.cue_syntax.specs.Syntax.{entries}
use Rattle.cue_eval.specs.Literals.{has_dots}
use Rattle.cue_eval.proofs.labels.has_ellipsis.Given as goal

abbrev pub invariant-loop-declaration : goal.invariant-loop-declaration
invariant-loop-declaration l =
    (ds : List Definition) (meaning : ℕ → Core) → has_dots (meant_members ds meaning (entries (drop l.declaration-index l.declarations))) ≡ has_dots (meant_members ds meaning (entries l.declarations))
