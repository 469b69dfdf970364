-- Parts of a conjunction of which the value and default are known at once.
use Rattle.std.proofs.Common.{List}
use Rattle.std.specs.Prelude.{Option, Some, None, Result, Ok, Err, IfOk, IfSome}
use Rattle.cue_lattice.specs.Question.{SameAnswers}
use Rattle.cue_row.specs.declared.parts.RowParts.{RowParts as Row}
use Rattle.cue_scalars.specs.Values.{pair_of_value}
use Rattle.cue_scalars.specs.declared.valued.Valued.{Valued}
use Rattle.cue_table.specs.Tree.{Tree}
use Rattle.cue_syntax.specs.declared.tree.Expr.{Expr}
use Rattle.cue_syntax.specs.Syntax.{elements_of_list}
use Rattle.cue_scope.specs.Core.{conjunction}
use Rattle.cue_eval.specs.declared.pair.Pairs.{Pairs}
use Rattle.cue_eval.specs.Evaluated.{HasAnswersOf}
use Rattle.cue_eval.specs.Inner.Gathered.{TreeRefusals}
use Rattle.cue_eval.specs.Inner.Known.{parts_of}
use Rattle.cue_eval.specs.Inner.Written.{IsAllBut}
use Rattle.cue_eval.specs.Places.{IsAtPlace, ScalarRefuses}
use Rattle.cue_eval.proofs.ByPair.{by_pair}
use Rattle.cue_eval.proofs.Leaves.{by_its_pair}

-- the table of such parts
pub others_result : {E : Type 0} (r : Result (Tree Row) E) (known : Pairs) (parts : List Expr) (v : Valued) → IsAllBut parts v
    → IfOk r (λ table. SameAnswers (TreeRefusals table) (IsAtPlace (ScalarRefuses (pair_of_value v)))) → IfOk r (HasAnswersOf (conjunction (parts_of known (elements_of_list parts))))
others_result (Ok table) known parts v are same =
    let all = conjunction (parts_of known (elements_of_list parts)) in
    by_its_pair all v table (by_pair all (are.scalar known) (are.parted known)) (are.value known) same
others_result (Err x) known parts v are same = same

-- what is found is found so
pub some_others : (P Q : Valued → Type 0) (found : Option Valued) → ((v : Valued) → P v → Q v) → IfSome found P → IfSome found Q
some_others P Q None follows is = is
some_others P Q (Some v) follows is = follows v is
