use Rattle.std.proofs.Common.{sym, subst, IsTrue}
use Rattle.cue_syntax.specs.Viability.{EndsHere}
use Rattle.cue_syntax.proofs.expression.ends_declarations.Goals as goal

pub returns-then-top : goal.returns-then-top
returns-then-top c = subst (λ top. (IsTrue c.is_at_end.result → EndsHere top c.args.cursor.rest.now) × (EndsHere top c.args.cursor.rest.now → IsTrue c.is_at_end.result)) (sym c.if-top.true) c.is_at_end.ensures

pub returns-else-top : goal.returns-else-top
returns-else-top c = subst (λ top. (IsTrue c.is_at.result → EndsHere top c.args.cursor.rest.now) × (EndsHere top c.args.cursor.rest.now → IsTrue c.is_at.result)) (sym c.if-top.false) c.is_at.ensures
