use Rattle.std.proofs.Common.{◌≡◌, IfSome, subst}
use Rattle.std.proofs.lemmas.Option.{IfSome_then}
use Rattle.std.proofs.lemmas.Result.{IfOk-weaker}
use Rattle.cue_scalars.specs.declared.scalar_set.ScalarSet.{ScalarSet}
use Rattle.cue_row.specs.declared.level.Level.{Level}
use Rattle.cue_row.specs.declared.small.Small.{Small}
use Rattle.cue_row.specs.Kept.{small_parts}
use Rattle.cue_row.specs.Inner.Kept.{IsMetSmall}
use Rattle.cue_row.specs.Made.{lone_row}
use Rattle.cue_row.proofs.SmallRows.{of_lone_rows}
use Rattle.cue_row.proofs.small.Small.meet_scalars.Goals as goal

-- a small row of these scalars
abbrev IsOf : Small → ScalarSet → Type 0
IsOf small set = (level : Level) → small_parts level small ≡ lone_row level set

pub returns-clause-met : goal.returns-clause-met
returns-clause-met c =
    let s = c.args.self.now in let t = c.args.other.now in
    let left = c.in-Some-Some.left in let right = c.in-Some-Some.right in let met = c.in_ok-met.met in
    IfOk-weaker c.of_scalars.result (λ found. IfSome found (λ small. IsOf small met)) (λ found. IfSome found (IsMetSmall s t))
    (λ found all. IfSome_then found all
    (λ u u_is. of_lone_rows s t u left right met
    (subst (λ found. IfSome found (IsOf s)) c.in-Some-Some.is-0 c.in_ok-set.ensures)
    (subst (λ found. IfSome found (IsOf t)) c.in-Some-Some.is-1 c.in_ok-right.ensures)
    u_is c.in_ok-met.ensures))
    c.of_scalars.ensures.parts
