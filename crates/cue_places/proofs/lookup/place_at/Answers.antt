use Rattle.std.proofs.Common.{map, subst}
use Rattle.cue_row.specs.Steps.{step_of}
use Rattle.cue_places.specs.Places.{IsDeclaredPlace, IsFreePlace, IsRootAt}
use Rattle.cue_places.proofs.Barring.{found_barred}
use Rattle.cue_places.proofs.Seen.{Told}
use Rattle.cue_places.proofs.lookup.place_at.Goals as goal

pub returns-in_ok-copy_steps-in-Some : goal.returns-in_ok-copy_steps-in-Some
returns-in_ok-copy_steps-in-Some c =
    let steps = c.args.steps.now in (
      subst (λ t. IsDeclaredPlace (Told t) (map step_of steps)) c.root-root.ensures.branch (c.is_declared.ensures.0 c.if-not-is_declared.false),
      found_barred c.args.table.now c.root-root.result steps c.in-Some.bar c.in_ok-copy_steps-in-Some.field-0.items c.new.result c.root-root.ensures.branch c.in-Some.ensures.some c.in_ok-copy_steps-in-Some.ensures c.new.ensures,
    )

pub returns-in_ok-root_at-in-None : goal.returns-in_ok-root_at-in-None
returns-in_ok-root_at-in-None c =
    let path = map step_of c.args.steps.now in
    let root = c.in_ok-root_at-in-None.field-0 in (
      subst (λ t. IsDeclaredPlace (Told t) path) c.root-root.ensures.branch (c.is_declared.ensures.0 c.if-not-is_declared.false),
      subst (λ t. IsFreePlace (Told t) path) c.root-root.ensures.branch c.in-None.ensures.none,
      subst (λ t. IsRootAt (Told t) path (Told root)) c.root-root.ensures.branch c.in_ok-root_at-in-None.ensures,
    )
