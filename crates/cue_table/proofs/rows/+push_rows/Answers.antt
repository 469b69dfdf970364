use Rattle.std.proofs.Common.{◌∷◌, ◌++◌, length, [], refl, sym, ap, ◌∙◌, arith}
use Rattle.cue_table.specs.Slots.{at}
use Rattle.std.proofs.lemmas.List.{length-append, map-append}
use Rattle.cue_row.specs.Steps.{step_of}
use Rattle.cue_table.specs.StepsOfCode.{step_at}
use Rattle.cue_table.proofs.Listing.{left_size, left_depth, below_size, below_depth}
use Rattle.cue_table.proofs.ListingRows.{rows_begin, rows_begin_below, rows_more, rows_end, rows_last, rows_none}
use Rattle.cue_table.proofs.rows.+push_rows.Goals as goal
use Rattle.cue_table.proofs.rows.+push_rows.Goals.{in-Some+in_ok-copy+in_ok-push, in_default}

pub loop-step-init : goal.loop-step-init
loop-step-init g t c = record {
  rows = rw (c.into_iter-step-iterator.ensures.into_iter_gives, c.children-step-items.ensures.list)
      (elim c.match-row.branch [
        | in-Some+in_ok-copy+in_ok-push w ↦
            rows_begin c.args.place.now c.args.branch.now w.in-Some.row.now _ _ (sym w.in-Some.ensures.row)
            (rw (w.rows-is, w.in_ok-push.ensures.items, map-append, w.in_ok-copy.ensures) refl)
        | in_default w ↦ rw w.rows-is (rows_begin_below c.args.place.now c.args.branch.now _ (sym w.in_default.ensures.row))
      ]);
  smaller = rw (c.into_iter-step-iterator.ensures.into_iter_gives, c.children-step-items.ensures.list) (omega arith);
  deep = rw (c.into_iter-step-iterator.ensures.into_iter_gives, c.children-step-items.ensures.list) (omega arith);
}

pub then-requires : goal.then-requires
then-requires g t c =
    let deep = left_depth (step_at c.in-Some-2.step) c.in-Some-2.below c.loop-step.step-iterator c.next.new.self c.in-Some-2.ensures.steps in
    let all = below_depth c.args.branch.now in
    omega arith

pub push_rows-requires : goal.push_rows-requires
push_rows-requires g t c =
    let deep = left_depth (step_at c.in-Some-2.step) c.in-Some-2.below c.loop-step.step-iterator c.next.new.self c.in-Some-2.ensures.steps in
    let all = below_depth c.args.branch.now in
    let size = left_size (step_at c.in-Some-2.step) c.in-Some-2.below c.loop-step.step-iterator c.next.new.self c.in-Some-2.ensures.steps in
    let less = below_size c.args.branch.now in
    let long = length-append c.args.place.now (at (step_of c.in_ok-to_step.field-0) ∷ []) in
    let len = ap length c.in_ok-then.ensures in
    λ κs incl. (omega (arith, c.decreases), (incl.0, (incl.1, omega arith)))

pub loop-step-preserved : goal.loop-step-preserved
loop-step-preserved g t c =
    let deep = left_depth (step_at c.in-Some-2.step) c.in-Some-2.below c.loop-step.step-iterator c.next.new.self c.in-Some-2.ensures.steps in
    let size = left_size (step_at c.in-Some-2.step) c.in-Some-2.below c.loop-step.step-iterator c.next.new.self c.in-Some-2.ensures.steps in
    let place = ap (λ s. c.args.place.now ++ at s ∷ []) (sym c.in_ok-to_step.ensures) ∙ sym c.in_ok-then.ensures in
    record {
      rows = rows_more c.args.place.now (step_at c.in-Some-2.step) c.in-Some-2.below c.args.branch.now c.loop-step.step-iterator c.next.new.self _ _ _ c.in-Some-2.ensures.steps
          (rw place c.in_ok-push_rows.ensures) c.loop-step.invariant.rows;
      smaller = omega arith;
      deep = omega arith;
    }

pub returns-in_ok-push_rows-2 : goal.returns-in_ok-push_rows-2
returns-in_ok-push_rows-2 g t c =
    rows_last c.args.place.now c.args.branch.now c.in-Some-rest.rest c.fixed.result _ _ _ (sym c.in-Some-rest.ensures.rest) c.fixed.ensures.fixed
    (rw (← c.in_ok-then-2.ensures) c.in_ok-push_rows-2.ensures)
    (rows_end c.args.place.now c.args.branch.now c.loop-step.step-iterator _ _ c.in-None.ensures.steps.0 c.loop-step.invariant.rows)

pub returns-in_default-rest : goal.returns-in_default-rest
returns-in_default-rest g t c =
    rows_none c.args.place.now c.args.branch.now _ _ (sym c.in_default-rest.ensures.rest)
    (rows_end c.args.place.now c.args.branch.now c.loop-step.step-iterator _ _ c.in-None.ensures.steps.0 c.loop-step.invariant.rows)
