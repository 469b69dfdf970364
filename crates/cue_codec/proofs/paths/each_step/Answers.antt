use Rattle.std.proofs.Common.{arith, ◌∷◌, [], ◌∙◌, ap, get_or}
use Rattle.std.proofs.lemmas.List.{length-append, length-take}
use Rattle.std.proofs.lemmas.Result.{err_from_is_err_and}
use Rattle.cue_codec.specs.Known.{slot_with}
use Rattle.cue_codec.specs.Parts.{step_bytes}
use Rattle.cue_codec.specs.StateRow.{IsStateStep}
use Rattle.cue_codec.proofs.Codes.{items_unread}
use Rattle.cue_codec.proofs.KnownPlaces.{known_front, known_more}
use Rattle.cue_codec.proofs.StatePaths.{one_step, step_in, steps_in, steps_count, steps_more, steps_each, steps_front}
use Rattle.cue_codec.proofs.paths.each_step.Goals as goal

pub loop-alloc-init : goal.loop-alloc-init
loop-alloc-init c =
    let items = c.args.before.items in
    let len = c.skip_shared-len.result.0 in
    rw c.truncate.ensures.items (record {
      few = omega (arith, length-take len items, c.skip_shared-len.ensures.few.1);
      each = steps_front c.args.version items len c.requires.steps;
      numbers = known_front c.args.known.now items len c.requires.known;
      parts = rw (← c.as_slice.ensures.value) (c.skip_shared-len.ensures.parts c.args.version);
    })

pub loop-alloc-preserved : goal.loop-alloc-preserved
loop-alloc-preserved c =
    rw c.in-Ok.ensures.items (record {
      few = omega (arith, length-append c.loop-alloc.slots.items (c.in_ok-slot.slot ∷ []));
      each = steps_each c.args.version c.loop-alloc.slots.items c.in_ok-slot.slot c.loop-alloc.invariant.each c.in_ok-slot.ensures.ok.value;
      numbers = known_more c.args.known.now c.loop-alloc.slots.items c.in_ok-slot.slot c.loop-alloc.invariant.numbers (c.in_ok-slot.ensures.known ∙ ap (λ i. slot_with (get_or c.args.known.now i 0) (step_in c.in_ok-slot.slot)) (c.len-in-loop-alloc.ensures ∙ c.loop-alloc.slots.ok.0));
      parts = steps_more c.args.version c.loop-alloc.slots.items c.in_ok-slot.slot c.args.bytes.now c.loop-alloc.rest.now c.in_ok-slot.after.now c.loop-alloc.invariant.parts c.in_ok-slot.ensures.ok.parts;
    })

pub returns-in_err-slot-clause-refused : goal.returns-in_err-slot-clause-refused
returns-in_err-slot-clause-refused c =
    let p = err_from_is_err_and c.from_residual.result c.from_residual.ensures.1 in
    rw (p.1, p.2)
    (items_unread c.in_err-slot.field-0.0 (IsStateStep c.args.version) (step_bytes c.args.version) (one_step c.args.version) c.args.count (steps_in c.loop-alloc.slots.items) c.args.bytes.now c.loop-alloc.rest.now c.loop-alloc.invariant.each (omega (arith, steps_count c.loop-alloc.slots.items)) c.loop-alloc.invariant.parts c.in_err-slot.ensures.refused)

pub returns-clause-ok : goal.returns-clause-ok
returns-clause-ok c =
    record { value = (omega (arith, c.loop-alloc.invariant.few, steps_count c.loop-alloc.slots.items), c.loop-alloc.invariant.each); parts = c.loop-alloc.invariant.parts }
