use Rattle.std.proofs.Common.{arith, ◌∷◌, []}
use Rattle.std.proofs.lemmas.List.{length-append}
use Rattle.std.proofs.lemmas.Result.{err_from_is_err_and}
use Rattle.cue_codec.specs.Parts.{text_bytes}
use Rattle.cue_codec.specs.Reading.{IsWord}
use Rattle.cue_codec.proofs.Codes.{items_more, all_more, items_unread}
use Rattle.cue_codec.proofs.Numbers.{one_text}
use Rattle.cue_codec.proofs.lists.each_text.Goals as goal

pub loop-alloc-preserved : goal.loop-alloc-preserved
loop-alloc-preserved c =
    rw c.in-Ok.ensures.items (record {
      few = omega (arith, length-append c.loop-alloc.texts.items (c.in_ok-text.text ∷ []));
      each = all_more IsWord c.loop-alloc.texts.items c.in_ok-text.text c.loop-alloc.invariant.each c.in_ok-text.ensures.ok.value;
      parts = items_more text_bytes c.loop-alloc.texts.items c.in_ok-text.text c.args.bytes.now c.loop-alloc.rest.now c.in_ok-text.after.now c.loop-alloc.invariant.parts c.in_ok-text.ensures.ok.parts;
    })

pub returns-in_err-text-clause-refused : goal.returns-in_err-text-clause-refused
returns-in_err-text-clause-refused c =
    let p = err_from_is_err_and c.from_residual.result c.from_residual.ensures.1 in
    rw (p.1, p.2)
    (items_unread c.in_err-text.field-0.0 IsWord text_bytes one_text c.args.count c.loop-alloc.texts.items c.args.bytes.now c.loop-alloc.rest.now c.loop-alloc.invariant.each (omega arith) c.loop-alloc.invariant.parts c.in_err-text.ensures.refused)

pub returns-clause-ok : goal.returns-clause-ok
returns-clause-ok c = record { value = (omega (arith, c.loop-alloc.invariant.few), c.loop-alloc.invariant.each); parts = c.loop-alloc.invariant.parts }
