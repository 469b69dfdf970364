use Rattle.std.proofs.Common.{◌++◌, List, ℕ, map, ap, ◌∙◌, sym, subst}
use Rattle.std.proofs.lemmas.List.{map-append}
use Rattle.cue_journal.proofs.Found.{IsLooking, look_frame, look_on}
use Rattle.cue_journal.proofs.Scanning.{frame_shorter}
use Rattle.cue_journal.proofs.inspection.scattered_entries.Goals as goal

pub loop-next-smaller-in_ok-append-in-Some-first_batch : goal.loop-next-smaller-in_ok-append-in-Some-first_batch
loop-next-smaller-in_ok-append-in-Some-first_batch c = frame_shorter c.loop-next.rest.now (c.in-Some-first_batch.batch.now, c.in-Some-first_batch.after.now) c.in-Some-first_batch.ensures

pub loop-next-preserved-in_ok-append-in-Some-first_batch : goal.loop-next-preserved-in_ok-append-in-Some-first_batch
loop-next-preserved-in_ok-append-in-Some-first_batch c =
    let entries = map (λ v. v.items) c.loop-next.entries.items in
    let more = ap (map (λ v. v.items)) c.in_ok-append-in-Some-first_batch.ensures.items ∙ map-append (λ v. v.items) c.loop-next.entries.items c.in_ok-more-in-Some-first_batch.more.items ∙ ap (λ (l : List (List ℕ)). entries ++ l) c.in_ok-more-in-Some-first_batch.ensures.pieces in
    subst (IsLooking c.args.bytes.now c.in-Some-first_batch.after.now) (sym more)
    (look_frame c.args.bytes.now c.loop-next.rest.now entries (c.in-Some-first_batch.batch.now, c.in-Some-first_batch.after.now) c.loop-next.invariant c.in-Some-first_batch.ensures)

pub loop-next-preserved : goal.loop-next-preserved
loop-next-preserved c = look_on c.args.bytes.now c.loop-next.rest.now c.in-Some.next.now c.in-Some.field-0-0.now (map (λ v. v.items) c.loop-next.entries.items) c.loop-next.invariant c.in-Some.ensures.cases.0
