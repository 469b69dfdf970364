use Rattle.std.proofs.Common.{◌++◌, List, ℕ, map, ap, ◌∙◌, sym, subst}
use Rattle.std.proofs.lemmas.List.{map-append}
use Rattle.cue_journal.proofs.Scanning.{frame_shorter}
use Rattle.cue_journal.proofs.Files.{IsScanning, scan_more, scan_entries, scanned_to}
use Rattle.cue_journal.proofs.frames.read_frames.Goals as goal

pub loop-batch-smaller : goal.loop-batch-smaller
loop-batch-smaller c = frame_shorter c.loop-batch.rest.now (c.in-Some.batch.now, c.in-Some.after.now) c.in-Some.ensures

pub loop-batch-preserved : goal.loop-batch-preserved
loop-batch-preserved c =
    let entries = map (λ v. v.items) c.loop-batch.entries.items in
    let more = ap (map (λ v. v.items)) c.in_ok-append.ensures.items ∙ map-append (λ v. v.items) c.loop-batch.entries.items c.in_ok-more.more.items ∙ ap (λ (l : List (List ℕ)). entries ++ l) c.in_ok-more.ensures.pieces in
    subst (IsScanning c.args.bytes.now c.in-Some.after.now) (sym more)
    (scan_more c.args.bytes.now c.loop-batch.rest.now entries (c.in-Some.batch.now, c.in-Some.after.now) c.loop-batch.invariant c.in-Some.ensures)

pub returns-clause-entries : goal.returns-clause-entries
returns-clause-entries c = scan_entries c.args.bytes.now c.loop-batch.rest.now (map (λ v. v.items) c.loop-batch.entries.items) c.loop-batch.invariant c.in_default.ensures

pub returns-clause-rest : goal.returns-clause-rest
returns-clause-rest c = scanned_to c.args.bytes.now c.loop-batch.rest.now (map (λ v. v.items) c.loop-batch.entries.items) c.loop-batch.invariant c.in_default.ensures
