use Rattle.std.specs.Prelude.{IfErr}
use Rattle.std.proofs.Common.{◌≡◌, ◌≤◌, ◌*◌, ◌^◌, Result, Ok, Err, length, ap, ◌∙◌, arith}
use Rattle.cue_table.specs.StepsOfCode.{span_of}
use Rattle.cue_table.specs.Tree.{rest_below}
use Rattle.cue_table.proofs.Listing.{below_size}
use Rattle.cue_table.proofs.Spanned.{left_size}
use Rattle.cue_codec.specs.Entry.{entries_of, entries_onward}
use Rattle.cue_codec.specs.Inner.Spans.{branch_count}
use Rattle.cue_codec.specs.Version.{written_version}
use Rattle.cue_codec.proofs.WrittenRows.{count_more, rows_least}
use Rattle.cue_codec.proofs.branches.+row_count.Goals as goal

-- what is so is so where there is an error
if_so : {X E : Type 0} (r : Result X E) (P : Type 0) → P → IfErr r (λ e. P)
if_so (Ok x) P h = tt
if_so (Err e) P h = h

pub row_count-requires : goal.row_count-requires
row_count-requires t c =
    let size = left_size (span_of c.in-Some-2.span) c.in-Some-2.below c.loop-span.span-iterator c.next.new.self c.in-Some-2.ensures.steps in
    let less = below_size c.args.branch.now in
    (omega (arith, c.decreases), tt)

pub loop-span-preserved : goal.loop-span-preserved
loop-span-preserved t c =
    let span = span_of c.in-Some-2.span in
    let size = left_size span c.in-Some-2.below c.loop-span.span-iterator c.next.new.self c.in-Some-2.ensures.steps in
    let more = count_more span c.in-Some-2.below c.loop-span.span-iterator c.next.new.self (entries_onward written_version (rest_below c.args.branch.now)) c.in-Some-2.ensures.steps in
    let rows : c.in_ok-rows.rows ≡ branch_count span * length (entries_of written_version c.in-Some-2.below) = c.in_ok-rows.ensures.count ∙ ap (λ n. n * c.in_ok-each.each) c.branch_count.ensures ∙ ap (λ n. branch_count span * n) c.in_ok-each.ensures.count in
    record { counted = omega (arith, more, rows, c.in_ok-count.ensures.count, c.loop-span.invariant.counted); smaller = omega arith }

pub returns-in_err-each-clause-beyond : goal.returns-in_err-each-clause-beyond
returns-in_err-each-clause-beyond t c =
    let span = span_of c.in-Some-2.span in
    let more = count_more span c.in-Some-2.below c.loop-span.span-iterator c.next.new.self (entries_onward written_version (rest_below c.args.branch.now)) c.in-Some-2.ensures.steps in
    let least = rows_least span (length (entries_of written_version c.in-Some-2.below)) in
    let many : 2 ^ 64 ≤ length (entries_of written_version c.args.branch.now) = omega (arith, more, least, c.in_err-each.ensures.beyond, c.loop-span.invariant.counted) in
    if_so _ (2 ^ 64 ≤ length (entries_of written_version c.args.branch.now)) many

pub returns-in_err-rows-clause-beyond : goal.returns-in_err-rows-clause-beyond
returns-in_err-rows-clause-beyond t c =
    let span = span_of c.in-Some-2.span in
    let more = count_more span c.in-Some-2.below c.loop-span.span-iterator c.next.new.self (entries_onward written_version (rest_below c.args.branch.now)) c.in-Some-2.ensures.steps in
    let rows = ap (λ n. n * c.in_ok-each.each) c.branch_count.ensures ∙ ap (λ n. branch_count span * n) c.in_ok-each.ensures.count in
    let many : 2 ^ 64 ≤ length (entries_of written_version c.args.branch.now) = omega (arith, more, rows, c.in_err-rows.ensures.beyond, c.loop-span.invariant.counted) in
    if_so _ (2 ^ 64 ≤ length (entries_of written_version c.args.branch.now)) many

pub returns-in_err-count-clause-beyond : goal.returns-in_err-count-clause-beyond
returns-in_err-count-clause-beyond t c =
    let span = span_of c.in-Some-2.span in
    let more = count_more span c.in-Some-2.below c.loop-span.span-iterator c.next.new.self (entries_onward written_version (rest_below c.args.branch.now)) c.in-Some-2.ensures.steps in
    let rows : c.in_ok-rows.rows ≡ branch_count span * length (entries_of written_version c.in-Some-2.below) = c.in_ok-rows.ensures.count ∙ ap (λ n. n * c.in_ok-each.each) c.branch_count.ensures ∙ ap (λ n. branch_count span * n) c.in_ok-each.ensures.count in
    let many : 2 ^ 64 ≤ length (entries_of written_version c.args.branch.now) = omega (arith, more, rows, c.in_err-count.ensures.beyond, c.loop-span.invariant.counted) in
    if_so _ (2 ^ 64 ≤ length (entries_of written_version c.args.branch.now)) many
