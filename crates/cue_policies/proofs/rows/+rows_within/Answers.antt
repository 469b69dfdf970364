use Rattle.std.proofs.Common.{◌≡◌, ◌+◌, ◌*◌, ◌<◌, arith, rules}
use Rattle.cue_table.specs.Spans.{more_in}
use Rattle.cue_table.specs.StepsOfCode.{span_of}
use Rattle.cue_table.proofs.Spanned.{left_size}
use Rattle.cue_table.proofs.ValidWalks.{below_smaller}
use Rattle.cue_policies.specs.Inner.Rows.{tree_rows}
use Rattle.cue_policies.proofs.Counting.{below_rows, left_rows}
use Rattle.cue_policies.proofs.rows.+rows_within.Goals as goal

pub rows_within-requires : goal.rows_within-requires
rows_within-requires t c =
    let size = left_size (span_of c.in-Some.span) c.in-Some.below c.loop-span.span-iterator c.next.new.self c.in-Some.ensures.steps in
    let less = below_smaller c.args.branch.now in
    (omega (arith, c.decreases), tt)

pub returns-in_err-one : goal.returns-in_err-one
returns-in_err-one t c =
    let rows = left_rows (span_of c.in-Some.span) c.in-Some.below c.loop-span.span-iterator c.next.new.self c.in-Some.ensures.steps in
    let all = below_rows c.args.branch.now in
    let more : c.args.most < tree_rows c.args.branch.now = omega (arith, c.loop-span.invariant.counted, c.loop-span.invariant.within, c.in_err-one.ensures, rows, all) in
    search rules

pub returns-in_err-rows-2 : goal.returns-in_err-rows-2
returns-in_err-rows-2 t c =
    let rows = left_rows (span_of c.in-Some.span) c.in-Some.below c.loop-span.span-iterator c.next.new.self c.in-Some.ensures.steps in
    let all = below_rows c.args.branch.now in
    let product : c.in_ok-one.one * c.span_count.result ≡ tree_rows c.in-Some.below * (more_in (span_of c.in-Some.span) + 1) = λ i. c.in_ok-one.ensures.0 i * c.span_count.ensures i in
    let more : c.args.most < tree_rows c.args.branch.now = omega (arith, c.loop-span.invariant.counted, c.in_err-rows-2.ensures, rows, all, product) in
    search rules

pub loop-span-preserved : goal.loop-span-preserved
loop-span-preserved t c =
    let rows = left_rows (span_of c.in-Some.span) c.in-Some.below c.loop-span.span-iterator c.next.new.self c.in-Some.ensures.steps in
    let size = left_size (span_of c.in-Some.span) c.in-Some.below c.loop-span.span-iterator c.next.new.self c.in-Some.ensures.steps in
    let product : c.in_ok-one.one * c.span_count.result ≡ tree_rows c.in-Some.below * (more_in (span_of c.in-Some.span) + 1) = λ i. c.in_ok-one.ensures.0 i * c.span_count.ensures i in
    record {
      counted = omega (arith, c.loop-span.invariant.counted, rows, product, c.in_ok-rows-2.ensures.0);
      within = c.in_ok-rows-2.ensures.1;
      smaller = omega (arith, size, c.loop-span.invariant.smaller);
    }
