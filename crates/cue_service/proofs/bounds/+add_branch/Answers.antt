use Rattle.std.proofs.Common.{arith}
use Rattle.cue_table.specs.StepsOfCode.{span_of}
use Rattle.cue_table.proofs.Listing.{below_size}
use Rattle.cue_table.proofs.Spanned.{left_size}
use Rattle.cue_service.proofs.bounds.+add_branch.Goals as goal

pub add_branch-requires : goal.add_branch-requires
add_branch-requires t c =
    let size = left_size (span_of c.in-Some.span) c.in-Some.below c.loop-span.span-iterator c.next.new.self c.in-Some.ensures.steps in
    let less = below_size c.args.branch.now in
    (omega (arith, c.decreases, c.loop-span.invariant), tt)

pub loop-span-preserved : goal.loop-span-preserved
loop-span-preserved t c =
    let size = left_size (span_of c.in-Some.span) c.in-Some.below c.loop-span.span-iterator c.next.new.self c.in-Some.ensures.steps in
    omega (arith, c.loop-span.invariant)
