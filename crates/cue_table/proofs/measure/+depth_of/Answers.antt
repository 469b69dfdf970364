use Rattle.std.proofs.Common.{sym, ◌∙◌, arith}
use Rattle.cue_table.specs.StepsOfCode.{span_of}
use Rattle.cue_table.proofs.Listing.{below_size, below_depth, rest_depth_none, rest_depth_some}
use Rattle.cue_table.proofs.Spanned.{left_size, left_depth, none_left}
use Rattle.cue_table.proofs.measure.+depth_of.Goals as goal

pub depth_of-requires : goal.depth_of-requires
depth_of-requires g t c =
    let deep = left_depth (span_of c.in-Some.field-0-0) c.in-Some.below c.loop-below.below-iterator c.next.new.self c.in-Some.ensures.steps in
    let size = left_size (span_of c.in-Some.field-0-0) c.in-Some.below c.loop-below.below-iterator c.next.new.self c.in-Some.ensures.steps in
    let all = below_depth c.args.branch.now in
    let less = below_size c.args.branch.now in
    λ κs incl. (omega (arith, c.decreases), (incl.0, (incl.1, omega (arith, c.loop-below.invariant.deepest))))

pub loop-below-preserved : goal.loop-below-preserved
loop-below-preserved g t c =
    let deep = left_depth (span_of c.in-Some.field-0-0) c.in-Some.below c.loop-below.below-iterator c.next.new.self c.in-Some.ensures.steps in
    let size = left_size (span_of c.in-Some.field-0-0) c.in-Some.below c.loop-below.below-iterator c.next.new.self c.in-Some.ensures.steps in
    record { deepest = omega (arith, c.loop-below.invariant.deepest); smaller = omega arith }

pub overflow_add-depth_of : goal.overflow_add-depth_of
overflow_add-depth_of g t c =
    let deep = left_depth (span_of c.in-Some.field-0-0) c.in-Some.below c.loop-below.below-iterator c.next.new.self c.in-Some.ensures.steps in
    let all = below_depth c.args.branch.now in
    omega (arith, c.loop-below.invariant.deepest, c.depth_of.ensures, c.requires)

pub returns-in-None-rest : goal.returns-in-None-rest
returns-in-None-rest g t c =
    let none = none_left c.loop-below.below-iterator c.in-None.ensures.steps.0 in
    let rest = rest_depth_none c.args.branch.now (sym c.rest.ensures.rest ∙ c.in-None-rest.is) in
    let all = below_depth c.args.branch.now in
    omega (arith, c.loop-below.invariant.deepest)

pub returns-in-Some-rest : goal.returns-in-Some-rest
returns-in-Some-rest g t c =
    let none = none_left c.loop-below.below-iterator c.in-None.ensures.steps.0 in
    let rest = rest_depth_some c.args.branch.now _ (sym c.rest.ensures.rest ∙ c.in-Some-rest.is) in
    let all = below_depth c.args.branch.now in
    omega (arith, c.loop-below.invariant.deepest, c.max.ensures)
