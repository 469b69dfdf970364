use Rattle.std.proofs.Common.{sym, arith}
use Rattle.std.proofs.lemmas.Option.{IfSome_then}
use Rattle.cue_table.specs.StepsOfCode.{step_at}
use Rattle.cue_table.specs.Tree.{rest_below}
use Rattle.cue_table.proofs.Listing.{left_size, below_size}
use Rattle.cue_codec.specs.Entry.{entries_onward, indexes_of}
use Rattle.cue_codec.proofs.ReadIndexes.{ends_more, ends_not_more, ends_rest, ends_not_rest, ends_end, none_then}
use Rattle.cue_codec.proofs.telling.+after_branch.Goals as goal

pub after_branch-requires : goal.after_branch-requires
after_branch-requires t c =
    let size = left_size (step_at c.in-Some-2.field-0-0) c.in-Some-2.below c.loop-below.below-iterator c.next.new.self c.in-Some-2.ensures.steps in
    let less = below_size c.args.branch.now in
    (omega (arith, c.decreases), tt)

pub returns-in_err-rest-clause-none : goal.returns-in_err-rest-clause-none
returns-in_err-rest-clause-none t c =
    rw c.from_residual-in_err-rest.ensures
    (ends_not_more c.args.version (step_at c.in-Some-2.field-0-0) c.in-Some-2.below c.loop-below.below-iterator c.next.new.self (entries_onward c.args.version (rest_below c.args.branch.now)) c.args.indexes.now (indexes_of c.args.version c.args.branch.now) c.loop-below.rest.now c.in-Some-2.ensures.steps c.loop-below.invariant.ends c.in_err-rest.ensures.none)

pub loop-below-preserved : goal.loop-below-preserved
loop-below-preserved t c =
    let size = left_size (step_at c.in-Some-2.field-0-0) c.in-Some-2.below c.loop-below.below-iterator c.next.new.self c.in-Some-2.ensures.steps in
    record {
      ends = ends_more c.args.version (step_at c.in-Some-2.field-0-0) c.in-Some-2.below c.loop-below.below-iterator c.next.new.self (entries_onward c.args.version (rest_below c.args.branch.now)) c.args.indexes.now (indexes_of c.args.version c.args.branch.now) c.loop-below.rest.now c.in_ok-rest.rest.now c.in-Some-2.ensures.steps c.loop-below.invariant.ends c.in_ok-rest.ensures.some;
      smaller = omega arith;
    }

pub returns-in-None-rest-clause-some : goal.returns-in-None-rest-clause-some
returns-in-None-rest-clause-some t c =
    ends_end c.args.version c.args.branch.now c.loop-below.below-iterator c.args.indexes.now (indexes_of c.args.version c.args.branch.now) c.loop-below.rest.now c.in-None-2.ensures.steps.0 (sym c.in-None-rest.ensures.rest) c.loop-below.invariant.ends

pub returns-in-Some-rest-clause-some : goal.returns-in-Some-rest-clause-some
returns-in-Some-rest-clause-some t c =
    IfSome_then c.after_branch-in-Some-rest.result c.after_branch-in-Some-rest.ensures.some
    (λ rest is. ends_rest c.args.version c.args.branch.now c.in-Some-rest.onward c.loop-below.below-iterator c.args.indexes.now (indexes_of c.args.version c.args.branch.now) c.loop-below.rest.now rest.now c.in-None-2.ensures.steps.0 (sym c.in-Some-rest.ensures.rest) c.loop-below.invariant.ends is)

pub returns-in-Some-rest-clause-none : goal.returns-in-Some-rest-clause-none
returns-in-Some-rest-clause-none t c =
    none_then c.after_branch-in-Some-rest.result
    (λ none. ends_not_rest c.args.version c.args.branch.now c.in-Some-rest.onward c.loop-below.below-iterator c.args.indexes.now (indexes_of c.args.version c.args.branch.now) c.loop-below.rest.now c.in-None-2.ensures.steps.0 (sym c.in-Some-rest.ensures.rest) c.loop-below.invariant.ends none) c.after_branch-in-Some-rest.ensures.none
