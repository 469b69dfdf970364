use Rattle.std.proofs.Common.{◌+◌, ◌*◌, ◌∙◌, sym, ap, arith}
use Rattle.cue_table.specs.Spans.{branches_of_spans}
use Rattle.cue_table.specs.StepsOfCode.{span_of}
use Rattle.cue_table.specs.Tree.{rest_below}
use Rattle.cue_table.proofs.Listing.{below_size}
use Rattle.cue_table.proofs.Spanned.{left_size}
use Rattle.cue_codec.specs.Entry.{at, entries_onward}
use Rattle.cue_codec.specs.Parts.{step_bytes}
use Rattle.cue_codec.specs.Size.{at_most_64_bits, size_of}
use Rattle.cue_codec.specs.Version.{written_version}
use Rattle.cue_codec.proofs.Lengths.{size_begin, size_begin_below, size_more, size_rest, size_no_rest}
use Rattle.cue_codec.proofs.WrittenRows.{no_branch}
use Rattle.cue_codec.proofs.sizes.+rows_size.Goals.{in-None, in-Some}
use Rattle.cue_codec.proofs.sizes.+rows_size.Goals as goal

pub loop-span-init : goal.loop-span-init
loop-span-init t c = record {
  counted = rw (c.into_iter-span-iterator.ensures.into_iter_gives, c.spans-span-items.ensures.list)
      (elim c.match-row.branch [
        | in-None w ↦ λ depth bytes e. rw w.size-is (size_begin_below depth bytes c.args.branch.now (sym w.in-None.ensures.row))
        | in-Some w ↦ λ depth bytes e.
            let size = w.size-is ∙ w.add-size.ensures ∙ ap (λ n. at_most_64_bits (n + w.parts_size.result)) w.add.ensures in
            size_begin depth bytes c.args.branch.now w.in-Some.row.now c.args.steps w.parts_size.result c.match-row.size (sym w.in-Some.ensures.row) e w.parts_size.ensures size
      ]);
  fits = elim c.match-row.branch [
    | in-None w ↦ omega (arith, w.size-is)
    | in-Some w ↦ omega (arith, w.size-is, w.add-size.ensures)
  ];
  smaller = rw (c.into_iter-span-iterator.ensures.into_iter_gives, c.spans-span-items.ensures.list) (omega arith);
}

pub rows_size-one-requires : goal.rows_size-one-requires
rows_size-one-requires t c =
    let size = left_size (span_of c.in-Some-2.span) c.in-Some-2.below c.loop-span.span-iterator c.next.new.self c.in-Some-2.ensures.steps in
    let less = below_size c.args.branch.now in
    (omega (arith, c.decreases), tt)

pub loop-span-preserved : goal.loop-span-preserved
loop-span-preserved t c =
    let span = span_of c.in-Some-2.span in
    let size = left_size span c.in-Some-2.below c.loop-span.span-iterator c.next.new.self c.in-Some-2.ensures.steps in
    let first = c.step_size.ensures ∙ ap (λ step. size_of (step_bytes written_version (at step))) c.first.ensures in
    let these = c.saturating_mul.ensures ∙ ap (λ n. at_most_64_bits (n * c.rows_size-one.result)) c.branch_count.ensures in
    record {
      counted = λ depth bytes e.
          rw (c.add-size-in-loop-span.ensures, these)
          (size_more depth bytes span c.in-Some-2.below c.loop-span.span-iterator c.next.new.self (entries_onward written_version (rest_below c.args.branch.now)) c.args.steps c.step_size.result c.loop-span.size c.rows_size-one.result _ c.in-Some-2.ensures.steps e first
          (λ d b k. c.rows_size-one.ensures d b (c.add-in-loop-span.ensures ∙ k)) (c.loop-span.invariant.counted depth bytes e));
      fits = omega arith;
      smaller = omega arith;
    }

pub returns-in-None-rest : goal.returns-in-None-rest
returns-in-None-rest t c = λ depth bytes e.
    size_no_rest depth bytes c.args.branch.now (branches_of_spans c.loop-span.span-iterator) _ _ (no_branch c.loop-span.span-iterator c.in-None-2.ensures.steps.0) (sym c.in-None-rest.ensures.rest) c.loop-span.invariant.fits (c.loop-span.invariant.counted depth bytes e)

pub returns-in-Some-rest : goal.returns-in-Some-rest
returns-in-Some-rest t c = λ depth bytes e.
    rw c.add-in-Some-rest-2.ensures
    (size_rest depth bytes c.args.branch.now c.in-Some-rest.rest (branches_of_spans c.loop-span.span-iterator) c.args.steps c.loop-span.size c.rows_size.result _ (no_branch c.loop-span.span-iterator c.in-None-2.ensures.steps.0) (sym c.in-Some-rest.ensures.rest) e
    (λ d b k. c.rows_size.ensures d b (c.add-in-Some-rest.ensures ∙ k)) (c.loop-span.invariant.counted depth bytes e))
