use Rattle.std.proofs.Common.{refl, sym, subst, arith}
use Rattle.cue_table.specs.StepsOfCode.{span_of}
use Rattle.cue_table.specs.Inner.ValidWalk.{HasChild}
use Rattle.cue_table.specs.Tree.{row_of, below}
use Rattle.cue_table.proofs.Spanned.{left_size, sound_more, sound_first, sound_all}
use Rattle.cue_table.proofs.ValidWalks.{below_smaller, sound_parts, sound_whole, no_rest_sound, rest_sound}
use Rattle.cue_table.proofs.valid.+is_sound.Goals as goal

pub returns-then-not-has_child : goal.returns-then-not-has_child
returns-then-not-has_child t c = (
  λ no. absurd (cc),
  λ h. let parts = sound_parts c.args.branch.now c.in-Some.row.now (sym c.in-Some.ensures.row) h in
      let here = sound_first c.in-Some.row.now (below c.args.branch.now) c.loop-span.span-iterator c.next.new.self (span_of c.in-Some-2.span) c.in-Some-2.below c.in-Some-2.ensures.steps c.loop-span.invariant.left parts.children in
      let yes = c.has_child.ensures.1 (subst (λ s. HasChild c.in-Some.row.now s (row_of c.in-Some-2.below)) (sym c.first.ensures) here.0) in
      cc,
)

pub is_sound-requires : goal.is_sound-requires
is_sound-requires t c =
    let size = left_size (span_of c.in-Some-2.span) c.in-Some-2.below c.loop-span.span-iterator c.next.new.self c.in-Some-2.ensures.steps in
    let less = below_smaller c.args.branch.now in
    (omega (arith, c.decreases), tt)

pub returns-then-not-is_sound : goal.returns-then-not-is_sound
returns-then-not-is_sound t c = (
  λ no. absurd (cc),
  λ h. let parts = sound_parts c.args.branch.now c.in-Some.row.now (sym c.in-Some.ensures.row) h in
      let here = sound_first c.in-Some.row.now (below c.args.branch.now) c.loop-span.span-iterator c.next.new.self (span_of c.in-Some-2.span) c.in-Some-2.below c.in-Some-2.ensures.steps c.loop-span.invariant.left parts.children in
      let yes = c.is_sound.ensures.1 here.1 in
      cc,
)

pub loop-span-preserved : goal.loop-span-preserved
loop-span-preserved t c =
    let size = left_size (span_of c.in-Some-2.span) c.in-Some-2.below c.loop-span.span-iterator c.next.new.self c.in-Some-2.ensures.steps in
    let below_is = c.is_sound.ensures.0 in
    let child_is = c.has_child.ensures.0 in
    record {
      left = sound_more c.in-Some.row.now (below c.args.branch.now) c.loop-span.span-iterator c.next.new.self (span_of c.in-Some-2.span) c.in-Some-2.below c.in-Some-2.ensures.steps c.loop-span.invariant.left (subst (λ s. HasChild c.in-Some.row.now s (row_of c.in-Some-2.below)) c.first.ensures (child_is (cc))) (below_is (cc));
      smaller = omega arith;
    }

pub returns-in-None-rest : goal.returns-in-None-rest
returns-in-None-rest t c = (
  λ yes. sound_whole c.args.branch.now c.in-Some.row.now (sym c.in-Some.ensures.row) (record {
    valid = let good = c.is_valid.ensures.0 in good (cc);
    fixed = omega (arith, c.fixed.ensures.fixed, c.from.ensures, c.if-fixed-from.false);
    children = sound_all c.in-Some.row.now (below c.args.branch.now) c.loop-span.span-iterator c.in-None.ensures.steps.0 c.loop-span.invariant.left;
    rest = no_rest_sound c.in-Some.row.now c.args.branch.now (sym c.in-None-rest.ensures.rest);
  }),
  λ h. refl,
)

pub returns-then-has_element : goal.returns-then-has_element
returns-then-has_element t c =
    let rest = rest_sound c.in-Some.row.now c.args.branch.now c.in-Some-rest.rest (sym c.in-Some-rest.ensures.rest) in (
      λ yes. sound_whole c.args.branch.now c.in-Some.row.now (sym c.in-Some.ensures.row) (record {
        valid = let good = c.is_valid.ensures.0 in good (cc);
        fixed = omega (arith, c.fixed.ensures.fixed, c.from.ensures, c.if-fixed-from.false);
        children = sound_all c.in-Some.row.now (below c.args.branch.now) c.loop-span.span-iterator c.in-None.ensures.steps.0 c.loop-span.invariant.left;
        rest = rest.0 (c.has_element.ensures.0 c.if-has_element.true, c.is_sound-then-has_element.ensures.0 yes);
      }),
      λ h. let parts = sound_parts c.args.branch.now c.in-Some.row.now (sym c.in-Some.ensures.row) h in
          c.is_sound-then-has_element.ensures.1 (rest.1 parts.rest).1,
    )
