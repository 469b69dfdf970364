use Rattle.std.proofs.Common.{arith, refl}
use Rattle.cue_journal.proofs.Sound.{one_given_up_beyond, sound_without_first}
use Rattle.cue_journal.proofs.pieces.Pieces.shrink_to.Goals as goal

pub loop-self-preserved-in-Some : goal.loop-self-preserved-in-Some
loop-self-preserved-in-Some c = (
  one_given_up_beyond c.args.most _ _ _ _ c.loop-self.self-inside.size c.loop-self.self-inside.kept.items c.pop_front.new.self.items _ c.loop-self.invariant.0 c.loop-self.invariant.1 (omega (arith, c.loop-self-test.true)) c.in-Some.ensures.items refl,
  sound_without_first _ _ _ c.loop-self.self-inside.kept.items c.pop_front.new.self.items _ c.loop-self.invariant.1 c.in-Some.ensures.items (omega (arith, c.len.ensures.value)),
)

pub loop-self-preserved : goal.loop-self-preserved
loop-self-preserved c = (
  one_given_up_beyond c.args.most _ _ _ _ c.loop-self.self-inside.size c.loop-self.self-inside.kept.items c.pop_front.new.self.items _ c.loop-self.invariant.0 c.loop-self.invariant.1 (omega (arith, c.loop-self-test.true)) c.in-Some.ensures.items refl,
  sound_without_first _ _ _ c.loop-self.self-inside.kept.items c.pop_front.new.self.items _ c.loop-self.invariant.1 c.in-Some.ensures.items (omega (arith, c.len.ensures.value)),
)
