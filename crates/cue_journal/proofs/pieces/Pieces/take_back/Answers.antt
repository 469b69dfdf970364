use Rattle.std.proofs.Common.{arith}
use Rattle.cue_journal.proofs.Sound.{last_size, sound_without_last}
use Rattle.cue_journal.proofs.pieces.Pieces.take_back.Goals as goal

pub overflow_sub-self : goal.overflow_sub-self
overflow_sub-self c = omega (arith, last_size c.self.inside.given_up c.self.inside.size c.self.inside.kept.items c.pop_back.new.self.items c.in-Some.last c.self.invariant c.in-Some.ensures.items)

pub invariant_of-self : goal.invariant_of-self
invariant_of-self c = sound_without_last c.self.inside.given_up c.self.inside.size _ c.self.inside.kept.items c.pop_back.new.self.items c.in-Some.last c.self.invariant c.in-Some.ensures.items (omega arith)

pub invariant_of-self-in-Some-2 : goal.invariant_of-self-in-Some-2
invariant_of-self-in-Some-2 c = sound_without_last c.self.inside.given_up c.self.inside.size _ c.self.inside.kept.items c.pop_back.new.self.items c.in-Some.last c.self.invariant c.in-Some.ensures.items (omega arith)
