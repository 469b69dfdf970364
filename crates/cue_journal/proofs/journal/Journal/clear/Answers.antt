use Rattle.std.proofs.Common.{refl, inl, arith}
use Rattle.cue_journal.proofs.Clearing.{nothing_counts}
use Rattle.cue_journal.proofs.Files.{settled_sound, entries_left}
use Rattle.cue_journal.proofs.journal.Journal.clear.Goals as goal

pub returns-in_err-close_first-clause-crash : goal.returns-in_err-close_first-clause-crash
returns-in_err-close_first-clause-crash g c = λ ready k left. c.close_first.ensures.crash c.args.self.now.end ready.settled (omega arith) k left

pub returns-clause-cleared : goal.returns-clause-cleared
returns-clause-cleared g c = λ ready.
    let done = c.in_ok-close_first.ensures.ok c.args.self.now.end ready.settled (omega arith) in
    (record { settled = done.0; open_still = refl }, done.1)

pub returns-clause-crash : goal.returns-clause-crash
returns-clause-crash g c = λ ready k left. c.close_first.ensures.crash c.args.self.now.end ready.settled (omega arith) k left

pub returns-then-not-was_open-clause-sound : goal.returns-then-not-was_open-clause-sound
returns-then-not-was_open-clause-sound g c = λ ready. settled_sound _ _ _ ready.settled

pub returns-then-self-clause-cleared : goal.returns-then-self-clause-cleared
returns-then-self-clause-cleared g c = λ ready. (record { settled = ready.settled; open_still = refl }, nothing_counts _ _ _ ready.settled (omega (arith, c.if-self.true)))

pub returns-then-self-clause-sound : goal.returns-then-self-clause-sound
returns-then-self-clause-sound g c = λ ready. settled_sound _ _ _ ready.settled

pub returns-in_err-close_first-clause-sound : goal.returns-in_err-close_first-clause-sound
returns-in_err-close_first-clause-sound g c = λ ready. c.close_first.ensures.sound c.args.self.now.end ready.settled (omega (arith, c.if-self.false))

pub returns-clause-sound : goal.returns-clause-sound
returns-clause-sound g c = λ ready. c.close_first.ensures.sound c.args.self.now.end ready.settled (omega (arith, c.if-self.false))

pub returns-then-not-was_open-clause-crash : goal.returns-then-not-was_open-clause-crash
returns-then-not-was_open-clause-crash g c = λ ready k left. inl (entries_left _ _ _ ready.settled k left)

pub returns-then-self-clause-crash : goal.returns-then-self-clause-crash
returns-then-self-clause-crash g c = λ ready k left. inl (entries_left _ _ _ ready.settled k left)
