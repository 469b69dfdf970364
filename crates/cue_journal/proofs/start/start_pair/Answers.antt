use Rattle.std.proofs.Common.{IsTrue, subst, arith}
use Rattle.cue_journal.proofs.Starts.{started_so}
use Rattle.cue_journal.proofs.start.start_pair.Goals as goal

pub returns-then-one-other : goal.returns-then-one-other
returns-then-one-other g c = λ spare growing.
    let one = c.in-Ok.ensures (subst (λ d. IsTrue (g.D.Disk.is_clean d)) c.pair_of.ensures.growing growing) in
    let other = c.in-Ok-read_disk.ensures (subst (λ d. IsTrue (g.D.Disk.is_clean d)) c.pair_of.ensures.spare spare) in
    started_so g.D.Disk.seen g.D.Disk.may_leave c.args.second c.args.first c.pair_of.result.files _ _ (c.pair_of.ensures.started (omega (arith, c.if-one-other.true)) c.args.first c.args.second one other)

pub returns : goal.returns
returns g c = λ spare growing.
    let one = c.in-Ok.ensures (subst (λ d. IsTrue (g.D.Disk.is_clean d)) c.pair_of-2.ensures.spare spare) in
    let other = c.in-Ok-read_disk.ensures (subst (λ d. IsTrue (g.D.Disk.is_clean d)) c.pair_of-2.ensures.growing growing) in
    c.pair_of-2.ensures.started (omega (arith, c.if-one-other.false)) c.args.second c.args.first other one
