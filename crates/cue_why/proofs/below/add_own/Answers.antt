use Rattle.std.proofs.Common.{sym}
use Rattle.cue_row.specs.Steps.{step_of}
use Rattle.cue_why.proofs.Parts.{own_some}
use Rattle.cue_why.proofs.below.add_own.Goals as goal

pub returns-in_ok-push-in-Some : goal.returns-in_ok-push-in-Some
returns-in_ok-push-in-Some c =
    own_some c.args.found.now.items c.push.new.self.items c.args.part.now (step_of c.args.step.now) c.in_ok-written-in-Some.written c.in-Some.branch c.in_ok-written-in-Some.ensures
    (sym c.in-Some.ensures.branch) c.in_ok-push-in-Some.ensures.items
