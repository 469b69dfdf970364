use Rattle.std.proofs.Common.{inr}
use Rattle.cue_program.proofs.Takings.{refused_whole}
use Rattle.cue_program.proofs.stdin_splitter.Texts.finish.Goals as goal

pub returns-in-Some-clause-stop : goal.returns-in-Some-clause-stop
returns-in-Some-clause-stop c bytes h =
    let is = rw c.in-Some.is at h in
    inr (refused_whole bytes c.in-Some.stop is)
