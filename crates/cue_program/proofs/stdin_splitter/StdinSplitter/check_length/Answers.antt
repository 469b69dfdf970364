use Rattle.std.proofs.Common.{arith, refl}
use Rattle.cue_program.proofs.Takings.{long_stops}
use Rattle.cue_program.proofs.stdin_splitter.StdinSplitter.check_length.Goals as goal

pub returns-clause-long : goal.returns-clause-long
returns-clause-long c bytes h plain =
    long_stops c.args.self.now bytes c.at-why.result c.saturating_add-2.result h plain
    (omega (arith, c.if-saturating_add.false, c.saturating_add.ensures, c.len.ensures, c.len-2.ensures))
    c.at-why.ensures c.saturating_add-2.ensures _ refl
