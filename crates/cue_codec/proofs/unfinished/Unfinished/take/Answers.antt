use Rattle.std.proofs.lemmas.Result.{IfOk-weaker}
use Rattle.cue_codec.specs.Inner.Pieces.{with_bytes}
use Rattle.cue_codec.proofs.ReadAgain.{put_read}
use Rattle.cue_codec.proofs.unfinished.Unfinished.take.Goals as goal

pub returns-clause-taken : goal.returns-clause-taken
returns-clause-taken c =
    IfOk-weaker c.read_again.result _ _
    (put_read c.args.rows.now (with_bytes c.read_again.new.rows c.read_again.new.self) c.args.self.now c.args.bytes.now c.put.new.self c.in_ok-len.len c.in_ok-len.ensures.few c.in_ok-len.ensures.put)
    c.read_again.ensures.read
