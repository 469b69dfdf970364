use Rattle.cue_service.proofs.Bounded.{begun_at}
use Rattle.cue_service.proofs.limits.AnswerFrontTextSink.put.Goals as goal

pub returns-clause-begun : goal.returns-clause-begun
returns-clause-begun c =
    begun_at c.args.self.now.bytes.items c.add-2.new.self.bytes.items c.as_bytes-bytes.result.now c.args.piece.now _ c.as_bytes-bytes.ensures.value c.in_ok-add.ensures.ok
