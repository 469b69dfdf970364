use Rattle.cue_wire.specs.Inner.Pages.{page_bytes}
use Rattle.cue_wire.proofs.Pages.{begun_at}
use Rattle.cue_wire.proofs.page.PageTextSink.put.Goals as goal

pub returns-clause-begun : goal.returns-clause-begun
returns-clause-begun c =
    begun_at (page_bytes c.args.self.now) (page_bytes c.add-2.new.self) c.as_bytes-bytes.result.now c.args.piece.now _ c.as_bytes-bytes.ensures.value c.in_ok-add-2.ensures.ok
