use Rattle.std.proofs.Common.{string_bytes}
use Rattle.cue_service.proofs.Parts.{grown_if}
use Rattle.cue_service.proofs.markup.add_text.Goals as goal

pub returns-in-Ok : goal.returns-in-Ok
returns-in-Ok c = grown_if c.add_escaped.result (string_bytes c.args.page.now) (string_bytes c.add_escaped.new.page) c.in-Ok.text.now c.add_escaped.ensures
