use Rattle.std.proofs.Common.{string_bytes}
use Rattle.cue_service.proofs.Parts.{grown_by_markup}
use Rattle.cue_service.proofs.markup.add_markup.Goals as goal

pub returns : goal.returns
returns c = grown_by_markup (string_bytes c.args.page.now) (string_bytes c.push_str.new.self) c.text.result.now c.text.ensures c.in_ok-push_str.ensures.bytes
