use Rattle.cue_layers.proofs.ReadMaps.{utf8_name}
use Rattle.cue_layers.proofs.reading.name_of.Goals as goal

pub returns-in-Err-clause-none : goal.returns-in-Err-clause-none
returns-in-Err-clause-none c may = c.in-Err.ensures.cases.0 (utf8_name c.args.parts.kind c.args.parts.name.now c.args.parts.revision may)
