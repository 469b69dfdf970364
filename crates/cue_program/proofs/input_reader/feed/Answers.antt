use Rattle.cue_program.proofs.Pieces.{memory_alone}
use Rattle.cue_program.proofs.input_reader.feed.Goals as goal

pub returns-in-Err-clause-fault : goal.returns-in-Err-clause-fault
returns-in-Err-clause-fault c bytes is = memory_alone bytes c.args.reader.now c.feed.new.self c.in-Err.kind is c.in-Err.ensures.err
