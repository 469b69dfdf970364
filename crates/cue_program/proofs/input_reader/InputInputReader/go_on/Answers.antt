use Rattle.cue_program.proofs.SubmittedInputs.{ok_more}
use Rattle.cue_program.proofs.Pieces.{state_more, text_more}
use Rattle.cue_program.proofs.input_reader.InputInputReader.go_on.Goals as goal

pub returns-in-State-clause-kept : goal.returns-in-State-clause-kept
returns-in-State-clause-kept g c front some kept =
    let is = rw c.in-State.is at kept in
    ok_more c.feed.result c.feed.ensures.taken (λ more. state_more front c.args.piece.now c.in-State.reader c.feed.new.reader some is more)

pub returns-in-State-clause-fault : goal.returns-in-State-clause-fault
returns-in-State-clause-fault g c front some kept =
    let is = rw c.in-State.is at kept in
    c.feed.ensures.fault front is.1

pub returns-in-Text-clause-kept : goal.returns-in-Text-clause-kept
returns-in-Text-clause-kept g c front some kept =
    let is = rw c.in-Text.is at kept in
    ok_more c.go_on.result (c.go_on.ensures.kept front some is.1)
    (λ more. text_more g.K.InputReader.keeps front c.args.piece.now c.go_on.new.self some is.0 more)

pub returns-in-Text-clause-fault : goal.returns-in-Text-clause-fault
returns-in-Text-clause-fault g c front some kept =
    let is = rw c.in-Text.is at kept in
    c.go_on.ensures.fault front some is.1
