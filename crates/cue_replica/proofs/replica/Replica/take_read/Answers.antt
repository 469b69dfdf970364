use Rattle.std.proofs.Common.{IfErr, IsErrOf, subst}
use Rattle.cue_lattice.specs.Refusal.{refusal_at}
use Rattle.cue_replica.proofs.Reading.{read_in_pieces, read_as_it_stands}
use Rattle.cue_replica.proofs.replica.Replica.take_read.Goals as goal

pub returns-clause-state : goal.returns-clause-state
returns-clause-state c bytes has =
    let e = c.finish.ensures in
    c.take_table.ensures.state bytes (read_in_pieces bytes c.args.reader c.finish.result has e.valid e.bytes e.refused)

pub returns-clause-ok : goal.returns-clause-ok
returns-clause-ok c bytes has =
    let e = c.finish.ensures in
    c.take_table.ensures.ok bytes (read_in_pieces bytes c.args.reader c.finish.result has e.valid e.bytes e.refused) has.1

pub returns-clause-refused : goal.returns-clause-refused
returns-clause-refused c bytes has =
    let e = c.finish.ensures in
    c.take_table.ensures.refused bytes (read_in_pieces bytes c.args.reader c.finish.result has e.valid e.bytes e.refused)

pub returns-clause-version : goal.returns-clause-version
returns-clause-version c bytes has =
    let e = c.finish.ensures in
    c.take_table.ensures.version bytes (read_in_pieces bytes c.args.reader c.finish.result has e.valid e.bytes e.refused)

pub returns-clause-fault : goal.returns-clause-fault
returns-clause-fault c kind stands =
    let e = c.finish.ensures in
    let is = read_as_it_stands c.args.reader kind c.finish.result stands e.bytes e.refused in
    subst (λ r. IfErr r (λ k. IsErrOf c.take_table.result (refusal_at k 0))) is c.take_table.ensures.none
