use Rattle.std.proofs.Common.{◌<◌, ◌^◌, length, sym, arith}
use Rattle.cue_replica.proofs.Reading.{read_at_once, reads_opening}
use Rattle.cue_replica.proofs.replica.Replica.take.Goals as goal

pub returns-clause-state : goal.returns-clause-state
returns-clause-state c =
    let e = c.decode-read.ensures in
    c.take_table.ensures.state c.args.bytes.now (read_at_once c.args.bytes.now c.decode-read.result e.valid e.bytes e.refused)

pub returns-clause-ok : goal.returns-clause-ok
returns-clause-ok c =
    let e = c.decode-read.ensures in
    let held : length c.args.bytes.now < 2 ^ 64 = omega arith in
    c.take_table.ensures.ok c.args.bytes.now (read_at_once c.args.bytes.now c.decode-read.result e.valid e.bytes e.refused) held

pub returns-clause-refused : goal.returns-clause-refused
returns-clause-refused c =
    let e = c.decode-read.ensures in
    c.take_table.ensures.refused c.args.bytes.now (read_at_once c.args.bytes.now c.decode-read.result e.valid e.bytes e.refused)

pub returns-clause-version : goal.returns-clause-version
returns-clause-version c =
    let e = c.decode-read.ensures in
    c.take_table.ensures.version c.args.bytes.now (read_at_once c.args.bytes.now c.decode-read.result e.valid e.bytes e.refused)

pub returns-clause-opening : goal.returns-clause-opening
returns-clause-opening c is =
    let e = c.decode-read.ensures in
    let bytes = c.args.bytes.now in
    let held : length bytes < 2 ^ 64 = omega arith in
    let reads = read_at_once bytes c.decode-read.result e.valid e.bytes e.refused in
    c.take_table.ensures.opening (reads_opening bytes c.decode-read.result held reads (e.opening is.0 (sym is.2)) is)
