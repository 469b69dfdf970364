use Rattle.std.proofs.Common.{[]}
use Rattle.cue_program.proofs.Calls.{writes_more, writes_none, writes_touch, wrote_part}
use Rattle.cue_program.proofs.state_file.write_bytes.Goals as goal

pub returns-in_err-write-clause-touched : goal.returns-in_err-write-clause-touched
returns-in_err-write-clause-touched g c place =
    let makes = g.S.FileSystem.makes in
    wrote_part makes place [] c.args.bytes.now c.args.file.now c.args.file.now c.write.new.file c.args.shelf.now c.args.shelf.now c.write.new.self
    (0, writes_none makes c.args.file.now c.args.shelf.now) c.in_err-write.ensures

pub returns-clause-written : goal.returns-clause-written
returns-clause-written g c =
    let makes = g.S.FileSystem.makes in
    writes_more makes [] c.args.bytes.now c.args.file.now c.args.file.now c.write.new.file c.args.shelf.now c.args.shelf.now c.write.new.self
    (0, writes_none makes c.args.file.now c.args.shelf.now) c.in_ok-write.ensures

pub returns-clause-touched : goal.returns-clause-touched
returns-clause-touched g c place =
    let makes = g.S.FileSystem.makes in
    let w = writes_more makes [] c.args.bytes.now c.args.file.now c.args.file.now c.write.new.file c.args.shelf.now c.args.shelf.now c.write.new.self
    (0, writes_none makes c.args.file.now c.args.shelf.now) c.in_ok-write.ensures in
    (w.0, writes_touch makes place w.0 c.args.bytes.now c.args.file.now c.write.new.file c.args.shelf.now c.write.new.self w.1)
