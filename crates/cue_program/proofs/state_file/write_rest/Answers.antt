use Rattle.std.proofs.Common.{◌≤◌, [], ℕ, List, length, take, true, arith, refl, subst}
use Rattle.cue_program.specs.Calls.{wrote}
use Rattle.cue_program.proofs.Calls.{writes_none, writes_touch, written_on, wrote_part}
use Rattle.cue_program.proofs.Pieces.{filled_front}
use Rattle.cue_program.proofs.state_file.write_rest.Goals as goal

pub pieces-init : goal.pieces-init
pieces-init g c = record {
  room = c.requires;
  written = ([], refl, (0, writes_none g.S.FileSystem.makes c.args.file.now c.args.shelf.now));
}

pub returns-in_err-count-clause-touched : goal.returns-in_err-count-clause-touched
returns-in_err-count-clause-touched g c place =
    let w = c.pieces.invariant.written in
    (w.2.0, writes_touch g.S.FileSystem.makes place w.2.0 w.0 c.args.file.now c.pieces.file c.args.shelf.now c.pieces.shelf w.2.1)

pub returns-then-count-eq0-clause-touched : goal.returns-then-count-eq0-clause-touched
returns-then-count-eq0-clause-touched g c place =
    let w = c.pieces.invariant.written in
    (w.2.0, writes_touch g.S.FileSystem.makes place w.2.0 w.0 c.args.file.now c.pieces.file c.args.shelf.now c.pieces.shelf w.2.1)

pub pieces-preserved : goal.pieces-preserved
pieces-preserved g c =
    let makes = g.S.FileSystem.makes in
    let count = c.in_ok-count.count in
    let filled = c.in_ok-count.ensures.ok in
    let less : count ≤ length c.pieces.state = omega (arith, filled.counted) in
    let front = filled_front c.pieces.state c.pieces.piece c.fill.new.room count less filled.written in
    record {
      room = omega (arith, c.fill.auto.room, c.pieces.invariant.room);
      written = written_on makes c.args.state.now c.pieces.state c.fill.new.self count c.args.file.now c.pieces.file c.write.new.file
          c.args.shelf.now c.pieces.shelf c.write.new.self c.pieces.invariant.written filled.rest
          (subst (λ (t : List ℕ). makes c.pieces.shelf (wrote c.pieces.file t c.write.new.file true) c.write.new.self) front c.in_ok-write.ensures);
    }

pub returns-in_err-write-clause-touched : goal.returns-in_err-write-clause-touched
returns-in_err-write-clause-touched g c place =
    let w = c.pieces.invariant.written in
    wrote_part g.S.FileSystem.makes place w.0 (take c.in_ok-count.count c.fill.new.room) c.args.file.now c.pieces.file c.write.new.file c.args.shelf.now c.pieces.shelf c.write.new.self
    w.2 c.in_err-write.ensures
