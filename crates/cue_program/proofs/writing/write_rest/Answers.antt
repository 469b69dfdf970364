use Rattle.std.proofs.Common.{◌≡◌, ◌≤◌, ℕ, List, arith, length, refl, subst, take}
use Rattle.std.proofs.lemmas.Result.{err_from_is_err_and}
use Rattle.std.specs.Io.KnownBytes.{Appends}
use Rattle.cue_program.specs.declared.stop.RunError.TheVariants.{Device}
use Rattle.cue_program.proofs.Pieces.{filled_front, told_more, untold_at_piece}
use Rattle.cue_program.proofs.writing.write_rest.Goals as goal

pub pieces-preserved : goal.pieces-preserved
pieces-preserved g c =
    let contents = g.W.Write.contents in
    let count = c.in_ok-count.count in
    let filled = c.in_ok-count.ensures.ok in
    let less : count ≤ length c.pieces.state = omega (arith, filled.counted) in
    record {
      room = omega (arith, c.fill.auto.room, c.pieces.invariant.room);
      told = told_more (contents c.args.out.now.inner) (contents c.pieces.out.inner) (contents c.write_all.new.self.inner) c.args.state.now c.pieces.state c.fill.new.self count
          c.pieces.invariant.told filled.rest
          (subst (λ (t : List ℕ). Appends (contents c.pieces.out.inner) (contents c.write_all.new.self.inner) t)
          (filled_front c.pieces.state c.pieces.piece c.fill.new.room count less filled.written) c.in_ok-write_all.ensures.told);
    }

pub returns-in_err-write_all-clause-untold : goal.returns-in_err-write_all-clause-untold
returns-in_err-write_all-clause-untold g c =
    let count = c.in_ok-count.count in
    let filled = c.in_ok-count.ensures.ok in
    let less : count ≤ length c.pieces.state = omega (arith, filled.counted) in
    let same : take count c.fill.new.room ≡ take count c.pieces.state = filled_front c.pieces.state c.pieces.piece c.fill.new.room count less filled.written in
    let p = err_from_is_err_and c.from_residual-in_err-write_all.result c.from_residual-in_err-write_all.ensures.1 in
    rw (p.1, p.2) (untold_at_piece g.W.Write.contents c.args.out.now c.pieces.out c.write_all.new.self c.args.state.now c.pieces.state c.fill.new.room count Device
    c.pieces.invariant.told c.in_err-write_all.ensures.broken same refl)
