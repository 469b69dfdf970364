use Rattle.std.proofs.Common.{◌≤◌, ◌<ℤ◌, length, slice_index_or, pos, arith}
use Rattle.std.proofs.lemmas.Int.{ints}
use Rattle.cue_sets.specs.Pieces.{least}
use Rattle.cue_sets.specs.PieceLaws.{is_member-before_first}
use Rattle.cue_sets.proofs.pieces.run_from.Goals as goal

pub returns-in-len1-up-2-clause-alike : goal.returns-in-len1-up-2-clause-alike
returns-in-len1-up-2-clause-alike c =
    λ n low high.
    let some : 1 ≤ length c.args.rest.now = omega arith in
    let before : n <ℤ (slice_index_or c.args.rest.now 0 (pos 0, pos 0)).0 = omega (arith, ints) in
    is_member-before_first least c.args.rest.now (pos 0, pos 0) n c.requires.ascending some before
