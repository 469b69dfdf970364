use Rattle.std.proofs.Common.{◌<ℤ◌, slice_index_or, pos, refl, arith}
use Rattle.std.proofs.lemmas.Int.{ints}
use Rattle.cue_sets.proofs.Ahead.{later_ahead}
use Rattle.cue_sets.proofs.pieces.skip_before.Goals as goal

pub returns-in-len1-up : goal.returns-in-len1-up
returns-in-len1-up c =
    let below : (slice_index_or c.args.rest.now 0 (pos 0, pos 0)).1 <ℤ c.args.from = omega (arith, ints) in
    let ahead = later_ahead c.args.from c.args.rest.now c.in-len1-up.len_at_least c.requires.ascending c.requires.ends below _ refl in
    record { ascending = ahead.0; ends = ahead.1; members = ahead.2 }
