use Rattle.std.proofs.Common.{◌<◌, length, ⊎_elim, ap, arith}
use Rattle.cue_layers.proofs.LeavingOut.{part_of_part, none_can}
use Rattle.cue_layers.proofs.least.leave_out_each.Goals as goal

pub places-preserved : goal.places-preserved
places-preserved c =
    let round = c.in_ok-kept.ensures in
    let few = c.places.invariant.part.few in
    let fewer : length c.in_ok-kept.kept.items < length c.places.kept.items = ⊎_elim
    (λ less. less)
    (λ same. absurd (let alike = ap length same.0 in omega (arith, alike, c.if-len-before.false, c.len-before.ensures, c.len-in-places.ensures)))
    round.left in
    record {
      part = part_of_part c.args.limit c.args.layers.items c.places.kept.items c.in_ok-kept.kept.items c.places.invariant.part round.part;
      within = round.within;
      least = λ one same. absurd (omega (arith, same, fewer, few));
    }

pub returns : goal.returns
returns c = record {
  kept = record {
    part = c.places.invariant.part;
    least = λ one same. none_can c.args.limit c.places.kept.items (λ i less. c.places.invariant.least one same i (omega (arith, less, c.places-test.false, c.len.ensures)));
  };
}
