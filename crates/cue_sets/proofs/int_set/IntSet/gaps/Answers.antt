use Rattle.std.proofs.Common.{◌≡◌, ◌||◌, ℤ, ap, ◌∙◌, rules}
use Rattle.cue_sets.specs.Pieces.{is_member}
use Rattle.cue_sets.specs.Inner.Gaps.{pieces_lack}
use Rattle.cue_sets.proofs.LeftOut.{gaps_more}
use Rattle.cue_sets.proofs.int_set.IntSet.gaps.Goals as goal

pub loop-set-preserved : goal.loop-set-preserved
loop-set-preserved c =
    let gaps = c.loop-set.gaps.items in
    let set = c.set-item.result in
    let same : (n : ℤ) → is_member c.put_gaps.new.gaps.items n ≡ (is_member gaps n || pieces_lack set n) =
    λ n. c.in_ok-put_gaps.ensures.members n ∙ ap (λ pieces. is_member gaps n || pieces_lack pieces n) c.pieces.ensures.list in
    record {
      pieces = c.in_ok-put_gaps.ensures.pieces;
      members = λ n. gaps_more c.put_gaps.new.gaps.items gaps set c.args.sets.now c.loop-set.set-index n (search rules) c.set-item.is (same n) (c.loop-set.invariant.members n);
    }
