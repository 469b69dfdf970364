use Rattle.std.proofs.Common.{ap, ◌∙◌, arith}
use Rattle.std.proofs.lemmas.Int.{ints}
use Rattle.cue_sets.specs.Pieces.{is_member}
use Rattle.cue_sets.proofs.LeftOut.{member_put_ends}
use Rattle.cue_sets.proofs.gaps.put_before.Goals as goal

pub returns-in_ok-push-clause-members : goal.returns-in_ok-push-clause-members
returns-in_ok-push-clause-members c = λ n.
    ap (λ pieces. is_member pieces n) c.in_ok-push.ensures.items
    ∙ member_put_ends c.args.gaps.now.items _ _ _ _ n (omega (arith, ints)) (omega (arith, ints))
