use Rattle.std.proofs.Common.{arith}
use Rattle.cue_codec.proofs.Numbers.{count_again}
use Rattle.cue_codec.proofs.sets.after_count.Goals as goal

pub returns : goal.returns
returns c =
    count_again c.args.bytes.now c.in_ok-tag.rest.now c.in_ok-found.rest.now c.in_ok-tag.tag.now c.in_ok-found.found c.args.count (λ i. omega (arith, c.type_inv.bytes i)) c.in_ok-tag.ensures.cases.0 (omega (arith, c.if-tag-ne0.false)) c.in_ok-found.ensures (omega (arith, c.if-found-count.false))
