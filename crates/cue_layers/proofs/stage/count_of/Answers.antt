use Rattle.std.proofs.Common.{◌≡◌, length, arith}
use Rattle.cue_layers.proofs.Heads.{whole_count}
use Rattle.cue_layers.proofs.stage.count_of.Goals as goal

pub returns-clause-some : goal.returns-clause-some
returns-clause-some c =
    let cut = c.in_ok-number.ensures.cases in
    let long : length c.args.bytes.now ≡ 8 = omega (arith, c.requires, cut.2) in
    whole_count c.args.bytes.now c.in_ok-number.number.now c.from_be_bytes.result (λ i. omega (arith, c.type_inv.bytes i)) long cut.0 c.from_be_bytes.ensures
