use Rattle.std.proofs.Common.{◌*◌, ◌≤◌, arith}
use Rattle.std.specs.Duration.{as_nanos}
use Rattle.std.proofs.Math.Nat.{mul-le-mul_left}
use Rattle.cue_rounds.proofs.asked.part_of.Goals as goal

pub returns : goal.returns
returns c =
    let small : c.from.result ≤ 255 = omega (arith, c.from.ensures, c.ranges.draw) in
    let part : as_nanos c.div.result * c.from.result ≤ as_nanos c.div.result * 255 = mul-le-mul_left (as_nanos c.div.result) small in
    omega (arith, part, c.div.ensures, c.saturating_mul.ensures)
