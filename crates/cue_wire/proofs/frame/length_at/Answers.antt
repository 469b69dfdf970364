use Rattle.std.proofs.Common.{take, ap, ◌∙◌, refl, arith}
use Rattle.std.proofs.lemmas.Nat.{be_bytes_4}
use Rattle.std.proofs.lemmas.List.{length-take-le}
use Rattle.std.specs.Int.{w32, from_be_bytes}
use Rattle.cue_wire.proofs.Cuts.{front_bytes}
use Rattle.cue_wire.proofs.frame.length_at.Goals as goal

pub returns-clause-spelled : goal.returns-clause-spelled
returns-clause-spelled c =
    let four = c.in_ok-head.ensures.variant.0 refl in
    be_bytes_4 (take 4 c.args.bytes.now) c.from_be_bytes.result (length-take-le 4 _ four) (front_bytes _ four (λ i. omega (arith, c.type_inv.bytes i)))
    (c.from_be_bytes.ensures ∙ ap (from_be_bytes w32) c.in_ok-head.ensures.cases.0)
