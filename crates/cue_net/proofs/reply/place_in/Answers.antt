use Rattle.std.proofs.Common.{ap, sym, ◌∙◌, ◌≡◌, length, arith}
use Rattle.std.proofs.lemmas.Nat.{be_bytes_8}
use Rattle.std.proofs.lemmas.List.{take_all}
use Rattle.std.specs.Int.{w64, from_be_bytes}
use Rattle.cue_net.proofs.reply.place_in.Goals as goal

pub returns-clause-some : goal.returns-clause-some
returns-clause-some c =
    let bytes = c.args.bytes.now in
    let eight : length bytes ≡ 8 = omega arith in
    sym (be_bytes_8 bytes c.from_be_bytes.result eight (λ i. omega (arith, c.type_inv.bytes i))
    (c.from_be_bytes.ensures ∙ ap (from_be_bytes w64) (c.in_ok-place.ensures.cases.0 ∙ take_all 8 bytes (omega (arith, eight)))))
