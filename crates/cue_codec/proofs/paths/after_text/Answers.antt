use Rattle.std.proofs.Common.{◌≡◌, ◌++◌, length, Some, ap, ◌∙◌, arith}
use Rattle.std.proofs.lemmas.Bool.Decides.{Decides-eqb}
use Rattle.std.proofs.lemmas.Slice.Eq.{strip_prefix_is}
use Rattle.cue_codec.proofs.Numbers.{text_again}
use Rattle.cue_codec.proofs.paths.after_text.Goals as goal

pub returns : goal.returns
returns c =
    let parts : c.in_ok-len.rest.now ≡ c.as_bytes-text.result.now ++ c.in_ok-rest.rest.now = strip_prefix_is Decides-eqb c.in_ok-len.rest.now c.as_bytes-text.result.now (Some c.in_ok-rest.rest) c.in_ok-rest.ensures.cases in
    text_again c.args.bytes.now c.in_ok-len.rest.now c.in_ok-rest.rest.now c.args.text.now c.in_ok-len.len (λ i. omega (arith, c.type_inv.bytes i)) c.in_ok-len.ensures (omega (arith, c.if-len-text.false, ap length c.as_bytes-text.ensures)) (parts ∙ ap (λ t. t ++ c.in_ok-rest.rest.now) c.as_bytes-text.ensures)
