use Rattle.std.proofs.Common.{◌≡◌, ◌-◌, ◌++◌, length, take, Some, ap, ◌∙◌, arith}
use Rattle.std.proofs.lemmas.Bool.Decides.{Decides-eqb}
use Rattle.std.proofs.lemmas.Slice.Eq.{strip_prefix_is}
use Rattle.cue_codec.proofs.StateSets.{set_again}
use Rattle.cue_codec.proofs.rows.after_again.Goals as goal

pub returns : goal.returns
returns c =
    let bytes = c.args.bytes.now in
    let behind = c.args.behind.now in
    let rest = c.in_ok-rest.rest.now in
    let parts : behind ≡ take c.in_ok-len.len bytes ++ rest = strip_prefix_is Decides-eqb behind (take c.in_ok-len.len bytes) (Some c.in_ok-rest.rest) c.in_ok-rest.ensures.cases in
    let len : c.in_ok-len.len ≡ length bytes - length behind = omega (arith, c.in_ok-len.ensures) in
    λ set b. set_again bytes behind rest set (parts ∙ ap (λ n. take n bytes ++ rest) len) b
