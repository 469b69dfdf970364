use Rattle.std.proofs.Common.{◌≡◌, ◌<◌, length, take, sym, ap, subst, ◌∙◌, arith, get_or}
use Rattle.std.specs.List.{prefix_len}
use Rattle.std.proofs.lemmas.Grind.{common_steps}
use Rattle.cue_lex.specs.Inner.Strings.{is_plain}
use Rattle.cue_lex.proofs.PlainStrings.{plain_body}
use Rattle.cue_lex.proofs.string.as_plain.Goals as goal

pub returns-then-bytes-len-eq34-clause-body : goal.returns-then-bytes-len-eq34-clause-body
returns-then-bytes-len-eq34-clause-body c =
    let same = c.as_bytes-bytes.ensures.value in
    let size = ap length same in
    let is : c.plain_len-len.result ≡ prefix_len is_plain c.args.inside.now = c.plain_len-len.ensures ∙ ap (prefix_len is_plain) same in
    let below : prefix_len is_plain c.args.inside.now < length c.args.inside.now = omega arith in
    let quote : get_or c.args.inside.now c.plain_len-len.result 0 ≡ 34 = sym (ap (λ bytes. get_or bytes c.plain_len-len.result 0) same) ∙ c.if-bytes-len-eq34.true in
    let front : c.range.result.now ≡ take c.plain_len-len.result c.args.inside.now = grind (arith, common_steps) in
    plain_body c.args.inside.now below (subst (λ n. get_or c.args.inside.now n 0 ≡ 34) is quote) c.range.result.now
    (subst (λ n. c.range.result.now ≡ take n c.args.inside.now) is front)
