use Rattle.std.proofs.Common.{◌≡◌, ◌<◌, nat_eq, arith}
use Rattle.std.specs.Prelude.{codes}
use Rattle.cue_device.proofs.Telling.{on_err, tells_all}
use Rattle.cue_print.specs.Expressions.{top}
use Rattle.cue_print.proofs.Joined.{none_joined, part_separated, text_told, part_told, later}
use Rattle.cue_print.proofs.ListTexts.{first_free, no_element_left}
use Rattle.cue_print.proofs.free.push_free_elements.Goals as goal

pub loop-number-preserved : goal.loop-number-preserved
loop-number-preserved g c =
    let n = c.loop-number.number in
    let more : n < c.args.count = omega arith in
    later _ _ (codes ", ") n _ _ (text_told _ _ _ _ (codes ", ") (nat_eq n 0) _ _ _ _ (first_free n c.args.count more) c.loop-number.invariant c.in_ok-separate.ensures.told c.in_ok-put.ensures.told)

pub returns-in_err-separate-clause-begun : goal.returns-in_err-separate-clause-begun
returns-in_err-separate-clause-begun g c =
    let n = c.loop-number.number in
    let more : n < c.args.count = omega arith in
    on_err _ (part_separated _ _ _ (codes ", ") (nat_eq n 0) _ _ _ _ (first_free n c.args.count more) c.loop-number.invariant c.in_err-separate.ensures.begun)

pub returns-in_err-put-clause-begun : goal.returns-in_err-put-clause-begun
returns-in_err-put-clause-begun g c =
    let n = c.loop-number.number in
    let more : n < c.args.count = omega arith in
    on_err _ (part_told _ _ _ _ (codes ", ") (nat_eq n 0) _ _ _ _ (first_free n c.args.count more) c.loop-number.invariant c.in_ok-separate.ensures.told c.in_err-put.ensures.begun)

pub returns-clause-told : goal.returns-clause-told
returns-clause-told g c =
    let all : c.loop-number.number ≡ c.args.count = omega arith in
    tells_all _ _ _ _ (none_joined (codes ", ") (nat_eq c.loop-number.number 0) _ (no_element_left c.loop-number.number c.args.count (λ n. top) all)) c.loop-number.invariant
