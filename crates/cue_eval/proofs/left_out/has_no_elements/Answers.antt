use Rattle.std.proofs.Common.{◌≡◌, IsTrue, nat_eq, ℕ, sym, ◌∙◌, rules, arith}
use Rattle.cue_eval.proofs.LabelTables.{alike_into, none_if}
use Rattle.cue_eval.proofs.left_out.has_no_elements.Goals as goal

is_zero : (n : ℕ) → IsTrue (nat_eq n 0) → n ≡ 0
is_zero n e = search rules

pub returns-then-is_none : goal.returns-then-is_none
returns-then-is_none g c none i =
    let fixed = c.fixed.ensures.fixed in
    let least = is_zero c.fixed.result none in
    alike_into c.args.branch.now i (omega (arith, fixed, least)) ∙ sym c.rest.ensures.rest ∙ none_if c.rest.result c.if-is_none.ensures
