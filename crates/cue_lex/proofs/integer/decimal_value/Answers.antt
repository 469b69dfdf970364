use Rattle.std.proofs.Common.{◌∙◌, get_or, sym, arith}
use Rattle.cue_lex.proofs.Digits.{decimal_all, digit_below, has_room}
use Rattle.cue_lex.proofs.integer.decimal_value.Goals as goal

pub overflow_mul-value : goal.overflow_mul-value
overflow_mul-value c =
    let room = has_room c.loop-byte.value c.loop-byte.byte-index c.loop-byte.invariant.small (omega (arith, c.if-digits-gt-SHORT.false, c.loop-byte-test.true)) in
    omega (arith, room)

pub overflow_add-value : goal.overflow_add-value
overflow_add-value c =
    let room = has_room c.loop-byte.value c.loop-byte.byte-index c.loop-byte.invariant.small (omega (arith, c.if-digits-gt-SHORT.false, c.loop-byte-test.true)) in
    let below = digit_below (get_or c.args.digits.now c.loop-byte.byte-index 0) c.in-Some.digit (sym c.digit_of.ensures ∙ c.in-Some.is) in
    omega (arith, room, below)

pub returns : goal.returns
returns c =
    decimal_all c.args.digits.now c.loop-byte.value c.loop-byte.byte-index c.requires (omega (arith, c.loop-byte-test.false, c.loop-byte.auto.byte-index-end))
    c.loop-byte.invariant.number c.loop-byte.invariant.spelled c.loop-byte.invariant.small (omega (arith, c.if-digits-gt-SHORT.false, c.loop-byte-test.false, c.loop-byte.auto.byte-index-end))
