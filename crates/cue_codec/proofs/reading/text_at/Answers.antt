use Rattle.std.proofs.Common.{arith}
use Rattle.cue_codec.proofs.Numbers.{text_short, text_cut, text_wrong, text_found}
use Rattle.cue_codec.proofs.reading.text_at.Goals as goal

pub returns-in_default-clause-refused : goal.returns-in_default-clause-refused
returns-in_default-clause-refused c = text_short c.args.bytes.now c.in_default.ensures

pub returns-in_default-front_at-clause-refused : goal.returns-in_default-front_at-clause-refused
returns-in_default-front_at-clause-refused c =
    text_cut c.args.bytes.now c.in-Some.rest.now c.in-Some.len (λ i. omega (arith, c.type_inv.bytes i)) c.in-Some.ensures c.in_default-front_at.ensures.none

pub returns-in-Ok-clause-ok : goal.returns-in-Ok-clause-ok
returns-in-Ok-clause-ok c =
    text_found c.args.bytes.now c.in-Some.rest.now c.in-Some-front_at.text.now c.in-Some-front_at.rest.now c.in-Ok.text.now c.in-Some.len (λ i. omega (arith, c.type_inv.bytes i)) c.in-Some.ensures c.in-Some-front_at.ensures.some.0 c.in-Some-front_at.ensures.some.1 c.in-Ok.ensures.cases.1 c.in-Ok.ensures.cases.0

pub returns-in-Err-clause-refused : goal.returns-in-Err-clause-refused
returns-in-Err-clause-refused c = λ more.
    text_wrong c.args.bytes.now c.in-Some.rest.now c.in-Some-front_at.text.now c.in-Some-front_at.rest.now more c.in-Some.len (λ i. omega (arith, c.type_inv.bytes i)) c.in-Some.ensures c.in-Some-front_at.ensures.some.0 c.in-Some-front_at.ensures.some.1 c.in-Err.ensures.cases.0
