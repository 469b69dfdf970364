use Rattle.std.proofs.Common.{arith}
use Rattle.cue_codec.proofs.ReadStates.{headless_mark, headless_end, headless_begun, headless_count, head_found}
use Rattle.cue_codec.proofs.decoding.head_at.Goals as goal

pub returns-in_default-clause-refused : goal.returns-in_default-clause-refused
returns-in_default-clause-refused c = headless_mark c.args.bytes.now c.in_default.ensures.none

pub returns-in_default-split_first-clause-refused : goal.returns-in_default-split_first-clause-refused
returns-in_default-split_first-clause-refused c = headless_end c.args.bytes.now c.in-Some.rest.now c.in-Some.ensures.some c.in_default-split_first.ensures.cases

pub returns-in_default-u64_at-clause-refused : goal.returns-in_default-u64_at-clause-refused
returns-in_default-u64_at-clause-refused c =
    headless_count c.in-Some-from_byte.version c.args.bytes.now c.in-Some.rest.now c.in-Some-split_first.rest.now c.in-Some-split_first.byte.now c.in-Some.ensures.some c.in-Some-split_first.ensures.cases.0 c.in-Some-from_byte.ensures.some c.in_default-u64_at.ensures

pub returns-clause-ok : goal.returns-clause-ok
returns-clause-ok c =
    head_found c.in-Some-from_byte.version c.args.bytes.now c.in-Some.rest.now c.in-Some-split_first.rest.now c.in-Some-u64_at.rest.now c.in-Some-split_first.byte.now c.in-Some-u64_at.count (λ i. omega (arith, c.type_inv.bytes i)) c.in-Some.ensures.some c.in-Some-split_first.ensures.cases.0 c.in-Some-from_byte.ensures.some c.in-Some-u64_at.ensures

pub returns-in_default-u64_at-clause-begun : goal.returns-in_default-u64_at-clause-begun
returns-in_default-u64_at-clause-begun c =
    headless_begun c.in-Some-from_byte.version c.args.bytes.now c.in-Some.rest.now c.in-Some-split_first.rest.now c.in-Some-split_first.byte.now c.in-Some.ensures.some c.in-Some-split_first.ensures.cases.0 c.in-Some-from_byte.ensures.some c.in_default-u64_at.ensures
