use Rattle.std.proofs.Common.{arith}
use Rattle.std.proofs.lemmas.Result.{err_from_is_err_and}
use Rattle.cue_codec.proofs.Numbers.{lengths_short, lengths_cut, lengths_end, lengths_found}
use Rattle.cue_codec.proofs.reading.lengths_at.Goals as goal

pub returns-in_default-clause-refused : goal.returns-in_default-clause-refused
returns-in_default-clause-refused c = lengths_short c.args.version c.args.bytes.now c.in_default.ensures

pub returns-in_err-most-clause-refused : goal.returns-in_err-most-clause-refused
returns-in_err-most-clause-refused c =
    let p = err_from_is_err_and c.from_residual.result c.from_residual.ensures.1 in
    rw (p.1, p.2)
    (lengths_cut c.args.version c.in_err-most.field-0.0 c.args.bytes.now c.in-Some.rest.now c.in-Some.least (λ i. omega (arith, c.type_inv.bytes i)) c.in-Some.ensures c.in_err-most.ensures.refused)

pub returns-in_default-index_at-clause-refused : goal.returns-in_default-index_at-clause-refused
returns-in_default-index_at-clause-refused c =
    lengths_end c.args.version c.args.bytes.now c.in-Some.rest.now c.in_ok-most.rest.now c.in-Some.least c.in_ok-most.most (λ i. omega (arith, c.type_inv.bytes i)) c.in-Some.ensures c.in_ok-most.ensures.ok c.in_default-index_at.ensures.none

pub returns-clause-ok : goal.returns-clause-ok
returns-clause-ok c =
    lengths_found c.args.version c.args.bytes.now c.in-Some.rest.now c.in_ok-most.rest.now c.in-Some-index_at.rest.now c.in-Some.least c.in_ok-most.most c.in-Some-index_at.fixed (λ i. omega (arith, c.type_inv.bytes i)) c.in-Some.ensures c.in_ok-most.ensures.ok c.in-Some-index_at.ensures.some
