use Rattle.std.proofs.Common.{sym, ◌∙◌}
use Rattle.std.proofs.lemmas.Bool.{false≢true}
use Rattle.cue_owners.specs.declared.grant.Grant.{Grant}
use Rattle.cue_owners.specs.Bearers.{IsBearer}
use Rattle.cue_owners.specs.Grants.{token_of, Reaches}
use Rattle.cue_owners.proofs.Rows.{none_found, one_more}
use Rattle.cue_owners.proofs.owners.owner_for.Goals as goal

pub returns-then-may_write : goal.returns-then-may_write
returns-then-may_write c =
    let may = c.may_write.ensures.0 c.if-may_write.true in
    (c.loop-grant.grant-index, c.grant-item.result, c.loop-grant-test.true, sym c.grant-item.is, (may.0, may.1, sym c.as_str.ensures.value))

pub loop-grant-preserved : goal.loop-grant-preserved
loop-grant-preserved c =
    let P : Grant → Type 0 = λ grant. IsBearer (token_of grant) c.args.field.now × Reaches c.args.target.now grant in
    one_more P c.args.grants.now c.loop-grant.grant-index c.grant-item.result c.loop-grant-test.true c.loop-grant.invariant c.grant-item.is
    (λ n. false≢true (sym c.if-may_write.false ∙ c.may_write.ensures.1 n))

pub returns : goal.returns
returns c =
    let P : Grant → Type 0 = λ grant. IsBearer (token_of grant) c.args.field.now × Reaches c.args.target.now grant in
    none_found P c.args.grants.now c.loop-grant.grant-index c.loop-grant-test.false c.loop-grant.invariant
