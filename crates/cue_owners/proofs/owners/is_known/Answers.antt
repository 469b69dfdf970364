use Rattle.std.proofs.Common.{List, ℕ, subst, sym, ◌∙◌}
use Rattle.std.proofs.lemmas.Bool.{false≢true}
use Rattle.cue_owners.specs.declared.grant.Grant.{Grant}
use Rattle.cue_owners.specs.Bearers.{IsBearer}
use Rattle.cue_owners.specs.Grants.{token_of}
use Rattle.cue_owners.proofs.Rows.{found, not_found, one_more}
use Rattle.cue_owners.proofs.owners.is_known.Goals as goal

pub returns-then-is_bearer : goal.returns-then-is_bearer
returns-then-is_bearer c =
    let P : Grant → Type 0 = λ grant. IsBearer (token_of grant) c.args.field.now in
    found P c.args.grants.now c.loop-grant.grant-index c.grant-item.result c.loop-grant-test.true c.grant-item.is
    (subst (λ (t : List ℕ). IsBearer t c.args.field.now) c.deref.ensures.value (c.is_bearer.ensures.0 c.if-is_bearer.true))

pub loop-grant-preserved : goal.loop-grant-preserved
loop-grant-preserved c =
    let P : Grant → Type 0 = λ grant. IsBearer (token_of grant) c.args.field.now in
    one_more P c.args.grants.now c.loop-grant.grant-index c.grant-item.result c.loop-grant-test.true c.loop-grant.invariant c.grant-item.is
    (λ n. false≢true (sym c.if-is_bearer.false ∙ c.is_bearer.ensures.1 (subst (λ (t : List ℕ). IsBearer t c.args.field.now) (sym c.deref.ensures.value) n)))

pub returns : goal.returns
returns c =
    let P : Grant → Type 0 = λ grant. IsBearer (token_of grant) c.args.field.now in
    not_found P c.args.grants.now c.loop-grant.grant-index c.loop-grant-test.false c.loop-grant.invariant
