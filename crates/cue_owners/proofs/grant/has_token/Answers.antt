use Rattle.std.proofs.Common.{◌≡◌, sym, ◌∙◌}
use Rattle.std.proofs.lemmas.Bool.{false≢true}
use Rattle.cue_owners.specs.declared.grant.Grant.{Grant}
use Rattle.cue_owners.specs.Grants.{token_of}
use Rattle.cue_owners.proofs.Rows.{found, not_found, one_more}
use Rattle.cue_owners.proofs.grant.has_token.Goals as goal

pub returns-then-is_text : goal.returns-then-is_text
returns-then-is_text c =
    let P : Grant → Type 0 = λ grant. token_of grant ≡ c.args.token.now in
    found P c.args.grants.now c.loop-grant.grant-index c.grant-item.result c.loop-grant-test.true c.grant-item.is
    (sym c.deref.ensures.value ∙ c.is_text.ensures.0 c.if-is_text.true)

pub loop-grant-preserved : goal.loop-grant-preserved
loop-grant-preserved c =
    let P : Grant → Type 0 = λ grant. token_of grant ≡ c.args.token.now in
    one_more P c.args.grants.now c.loop-grant.grant-index c.grant-item.result c.loop-grant-test.true c.loop-grant.invariant c.grant-item.is
    (λ n. false≢true (sym c.if-is_text.false ∙ c.is_text.ensures.1 (c.deref.ensures.value ∙ n)))

pub returns : goal.returns
returns c =
    let P : Grant → Type 0 = λ grant. token_of grant ≡ c.args.token.now in
    not_found P c.args.grants.now c.loop-grant.grant-index c.loop-grant-test.false c.loop-grant.invariant
