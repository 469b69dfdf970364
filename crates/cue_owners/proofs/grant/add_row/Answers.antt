use Rattle.std.proofs.Common.{◌≡◌, ◌++◌, ◌∷◌, [], List, ℕ, map, Any, ap, subst, sym, ◌∙◌}
use Rattle.std.proofs.lemmas.Bool.{false≢true}
use Rattle.std.proofs.lemmas.List.{map-append}
use Rattle.cue_owners.specs.declared.grant.Grant.{Grant}
use Rattle.cue_owners.specs.Files.{IsRow, token_in}
use Rattle.cue_owners.specs.Grants.{row_of, token_of}
use Rattle.cue_owners.proofs.Rows.{not_row, push_row, same_token, other_tokens, some_is, none_is}
use Rattle.cue_owners.proofs.grant.add_row.Goals as goal

pub returns-in_default-clause-wrong : goal.returns-in_default-clause-wrong
returns-in_default-clause-wrong c =
    let words = map (λ w. w.now) c.args.words.now in
    λ _. not_row (map row_of c.args.grants.now.items) words (none_is c.in_ok-grant.field-0 (¬ IsRow words) c.in_default.is c.in_ok-grant.ensures.none)

pub returns-then-has_token-clause-wrong : goal.returns-then-has_token-clause-wrong
returns-then-has_token-clause-wrong c =
    let words = map (λ w. w.now) c.args.words.now in
    let row : row_of c.in-Some.grant ≡ words = some_is c.in_ok-grant.field-0 c.in-Some.grant (λ g. row_of g ≡ words) c.in-Some.is c.in_ok-grant.ensures.some in
    let is : token_in words ≡ c.deref-2.result.now = ap token_in (sym row) ∙ sym c.deref-2.ensures.value in
    let any = subst (λ (gs : List Grant). Any (λ g. token_of g ≡ c.deref-2.result.now) gs) c.deref.ensures.value (c.has_token.ensures.0 c.if-has_token.true) in
    λ _. same_token c.args.grants.now.items words c.deref-2.result.now any is

pub returns-clause-added : goal.returns-clause-added
returns-clause-added c =
    let words = map (λ w. w.now) c.args.words.now in
    let row : row_of c.in-Some.grant ≡ words = some_is c.in_ok-grant.field-0 c.in-Some.grant (λ g. row_of g ≡ words) c.in-Some.is c.in_ok-grant.ensures.some in
    λ _. ap (map row_of) c.in_ok-push.ensures.items ∙ map-append row_of c.args.grants.now.items (c.in-Some.grant ∷ [])
    ∙ ap (λ (r : List (List ℕ)). map row_of c.args.grants.now.items ++ r ∷ []) row

pub returns-clause-right : goal.returns-clause-right
returns-clause-right c =
    let words = map (λ w. w.now) c.args.words.now in
    let row : row_of c.in-Some.grant ≡ words = some_is c.in_ok-grant.field-0 c.in-Some.grant (λ g. row_of g ≡ words) c.in-Some.is c.in_ok-grant.ensures.some in
    let is : token_in words ≡ c.deref-2.result.now = ap token_in (sym row) ∙ sym c.deref-2.ensures.value in
    let P : List Grant → Type 0 = λ gs. Any (λ g. token_of g ≡ c.deref-2.result.now) gs in
    let none : ¬ P c.args.grants.now.items = λ any. false≢true (sym c.if-has_token.false ∙ c.has_token.ensures.1 (subst P (sym c.deref.ensures.value) any)) in
    λ _ rights. push_row (map row_of c.args.grants.now.items) words (some_is c.in_ok-grant.field-0 c.in-Some.grant (λ _. IsRow words) c.in-Some.is c.in_ok-grant.ensures.row) (other_tokens c.args.grants.now.items words c.deref-2.result.now none is) rights
