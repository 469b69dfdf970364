use Rattle.std.proofs.Common.{◌≡◌, ℕ, List, Bool, false, IsTrue, Option, Some, sym, ◌∙◌, subst}
use Rattle.http.specs.declared.request.Request.{Request}
use Rattle.cue_service.specs.declared.kept.KeptAnswer.{KeptAnswer}
use Rattle.std.proofs.lemmas.Bool.{false≢true}
use Rattle.cue_replica.specs.Language.{Table}
use Rattle.cue_service.specs.Kept.{IsFoundWithin}
use Rattle.cue_service.specs.Conditions.{HasTag}
use Rattle.cue_service.proofs.Telling.{answered_if, not_given_if, unchanged_if}
use Rattle.cue_service.proofs.desk.answer_question.Goals as goal

pub returns-then-has_tag-clause-asked : goal.returns-then-has_tag-clause-asked
returns-then-has_tag-clause-asked c =
    unchanged_if c.answer_unchanged.result c.args.limit c.args.question c.args.board.now c.args.request.now c.in_ok-tag.tag.bytes c.answer_unchanged.new.response c.in_ok-tag.ensures.tag
    (subst (λ (t : List ℕ). HasTag t c.args.request.now) c.as_bytes.ensures.value (c.has_tag.ensures.0 c.if-has_tag.true)) c.answer_unchanged.ensures

no_tag : (r : Bool) (a b : List ℕ) (request : Request (List ℕ)) → r ≡ false → a ≡ b → (HasTag a request → IsTrue r) → HasTag b request → ⊥
no_tag r a b request none same tells has = false≢true (sym none ∙ tells (subst (λ (t : List ℕ). HasTag t request) (sym same) has))

pub returns-in_default-clause-asked : goal.returns-in_default-clause-asked
returns-in_default-clause-asked c =
    not_given_if c.answer_not_given.result c.args.limit c.args.question c.args.board.now c.args.request.now c.in_ok-tag.tag.bytes c.answer_not_given.new.response
    (subst (λ (o : Option KeptAnswer). IsFoundWithin c.args.limit c.args.question c.args.board.now o) c.in_default.is
    (subst (λ (t : Table). IsFoundWithin c.args.limit c.args.question t c.in_ok-told.field-0) c.tag.ensures.same c.in_ok-told.ensures.found))
    (no_tag c.has_tag.result c.as_bytes.result.now c.in_ok-tag.tag.bytes c.args.request.now c.if-has_tag.false c.as_bytes.ensures.value c.has_tag.ensures.1)
    c.in_ok-tag.ensures.tag c.answer_not_given.ensures

pub returns-clause-asked : goal.returns-clause-asked
returns-clause-asked c =
    let told : IsFoundWithin c.args.limit c.args.question c.args.board.now (Some c.in-Some.told) =
    subst (λ (o : Option KeptAnswer). IsFoundWithin c.args.limit c.args.question c.args.board.now o) c.in-Some.is
    (subst (λ (t : Table). IsFoundWithin c.args.limit c.args.question t c.in_ok-told.field-0) c.tag.ensures.same c.in_ok-told.ensures.found) in
    answered_if c.answer_tagged.result c.args.limit c.args.question c.args.board.now c.args.request.now c.in-Some.told c.status_code-status.result c.in_ok-tag.tag.bytes c.content_type-kind.result.bytes c.answer_tagged.new.response
    told.0 told.1
    (λ has. false≢true (sym c.if-has_tag.false ∙ c.has_tag.ensures.1 (subst (λ (t : List ℕ). HasTag t c.args.request.now) (sym c.as_bytes.ensures.value) has)))
    c.in_ok-tag.ensures.tag c.status_code-status.ensures c.content_type-kind.ensures c.answer_tagged.ensures
