-- An answer of the table, from what is kept.
use Rattle.std.proofs.Common.{◌≡◌, ◌≤◌, ℕ, List, [], ◌∷◌, length, Result, Ok, Err, OnOk, ap, ◌∙◌, subst, inl, inr}
use Rattle.http.specs.declared.request.Request.{Request}
use Rattle.http_server.specs.declared.response.Response.{Response}
use Rattle.http_server.specs.Response.{IsResponse}
use Rattle.cue_replica.specs.declared.question.SiteQuestion.{SiteQuestion}
use Rattle.cue_replica.specs.declared.question.Status.{Status}
use Rattle.cue_replica.specs.Language.{Table}
use Rattle.std.specs.Prelude.{codes}
use Rattle.cue_service.specs.declared.kept.KeptAnswer.{KeptAnswer}
use Rattle.cue_service.specs.Answering.{IsAsked}
use Rattle.cue_service.specs.Conditions.{HasTag}
use Rattle.cue_service.specs.Kept.{IsKeptAnswer}
use Rattle.cue_service.specs.Limits.{IsOverLimit}
use Rattle.cue_service.specs.Statuses.{HasHead, plain_text, type_field, status_of_answer, type_of_answer}
use Rattle.cue_service.specs.Tags.{tag_of}

-- one who asks has the tag
pub unchanged_if : {X E : Type 0} (r : Result X E) (limit : ℕ) (question : SiteQuestion) (table : Table) (request : Request (List ℕ)) (tag : List ℕ) (response : Response)
    → tag ≡ tag_of table → HasTag tag request
    → OnOk r (IsResponse 304 ((codes "etag", tag) ∷ []) [] response) → OnOk r (IsAsked limit question table request [] response)
unchanged_if (Err e) limit question table request tag response tagged known is = tt
unchanged_if (Ok x) limit question table request tag response tagged known is = inl (record {
  known = subst (λ (t : List ℕ). HasTag t request) tagged known;
  answer = record {
    status = is.status;
    headers = is.headers ∙ ap (λ (t : List ℕ). (codes "etag", t) ∷ []) tagged;
    body = is.body;
  };
})

-- it is told what is kept
pub answered_if :
    {X E : Type 0} (r : Result X E) (limit : ℕ) (question : SiteQuestion) (table : Table) (request : Request (List ℕ)) (told : KeptAnswer) (code : ℕ) (tag kind : List ℕ) (response : Response)
    → IsKeptAnswer question table told → length told.bytes ≤ limit → (HasTag tag request → ⊥) → tag ≡ tag_of table
    → code ≡ status_of_answer question told.status → kind ≡ type_of_answer question told.status
    → OnOk r (IsResponse code ((codes "etag", tag) ∷ (codes "content-type", kind) ∷ []) told.bytes response) → OnOk r (IsAsked limit question table request [] response)
answered_if (Err e) limit question table request told code tag kind response kept fits unknown tagged coded typed is = tt
answered_if (Ok x) limit question table request told code tag kind response kept fits unknown tagged coded typed is = inr (inl (record {
  unknown = subst (λ (t : List ℕ). HasTag t request → ⊥) tagged unknown;
  told = kept.0;
  whole = kept.1;
  within = subst (λ (l : List ℕ). length l ≤ limit) kept.2 fits;
  answer = record {
    status = is.status ∙ coded ∙ ap (λ (s : Status). status_of_answer question s) kept.3;
    headers = is.headers
        ∙ ap (λ (t : List ℕ). (codes "etag", t) ∷ (codes "content-type", kind) ∷ []) tagged
        ∙ ap (λ (k : List ℕ). (codes "etag", tag_of table) ∷ (codes "content-type", k) ∷ []) (typed ∙ ap (λ (s : Status). type_of_answer question s) kept.3);
    body = is.body ∙ kept.2;
  };
}))

-- it is over the limit
pub not_given_if : {X E : Type 0} (r : Result X E) (limit : ℕ) (question : SiteQuestion) (table : Table) (request : Request (List ℕ)) (tag : List ℕ) (response : Response)
    → IsOverLimit limit question table → (HasTag tag request → ⊥) → tag ≡ tag_of table
    → OnOk r (HasHead 507 ((codes "etag", tag) ∷ type_field plain_text ∷ []) response) → OnOk r (IsAsked limit question table request [] response)
not_given_if (Err e) limit question table request tag response over unknown tagged is = tt
not_given_if (Ok x) limit question table request tag response over unknown tagged is = inr (inr (record {
  unknown = subst (λ (t : List ℕ). HasTag t request → ⊥) tagged unknown;
  over = over;
  answer = (is.0, is.1 ∙ ap (λ (t : List ℕ). (codes "etag", t) ∷ type_field plain_text ∷ []) tagged);
}))
