-- A field of a request, and its value.
use Rattle.std.proofs.Common.{◌≡◌, ◌↔◌, ℕ, List, Option, Some, None, IsTrue, Bool, true, false, ◌⊎◌, inl, inr, refl, sym, ap, subst, ◌∙◌}
use Rattle.std.proofs.lemmas.Bool.{false≢true}
use Rattle.http.specs.declared.request.Request.{Request}
use Rattle.http.specs.Request.{head_of}
use Rattle.http_header.specs.FieldValue.{FieldValue}
use Rattle.http_header.specs.HeaderMap.{get}
use Rattle.cue_service.specs.Requests.{HasField}

some_same : (x y : FieldValue) → ◌≡◌ {A = Option FieldValue} (Some x) (Some y) → x ≡ y
some_same x y e = cc

none_some : (x : FieldValue) → ◌≡◌ {A = Option FieldValue} None (Some x) → ⊥
none_some x e = cc

pub has_field :
    (name : List ℕ) (P : List ℕ → Type 0) (request : Request (List ℕ)) (field : FieldValue) (bytes : List ℕ) (holds : Bool) → get (head_of request).headers name ≡ Some field
    → bytes ≡ field.bytes → (IsTrue holds ↔ P bytes) → IsTrue holds ↔ HasField name P request
has_field name P request field bytes holds found is e = (
  λ t. (field, found, subst P is (e.0 t)),
  λ has. e.1 (subst P (sym (is ∙ ap (λ (f : FieldValue). f.bytes) (some_same field has.0 (sym found ∙ has.1)))) has.2),
)

pub no_field : (name : List ℕ) (P : List ℕ → Type 0) (request : Request (List ℕ)) → get (head_of request).headers name ≡ None → IsTrue false ↔ HasField name P request
no_field name P request none = (λ t. absurd (false≢true t), λ has. absurd (none_some has.0 (sym none ∙ has.1)))

-- a condition that holds where there is no such field
pub if_field : (name : List ℕ) (P : List ℕ → Type 0) (request : Request (List ℕ)) (field : FieldValue) (holds : Bool) → get (head_of request).headers name ≡ Some field
    → (IsTrue holds ↔ HasField name P request) → IsTrue holds ↔ ((get (head_of request).headers name ≡ None) ⊎ HasField name P request)
if_field name P request field holds found e = (
  λ t. inr (e.0 t),
  λ either. elim either [ inl none ↦ absurd (none_some field (sym none ∙ found)) | inr has ↦ e.1 has ],
)

pub if_no_field : (name : List ℕ) (P : List ℕ → Type 0) (request : Request (List ℕ)) → get (head_of request).headers name ≡ None
    → IsTrue true ↔ ((get (head_of request).headers name ≡ None) ⊎ HasField name P request)
if_no_field name P request none = (λ t. inl none, λ either. refl)
