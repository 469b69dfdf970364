-- What a request wants of the layer of a key.
use Rattle.std.proofs.Common.{◌≡◌, ◌↔◌, ℕ, Bool, true, false, not, List, Some, None, Result, Ok, Err, IfOk, IsTrue, refl, sym, ap, ◌∙◌, subst}
use Rattle.std.specs.List.{AllByRecursion}
use Rattle.http.specs.declared.request.Request.{Request}
use Rattle.http.specs.Request.{head_of}
use Rattle.http_header.specs.FieldValue.{FieldValue}
use Rattle.http_header.specs.HeaderMap.{get}
use Rattle.cue_policies.specs.declared.kind.LayerKind.{LayerKind}
use Rattle.cue_layers.specs.declared.layer.Layer.{Layer}
use Rattle.cue_layers.specs.Layers.{IsMap, key, key_of}
use Rattle.cue_layers.specs.Puts.{HasElement}
use Rattle.cue_layers.proofs.Keys.{once}
use Rattle.cue_layers.proofs.Lists.{all_at}
use Rattle.cue_layers_site.specs.Requests.{HasFieldValue}
use Rattle.cue_layers_site.specs.Conditions.{FitsLayer, FitsName}

pub if_ok : {X E : Type 0} {P Q : X → Type 0} (r : Result X E) → ((x : X) → P x → Q x) → IfOk r P → IfOk r Q
if_ok (Ok x) f p = f x p
if_ok (Err e) f p = tt

-- no layer has the key
pub fits_none : (value : List ℕ) (map : List Layer) (kind : LayerKind) (name : List ℕ) → AllByRecursion (λ (layer : Layer). ¬ (key_of layer ≡ key kind name)) map → FitsName value map kind name → ⊥
fits_none value map kind name none h = all_at (λ (layer : Layer). ¬ (key_of layer ≡ key kind name)) map h.0 none h.1 h.2

-- the layer that has it
pub fits_some : (value : List ℕ) (map : List Layer) (kind : LayerKind) (name : List ℕ) (layer : Layer) (fits : Bool) → IsMap map → HasElement map layer → key_of layer ≡ key kind name
    → IsTrue fits ↔ FitsLayer value layer → IsTrue fits ↔ FitsName value map kind name
fits_some value map kind name layer fits is_map has is same = (
  λ t. (layer, has, is, same.0 t),
  λ h. same.1 (subst (FitsLayer value) (once map h.0 layer is_map.in_order h.1 has (h.2 ∙ sym is)) h.3),
)

some_is : {X : Type 0} (x y : X) → Some x ≡ Some y → x ≡ y
some_is x y e = cc

-- a request has one value of a field
one_value : (request : Request (List ℕ)) (name value other : List ℕ) → HasFieldValue name value request → HasFieldValue name other request → value ≡ other
one_value request name value other has more = sym has.2 ∙ ap (λ (f : FieldValue). f.bytes) (some_is has.0 more.0 (sym has.1 ∙ more.1)) ∙ more.2

pub with_field : (request : Request (List ℕ)) (name value : List ℕ) (P : List ℕ → Type 0) (b : Bool) → HasFieldValue name value request → IsTrue b ↔ P value
    → IsTrue b ↔ ((v : List ℕ) → HasFieldValue name v request → P v)
with_field request name value P b has same = (λ t v more. subst P (one_value request name value v has more) (same.0 t), λ all. same.1 (all value has))

none_some : {X : Type 0} (x : X) → None ≡ Some x → ⊥
none_some x e = cc

pub without_field : (request : Request (List ℕ)) (name : List ℕ) (P : List ℕ → Type 0) → get (head_of request).headers name ≡ None
    → IsTrue true ↔ ((v : List ℕ) → HasFieldValue name v request → P v)
without_field request name P none = (λ t v has. absurd (none_some has.0 (sym none ∙ has.1)), λ all. refl)

-- what does not hold
pub turned : {P : Type 0} (b : Bool) → IsTrue b ↔ P → IsTrue (not b) ↔ (P → ⊥)
turned true same = (λ t. let e : false ≡ true = t in cc, λ no. absurd (no (same.0 refl)))
turned false same = (λ t p. let e : false ≡ true = same.1 p in cc, λ no. refl)
