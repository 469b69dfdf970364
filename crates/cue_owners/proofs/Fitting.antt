-- Patterns and the targets that they fit.
use Rattle.std.proofs.Common.{◌≡◌, ◌≢◌, ◌↔◌, ◌++◌, inl, inr, ⊎_elim, ℕ, nat_eq, get_or, List, Bool, true, false, IsTrue, codes, refl, sym, ap, subst, ◌∙◌}
use Rattle.std.proofs.lemmas.Bool.{false≢true}
use Rattle.std.proofs.lemmas.List.{append_assoc, append_cancel_left, append_cancel_right}
use Rattle.cue_owners.specs.Patterns.{Fits, IsName, IsKey, IsWide, IsPattern}

abbrev pub IsBelow : List ℕ → List ℕ → Type 0
IsBelow front target = (rest : List ℕ) × (target ≡ front ++ codes "/" ++ rest)

pub below : (front target rest behind : List ℕ) → target ≡ front ++ rest → rest ≡ codes "/" ++ behind → IsTrue true ↔ IsBelow front target
below front target rest behind e f =
    (λ _. (behind, e ∙ ap (λ (t : List ℕ). front ++ t) f ∙ sym (append_assoc front (codes "/") behind)), λ _. refl)

pub beside : (front target rest : List ℕ) → target ≡ front ++ rest → ((behind : List ℕ) → rest ≢ codes "/" ++ behind) → IsTrue false ↔ IsBelow front target
beside front target rest e none = (
  λ t. absurd (false≢true t),
  λ b. absurd (none b.0 (append_cancel_left front rest (codes "/" ++ b.0) (sym e ∙ b.1 ∙ append_assoc front (codes "/") b.0))),
)

-- a pattern that is neither `*` nor the target fits by its front
pub by_front : (pattern target front : List ℕ) (b : Bool) → (pattern ≢ codes "*") → (pattern ≢ target) → pattern ≡ front ++ codes "/*" → (IsTrue b ↔ IsBelow front target) → IsTrue b ↔ Fits pattern target
by_front pattern target front b star other e f = (
  λ t. inr (inr (front, (f.0 t).0, e, (f.0 t).1)),
  λ h. ⊎_elim (λ s. absurd (star s)) (λ o. ⊎_elim (λ s. absurd (other s))
      (λ w. let same : w.0 ≡ front = append_cancel_right w.0 front (codes "/*") (sym w.2 ∙ e) in
      f.1 (w.1, w.3 ∙ ap (λ (t : List ℕ). t ++ codes "/" ++ w.1) same)) o) h,
)

begins_with_l : List ℕ → Bool
begins_with_l t = nat_eq (get_or t 0 0) 108

-- no word begins as both a layer and a policy
apart : (a b : List ℕ) → codes "layers/" ++ a ≡ codes "policies/" ++ b → ⊥
unfolding begins_with_l
apart a b e = false≢true (sym (ap begins_with_l e))

pub layer_key : (word name : List ℕ) (b : Bool) → word ≡ codes "layers/" ++ name → (IsTrue b ↔ IsName name) → IsTrue b ↔ IsKey word
layer_key word name b e f = (
  λ t. (name, inl e, f.0 t),
  λ k. ⊎_elim
      (λ h. f.1 (subst IsName (append_cancel_left (codes "layers/") k.0 name (sym h ∙ e)) k.2))
      (λ h. absurd (apart name k.0 (sym e ∙ h))) k.1,
)

pub policy_key : (word name : List ℕ) (b : Bool) → ((rest : List ℕ) → word ≢ codes "layers/" ++ rest) → word ≡ codes "policies/" ++ name → (IsTrue b ↔ IsName name) → IsTrue b ↔ IsKey word
policy_key word name b none e f = (
  λ t. (name, inr e, f.0 t),
  λ k. ⊎_elim
      (λ h. absurd (none k.0 h))
      (λ h. f.1 (subst IsName (append_cancel_left (codes "policies/") k.0 name (sym h ∙ e)) k.2)) k.1,
)

-- a word that is neither wide nor a key is a pattern by its front
pub front_key : (word key : List ℕ) (b : Bool) → (¬ IsWide word) → (¬ IsKey word) → word ≡ key ++ codes "/*" → (IsTrue b ↔ IsKey key) → IsTrue b ↔ IsPattern word
front_key word key b wide whole e f = (
  λ t. inr (inr (key, e, f.0 t)),
  λ p. ⊎_elim (λ h. absurd (wide h)) (λ o. ⊎_elim (λ h. absurd (whole h))
      (λ w. f.1 (subst IsKey (append_cancel_right w.0 key (codes "/*") (sym w.1 ∙ e)) w.2)) o) p,
)

pub no : (A : Type 0) (b : Bool) → b ≡ false → (IsTrue b ↔ A) → ¬ A
no A b n e h = false≢true (sym n ∙ e.1 h)
