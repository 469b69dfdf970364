-- Hosts that a field names.
use Rattle.std.proofs.Common.{◌≡◌, ◌↔◌, ◌⊎◌, inl, inr, ⊎_elim, Bool, true, false, List, All, Any, IsTrue, sym, subst, ◌∙◌}
use Rattle.std.proofs.lemmas.Bool.{false≢true}

pub none_of_all : {X : Type 0} (P : X → Type 0) (xs : List X) → All (λ x. ¬ P x) xs → ¬ Any P xs
none_of_all P xs all a = all a.0 a.1 a.2 (subst P (sym a.3) a.4)

-- one of two: the first holds
pub by_first : (A B : Type 0) (b : Bool) → b ≡ true → (IsTrue b ↔ A) → IsTrue b ↔ (A ⊎ B)
by_first A B b t e = (λ h. inl (e.0 h), λ o. t)

-- the first does not
pub by_second : (A C : Type 0) (a b c : Bool) → a ≡ false → (IsTrue a ↔ A) → b ≡ true → (IsTrue c ↔ C) → IsTrue c ↔ (A ⊎ (IsTrue b × C))
by_second A C a b c n ea t ec = (λ h. inr (t, ec.0 h), λ o. ⊎_elim (λ h. absurd (false≢true (sym n ∙ ea.1 h))) (λ h. ec.1 h.1) o)

-- neither does
pub by_neither : (A C : Type 0) (a b : Bool) → a ≡ false → (IsTrue a ↔ A) → b ≡ false → IsTrue b ↔ (A ⊎ (IsTrue b × C))
by_neither A C a b n ea m = (λ h. absurd (false≢true (sym m ∙ h)), λ o. ⊎_elim (λ h. absurd (false≢true (sym n ∙ ea.1 h))) (λ h. h.0) o)
