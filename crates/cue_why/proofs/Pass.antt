-- One pass over a list leaves a least one, where what suffices still does with more elements.
use Rattle.std.proofs.Common.{◌≡◌, ◌⊎◌, inl, inr, ⊎_elim, List, [], ◌∷◌, ◌++◌, refl, sym, ap, subst, ◌∙◌, append_assoc, append-nil}
use Rattle.cue_lattice.specs.OneOf.{OneOf}
use Rattle.cue_why.specs.Least.{IsLeft, IsLeastList}

module _ {X : Type 0} where
  pub Holds : List X → X → Type 0
  Holds xs x = OneOf (λ y. y ≡ x) xs

  no_end : (xs : List X) (a : X) (ys : List X) → [] ≡ xs ++ a ∷ ys → ⊥
  no_end [] a ys e = cc
  no_end (x ∷ xs) a ys e = cc

  -- the last element of a list, in or behind a place of the list
  pub split_last : (kept before after : List X) (x y : X) → kept ++ x ∷ [] ≡ before ++ y ∷ after
      → ((after ≡ []) × (before ≡ kept)) ⊎ ((more : List X) × (after ≡ more ++ x ∷ []) × (kept ≡ before ++ y ∷ more))
  split_last [] [] after x y e = let none : after ≡ [] = cc in inl (none, refl)
  split_last [] (b ∷ before) after x y e = let none : [] ≡ before ++ y ∷ after = cc in absurd (no_end before y after none)
  split_last (k ∷ kept) [] after x y e = let same : k ≡ y = cc in let more : after ≡ kept ++ x ∷ [] = cc in inr (kept, more, ap (λ z. z ∷ kept) same)
  split_last (k ∷ kept) (b ∷ before) after x y e =
      let same : k ≡ b = cc in
      let rest : kept ++ x ∷ [] ≡ before ++ y ∷ after = cc in
      ⊎_elim
      (λ h. inl (h.0, let e2 = h.1 in cc))
      (λ h. let e2 = h.2 in let e3 : k ∷ kept ≡ b ∷ (before ++ y ∷ h.0) = cc in inr (h.0, h.1, e3))
      (split_last kept before after x y rest)

  pub one_front : (P : X → Type 0) (xs ys : List X) → OneOf P xs → OneOf P (xs ++ ys)
  one_front P [] ys h = absurd h
  one_front P (x ∷ xs) ys h = ⊎_elim (λ p. inl p) (λ q. inr (one_front P xs ys q)) h

  pub one_back : (P : X → Type 0) (xs ys : List X) → OneOf P ys → OneOf P (xs ++ ys)
  one_back P [] ys h = h
  one_back P (x ∷ xs) ys h = inr (one_back P xs ys h)

  pub one_split : (P : X → Type 0) (xs ys : List X) → OneOf P (xs ++ ys) → OneOf P xs ⊎ OneOf P ys
  one_split P [] ys h = inr h
  one_split P (x ∷ xs) ys h = ⊎_elim (λ p. inl (inl p)) (λ q. ⊎_elim (λ a. inl (inr a)) (λ b. inr b) (one_split P xs ys q)) h

  -- one element more in a list
  one_more : (P : X → Type 0) (xs ys : List X) (z : X) → OneOf P (xs ++ ys) → OneOf P (xs ++ z ∷ ys)
  one_more P xs ys z h = ⊎_elim (λ a. one_front P xs (z ∷ ys) a) (λ b. one_back P xs (z ∷ ys) (inr b)) (one_split P xs ys h)

module _ {X : Type 0} (Suffices : List X → Type 0)
    (more : (a b : List X) → ((x : X) → OneOf (λ y. y ≡ x) a → OneOf (λ y. y ≡ x) b) → Suffices a → Suffices b) where
  AllNeeded : List X → List X → Type 0
  AllNeeded kept ahead = (before after : List X) (y : X) → kept ≡ before ++ y ∷ after → ¬ Suffices (before ++ (after ++ ahead))

  fewer : (kept ahead : List X) (x : X) → AllNeeded kept (x ∷ ahead) → AllNeeded kept ahead
  unfolding AllNeeded
  fewer kept ahead x needed before after y e h =
      needed before after y e
      (more (before ++ (after ++ ahead)) (before ++ (after ++ x ∷ ahead))
      (λ z one. ⊎_elim
      (λ a. one_front (λ w. w ≡ z) before (after ++ x ∷ ahead) a)
      (λ b. one_back (λ w. w ≡ z) before (after ++ x ∷ ahead) (one_more (λ w. w ≡ z) after ahead x b))
      (one_split (λ w. w ≡ z) before (after ++ ahead) one))
      h)

  further : (kept ahead : List X) (x : X) → ¬ Suffices (kept ++ ahead) → AllNeeded kept (x ∷ ahead) → AllNeeded (kept ++ x ∷ []) ahead
  unfolding AllNeeded
  further kept ahead x not needed before after y e h = ⊎_elim
      (λ last. not (subst (λ xs. Suffices (xs ++ ahead)) last.1 (subst (λ xs. Suffices (before ++ (xs ++ ahead))) last.0 h)))
      (λ inner.
      let e2 : after ++ ahead ≡ inner.0 ++ x ∷ ahead = ap (λ xs. xs ++ ahead) inner.1 ∙ append_assoc inner.0 (x ∷ []) ahead in
      needed before inner.0 y inner.2 (subst (λ xs. Suffices (before ++ xs)) e2 h))
      (split_last kept before after x y e)

  goes : (kept ahead left : List X) → Suffices (kept ++ ahead) → AllNeeded kept ahead → IsLeft Suffices kept ahead left → IsLeastList Suffices left
  unfolding AllNeeded
  goes kept [] left s needed e =
      let all : Suffices kept = subst Suffices (append-nil kept) s in
      record {
        suffices = subst Suffices (sym e) all;
        least = λ before after x is h. needed before after x (sym e ∙ is) (subst (λ xs. Suffices (before ++ xs)) (sym (append-nil after)) h);
      }
  goes kept (x ∷ ahead) left s needed h = ⊎_elim
      (λ out. goes kept ahead left out.0 (fewer kept ahead x needed) out.1)
      (λ stays. goes (kept ++ x ∷ []) ahead left (subst Suffices (sym (append_assoc kept (x ∷ []) ahead)) s) (further kept ahead x stays.0 needed) stays.1)
      h

  -- so what is left of a whole list is least
  pub left_is_least : (xs left : List X) → Suffices xs → IsLeft Suffices [] xs left → IsLeastList Suffices left
  unfolding AllNeeded
  left_is_least xs left s h = goes [] xs left s (λ before after y e no. no_end before y after e) h
