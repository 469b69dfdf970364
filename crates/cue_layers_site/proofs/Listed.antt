-- What is among listed bytes.
use Rattle.std.proofs.Common.{◌≡◌, ◌+◌, ◌<◌, inl, inr, ℕ, zero, suc, List, [], ◌∷◌, ◌++◌, Bor, length, map, take, get_or, sym, ap, ◌∙◌, subst, arith}
use Rattle.std.specs.List.{AllByRecursion}
use Rattle.std.proofs.lemmas.List.{map_push, take_more}
use Rattle.cue_layers.specs.Puts.{HasElement}

-- what each points to
abbrev pub bytes_of : List (Bor (List ℕ)) → List (List ℕ)
bytes_of tags = map (λ (t : Bor (List ℕ)). t.now) tags

-- none of them is it
abbrev pub AreOthers : List (List ℕ) → List ℕ → Type 0
AreOthers xs x = AllByRecursion (λ (y : List ℕ). ¬ (y ≡ x)) xs

others_more : (xs : List (List ℕ)) (y x : List ℕ) → AreOthers xs x → ¬ (y ≡ x) → AreOthers (xs ++ y ∷ []) x
others_more [] y x all other = (other, tt)
others_more (z ∷ xs) y x all other = (all.0, others_more xs y x all.1 other)

pub one_more : (tags : List (Bor (List ℕ))) (i : ℕ) (d : Bor (List ℕ)) (x : List ℕ) → i < length tags → AreOthers (bytes_of (take i tags)) x → ¬ ((get_or tags i d).now ≡ x) → AreOthers (bytes_of (take (i + 1) tags)) x
one_more tags i d x less all other =
    subst (λ (xs : List (List ℕ)). AreOthers xs x)
    (sym (ap bytes_of (take_more tags i d less) ∙ map_push (λ (t : Bor (List ℕ)). t.now) (take i tags) (get_or tags i d)))
    (others_more (bytes_of (take i tags)) (get_or tags i d).now x all other)

pub none_is : (xs : List (List ℕ)) (x : List ℕ) → AreOthers xs x → HasElement xs x → ⊥
none_is [] x all h = absurd h
none_is (y ∷ xs) x all (inl e) = all.0 e
none_is (y ∷ xs) x all (inr h) = none_is xs x all.1 h

pub one_is : (tags : List (Bor (List ℕ))) (i : ℕ) (d : Bor (List ℕ)) (x : List ℕ) → i < length tags → (get_or tags i d).now ≡ x → HasElement (bytes_of tags) x
one_is [] i d x less e = absurd (omega (arith, less))
one_is (t ∷ tags) zero d x less e = inl e
one_is (t ∷ tags) (suc i) d x less e = inr (one_is tags i d x (omega (arith, less)) e)
