-- Two lists that go along each other.
use Rattle.std.proofs.Common.{◌≡◌, ℕ, zero, suc, ◌<◌, List, [], ◌∷◌, ◌++◌, length, Some, refl, subst, ap, arith}
use Rattle.std.specs.Prelude.{slice_get, slice_set, unwrap_or}
use Rattle.cue_lattice.specs.World.{AllAlong}

-- two lists that go along each other are as long as each other
pub length-along : {X Y : Type 0} (R : X → Y → Type 0) (xs : List X) (ys : List Y) → AllAlong R xs ys → length xs ≡ length ys
length-along R [] [] h = refl
length-along R [] (y ∷ ys) h = absurd h
length-along R (x ∷ xs) [] h = absurd h
length-along R (x ∷ xs) (y ∷ ys) h = ap suc (length-along R xs ys h.1)

-- an element that is found in the first list goes along with the one at its place in the second
pub along_at : {X Y : Type 0} (R : X → Y → Type 0) (xs : List X) (ys : List Y) (i : ℕ) (x : X) (d : Y) → AllAlong R xs ys → slice_get xs i ≡ Some x → R x (unwrap_or (slice_get ys i) d)
along_at R [] ys i x d h e = cc
along_at R (x' ∷ xs) [] i x d h e = absurd h
along_at {X} R (x' ∷ xs) (y ∷ ys) zero x d h e = let same : x' ≡ x = cc in subst (λ (z : X). R z y) same h.0
along_at R (x' ∷ xs) (y ∷ ys) (suc i) x d h e = along_at R xs ys i x d h.1 e

-- two lists go along each other where at one place both are set to elements that do
pub along_set : {X Y : Type 0} (R : X → Y → Type 0) (xs : List X) (ys : List Y) (i : ℕ) (x : X) (y : Y) → AllAlong R xs ys → R x y → AllAlong R (slice_set xs i x) (slice_set ys i y)
along_set R [] [] i x y h r = tt
along_set R [] (y' ∷ ys) i x y h r = absurd h
along_set R (x' ∷ xs) [] i x y h r = absurd h
along_set R (x' ∷ xs) (y' ∷ ys) zero x y h r = (r, h.1)
along_set R (x' ∷ xs) (y' ∷ ys) (suc i) x y h r = (h.0, along_set R xs ys i x y h.1 r)

-- two lists go along each other with one element more on each, where these do
pub along_push : {X Y : Type 0} (R : X → Y → Type 0) (xs : List X) (ys : List Y) (x : X) (y : Y) → AllAlong R xs ys → R x y → AllAlong R (xs ++ x ∷ []) (ys ++ y ∷ [])
along_push R [] [] x y h r = (r, tt)
along_push R [] (y' ∷ ys) x y h r = absurd h
along_push R (x' ∷ xs) [] x y h r = absurd h
along_push R (x' ∷ xs) (y' ∷ ys) x y h r = (h.0, along_push R xs ys x y h.1 r)

-- an element written over itself
pub set_same : {X : Type 0} (xs : List X) (i : ℕ) (x : X) → slice_get xs i ≡ Some x → slice_set xs i x ≡ xs
set_same [] i x e = refl
set_same {X} (x' ∷ xs) zero x e = let same : x ≡ x' = cc in ap (λ (z : X). z ∷ xs) same
set_same {X} (x' ∷ xs) (suc i) x e = ap (λ (zs : List X). x' ∷ zs) (set_same xs i x e)

-- what is found stands within
pub found_within : {X : Type 0} (xs : List X) (i : ℕ) (x : X) → slice_get xs i ≡ Some x → i < length xs
found_within [] i x e = cc
found_within (x' ∷ xs) zero x e = omega arith
found_within (x' ∷ xs) (suc i) x e = let rest = found_within xs i x e in omega (arith, rest)
