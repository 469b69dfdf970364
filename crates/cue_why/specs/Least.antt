-- What is left of a list when each element is left out in turn, once, where the others suffice.
use Rattle.std.specs.Prelude.{◌≡◌, ◌⊎◌, List, [], ◌∷◌, ◌++◌}

-- Behind those that are kept, each element ahead is left out where those that are kept and those
-- behind it suffice, and otherwise is kept too.
abbrev pub IsLeft : {X : Type 0} → (List X → Type 0) → List X → List X → List X → Type 0
IsLeft Suffices kept [] left = left ≡ kept
IsLeft Suffices kept (x ∷ ahead) left =
    (Suffices (kept ++ ahead) × IsLeft Suffices kept ahead left)
    ⊎ ((¬ Suffices (kept ++ ahead)) × IsLeft Suffices (kept ++ x ∷ []) ahead left)

-- a least list: it suffices, and without one of its elements it does not
pub record IsLeastList {X : Type 0} (Suffices : List X → Type 0) (xs : List X) : Type 0 where
  pub suffices : Suffices xs
  pub least : (before after : List X) (x : X) → xs ≡ before ++ x ∷ after
      → ¬ Suffices (before ++ after)
