-- What the scalars of a place are printed as.
use Rattle.std.proofs.Common.{◌≡◌, ℕ, List, [], ◌∷◌, ◌++◌, Some, length, map, refl, ap, ◌∙◌, arith}
use Rattle.cue_print.specs.Expressions.{PrintedTerm}
use Rattle.cue_print.specs.Printed.{scalar_value}
use Rattle.cue_print.specs.Spelled.{default_text, terms_text, value_text}

-- all are usual
pub plain : (shown all usual left : List PrintedTerm) → shown ≡ all → left ≡ [] → terms_text shown ≡ value_text (scalar_value all usual left)
unfolding value_text default_text
plain shown all usual [] e h = ap terms_text e
plain shown all usual (term ∷ left) e h = cc

-- some are usual
pub marked : (marks shown all usual left : List PrintedTerm) → marks ≡ usual → shown ≡ left → (left ≡ [] → ⊥) → default_text (Some marks) ++ terms_text shown ≡ value_text (scalar_value all usual left)
unfolding value_text
marked marks shown all usual [] e f h = absurd (h refl)
marked marks shown all usual (term ∷ left) e f h = ap (λ ts. default_text (Some ts) ++ terms_text shown) e ∙ ap (λ ts. default_text (Some usual) ++ terms_text ts) f

-- ---- a list of terms that are shown as others
pub none_shown : {X Y : Type 0} (g : X → Y) (xs : List X) → length xs ≡ 0 → map g xs ≡ []
none_shown g [] h = refl
none_shown g (x ∷ xs) h = absurd (omega arith)

pub some_shown : {X Y : Type 0} (g : X → Y) (xs : List X) → (length xs ≡ 0 → ⊥) → map g xs ≡ [] → ⊥
some_shown g [] h e = h refl
some_shown g (x ∷ xs) h e = cc
