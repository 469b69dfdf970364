-- Which names a place sees.
use Rattle.std.proofs.Common.{◌≡◌, ℕ, Bool, true, false, ◌||◌, List, [], ◌∷◌, refl, sym, ◌∙◌}
use Rattle.cue_syntax.specs.declared.tree.Label.{Label}
use Rattle.cue_scope.specs.Names.{Scope, scope_behind, is_unquoted}
use Rattle.cue_scope.specs.Scopes.{has_chained}

or_swap : (a b c : Bool) → (a || (b || c)) ≡ ((b || a) || c)
or_swap true true c = refl
or_swap true false c = refl
or_swap false true c = refl
or_swap false false c = refl

-- the labels of a chain are those behind it, beside those around it
pub behind_chained : (ls : List Label) (scope : Scope) (t : List ℕ) → scope_behind ls scope t ≡ (has_chained t ls || scope t)
behind_chained [] scope t = refl
behind_chained (l ∷ ls) scope t = behind_chained ls (λ u. is_unquoted u l.name || scope u) t ∙ or_swap (has_chained t ls) (is_unquoted t l.name) (scope t)

-- two scopes that see the same labels are one
pub same_scope : (f g : Scope) → ((t : List ℕ) → f t ≡ g t) → f ≡ g
same_scope f g h = λ i t. h t i

-- behind a chain the labels of the chain are seen too
pub behind_labels : (ls : List Label) (scope : Scope) → (λ t. has_chained t ls || scope t) ≡ scope_behind ls scope
behind_labels ls scope = same_scope (λ t. has_chained t ls || scope t) (scope_behind ls scope) (λ t. sym (behind_chained ls scope t))
