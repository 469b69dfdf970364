-- What a place in a text sees, and what a walk over names leaves.
use Rattle.std.specs.Prelude.{ℕ, ◌≡◌, ◌⊎◌, Bool, false, List, [], ◌∷◌, ◌++◌, ◌||◌}
use Rattle.cue_lattice.specs.declared.refusal.Refusal.{Refusal}
use Rattle.cue_lattice.specs.Refusal.{memory}
use Rattle.cue_scope.specs.declared.scope.Scope as code
use Rattle.cue_scope.specs.declared.scope.Scope.{Outermost, Literal', Chain'}
use Rattle.cue_scope.specs.declared.names.NameScope.{NameScope}
use Rattle.cue_scope.specs.Definitions.{Definition}
use Rattle.cue_scope.specs.First.{IsFirstName}
use Rattle.cue_scope.specs.Kept.{nodes_kept}
use Rattle.cue_scope.specs.Hiding.{labels_in}
use Rattle.cue_scope.specs.Names.{Scope, scope_inside, is_unquoted}
use Rattle.cue_syntax.specs.declared.tree.Label.{Label}

-- a label of the chain has this name, unquoted
abbrev pub has_chained : List ℕ → List Label → Bool
has_chained t [] = false
has_chained t (l ∷ ls) = is_unquoted t l.name || has_chained t ls

-- the unquoted labels of the struct literals that enclose a place
abbrev pub scope_of : code.Scope → Scope
scope_of Outermost = λ t. false
scope_of (Literal' labels p outer) = scope_inside (labels_in labels.now) (scope_of outer)
scope_of (Chain' labels p outer) = λ t. has_chained t labels.now || scope_of outer t

-- a walk over names met no fault, and put the definitions that they use behind those before
pub record IsWalked (faults : List Refusal) (uses before after : List ℕ) : Type 0 where
  pub unfaulted : faults ≡ []
  pub added : after ≡ before ++ uses

-- a walk over names stopped at the first fault, or for want of memory
abbrev pub IsScopeStopped : List Refusal → Refusal → Type 0
IsScopeStopped faults refusal = (refusal ≡ memory) ⊎ IsFirstName refusal faults

abbrev pub definitions_at : NameScope → List Definition
definitions_at place = nodes_kept place.definitions.now
