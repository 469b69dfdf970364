-- A walk over names goes over the parts of an expression in turn.
use Rattle.std.proofs.Common.{◌≡◌, ℕ, suc, ◌+◌, ◌<◌, length, get_or, drop, add-one, inl, inr, ⊎_elim, subst, List, [], ◌∷◌, ◌++◌, refl, sym, ap, ◌∙◌, append_assoc, append-nil, Vec, Global}
use Rattle.std.proofs.Math.Seq.{drop-cons}
use Rattle.cue_lattice.specs.declared.refusal.Refusal.{Refusal}
use Rattle.cue_scope.specs.First.{IsFirstName}
use Rattle.cue_scope.specs.Scopes.{IsWalked, IsScopeStopped}
use Rattle.cue_scope.specs.Definitions.{Definition}
use Rattle.cue_scope.specs.Names.{Scope, scope_behind, faults, faults_of_elements, faults_of_branches, faults_of_entries}
use Rattle.cue_scope.specs.Uses.{uses, uses_of_elements, uses_of_branches, uses_of_entries}
use Rattle.cue_syntax.specs.declared.tree.Label.{Label}
use Rattle.cue_syntax.specs.declared.tree.Expr.{Expr}
use Rattle.cue_syntax.specs.declared.tree.Term.{Term}
use Rattle.cue_syntax.specs.declared.tree.Declaration.{Declaration}
use Rattle.cue_syntax.specs.declared.tree.Declaration.TheVariants as declarations
use Rattle.cue_syntax.specs.Syntax.{Entry, expression, elements_of_list, branches_of_list, entries, entry_tree, next_branch, entry, ellipsis, field, definition}
use Rattle.cue_syntax.proofs.Views.{view-term, view-Ellipsis, view-Field, view-Definition}

-- what the parts so far left, and what is still to come
pub record Walking (faults : List Refusal) (uses before now : List ℕ) (faults_left : List Refusal) (uses_left : List ℕ) : Type 0 where
  pub unfaulted : faults ≡ faults_left
  pub added : before ++ uses ≡ now ++ uses_left

pub walking_none : (faults : List Refusal) (uses before : List ℕ) → Walking faults uses before before faults uses
walking_none faults uses before = record { unfaulted = refl; added = refl }

-- one part more
pub walking_more : (faults : List Refusal) (uses before now after : List ℕ) (f rest : List Refusal) (u rest_uses : List ℕ)
    → Walking faults uses before now (f ++ rest) (u ++ rest_uses) → IsWalked f u now after → Walking faults uses before after rest rest_uses
walking_more faults uses before now after f rest u rest_uses w x = record {
  unfaulted = w.unfaulted ∙ ap (λ z. z ++ rest) x.unfaulted;
  added = w.added ∙ sym (append_assoc now u rest_uses) ∙ ap (λ z. z ++ rest_uses) (sym x.added);
}

pub walking_all : (faults : List Refusal) (uses before now : List ℕ) → Walking faults uses before now [] [] → IsWalked faults uses before now
walking_all faults uses before now w = record { unfaulted = w.unfaulted; added = sym (w.added ∙ append-nil now) }

first_before : (r : Refusal) (f rest : List Refusal) → IsFirstName r f → IsFirstName r (f ++ rest)
first_before r f rest h = record { rest = h.rest ++ rest; is = ap (λ z. z ++ rest) h.is }

pub stopped_before : (r : Refusal) (f rest : List Refusal) → IsScopeStopped f r → IsScopeStopped (f ++ rest) r
stopped_before r f rest h = ⊎_elim (λ e. inl e) (λ g. inr (first_before r f rest g)) h

-- a part stopped
pub walking_stops : (r : Refusal) (faults : List Refusal) (uses before now : List ℕ) (f rest : List Refusal) (left : List ℕ)
    → Walking faults uses before now (f ++ rest) left → IsScopeStopped f r → IsScopeStopped faults r
walking_stops r faults uses before now f rest left w h = rw w.unfaulted (stopped_before r f rest h)

-- what a loop has still to come begins with the item at hand
pub at_hand : {A : Type 0} (xs : List A) (i : ℕ) (x : A) → i < length xs → x ≡ get_or xs i x → drop i xs ≡ x ∷ drop (i + 1) xs
at_hand xs i x h is = rw (add-one, drop-cons xs i x h) (ap (λ z. z ∷ drop (suc i) xs) (sym is))

-- a loop over parts, of which these are left
abbrev pub WalkingElements : List Definition → Scope → List Expr → List ℕ → List ℕ → List Expr → Type 0
WalkingElements ds scope es before now left =
    Walking (faults_of_elements ds scope (elements_of_list es)) (uses_of_elements ds (elements_of_list es)) before now (faults_of_elements ds scope (elements_of_list left)) (uses_of_elements ds (elements_of_list left))

-- a loop over terms, of which these are left
abbrev pub WalkingTerms : List Definition → Scope → List Term → List ℕ → List ℕ → List Term → Type 0
WalkingTerms ds scope ts before now left =
    Walking (faults_of_branches ds scope (branches_of_list ts)) (uses_of_branches ds (branches_of_list ts)) before now (faults_of_branches ds scope (branches_of_list left)) (uses_of_branches ds (branches_of_list left))

-- a loop over declarations, of which these are left
abbrev pub WalkingEntries : List Definition → Scope → List Declaration → List ℕ → List ℕ → List Declaration → Type 0
WalkingEntries ds scope es before now left =
    Walking (faults_of_entries ds scope (entries es)) (uses_of_entries ds (entries es)) before now (faults_of_entries ds scope (entries left)) (uses_of_entries ds (entries left))

pub element_at_hand : (ds : List Definition) (scope : Scope) (es : List Expr) (before now : List ℕ) (i : ℕ) (e : Expr) → WalkingElements ds scope es before now (drop i es) → i < length es → e ≡ get_or es i e
    → Walking (faults_of_elements ds scope (elements_of_list es)) (uses_of_elements ds (elements_of_list es)) before now
    (faults ds scope (expression e) ++ faults_of_elements ds scope (elements_of_list (drop (i + 1) es))) (uses ds (expression e) ++ uses_of_elements ds (elements_of_list (drop (i + 1) es)))
element_at_hand ds scope es before now i e w h is = subst (λ z. WalkingElements ds scope es before now z) (at_hand es i e h is) w

pub term_at_hand : (ds : List Definition) (scope : Scope) (ts : List Term) (before now : List ℕ) (i : ℕ) (t : Term) → WalkingTerms ds scope ts before now (drop i ts) → i < length ts → t ≡ get_or ts i t
    → Walking (faults_of_branches ds scope (branches_of_list ts)) (uses_of_branches ds (branches_of_list ts)) before now
    (faults ds scope (expression t.value) ++ faults_of_branches ds scope (branches_of_list (drop (i + 1) ts))) (uses ds (expression t.value) ++ uses_of_branches ds (branches_of_list (drop (i + 1) ts)))
term_at_hand ds scope ts before now i t w h is =
    subst (λ z. Walking (faults_of_branches ds scope (branches_of_list ts)) (uses_of_branches ds (branches_of_list ts)) before now (faults_of_branches ds scope (next_branch z (branches_of_list (drop (i + 1) ts))))
    (uses_of_branches ds (next_branch z (branches_of_list (drop (i + 1) ts))))) (view-term t) (subst (λ z. WalkingTerms ds scope ts before now z) (at_hand ts i t h is) w)

-- the declaration at hand is this one
entry_at_hand : (ds : List Definition) (scope : Scope) (es : List Declaration) (before now : List ℕ) (i : ℕ) (d : Declaration) (e : Entry) → WalkingEntries ds scope es before now (drop i es) → i < length es → d ≡ get_or es i d
    → entry_tree d ≡ e → Walking (faults_of_entries ds scope (entries es)) (uses_of_entries ds (entries es)) before now (faults_of_entries ds scope (entry e (entries (drop (i + 1) es)))) (uses_of_entries ds (entry e (entries (drop (i + 1) es))))
entry_at_hand ds scope es before now i d e w h is same =
    subst (λ z. Walking (faults_of_entries ds scope (entries es)) (uses_of_entries ds (entries es)) before now (faults_of_entries ds scope (entry z (entries (drop (i + 1) es))))
    (uses_of_entries ds (entry z (entries (drop (i + 1) es))))) same (subst (λ z. WalkingEntries ds scope es before now z) (at_hand es i d h is) w)

pub ellipsis_passed : (ds : List Definition) (scope : Scope) (es : List Declaration) (before now : List ℕ) (i : ℕ) (d : Declaration) → WalkingEntries ds scope es before now (drop i es) → i < length es → d ≡ get_or es i d
    → d ≡ declarations.Ellipsis → WalkingEntries ds scope es before now (drop (i + 1) es)
ellipsis_passed ds scope es before now i d w h is same = entry_at_hand ds scope es before now i d ellipsis w h is (ap entry_tree same ∙ view-Ellipsis)

pub field_at_hand : (ds : List Definition) (scope : Scope) (es : List Declaration) (before now : List ℕ) (i : ℕ) (d : Declaration) (l : Label) (chain : Vec Label Global) (e : Expr)
    → WalkingEntries ds scope es before now (drop i es) → i < length es → d ≡ get_or es i d → d ≡ declarations.Field l chain e
    → Walking (faults_of_entries ds scope (entries es)) (uses_of_entries ds (entries es)) before now
    (faults ds (scope_behind chain.items scope) (expression e) ++ faults_of_entries ds scope (entries (drop (i + 1) es))) (uses ds (expression e) ++ uses_of_entries ds (entries (drop (i + 1) es)))
field_at_hand ds scope es before now i d l chain e w h is same = entry_at_hand ds scope es before now i d (field l chain.items (expression e)) w h is (ap entry_tree same ∙ view-Field l chain e)

pub definition_at_hand : (ds : List Definition) (scope : Scope) (es : List Declaration) (before now : List ℕ) (i : ℕ) (d : Declaration) (t : List ℕ) (from : ℕ) (chain : Vec Label Global) (e : Expr)
    → WalkingEntries ds scope es before now (drop i es) → i < length es → d ≡ get_or es i d → d ≡ declarations.Definition t from chain e
    → Walking (faults_of_entries ds scope (entries es)) (uses_of_entries ds (entries es)) before now
    (faults ds (scope_behind chain.items scope) (expression e) ++ faults_of_entries ds scope (entries (drop (i + 1) es))) (uses ds (expression e) ++ uses_of_entries ds (entries (drop (i + 1) es)))
definition_at_hand ds scope es before now i d t from chain e w h is same =
    entry_at_hand ds scope es before now i d (definition t from chain.items (expression e)) w h is (ap entry_tree same ∙ view-Definition t from chain e)
