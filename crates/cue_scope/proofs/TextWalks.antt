-- A walk over the names of a whole text.
use Rattle.std.proofs.Common.{◌≡◌, ℕ, ◌+◌, ◌<◌, length, get_or, drop, map, subst, List, [], ◌∷◌, ◌++◌, refl, sym, ap, ◌∙◌, append_assoc, Vec, Global}
use Rattle.cue_lattice.specs.declared.refusal.Refusal.{Refusal}
use Rattle.cue_syntax.specs.declared.tree.Label.{Label}
use Rattle.cue_syntax.specs.declared.tree.Expr.{Expr}
use Rattle.cue_syntax.specs.declared.tree.Declaration.{Declaration}
use Rattle.cue_syntax.specs.declared.tree.Declaration.TheVariants as declarations
use Rattle.cue_syntax.specs.Syntax.{Entry, expression, entries, entry_tree, entry, ellipsis, field, definition}
use Rattle.cue_syntax.proofs.Views.{view-Ellipsis, view-Field, view-Definition}
use Rattle.cue_scope.specs.Definitions.{Definition, definitions}
use Rattle.cue_scope.specs.Names.{Scope, scope_behind, faults, faults_of_entries}
use Rattle.cue_scope.specs.Uses.{uses, uses_of_fields}
use Rattle.cue_scope.specs.Ordering.{graph_of}
use Rattle.cue_scope.specs.Scopes.{IsWalked, IsScopeStopped}
use Rattle.cue_scope.proofs.Walking.{at_hand, stopped_before}

-- what the definitions of these declarations use
abbrev pub edges : List Definition → List Declaration → List (List ℕ)
edges ds es = map (λ d. uses ds d.value) (definitions (entries es))

-- a loop over the declarations of a text, of which these are left
pub record WalkingText (ds : List Definition) (scope : Scope) (es : List Declaration) (graph : List (Vec ℕ Global)) (fields : List ℕ) (left : List Declaration) : Type 0 where
  pub unfaulted : faults_of_entries ds scope (entries es) ≡ faults_of_entries ds scope (entries left)
  pub graphed : edges ds es ≡ graph_of graph ++ edges ds left
  pub listed : uses_of_fields ds (entries es) ≡ fields ++ uses_of_fields ds (entries left)

pub text_none : (ds : List Definition) (scope : Scope) (es : List Declaration) → WalkingText ds scope es [] [] es
text_none ds scope es = record { unfaulted = refl; graphed = refl; listed = refl }

graph_push : (g : List (Vec ℕ Global)) (v : Vec ℕ Global) → graph_of (g ++ v ∷ []) ≡ graph_of g ++ v.items ∷ []
graph_push [] v = refl
graph_push (x ∷ g) v = ap (λ z. x.items ∷ z) (graph_push g v)

-- the same with the tree of the declaration at hand
abbrev Hand : List Definition → Scope → List Declaration → List (Vec ℕ Global) → List ℕ → Entry → List Declaration → Type 0
Hand ds scope es graph fields e left =
    (faults_of_entries ds scope (entries es) ≡ faults_of_entries ds scope (entry e (entries left)))
    × (edges ds es ≡ graph_of graph ++ map (λ d. uses ds d.value) (definitions (entry e (entries left))))
    × (uses_of_fields ds (entries es) ≡ fields ++ uses_of_fields ds (entry e (entries left)))

hand : (ds : List Definition) (scope : Scope) (es : List Declaration) (graph : List (Vec ℕ Global)) (fields : List ℕ) (i : ℕ) (d : Declaration) (e : Entry) → WalkingText ds scope es graph fields (drop i es)
    → i < length es → d ≡ get_or es i d → entry_tree d ≡ e → Hand ds scope es graph fields e (drop (i + 1) es)
hand ds scope es graph fields i d e w h is same =
    let v = subst (λ z. WalkingText ds scope es graph fields z) (at_hand es i d h is) w in
    subst (λ z. Hand ds scope es graph fields z (drop (i + 1) es)) same (v.unfaulted, v.graphed, v.listed)

pub text_ellipsis : (ds : List Definition) (scope : Scope) (es : List Declaration) (graph : List (Vec ℕ Global)) (fields : List ℕ) (i : ℕ) (d : Declaration) → WalkingText ds scope es graph fields (drop i es)
    → i < length es → d ≡ get_or es i d → d ≡ declarations.Ellipsis → WalkingText ds scope es graph fields (drop (i + 1) es)
text_ellipsis ds scope es graph fields i d w h is same =
    let v = hand ds scope es graph fields i d ellipsis w h is (ap entry_tree same ∙ view-Ellipsis) in
    record { unfaulted = v.0; graphed = v.1; listed = v.2 }

pub text_field : (ds : List Definition) (scope : Scope) (es : List Declaration) (graph : List (Vec ℕ Global)) (fields after : List ℕ) (i : ℕ) (d : Declaration) (l : Label) (chain : Vec Label Global) (e : Expr)
    → WalkingText ds scope es graph fields (drop i es) → i < length es → d ≡ get_or es i d → d ≡ declarations.Field l chain e
    → IsWalked (faults ds (scope_behind chain.items scope) (expression e)) (uses ds (expression e)) fields after → WalkingText ds scope es graph after (drop (i + 1) es)
text_field ds scope es graph fields after i d l chain e w h is same walked =
    let v = hand ds scope es graph fields i d (field l chain.items (expression e)) w h is (ap entry_tree same ∙ view-Field l chain e) in
    record {
      unfaulted = v.0 ∙ ap (λ z. z ++ faults_of_entries ds scope (entries (drop (i + 1) es))) walked.unfaulted;
      graphed = v.1;
      listed = v.2 ∙ sym (append_assoc fields (uses ds (expression e)) (uses_of_fields ds (entries (drop (i + 1) es)))) ∙ ap (λ z. z ++ uses_of_fields ds (entries (drop (i + 1) es))) (sym walked.added);
    }

pub text_definition : (ds : List Definition) (scope : Scope) (es : List Declaration) (graph now : List (Vec ℕ Global)) (fields : List ℕ) (after : Vec ℕ Global) (i : ℕ) (d : Declaration) (t : List ℕ) (from : ℕ) (chain : Vec Label Global) (e : Expr)
    → WalkingText ds scope es graph fields (drop i es) → i < length es → d ≡ get_or es i d → d ≡ declarations.Definition t from chain e
    → IsWalked (faults ds (scope_behind chain.items scope) (expression e)) (uses ds (expression e)) [] after.items → now ≡ graph ++ after ∷ [] → WalkingText ds scope es now fields (drop (i + 1) es)
text_definition ds scope es graph now fields after i d t from chain e w h is same walked pushed =
    let v = hand ds scope es graph fields i d (definition t from chain.items (expression e)) w h is (ap entry_tree same ∙ view-Definition t from chain e) in
    let rest = edges ds (drop (i + 1) es) in
    record {
      unfaulted = v.0 ∙ ap (λ z. z ++ faults_of_entries ds scope (entries (drop (i + 1) es))) walked.unfaulted;
      graphed = v.1 ∙ sym (append_assoc (graph_of graph) (uses ds (expression e) ∷ []) rest) ∙ ap (λ z. (graph_of graph ++ z ∷ []) ++ rest) (sym walked.added)
          ∙ ap (λ z. z ++ rest) (sym (graph_push graph after)) ∙ ap (λ z. graph_of z ++ rest) (sym pushed);
      listed = v.2;
    }

pub text_stops_field : (r : Refusal) (ds : List Definition) (scope : Scope) (es : List Declaration) (graph : List (Vec ℕ Global)) (fields : List ℕ) (i : ℕ) (d : Declaration) (l : Label) (chain : Vec Label Global) (e : Expr)
    → WalkingText ds scope es graph fields (drop i es) → i < length es → d ≡ get_or es i d → d ≡ declarations.Field l chain e
    → IsScopeStopped (faults ds (scope_behind chain.items scope) (expression e)) r → IsScopeStopped (faults_of_entries ds scope (entries es)) r
text_stops_field r ds scope es graph fields i d l chain e w h is same stopped =
    let v = hand ds scope es graph fields i d (field l chain.items (expression e)) w h is (ap entry_tree same ∙ view-Field l chain e) in
    subst (λ z. IsScopeStopped z r) (sym v.0) (stopped_before r (faults ds (scope_behind chain.items scope) (expression e)) (faults_of_entries ds scope (entries (drop (i + 1) es))) stopped)

pub text_stops_definition : (r : Refusal) (ds : List Definition) (scope : Scope) (es : List Declaration) (graph : List (Vec ℕ Global)) (fields : List ℕ) (i : ℕ) (d : Declaration) (t : List ℕ) (from : ℕ) (chain : Vec Label Global) (e : Expr)
    → WalkingText ds scope es graph fields (drop i es) → i < length es → d ≡ get_or es i d → d ≡ declarations.Definition t from chain e
    → IsScopeStopped (faults ds (scope_behind chain.items scope) (expression e)) r → IsScopeStopped (faults_of_entries ds scope (entries es)) r
text_stops_definition r ds scope es graph fields i d t from chain e w h is same stopped =
    let v = hand ds scope es graph fields i d (definition t from chain.items (expression e)) w h is (ap entry_tree same ∙ view-Definition t from chain e) in
    subst (λ z. IsScopeStopped z r) (sym v.0) (stopped_before r (faults ds (scope_behind chain.items scope) (expression e)) (faults_of_entries ds scope (entries (drop (i + 1) es))) stopped)
