-- Faults of names are of two kinds.
use Rattle.std.proofs.Common.{◌≡◌, ℕ, ◌⊎◌, inl, inr, ⊎_elim, Bool, true, false, cond, List, [], ◌∷◌, ◌++◌, codes, refl, sym, subst}
use Rattle.std.specs.Option.{is_some}
use Rattle.std.specs.Str.{bytes_eq}
use Rattle.cue_lattice.specs.declared.refusal.Kind.{Kind}
use Rattle.cue_lattice.specs.declared.refusal.Kind.TheVariants as kinds
use Rattle.cue_lattice.specs.declared.refusal.Refusal.{Refusal}
use Rattle.cue_syntax.specs.declared.tree.Identifier.{Identifier}
use Rattle.cue_syntax.specs.declared.tree.Identifier.TheVariants as identifiers
use Rattle.cue_syntax.specs.Syntax as tree
use Rattle.cue_syntax.specs.Syntax.{Expression, Elements, no_elements, element, branch, Branches, no_branches, next_branch, ellipsis, field, definition, Entries, no_entries, entry}
use Rattle.cue_scope.specs.Definitions.{Definition, definitions, number_of_name}
use Rattle.cue_scope.specs.First.{IsFirstName}
use Rattle.cue_scope.specs.Named.{named_of, is_literal}
use Rattle.cue_scope.specs.Names.{Scope, refuse_name, scope_inside, scope_behind, fault_of_name, fault_of_close, faults, faults_of_elements, faults_of_rest, faults_of_branches, faults_of_entries, name_faults}
use Rattle.cue_scope.specs.Refusing.{IsUnrepeated, RefusesAs, TextRefuses}

IsOfNames : Kind → Type 0
IsOfNames k = (k ≡ kinds.UnknownName) ⊎ (k ≡ kinds.FieldReference)

abbrev AreOfNames : List Refusal → Type 0
AreOfNames [] = Unit {0}
AreOfNames (r ∷ rs) = IsOfNames r.kind × AreOfNames rs

of_names : (xs ys : List Refusal) → AreOfNames xs → AreOfNames ys → AreOfNames (xs ++ ys)
of_names [] ys a b = b
of_names (x ∷ xs) ys a b = (a.0, of_names xs ys a.1 b)

either : (b : Bool) (xs ys : List Refusal) → AreOfNames xs → AreOfNames ys → AreOfNames (cond b xs ys)
either true xs ys a c = a
either false xs ys a c = c

unknown : (place : ℕ) → AreOfNames (refuse_name kinds.UnknownName place)
unfolding IsOfNames
unknown place = (inl refl, tt)

reference : (place : ℕ) → AreOfNames (refuse_name kinds.FieldReference place)
unfolding IsOfNames
reference place = (inr refl, tt)

of_name : (ds : List Definition) (scope : Scope) (n : Identifier) (place : ℕ) → AreOfNames (fault_of_name ds scope n place)
of_name ds scope (identifiers.Plain t) place =
    either (is_literal t) [] (cond (scope t) (refuse_name kinds.FieldReference place) (cond (is_some (named_of t)) [] (refuse_name kinds.UnknownName place))) tt
    (either (scope t) (refuse_name kinds.FieldReference place) (cond (is_some (named_of t)) [] (refuse_name kinds.UnknownName place)) (reference place)
    (either (is_some (named_of t)) [] (refuse_name kinds.UnknownName place) tt (unknown place)))
of_name ds scope (identifiers.Definition t) place = either (is_some (number_of_name t ds)) [] (refuse_name kinds.UnknownName place) tt (unknown place)
of_name ds scope (identifiers.Hidden t) place = either (bytes_eq t (codes "_")) [] (refuse_name kinds.UnknownName place) tt (unknown place)

mutual
  of_expression : (ds : List Definition) (scope : Scope) (e : Expression) → AreOfNames (faults ds scope e)
  of_expression ds scope (tree.name n place) = of_name ds scope n place
  of_expression ds scope (tree.integer n) = tt
  of_expression ds scope (tree.text t) = tt
  of_expression ds scope tree.bottom = tt
  of_expression ds scope (tree.bound c n) = tt
  of_expression ds scope (tree.other_integer n) = tt
  of_expression ds scope (tree.other_text t) = tt
  of_expression ds scope (tree.parenthesis e comma) = of_expression ds scope e
  of_expression ds scope (tree.struct es comma) = of_entries ds (scope_inside es scope) es
  of_expression ds scope (tree.close place es inner comma) =
      of_names (fault_of_close scope place) (faults_of_entries ds (scope_inside es scope) es) (either (scope (codes "close")) (refuse_name kinds.FieldReference place) [] (reference place) tt) (of_entries ds (scope_inside es scope) es)
  of_expression ds scope (tree.list es rest comma) = of_names (faults_of_elements ds scope es) (faults_of_rest ds scope rest) (of_elements ds scope es) (of_rest ds scope rest)
  of_expression ds scope (tree.conjunction es) = of_elements ds scope es
  of_expression ds scope (tree.disjunction bs) = of_branches ds scope bs

  of_elements : (ds : List Definition) (scope : Scope) (es : Elements) → AreOfNames (faults_of_elements ds scope es)
  of_elements ds scope no_elements = tt
  of_elements ds scope (element e es) = of_names (faults ds scope e) (faults_of_elements ds scope es) (of_expression ds scope e) (of_elements ds scope es)

  of_rest : (ds : List Definition) (scope : Scope) (rest : tree.Rest) → AreOfNames (faults_of_rest ds scope rest)
  of_rest ds scope tree.no_rest = tt
  of_rest ds scope tree.any_rest = tt
  of_rest ds scope (tree.each_rest e) = of_expression ds scope e

  of_branches : (ds : List Definition) (scope : Scope) (bs : Branches) → AreOfNames (faults_of_branches ds scope bs)
  of_branches ds scope no_branches = tt
  of_branches ds scope (next_branch (branch marked place e) bs) = of_names (faults ds scope e) (faults_of_branches ds scope bs) (of_expression ds scope e) (of_branches ds scope bs)

  of_entries : (ds : List Definition) (scope : Scope) (es : Entries) → AreOfNames (faults_of_entries ds scope es)
  of_entries ds scope no_entries = tt
  of_entries ds scope (entry ellipsis es) = of_entries ds scope es
  of_entries ds scope (entry (field l chain e) es) = of_names (faults ds (scope_behind chain scope) e) (faults_of_entries ds scope es) (of_expression ds (scope_behind chain scope) e) (of_entries ds scope es)
  of_entries ds scope (entry (definition t place chain e) es) = of_names (faults ds (scope_behind chain scope) e) (faults_of_entries ds scope es) (of_expression ds (scope_behind chain scope) e) (of_entries ds scope es)

first_of_names : (r : Refusal) (rs : List Refusal) → IsFirstName r rs → AreOfNames rs → IsOfNames r.kind
first_of_names r rs f h = let all = subst AreOfNames f.is h in all.0

-- the first fault of a name refuses the text
pub refuses_name : (es : Entries) (r : Refusal) → IsUnrepeated es → IsFirstName r (name_faults es) → TextRefuses es r
unfolding IsOfNames
refuses_name es r u f =
    ⊎_elim
    (λ e. subst (λ k. RefusesAs es k r.place) (sym e) (u, subst (λ k. IsFirstName (record { kind = k; place = r.place }) (name_faults es)) e f))
    (λ e. subst (λ k. RefusesAs es k r.place) (sym e) (u, subst (λ k. IsFirstName (record { kind = k; place = r.place }) (name_faults es)) e f))
    (first_of_names r (name_faults es) f (of_entries (definitions es) (scope_inside es (λ t. false)) es))
