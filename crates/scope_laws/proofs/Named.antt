-- The faults of the names in a tree, without its places.
use Rattle.std.proofs.Common.{◌≡◌, ◌∙◌, ap, sym, refl, ℕ, Bool, true, false, cond, ◌||◌, List, [], ◌∷◌, ◌++◌, map, codes}
use Rattle.std.proofs.lemmas.List.{map-append}
use Rattle.std.specs.Option.{is_some}
use Rattle.std.specs.Str.{bytes_eq}
use Rattle.cue_lattice.specs.declared.refusal.Kind.{Kind}
use Rattle.cue_lattice.specs.declared.refusal.Kind.TheVariants as kinds
use Rattle.cue_lattice.specs.declared.refusal.Refusal.{Refusal}
use Rattle.cue_syntax.specs.declared.tree.Identifier.{Identifier}
use Rattle.cue_syntax.specs.declared.tree.Identifier.TheVariants as identifiers
use Rattle.cue_syntax.specs.declared.tree.Label.{Label}
use Rattle.cue_syntax.specs.Syntax as tree
use Rattle.cue_syntax.specs.Syntax.{Expression, Elements, no_elements, element, branch, Branches, no_branches, next_branch, ellipsis, field, definition, Entries, no_entries, entry}
use Rattle.cue_syntax.specs.Unplaced.{unplaced, unplaced_elements, unplaced_rest, unplaced_branches, unplaced_entries}
use Rattle.cue_scope.specs.Definitions.{Definition, definitions, number_of_name}
use Rattle.cue_scope.specs.Named.{named_of, is_literal}
use Rattle.cue_scope.specs.Names.{Scope, is_unquoted, has_label, scope_inside, scope_behind, refuse_name, fault_of_name, fault_of_close, faults, faults_of_elements, faults_of_rest, faults_of_branches, faults_of_entries, name_faults}
use Rattle.scope_laws.proofs.Bare.{bare, bare_definitions, SameNumbers, bare_numbers}

abbrev pub nowhere : Refusal → Refusal
nowhere refusal = record { kind = refusal.kind; place = 0 }

-- the same labels are seen
abbrev SameScope : Scope → Scope → Type 0
SameScope s t = (name : List ℕ) → s name ≡ t name

label_same : (name : List ℕ) (es : Entries) → has_label name (unplaced_entries es) ≡ has_label name es
label_same name no_entries = refl
label_same name (entry ellipsis es) = label_same name es
label_same name (entry (field l chain e) es) = ap (λ z. is_unquoted name l.name || z) (label_same name es)
label_same name (entry (definition t place chain e) es) = label_same name es

inside_same : (s t : Scope) → SameScope s t → (es : Entries) → SameScope (scope_inside (unplaced_entries es) s) (scope_inside es t)
inside_same s t scope es name = ap (λ z. z || s name) (label_same name es) ∙ ap (λ z. has_label name es || z) (scope name)

behind_same : (chain : List Label) (s t : Scope) → SameScope s t → SameScope (scope_behind chain s) (scope_behind chain t)
behind_same [] s t scope = scope
behind_same (l ∷ ls) s t scope = behind_same ls (λ name. is_unquoted name l.name || s name) (λ name. is_unquoted name l.name || t name) (λ name. ap (λ z. is_unquoted name l.name || z) (scope name))

unless : (b : Bool) (kind : Kind) (place : ℕ) → cond b [] (refuse_name kind 0) ≡ map nowhere (cond b [] (refuse_name kind place))
unless true kind place = refl
unless false kind place = refl

plain : (literal seen known : Bool) (place : ℕ) → cond literal [] (cond seen (refuse_name kinds.FieldReference 0) (cond known [] (refuse_name kinds.UnknownName 0)))
    ≡ map nowhere (cond literal [] (cond seen (refuse_name kinds.FieldReference place) (cond known [] (refuse_name kinds.UnknownName place))))
plain true seen known place = refl
plain false true known place = refl
plain false false known place = unless known kinds.UnknownName place

name_same : (cs ds : List Definition) (s t : Scope) → SameNumbers cs ds → SameScope s t → (n : Identifier) (place : ℕ) → fault_of_name cs s n 0 ≡ map nowhere (fault_of_name ds t n place)
name_same cs ds s t same scope (identifiers.Plain name) place =
    ap (λ z. cond (is_literal name) [] (cond z (refuse_name kinds.FieldReference 0) (cond (is_some (named_of name)) [] (refuse_name kinds.UnknownName 0)))) (scope name)
    ∙ plain (is_literal name) (t name) (is_some (named_of name)) place
name_same cs ds s t same scope (identifiers.Definition name) place =
    ap (λ z. cond (is_some z) [] (refuse_name kinds.UnknownName 0)) (same name) ∙ unless (is_some (number_of_name name ds)) kinds.UnknownName place
name_same cs ds s t same scope (identifiers.Hidden name) place = unless (bytes_eq name (codes "_")) kinds.UnknownName place

called : (b : Bool) (place : ℕ) → cond b (refuse_name kinds.FieldReference 0) [] ≡ map nowhere (cond b (refuse_name kinds.FieldReference place) [])
called true place = refl
called false place = refl

close_same : (s t : Scope) → SameScope s t → (place : ℕ) → fault_of_close s 0 ≡ map nowhere (fault_of_close t place)
close_same s t scope place = ap (λ z. cond z (refuse_name kinds.FieldReference 0) []) (scope (codes "close")) ∙ called (t (codes "close")) place

-- the faults of two parts, put together
both : {a b : List Refusal} (xs ys : List Refusal) → a ≡ map nowhere xs → b ≡ map nowhere ys → a ++ b ≡ map nowhere (xs ++ ys)
both {a = a} {b = b} xs ys first second = ap (λ z. z ++ b) first ∙ ap (λ z. map nowhere xs ++ z) second ∙ sym (map-append nowhere xs ys)

mutual
  faults_same : (cs ds : List Definition) (s t : Scope) → SameNumbers cs ds → SameScope s t → (e : Expression) → faults cs s (unplaced e) ≡ map nowhere (faults ds t e)
  faults_same cs ds s t same scope (tree.name n place) = name_same cs ds s t same scope n place
  faults_same cs ds s t same scope (tree.integer n) = refl
  faults_same cs ds s t same scope (tree.text x) = refl
  faults_same cs ds s t same scope tree.bottom = refl
  faults_same cs ds s t same scope (tree.bound c n) = refl
  faults_same cs ds s t same scope (tree.other_integer n) = refl
  faults_same cs ds s t same scope (tree.other_text x) = refl
  faults_same cs ds s t same scope (tree.parenthesis e comma) = faults_same cs ds s t same scope e
  faults_same cs ds s t same scope (tree.struct es comma) = entries_same cs ds (scope_inside (unplaced_entries es) s) (scope_inside es t) same (inside_same s t scope es) es
  faults_same cs ds s t same scope (tree.close place es inner comma) =
      both (fault_of_close t place) (faults_of_entries ds (scope_inside es t) es) (close_same s t scope place) (entries_same cs ds (scope_inside (unplaced_entries es) s) (scope_inside es t) same (inside_same s t scope es) es)
  faults_same cs ds s t same scope (tree.list es rest comma) =
      both (faults_of_elements ds t es) (faults_of_rest ds t rest) (elements_same cs ds s t same scope es) (rest_same cs ds s t same scope rest)
  faults_same cs ds s t same scope (tree.conjunction es) = elements_same cs ds s t same scope es
  faults_same cs ds s t same scope (tree.disjunction bs) = branches_same cs ds s t same scope bs

  elements_same : (cs ds : List Definition) (s t : Scope) → SameNumbers cs ds → SameScope s t → (es : Elements) → faults_of_elements cs s (unplaced_elements es) ≡ map nowhere (faults_of_elements ds t es)
  elements_same cs ds s t same scope no_elements = refl
  elements_same cs ds s t same scope (element e es) = both (faults ds t e) (faults_of_elements ds t es) (faults_same cs ds s t same scope e) (elements_same cs ds s t same scope es)

  rest_same : (cs ds : List Definition) (s t : Scope) → SameNumbers cs ds → SameScope s t → (rest : tree.Rest) → faults_of_rest cs s (unplaced_rest rest) ≡ map nowhere (faults_of_rest ds t rest)
  rest_same cs ds s t same scope tree.no_rest = refl
  rest_same cs ds s t same scope tree.any_rest = refl
  rest_same cs ds s t same scope (tree.each_rest e) = faults_same cs ds s t same scope e

  branches_same : (cs ds : List Definition) (s t : Scope) → SameNumbers cs ds → SameScope s t → (bs : Branches) → faults_of_branches cs s (unplaced_branches bs) ≡ map nowhere (faults_of_branches ds t bs)
  branches_same cs ds s t same scope no_branches = refl
  branches_same cs ds s t same scope (next_branch (branch marked place e) bs) = both (faults ds t e) (faults_of_branches ds t bs) (faults_same cs ds s t same scope e) (branches_same cs ds s t same scope bs)

  entries_same : (cs ds : List Definition) (s t : Scope) → SameNumbers cs ds → SameScope s t → (es : Entries) → faults_of_entries cs s (unplaced_entries es) ≡ map nowhere (faults_of_entries ds t es)
  entries_same cs ds s t same scope no_entries = refl
  entries_same cs ds s t same scope (entry ellipsis es) = entries_same cs ds s t same scope es
  entries_same cs ds s t same scope (entry (field l chain e) es) =
      both (faults ds (scope_behind chain t) e) (faults_of_entries ds t es) (faults_same cs ds (scope_behind chain s) (scope_behind chain t) same (behind_same chain s t scope) e) (entries_same cs ds s t same scope es)
  entries_same cs ds s t same scope (entry (definition name place chain e) es) =
      both (faults ds (scope_behind chain t) e) (faults_of_entries ds t es) (faults_same cs ds (scope_behind chain s) (scope_behind chain t) same (behind_same chain s t scope) e) (entries_same cs ds s t same scope es)

pub name_faults_same : (es : Entries) → name_faults (unplaced_entries es) ≡ map nowhere (name_faults es)
name_faults_same es =
    let ds = definitions es in
    let none : Scope = λ t. false in
    ap (λ z. faults_of_entries z (scope_inside (unplaced_entries es) none) (unplaced_entries es)) (bare_definitions es)
    ∙ entries_same (map bare ds) ds (scope_inside (unplaced_entries es) none) (scope_inside es none) (bare_numbers ds) (inside_same none none (λ t. refl) es) es
