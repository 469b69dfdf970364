-- Where names are looked up, and which are faults.
use Rattle.std.specs.Prelude.{ℕ, Bool, false, cond, List, [], ◌∷◌, ◌++◌, codes, ◌||◌}
use Rattle.std.specs.Option.{is_some}
use Rattle.std.specs.Str.{bytes_eq}
use Rattle.cue_lattice.specs.declared.refusal.Kind.{Kind}
use Rattle.cue_lattice.specs.declared.refusal.Kind.TheVariants as kinds
use Rattle.cue_lattice.specs.declared.refusal.Refusal.{Refusal}
use Rattle.cue_syntax.specs.declared.tree.Identifier.{Identifier}
use Rattle.cue_syntax.specs.declared.tree.Identifier.TheVariants as identifiers
use Rattle.cue_syntax.specs.declared.tree.Label.{Label}
use Rattle.cue_syntax.specs.declared.tree.LabelName.{LabelName}
use Rattle.cue_syntax.specs.declared.tree.LabelName.TheVariants as names
use Rattle.cue_syntax.specs.Syntax as tree
use Rattle.cue_syntax.specs.Syntax.{Expression, Elements, no_elements, element, branch, Branches}
use Rattle.cue_syntax.specs.Syntax.{no_branches, next_branch, ellipsis, field, definition, Entries}
use Rattle.cue_syntax.specs.Syntax.{no_entries, entry}
use Rattle.cue_scope.specs.Named.{named_of, is_literal}
use Rattle.cue_scope.specs.Definitions.{Definition, definitions, number_of_name}

-- which texts are unquoted labels of the struct literals that enclose a place
abbrev pub Scope : Type 0
Scope = List ℕ → Bool

abbrev pub is_unquoted : List ℕ → LabelName → Bool
is_unquoted t (names.Plain u) = bytes_eq t u
is_unquoted t (names.Quoted u) = false

-- a declaration of the struct literal has this label, unquoted; behind a chain's first label there
-- are structs of their own
abbrev pub has_label : List ℕ → Entries → Bool
has_label t no_entries = false
has_label t (entry (field l chain e) es) = is_unquoted t l.name || has_label t es
has_label t (entry _ es) = has_label t es

-- inside a struct literal of these declarations
abbrev pub scope_inside : Entries → Scope → Scope
scope_inside es scope = λ t. has_label t es || scope t

-- behind the further labels of a chain, each of which stands in a struct of its own
abbrev pub scope_behind : List Label → Scope → Scope
scope_behind [] scope = scope
scope_behind (l ∷ ls) scope = scope_behind ls (λ t. is_unquoted t l.name || scope t)

abbrev pub refuse_name : Kind → ℕ → List Refusal
refuse_name kind place = record { kind = kind; place = place } ∷ []

-- why a name can't stand here
abbrev pub fault_of_name : List Definition → Scope → Identifier → ℕ → List Refusal
fault_of_name ds scope (identifiers.Plain t) place =
    cond (is_literal t) []
    (cond (scope t) (refuse_name kinds.FieldReference place)
    (cond (is_some (named_of t)) [] (refuse_name kinds.UnknownName place)))
fault_of_name ds scope (identifiers.Definition t) place =
    cond (is_some (number_of_name t ds)) [] (refuse_name kinds.UnknownName place)
fault_of_name ds scope (identifiers.Hidden t) place =
    cond (bytes_eq t (codes "_")) [] (refuse_name kinds.UnknownName place)

-- why `close` can't be called here
abbrev pub fault_of_close : Scope → ℕ → List Refusal
fault_of_close scope place = cond (scope (codes "close")) (refuse_name kinds.FieldReference place) []

-- the faults of the names in an expression, in text order
abbrev mutual
  pub faults : List Definition → Scope → Expression → List Refusal
  faults ds scope (tree.name n place) = fault_of_name ds scope n place
  faults ds scope (tree.parenthesis e comma) = faults ds scope e
  faults ds scope (tree.struct es comma) = faults_of_entries ds (scope_inside es scope) es
  faults ds scope (tree.close place es inner comma) =
      fault_of_close scope place ++ faults_of_entries ds (scope_inside es scope) es
  faults ds scope (tree.list es rest comma) =
      faults_of_elements ds scope es ++ faults_of_rest ds scope rest
  faults ds scope (tree.conjunction es) = faults_of_elements ds scope es
  faults ds scope (tree.disjunction bs) = faults_of_branches ds scope bs
  faults ds scope _ = []

  pub faults_of_elements : List Definition → Scope → Elements → List Refusal
  faults_of_elements ds scope no_elements = []
  faults_of_elements ds scope (element e es) = faults ds scope e ++ faults_of_elements ds scope es

  pub faults_of_rest : List Definition → Scope → tree.Rest → List Refusal
  faults_of_rest ds scope tree.no_rest = []
  faults_of_rest ds scope tree.any_rest = []
  faults_of_rest ds scope (tree.each_rest e) = faults ds scope e

  pub faults_of_branches : List Definition → Scope → Branches → List Refusal
  faults_of_branches ds scope no_branches = []
  faults_of_branches ds scope (next_branch (branch marked place e) bs) =
      faults ds scope e ++ faults_of_branches ds scope bs

  pub faults_of_entries : List Definition → Scope → Entries → List Refusal
  faults_of_entries ds scope no_entries = []
  faults_of_entries ds scope (entry ellipsis es) = faults_of_entries ds scope es
  faults_of_entries ds scope (entry (field l chain e) es) =
      faults ds (scope_behind chain scope) e ++ faults_of_entries ds scope es
  faults_of_entries ds scope (entry (definition t place chain e) es) =
      faults ds (scope_behind chain scope) e ++ faults_of_entries ds scope es

-- the faults of the names in a text
abbrev pub name_faults : Entries → List Refusal
name_faults es = faults_of_entries (definitions es) (scope_inside es (λ t. false)) es
