-- The checks decide the same of a tree and of the tree without its places.
use Rattle.std.proofs.Common.{◌≡◌, ◌∙◌, ◌↔◌, ap, subst, sym, refl, ℕ, ◌<◌, ◌≤◌, Option, None, Some, List, [], ◌∷◌, map}
use Rattle.std.proofs.lemmas.Option.{slice_get-map}
use Rattle.std.specs.Prelude.{slice_get}
use Rattle.std.specs.Option.{option_map}
use Rattle.cue_lattice.specs.declared.refusal.Kind.{Kind}
use Rattle.cue_lattice.specs.declared.refusal.Kind.TheVariants as kinds
use Rattle.cue_lattice.specs.declared.refusal.Refusal.{Refusal}
use Rattle.cue_lattice.specs.Limits.{size_limit, step_limit}
use Rattle.cue_syntax.specs.Syntax.{Entries}
use Rattle.cue_syntax.specs.Unplaced.{unplaced_entries}
use Rattle.cue_scope.specs.Definitions.{Definition, definitions, repeated_names}
use Rattle.cue_scope.specs.First.{IsFirstName}
use Rattle.cue_scope.specs.Graph.{IsAcyclic, IsFirstCycle}
use Rattle.cue_scope.specs.Limits.{size, depth}
use Rattle.cue_scope.specs.Names.{name_faults}
use Rattle.cue_scope.specs.Refusing.{IsUnrepeated, IsEachNamed, IsOrdered, HasScalarTerms, IsSmallTree, IsLegalTree, IsCycleAt}
use Rattle.cue_scope.specs.Terms.{bad_terms}
use Rattle.cue_scope.specs.Uses.{graph}
use Rattle.scope_laws.specs.Places.{AreRefusedAs, KeepsChecks}
use Rattle.scope_laws.proofs.Bare.{bare, bare_definitions, bare_repeats, bare_graph, zeros}
use Rattle.scope_laws.proofs.Meant.{text_same, bad_terms_same}
use Rattle.scope_laws.proofs.Named.{nowhere, name_faults_same}

-- a list is empty exactly where it is without places
empty_same : {A : Type 0} (f : A → A) (xs ys : List A) → ys ≡ map f xs → (xs ≡ []) ↔ (ys ≡ [])
empty_same {A = A} f xs ys same = (λ e. same ∙ ap (λ z. map f z) e, λ e. none xs (sym same ∙ e))
  where
    none : (zs : List A) → map f zs ≡ [] → zs ≡ []
    none [] e = refl
    none (z ∷ zs) e = absurd (let h : f z ∷ map f zs ≡ [] = e in cc)

-- one of a list stands first in it
abbrev HasFirst : List ℕ → Type 0
HasFirst ns = (place : ℕ) × IsFirstName place ns

first_same : (ns ms : List ℕ) → ms ≡ zeros ns → HasFirst ns ↔ HasFirst ms
first_same ns ms same =
    (λ h. (0, record { rest = zeros h.1.rest; is = same ∙ ap (λ z. zeros z) h.1.is }), λ h. some ns (sym same ∙ h.1.is))
  where
    some : (zs : List ℕ) {place : ℕ} {rest : List ℕ} → zeros zs ≡ place ∷ rest → HasFirst zs
    some [] {place = place} {rest = rest} e = absurd (let h : [] ≡ place ∷ rest = e in cc)
    some (z ∷ zs) e = (z, record { rest = zs; is = refl })

-- the first of the faults is of this kind
abbrev IsFirstKind : Kind → List Refusal → Type 0
IsFirstKind kind faults = (place : ℕ) × IsFirstName (record { kind = kind; place = place }) faults

kind_same : (kind : Kind) (xs ys : List Refusal) → ys ≡ map nowhere xs → IsFirstKind kind xs ↔ IsFirstKind kind ys
kind_same kind xs ys same =
    (λ h. (0, record { rest = map nowhere h.1.rest; is = same ∙ ap (λ z. map nowhere z) h.1.is }), λ h. some xs (sym same ∙ h.1.is))
  where
    some : (zs : List Refusal) {place : ℕ} {rest : List Refusal} → map nowhere zs ≡ record { kind = kind; place = place } ∷ rest → IsFirstKind kind zs
    some [] {place = place} {rest = rest} e = absurd (let h : [] ≡ record { kind = kind; place = place } ∷ rest = e in cc)
    some (z ∷ zs) {place = place} {rest = rest} e =
        let first : nowhere z ≡ record { kind = kind; place = place } = (let h : nowhere z ∷ map nowhere zs ≡ record { kind = kind; place = place } ∷ rest = e in cc) in
        let is : z.kind ≡ kind = ap (λ (r : Refusal). r.kind) first in
        (z.place, record { rest = zs; is = ap (λ k. record { kind = k; place = z.place } ∷ zs) is })

repeats_same : (es : Entries) → repeated_names (definitions (unplaced_entries es)) ≡ zeros (repeated_names (definitions es))
repeats_same es = ap repeated_names (bare_definitions es) ∙ bare_repeats (definitions es)

graph_same : (es : Entries) → graph (definitions (unplaced_entries es)) ≡ graph (definitions es)
graph_same es = ap graph (bare_definitions es) ∙ bare_graph (definitions es)

unrepeated_same : (es : Entries) → IsUnrepeated es ↔ IsUnrepeated (unplaced_entries es)
unrepeated_same es = empty_same (λ n. 0) (repeated_names (definitions es)) (repeated_names (definitions (unplaced_entries es))) (repeats_same es)

named_same : (es : Entries) → IsEachNamed es ↔ IsEachNamed (unplaced_entries es)
named_same es =
    let names = empty_same nowhere (name_faults es) (name_faults (unplaced_entries es)) (name_faults_same es) in
    (λ n. record { unrepeated = (unrepeated_same es).0 n.unrepeated; names = names.0 n.names }, λ n. record { unrepeated = (unrepeated_same es).1 n.unrepeated; names = names.1 n.names })

ordered_same : (es : Entries) → IsOrdered es ↔ IsOrdered (unplaced_entries es)
ordered_same es = (
  λ o. record { named = (named_same es).0 o.named; acyclic = subst IsAcyclic (sym (graph_same es)) o.acyclic },
  λ o. record { named = (named_same es).1 o.named; acyclic = subst IsAcyclic (graph_same es) o.acyclic },
)

scalar_same : (es : Entries) → HasScalarTerms es ↔ HasScalarTerms (unplaced_entries es)
scalar_same es =
    let terms = empty_same (λ n. 0) (bad_terms es) (bad_terms (unplaced_entries es)) (bad_terms_same es) in
    (λ s. record { ordered = (ordered_same es).0 s.ordered; terms = terms.0 s.terms }, λ s. record { ordered = (ordered_same es).1 s.ordered; terms = terms.1 s.terms })

small_same : (es : Entries) → IsSmallTree es ↔ IsSmallTree (unplaced_entries es)
small_same es = (
  λ s. record { scalar = (scalar_same es).0 s.scalar; size = subst (λ z. size z ≤ size_limit) (sym (text_same es)) s.size },
  λ s. record { scalar = (scalar_same es).1 s.scalar; size = subst (λ z. size z ≤ size_limit) (text_same es) s.size },
)

legal_same : (es : Entries) → IsLegalTree es ↔ IsLegalTree (unplaced_entries es)
legal_same es = (
  λ l. record { small = (small_same es).0 l.small; depth = subst (λ z. depth z ≤ step_limit) (sym (text_same es)) l.depth },
  λ l. record { small = (small_same es).1 l.small; depth = subst (λ z. depth z ≤ step_limit) (text_same es) l.depth },
)

-- a definition that reaches itself stands somewhere
abbrev HasCycle : List Definition → Type 0
HasCycle ds = (place : ℕ) × IsCycleAt ds place

abbrev place_of : Option Definition → Option ℕ
place_of o = option_map (λ (d : Definition). d.place) o

bare_place : (o : Option Definition) (place : ℕ) → place_of o ≡ Some place → place_of (option_map bare o) ≡ Some 0
bare_place None place is = absurd (let h : None ≡ Some place = is in cc)
bare_place (Some d) place is = refl

some_place : (o : Option Definition) (place : ℕ) → place_of (option_map bare o) ≡ Some place → (at : ℕ) × (place_of o ≡ Some at)
some_place None place is = absurd (let h : None ≡ Some place = is in cc)
some_place (Some d) place is = (d.place, refl)

cycle_bare : (ds : List Definition) → HasCycle ds ↔ HasCycle (map bare ds)
cycle_bare ds = (forth, back)
  where
    forth : HasCycle ds → HasCycle (map bare ds)
    forth h = (
      0,
      record {
        number = h.1.number;
        first = subst (λ z. IsFirstCycle z h.1.number) (sym (bare_graph ds)) h.1.first;
        place = ap place_of (slice_get-map bare ds h.1.number) ∙ bare_place (slice_get ds h.1.number) h.0 h.1.place;
      },
    )

    back : HasCycle (map bare ds) → HasCycle ds
    back h =
        let at = some_place (slice_get ds h.1.number) h.0 (sym (ap place_of (slice_get-map bare ds h.1.number)) ∙ h.1.place) in
        (at.0, record { number = h.1.number; first = subst (λ z. IsFirstCycle z h.1.number) (bare_graph ds) h.1.first; place = at.1 })

cycle_same : (es : Entries) → HasCycle (definitions es) ↔ HasCycle (definitions (unplaced_entries es))
cycle_same es = subst (λ z. HasCycle (definitions es) ↔ HasCycle z) (sym (bare_definitions es)) (cycle_bare (definitions es))

refused_same : (es : Entries) (kind : Kind) → AreRefusedAs kind es ↔ AreRefusedAs kind (unplaced_entries es)
refused_same es kinds.Repeated = first_same (repeated_names (definitions es)) (repeated_names (definitions (unplaced_entries es))) (repeats_same es)
refused_same es kinds.UnknownName =
    let same = kind_same kinds.UnknownName (name_faults es) (name_faults (unplaced_entries es)) (name_faults_same es) in
    (λ h. let f = same.0 (h.0, h.1.1) in (f.0, ((unrepeated_same es).0 h.1.0, f.1)), λ h. let f = same.1 (h.0, h.1.1) in (f.0, ((unrepeated_same es).1 h.1.0, f.1)))
refused_same es kinds.FieldReference =
    let same = kind_same kinds.FieldReference (name_faults es) (name_faults (unplaced_entries es)) (name_faults_same es) in
    (λ h. let f = same.0 (h.0, h.1.1) in (f.0, ((unrepeated_same es).0 h.1.0, f.1)), λ h. let f = same.1 (h.0, h.1.1) in (f.0, ((unrepeated_same es).1 h.1.0, f.1)))
refused_same es kinds.Cycle =
    (λ h. let f = (cycle_same es).0 (h.0, h.1.1) in (f.0, ((named_same es).0 h.1.0, f.1)), λ h. let f = (cycle_same es).1 (h.0, h.1.1) in (f.0, ((named_same es).1 h.1.0, f.1)))
refused_same es kinds.NotScalar =
    let same = first_same (bad_terms es) (bad_terms (unplaced_entries es)) (bad_terms_same es) in
    (λ h. let f = same.0 (h.0, h.1.1) in (f.0, ((ordered_same es).0 h.1.0, f.1)), λ h. let f = same.1 (h.0, h.1.1) in (f.0, ((ordered_same es).1 h.1.0, f.1)))
refused_same es kinds.TooLarge = (
  λ h. (h.0, ((scalar_same es).0 h.1.0, subst (λ z. size_limit < size z) (sym (text_same es)) h.1.1, h.1.2)),
  λ h. (h.0, ((scalar_same es).1 h.1.0, subst (λ z. size_limit < size z) (text_same es) h.1.1, h.1.2)),
)
refused_same es kinds.TooDeep = (
  λ h. (h.0, ((small_same es).0 h.1.0, subst (λ z. step_limit < depth z) (sym (text_same es)) h.1.1, h.1.2)),
  λ h. (h.0, ((small_same es).1 h.1.0, subst (λ z. step_limit < depth z) (text_same es) h.1.1, h.1.2)),
)
refused_same es _ = (λ h. absurd h.1, λ h. absurd h.1)

-- the checks decide the same without places
pub checked_alike : KeepsChecks
checked_alike es = record { legal = legal_same es; refused = λ kind. refused_same es kind }
