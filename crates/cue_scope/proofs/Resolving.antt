-- What the checks tell of a whole text.
use Rattle.std.proofs.Common.{◌≡◌, ℕ, ◌<◌, arith, ◌⊎◌, inl, inr, ⊎_elim, Bool, true, false, cond, List, [], ◌∷◌, ◌++◌, length, get_or, sym, ap, ◌∙◌, append_assoc}
use Rattle.std.specs.Prelude.{filter}
use Rattle.std.specs.Option.{option_map}
use Rattle.cue_lattice.specs.declared.refusal.Kind.{Kind}
use Rattle.cue_lattice.specs.declared.refusal.Kind.TheVariants as kinds
use Rattle.cue_lattice.specs.declared.refusal.Refusal.{Refusal}
use Rattle.cue_lattice.specs.Refusal.{memory}
use Rattle.cue_syntax.specs.Syntax.{Entries}
use Rattle.cue_scope.specs.declared.definitions.Definition as code
use Rattle.cue_scope.specs.declared.measure.Measure.{Measure}
use Rattle.cue_scope.specs.declared.measure.KnownMeasures.{KnownMeasures}
use Rattle.cue_scope.specs.Definitions.{definitions}
use Rattle.cue_scope.specs.Graph.{IsAcyclic, IsFirstCycle}
use Rattle.cue_scope.specs.Kept.{nodes_kept}
use Rattle.cue_scope.specs.Listed.{definition_list}
use Rattle.cue_scope.specs.Meaning.{meaning_of_number}
use Rattle.cue_scope.specs.Measures.{Total, IsUse, IsMeasureKnown, IsMeasureWithin, IsMeasureBeyond, as_literal, total_of_file}
use Rattle.cue_scope.specs.Names.{name_faults}
use Rattle.cue_scope.specs.Refusing.{IsUnrepeated, IsOrdered, IsLegalTree, IsCycleAt, RefusesAs, TextRefuses}
use Rattle.cue_scope.specs.Scopes.{IsScopeStopped}
use Rattle.cue_scope.specs.Uses.{graph, uses_of_entries}
use Rattle.cue_scope.proofs.Faults.{refuses_name}
use Rattle.cue_scope.proofs.Inside.{below_is, entries_below}
use Rattle.cue_scope.proofs.Numbers.{listed_at}

abbrev pub text_total : Entries → Total
text_total es = as_literal 1 (total_of_file (definitions es) es)

pub ordered_text : (es : Entries) → IsUnrepeated es → name_faults es ≡ [] → IsAcyclic (graph (definitions es)) → IsOrdered es
ordered_text es u n a = record { named = record { unrepeated = u; names = n }; acyclic = a }

pub legal_text : (es : Entries) → IsOrdered es → IsMeasureWithin (text_total es) → IsLegalTree es
legal_text es o w = record { small = record { scalar = record { ordered = o; terms = w.places }; size = w.size }; depth = w.depth }

beyond_as : (es : Entries) (kind : Kind) (place : ℕ) → IsOrdered es → IsMeasureBeyond (text_total es) kind place → RefusesAs es kind place
beyond_as es kinds.NotScalar place o h = (o, h)
beyond_as es kinds.TooLarge place o h = (record { ordered = o; terms = h.0 }, h.1, h.2)
beyond_as es kinds.TooDeep place o h = (record { scalar = record { ordered = o; terms = h.0 }; size = h.1 }, h.2, h.3)
beyond_as es _ place o h = absurd h

pub refuses_beyond : (es : Entries) (r : Refusal) → IsOrdered es → IsMeasureBeyond (text_total es) r.kind r.place → TextRefuses es r
refuses_beyond es r o h = beyond_as es r.kind r.place o h

pub refuses_stopped : (es : Entries) (r : Refusal) → IsUnrepeated es → IsScopeStopped (name_faults es) r → (r ≡ memory) ⊎ TextRefuses es r
refuses_stopped es r u h = ⊎_elim (λ m. inl m) (λ f. inr (refuses_name es r u f)) h

pub cycle_at : (xs : List code.Definition) (number : ℕ) (x : code.Definition) → number < length xs → x ≡ get_or xs number x → IsFirstCycle (graph (definition_list xs)) number → IsCycleAt (definition_list xs) x.from
cycle_at xs number x inside is first = record { number = number; first = first; place = ap (option_map (λ d. d.place)) (listed_at xs number x inside is) }

-- where each definition was measured, all uses are known
pub all_known : (known : KnownMeasures) (es : Entries) → length known.measures.now ≡ length (nodes_kept known.definitions.now)
    → ((i : ℕ) (d : Measure) → i < length (nodes_kept known.definitions.now) → IsUse (get_or known.measures.now i d) (meaning_of_number (nodes_kept known.definitions.now) i)) → IsMeasureKnown known (uses_of_entries (nodes_kept known.definitions.now) es)
all_known known es long each = λ i there.
    let ds = nodes_kept known.definitions.now in
    let below : i < length ds = below_is (length ds) (uses_of_entries ds es) (entries_below ds es) i there in
    (omega arith, λ d. each i d below)

pub kept_yes : (p : ℕ → Bool) (kept rest all : List ℕ) (x : ℕ) → kept ++ filter p (x ∷ rest) ≡ all → p x ≡ true → (kept ++ x ∷ []) ++ filter p rest ≡ all
kept_yes p kept rest all x h e =
    append_assoc kept (x ∷ []) (filter p rest) ∙ ap (λ z. kept ++ z) (sym (ap (λ b. cond b (x ∷ filter p rest) (filter p rest)) e)) ∙ h

pub kept_no : (p : ℕ → Bool) (kept rest all : List ℕ) (x : ℕ) → kept ++ filter p (x ∷ rest) ≡ all → p x ≡ false → kept ++ filter p rest ≡ all
kept_no p kept rest all x h e = ap (λ z. kept ++ z) (sym (ap (λ b. cond b (x ∷ filter p rest) (filter p rest)) e)) ∙ h
