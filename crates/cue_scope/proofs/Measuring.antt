-- Measures are added up over the parts of an expression.
use Rattle.std.proofs.Common.{◌≡◌, ℕ, suc, ◌+◌, ◌*◌, ◌<◌, length, get_or, drop, arith, inl, Option, None, Some, Bool, true, false, ◌&&◌, subst, List, [], ◌∷◌, ◌++◌, refl, sym, ap, ◌∙◌, append_assoc, append-nil, Vec, Global}
use Rattle.std.proofs.Math.Dec.{eqb, eqb-suc-zero}
use Rattle.cue_syntax.specs.declared.tree.Label.{Label}
use Rattle.cue_syntax.specs.declared.tree.Expr.{Expr}
use Rattle.cue_syntax.specs.declared.tree.Term.{Term}
use Rattle.cue_syntax.specs.declared.tree.Declaration.{Declaration}
use Rattle.cue_syntax.specs.declared.tree.Declaration.TheVariants as declarations
use Rattle.cue_syntax.specs.Syntax.{Entry, Elements, list, expression, elements_of_list, branches_of_list, entries, entry_tree, next_branch, entry, ellipsis, field, definition, Rest}
use Rattle.cue_syntax.proofs.Views.{view-term, view-Ellipsis, view-Field, view-Definition}
use Rattle.cue_scope.specs.declared.measure.Measure.{Measure}
use Rattle.cue_scope.specs.declared.measure.KnownMeasures.{KnownMeasures}
use Rattle.std.specs.Option.{option_map_or, option_to_list}
use Rattle.cue_scope.specs.Core.{Core, bottom, closed}
use Rattle.cue_scope.specs.Graph.{IsNodeIn, IsOrder}
use Rattle.cue_scope.specs.Definitions.{Definition}
use Rattle.cue_scope.specs.Kept.{nodes_kept}
use Rattle.cue_scope.specs.Limits.{size, depth}
use Rattle.cue_scope.specs.Meaning.{nest_in_labels, meaning_of_number, meant, meant_use, meant_elements, meant_rest}
use Rattle.cue_scope.specs.Terms.{terms}
use Rattle.cue_scope.specs.Uses.{graph, uses, uses_of_elements, uses_of_branches, uses_of_entries}
use Rattle.cue_scope.specs.Measures.{Total, IsMeasured, IsUse, IsMeasureKnown, none, join_totals, add_to_size, as_literal, as_field, as_element, as_term, behind_labels, only_places, total_of, total_measure, total_of_parts, total_of_elements, total_of_rest, total_of_terms, total_of_entries, total_of_file}
use Rattle.cue_scope.proofs.Followed.{size_followed, depth_followed}
use Rattle.cue_scope.proofs.Meanings.{meaning_is}
use Rattle.std.specs.Prelude.{slice_get}
use Rattle.cue_scope.proofs.Nodes.{in_append_left, in_append_right}
use Rattle.cue_scope.proofs.Walking.{at_hand}

and_true : (b : Bool) → (b && true) ≡ b
and_true true = refl
and_true false = refl

and_false : (b : Bool) → (b && false) ≡ false
and_false true = refl
and_false false = refl

and_assoc : (a b c : Bool) → ((a && b) && c) ≡ (a && (b && c))
and_assoc true b c = refl
and_assoc false b c = refl

pub same_total : (a b : Total) → a.scalar ≡ b.scalar → a.size ≡ b.size → a.depth ≡ b.depth → a.places ≡ b.places → a ≡ b
same_total a b e f g h = λ i. record { scalar = e i; size = f i; depth = g i; places = h i }

join_none : (t : Total) → join_totals t none ≡ t
join_none t = same_total (join_totals t none) t (and_true t.scalar) (omega arith) (omega arith) (append-nil t.places)

none_join : (t : Total) → join_totals none t ≡ t
none_join t = same_total (join_totals none t) t refl (omega arith) (omega arith) refl

join_assoc : (a b c : Total) → join_totals (join_totals a b) c ≡ join_totals a (join_totals b c)
join_assoc a b c = same_total (join_totals (join_totals a b) c) (join_totals a (join_totals b c)) (and_assoc a.scalar b.scalar c.scalar) (omega arith) (omega arith) (append_assoc a.places b.places c.places)

-- what the parts so far amount to, and what is still to come
pub record Measuring (known : KnownMeasures) (m : Measure) (all left : Total) (is : List ℕ) : Type 0 where
  pub so_far : Total
  pub measured : IsMeasured m so_far
  pub sum : join_totals so_far left ≡ all
  pub used : IsMeasureKnown known is

pub measuring_none : (known : KnownMeasures) (m : Measure) (all : Total) (is : List ℕ) → IsMeasured m none → IsMeasureKnown known is → Measuring known m all all is
measuring_none known m all is h k = record { so_far = none; measured = h; sum = none_join all; used = k }

pub measuring_more : (known : KnownMeasures) (m x after : Measure) (all item rest : Total) (us is : List ℕ) → Measuring known m all (join_totals item rest) (us ++ is)
    → ((a b : Total) → IsMeasured m a → IsMeasured x b → IsMeasured after (join_totals a b)) → IsMeasured x item → Measuring known after all rest is
measuring_more known m x after all item rest us is w beside h = record {
  so_far = join_totals w.so_far item;
  measured = beside w.so_far item w.measured h;
  sum = join_assoc w.so_far item rest ∙ w.sum;
  used = λ i there. w.used i (in_append_right us is i there);
}

pub measuring_larger : (known : KnownMeasures) (m after : Measure) (all rest : Total) (is : List ℕ) → Measuring known m all (add_to_size 1 rest) is
    → ((t : Total) → IsMeasured m t → IsMeasured after (add_to_size 1 t)) → Measuring known after all rest is
measuring_larger known m after all rest is w more = record {
  so_far = add_to_size 1 w.so_far;
  measured = more w.so_far w.measured;
  sum = same_total (join_totals (add_to_size 1 w.so_far) rest) (join_totals w.so_far (add_to_size 1 rest)) refl (omega arith) refl refl ∙ w.sum;
  used = w.used;
}

pub measuring_all : (known : KnownMeasures) (m : Measure) (all : Total) (is : List ℕ) → Measuring known m all none is → IsMeasured m all
measuring_all known m all is w = subst (λ z. IsMeasured m z) (sym (join_none w.so_far) ∙ w.sum) w.measured

-- what is known of the part at hand
pub known_first : (known : KnownMeasures) (m : Measure) (all left : Total) (us is : List ℕ) → Measuring known m all left (us ++ is) → IsMeasureKnown known us
known_first known m all left us is w = λ i there. w.used i (in_append_left us is i there)

no_label : (b : Bool) (n : ℕ) → (b && eqb (suc n) 0) ≡ false
no_label b n = ap (λ z. b && z) (eqb-suc-zero n) ∙ and_false b

-- a chain of labels is as many structs
pub total_nested : (chain : List Label) (c : Core) (places : List ℕ) → total_of (nest_in_labels chain c) places ≡ behind_labels (length chain) (total_of c places)
total_nested [] c places = let b = behind_labels 0 (total_of c places) in same_total (total_of c places) b (sym (and_true (total_of c places).scalar)) (omega arith) (omega arith) refl
total_nested (l ∷ ls) c places =
    let before = total_nested ls c places in
    let s : size (nest_in_labels ls c) ≡ size c + 2 * length ls = ap (λ (t : Total). t.size) before in
    let d : depth (nest_in_labels ls c) ≡ depth c + length ls = ap (λ (t : Total). t.depth) before in
    same_total (total_of (nest_in_labels (l ∷ ls) c) places) (behind_labels (length (l ∷ ls)) (total_of c places)) (sym (no_label (total_of c places).scalar (length ls))) (omega arith) (omega arith) refl

abbrev pub MeasuringParts : KnownMeasures → Measure → List Expr → List Expr → Type 0
MeasuringParts known m es left = let ds = nodes_kept known.definitions.now in Measuring known m (total_of_parts ds (elements_of_list es)) (total_of_parts ds (elements_of_list left)) (uses_of_elements ds (elements_of_list left))

abbrev pub MeasuringElements : KnownMeasures → Measure → List Expr → List Expr → Type 0
MeasuringElements known m es left = let ds = nodes_kept known.definitions.now in Measuring known m (total_of_elements ds (elements_of_list es)) (total_of_elements ds (elements_of_list left)) (uses_of_elements ds (elements_of_list left))

abbrev pub MeasuringTerms : KnownMeasures → Measure → List Term → List Term → Type 0
MeasuringTerms known m ts left = let ds = nodes_kept known.definitions.now in Measuring known m (total_of_terms ds (branches_of_list ts)) (total_of_terms ds (branches_of_list left)) (uses_of_branches ds (branches_of_list left))

abbrev pub MeasuringEntries : KnownMeasures → Measure → List Declaration → List Declaration → Type 0
MeasuringEntries known m es left = let ds = nodes_kept known.definitions.now in Measuring known m (total_of_entries ds (entries es)) (total_of_entries ds (entries left)) (uses_of_entries ds (entries left))

pub part_at_hand : (k : KnownMeasures) (m : Measure) (es : List Expr) (i : ℕ) (e : Expr) → MeasuringParts k m es (drop i es) → i < length es → e ≡ get_or es i e
    → Measuring k m (total_of_parts (nodes_kept k.definitions.now) (elements_of_list es)) (join_totals (total_measure (nodes_kept k.definitions.now) (expression e)) (total_of_parts (nodes_kept k.definitions.now) (elements_of_list (drop (i + 1) es))))
    (uses (nodes_kept k.definitions.now) (expression e) ++ uses_of_elements (nodes_kept k.definitions.now) (elements_of_list (drop (i + 1) es)))
part_at_hand k m es i e w h is = subst (λ z. MeasuringParts k m es z) (at_hand es i e h is) w

pub element_at_hand : (k : KnownMeasures) (m : Measure) (es : List Expr) (i : ℕ) (e : Expr) → MeasuringElements k m es (drop i es) → i < length es → e ≡ get_or es i e
    → Measuring k m (total_of_elements (nodes_kept k.definitions.now) (elements_of_list es)) (join_totals (as_element (total_measure (nodes_kept k.definitions.now) (expression e))) (total_of_elements (nodes_kept k.definitions.now) (elements_of_list (drop (i + 1) es))))
    (uses (nodes_kept k.definitions.now) (expression e) ++ uses_of_elements (nodes_kept k.definitions.now) (elements_of_list (drop (i + 1) es)))
element_at_hand k m es i e w h is = subst (λ z. MeasuringElements k m es z) (at_hand es i e h is) w

pub term_at_hand : (k : KnownMeasures) (m : Measure) (ts : List Term) (i : ℕ) (t : Term) → MeasuringTerms k m ts (drop i ts) → i < length ts → t ≡ get_or ts i t
    → Measuring k m (total_of_terms (nodes_kept k.definitions.now) (branches_of_list ts)) (join_totals (as_term t.from (total_measure (nodes_kept k.definitions.now) (expression t.value))) (total_of_terms (nodes_kept k.definitions.now) (branches_of_list (drop (i + 1) ts))))
    (uses (nodes_kept k.definitions.now) (expression t.value) ++ uses_of_branches (nodes_kept k.definitions.now) (branches_of_list (drop (i + 1) ts)))
term_at_hand k m ts i t w h is =
    let ds = nodes_kept k.definitions.now in
    subst (λ z. Measuring k m (total_of_terms ds (branches_of_list ts)) (total_of_terms ds (next_branch z (branches_of_list (drop (i + 1) ts)))) (uses_of_branches ds (next_branch z (branches_of_list (drop (i + 1) ts)))))
    (view-term t) (subst (λ z. MeasuringTerms k m ts z) (at_hand ts i t h is) w)

entry_at_hand : (k : KnownMeasures) (m : Measure) (es : List Declaration) (i : ℕ) (d : Declaration) (e : Entry) → MeasuringEntries k m es (drop i es) → i < length es → d ≡ get_or es i d → entry_tree d ≡ e
    → Measuring k m (total_of_entries (nodes_kept k.definitions.now) (entries es)) (total_of_entries (nodes_kept k.definitions.now) (entry e (entries (drop (i + 1) es))))
    (uses_of_entries (nodes_kept k.definitions.now) (entry e (entries (drop (i + 1) es))))
entry_at_hand k m es i d e w h is same =
    let ds = nodes_kept k.definitions.now in
    subst (λ z. Measuring k m (total_of_entries ds (entries es)) (total_of_entries ds (entry z (entries (drop (i + 1) es)))) (uses_of_entries ds (entry z (entries (drop (i + 1) es)))))
    same (subst (λ z. MeasuringEntries k m es z) (at_hand es i d h is) w)

pub ellipsis_at_hand : (k : KnownMeasures) (m after : Measure) (es : List Declaration) (i : ℕ) (d : Declaration) → MeasuringEntries k m es (drop i es) → i < length es → d ≡ get_or es i d → d ≡ declarations.Ellipsis
    → ((t : Total) → IsMeasured m t → IsMeasured after (add_to_size 1 t)) → MeasuringEntries k after es (drop (i + 1) es)
ellipsis_at_hand k m after es i d w h is same more =
    measuring_larger k m after _ _ _ (entry_at_hand k m es i d ellipsis w h is (ap entry_tree same ∙ view-Ellipsis)) more

pub field_at_hand : (k : KnownMeasures) (m : Measure) (es : List Declaration) (i : ℕ) (d : Declaration) (l : Label) (chain : Vec Label Global) (e : Expr)
    → MeasuringEntries k m es (drop i es) → i < length es → d ≡ get_or es i d → d ≡ declarations.Field l chain e
    → Measuring k m (total_of_entries (nodes_kept k.definitions.now) (entries es))
    (join_totals (as_field (behind_labels (length chain.items) (total_measure (nodes_kept k.definitions.now) (expression e)))) (total_of_entries (nodes_kept k.definitions.now) (entries (drop (i + 1) es))))
    (uses (nodes_kept k.definitions.now) (expression e) ++ uses_of_entries (nodes_kept k.definitions.now) (entries (drop (i + 1) es)))
field_at_hand k m es i d l chain e w h is same =
    let ds = nodes_kept k.definitions.now in
    let rest = total_of_entries ds (entries (drop (i + 1) es)) in
    let us = uses ds (expression e) ++ uses_of_entries ds (entries (drop (i + 1) es)) in
    subst (λ z. Measuring k m (total_of_entries ds (entries es)) (join_totals (as_field z) rest) us)
    (total_nested chain.items (meant ds (meaning_of_number ds) (expression e)) (terms ds (meaning_of_number ds) (expression e)))
    (entry_at_hand k m es i d (field l chain.items (expression e)) w h is (ap entry_tree same ∙ view-Field l chain e))

pub definition_at_hand : (k : KnownMeasures) (m : Measure) (es : List Declaration) (i : ℕ) (d : Declaration) (t : List ℕ) (from : ℕ) (chain : Vec Label Global) (e : Expr)
    → MeasuringEntries k m es (drop i es) → i < length es → d ≡ get_or es i d → d ≡ declarations.Definition t from chain e
    → Measuring k m (total_of_entries (nodes_kept k.definitions.now) (entries es))
    (join_totals (only_places (total_measure (nodes_kept k.definitions.now) (expression e))) (total_of_entries (nodes_kept k.definitions.now) (entries (drop (i + 1) es))))
    (uses (nodes_kept k.definitions.now) (expression e) ++ uses_of_entries (nodes_kept k.definitions.now) (entries (drop (i + 1) es)))
definition_at_hand k m es i d t from chain e w h is same =
    let ds = nodes_kept k.definitions.now in
    let rest = total_of_entries ds (entries (drop (i + 1) es)) in
    let us = uses ds (expression e) ++ uses_of_entries ds (entries (drop (i + 1) es)) in
    let now = total_of_entries ds (entry (definition t from chain.items (expression e)) (entries (drop (i + 1) es))) in
    subst (λ z. Measuring k m (total_of_entries ds (entries es)) z us)
    (same_total now (join_totals (only_places (total_measure ds (expression e))) rest) refl (omega arith) (omega arith) refl)
    (entry_at_hand k m es i d (definition t from chain.items (expression e)) w h is (ap entry_tree same ∙ view-Definition t from chain e))

-- a definition that is used has its measure
pub use_found : (meanings : ℕ → Core) (o : Option ℕ) (number : ℕ) (m : Measure) → Some number ≡ o → IsUse m (meanings number) → IsMeasured (record m { term = None }) (total_of (option_map_or meanings o bottom) [])
use_found meanings o number m is h =
    subst (λ z. IsMeasured (record m { term = None }) (total_of (option_map_or meanings z bottom) [])) is (record { scalar = h.scalar; size = h.size; depth = h.depth; place = refl })

pub use_listed : (o : Option ℕ) (number : ℕ) → Some number ≡ o → IsNodeIn number (option_to_list o)
use_listed o number is = subst (λ z. IsNodeIn number (option_to_list z)) is (inl refl)

-- what is known of parts side by side
pub known_left : (known : KnownMeasures) (us is : List ℕ) → IsMeasureKnown known (us ++ is) → IsMeasureKnown known us
known_left known us is h = λ i there. h i (in_append_left us is i there)

pub known_right : (known : KnownMeasures) (us is : List ℕ) → IsMeasureKnown known (us ++ is) → IsMeasureKnown known is
known_right known us is h = λ i there. h i (in_append_right us is i there)

-- a list, with 1 of its own
pub list_measured : (ds : List Definition) (es : Elements) (rest : Rest) (comma : Bool) (m : Measure) → IsMeasured m (as_literal 1 (join_totals (total_of_elements ds es) (total_of_rest ds rest))) → IsMeasured m (total_measure ds (list es rest comma))
list_measured ds es rest comma m h =
    let cs = meant_elements ds (meaning_of_number ds) es in
    let behind = meant_rest ds (meaning_of_number ds) rest in
    let add_to_size = size_followed cs behind in
    let deeper = depth_followed cs behind in
    subst (λ z. IsMeasured m z)
    (same_total (as_literal 1 (join_totals (total_of_elements ds es) (total_of_rest ds rest))) (total_measure ds (list es rest comma)) refl (omega (arith, add_to_size)) (omega (arith, deeper)) refl) h

abbrev pub MeasuringFile : KnownMeasures → Measure → List Declaration → List Declaration → Type 0
MeasuringFile known m es left = let ds = nodes_kept known.definitions.now in Measuring known m (total_of_file ds (entries es)) (total_of_file ds (entries left)) (uses_of_entries ds (entries left))

in_file : (k : KnownMeasures) (m : Measure) (es : List Declaration) (i : ℕ) (d : Declaration) (e : Entry) → MeasuringFile k m es (drop i es) → i < length es → d ≡ get_or es i d → entry_tree d ≡ e
    → Measuring k m (total_of_file (nodes_kept k.definitions.now) (entries es)) (total_of_file (nodes_kept k.definitions.now) (entry e (entries (drop (i + 1) es))))
    (uses_of_entries (nodes_kept k.definitions.now) (entry e (entries (drop (i + 1) es))))
in_file k m es i d e w h is same =
    let ds = nodes_kept k.definitions.now in
    subst (λ z. Measuring k m (total_of_file ds (entries es)) (total_of_file ds (entry z (entries (drop (i + 1) es)))) (uses_of_entries ds (entry z (entries (drop (i + 1) es)))))
    same (subst (λ z. MeasuringFile k m es z) (at_hand es i d h is) w)

pub ellipsis_in_file : (k : KnownMeasures) (m : Measure) (es : List Declaration) (i : ℕ) (d : Declaration) → MeasuringFile k m es (drop i es) → i < length es → d ≡ get_or es i d → d ≡ declarations.Ellipsis → MeasuringFile k m es (drop (i + 1) es)
ellipsis_in_file k m es i d w h is same = in_file k m es i d ellipsis w h is (ap entry_tree same ∙ view-Ellipsis)

pub field_in_file : (k : KnownMeasures) (m : Measure) (es : List Declaration) (i : ℕ) (d : Declaration) (l : Label) (chain : Vec Label Global) (e : Expr)
    → MeasuringFile k m es (drop i es) → i < length es → d ≡ get_or es i d → d ≡ declarations.Field l chain e
    → Measuring k m (total_of_file (nodes_kept k.definitions.now) (entries es))
    (join_totals (as_field (behind_labels (length chain.items) (total_measure (nodes_kept k.definitions.now) (expression e)))) (total_of_file (nodes_kept k.definitions.now) (entries (drop (i + 1) es))))
    (uses (nodes_kept k.definitions.now) (expression e) ++ uses_of_entries (nodes_kept k.definitions.now) (entries (drop (i + 1) es)))
field_in_file k m es i d l chain e w h is same =
    let ds = nodes_kept k.definitions.now in
    let rest = total_of_file ds (entries (drop (i + 1) es)) in
    let us = uses ds (expression e) ++ uses_of_entries ds (entries (drop (i + 1) es)) in
    subst (λ z. Measuring k m (total_of_file ds (entries es)) (join_totals (as_field z) rest) us)
    (total_nested chain.items (meant ds (meaning_of_number ds) (expression e)) (terms ds (meaning_of_number ds) (expression e)))
    (in_file k m es i d (field l chain.items (expression e)) w h is (ap entry_tree same ∙ view-Field l chain e))

pub definition_in_file : (k : KnownMeasures) (m : Measure) (es : List Declaration) (i : ℕ) (d : Declaration) (t : List ℕ) (from : ℕ) (chain : Vec Label Global) (e : Expr)
    → MeasuringFile k m es (drop i es) → i < length es → d ≡ get_or es i d → d ≡ declarations.Definition t from chain e
    → Measuring k m (total_of_file (nodes_kept k.definitions.now) (entries es))
    (join_totals (only_places (total_measure (nodes_kept k.definitions.now) (expression e))) (total_of_file (nodes_kept k.definitions.now) (entries (drop (i + 1) es))))
    (uses (nodes_kept k.definitions.now) (expression e) ++ uses_of_entries (nodes_kept k.definitions.now) (entries (drop (i + 1) es)))
definition_in_file k m es i d t from chain e w h is same =
    let ds = nodes_kept k.definitions.now in
    let rest = total_of_file ds (entries (drop (i + 1) es)) in
    let us = uses ds (expression e) ++ uses_of_entries ds (entries (drop (i + 1) es)) in
    let now = total_of_file ds (entry (definition t from chain.items (expression e)) (entries (drop (i + 1) es))) in
    subst (λ z. Measuring k m (total_of_file ds (entries es)) z us)
    (same_total now (join_totals (only_places (total_measure ds (expression e))) rest) refl (omega arith) (omega arith) refl)
    (in_file k m es i d (definition t from chain.items (expression e)) w h is (ap entry_tree same ∙ view-Definition t from chain e))

-- a definition that was measured in its place among the others
pub definition_measured : (ds : List Definition) (order : List ℕ) (i : ℕ) (d : Definition) (m : Measure) → IsOrder (graph ds) order → i < length ds → slice_get ds i ≡ Some d
    → IsMeasured m (add_to_size 1 (behind_labels (length d.chain) (total_measure ds d.value))) → IsUse m (meaning_of_number ds i)
definition_measured ds order i d m o inside is h =
    let places = terms ds (meaning_of_number ds) d.value in
    let c = nest_in_labels d.chain (meant ds (meaning_of_number ds) d.value) in
    let nest = total_nested d.chain (meant ds (meaning_of_number ds) d.value) places in
    let here = subst (λ z. IsMeasured m (add_to_size 1 z)) (sym nest) h in
    let means : meaning_of_number ds i ≡ closed c = meaning_is ds order o i inside ∙ ap (λ z. meant_use ds (meaning_of_number ds) z) is in
    subst (λ z. IsUse m z) (sym means) (record { scalar = here.scalar; size = here.size; depth = here.depth })
