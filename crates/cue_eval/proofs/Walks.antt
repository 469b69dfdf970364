-- Tables of the parts of expressions, one after another.
use Rattle.std.proofs.Common.{◌≡◌, ◌↔◌, ◌⊎◌, ◌+◌, ◌*◌, ◌≤◌, ◌<◌, inl, inr, ⊎_elim, ℕ, List, [], ◌∷◌, ◌++◌, All, length, refl, ap, subst, ◌∙◌, length-drop, drop, get_or, Vec, Global, arith}
use Rattle.std.proofs.lemmas.List.Elements.{All-push}
use Rattle.cue_lattice.specs.Limits.{step_limit}
use Rattle.cue_lattice.proofs.OneOf.{one_of-push}
use Rattle.cue_lattice.specs.Path as paths
use Rattle.cue_lattice.specs.Path.{Path, label, index}
use Rattle.cue_lattice.specs.Question.{Question, SameAnswers}
use Rattle.cue_row.specs.Row.{RefusesAsked, IsRow}
use Rattle.cue_row.specs.Steps.{step_of}
use Rattle.cue_row.specs.declared.parts.RowParts.{RowParts as Row}
use Rattle.cue_row.specs.declared.step.Step.{Step}
use Rattle.cue_row.specs.declared.step.Step.TheVariants as steps
use Rattle.cue_table.specs.Depth.{tree_depth}
use Rattle.cue_table.specs.Form.{IsTable}
use Rattle.cue_table.specs.Tree.{Tree}
use Rattle.cue_syntax.specs.declared.tree.Expr.{Expr}
use Rattle.cue_syntax.specs.declared.tree.Declaration.{Declaration}
use Rattle.cue_syntax.specs.declared.tree.Declaration.TheVariants as declarations
use Rattle.cue_syntax.proofs.Views.{view-Field, view-Definition}
use Rattle.cue_scope.proofs.Walking.{at_hand}
use Rattle.cue_syntax.specs.declared.tree.Label.{Label}
use Rattle.cue_syntax.specs.Syntax.{Expression, Entry, Entries, no_entries, entry, ellipsis, field, definition, expression, elements_of_list, entries, entry_tree}
use Rattle.cue_scope.specs.Core.{Core, Cores}
use Rattle.cue_scope.specs.Limits.{size, depth}
use Rattle.cue_scope.specs.Measures.{Total}
use Rattle.cue_scope.specs.Meaning.{meaning_of_number, nest_in_labels, text_of}
use Rattle.cue_scope.specs.Terms.{terms, terms_of_entries}
use Rattle.cue_scope.specs.Uses.{uses, uses_of_fields}
use Rattle.cue_scope.proofs.Measuring.{total_nested}
use Rattle.cue_scope.proofs.Nodes.{in_append_left, in_append_right}
use Rattle.cue_eval.specs.declared.tables.TableBuilder.{TableBuilder}
use Rattle.cue_eval.specs.Evaluated.{HasAnswersOf}
use Rattle.cue_eval.specs.Inner.Gathered.{TreeRefusals, GivenRefuse}
use Rattle.cue_eval.specs.Inner.Known.{core_of, parts_of}
use Rattle.cue_eval.specs.Places.{IsAtPlace, MarkRefuses}
use Rattle.cue_eval.specs.Inner.Ready.{all_definitions, members_of, AreKnown, IsReady, AreReadyFields, IsField, AreGiven, AtLabels}
use Rattle.cue_eval.proofs.Depth.{paths_within_depth}
use Rattle.cue_eval.proofs.Gathering.{shallow, marked_depth}
use Rattle.cue_eval.proofs.Leaves.{nil_both}

pub known_left : (known : TableBuilder) (us vs : List ℕ) → AreKnown known (us ++ vs) → AreKnown known us
known_left known us vs h = record { pairs = λ i there. h.pairs i (in_append_left us vs i there); tables = λ i there. h.tables i (in_append_left us vs i there) }

pub known_right : (known : TableBuilder) (us vs : List ℕ) → AreKnown known (us ++ vs) → AreKnown known vs
known_right known us vs h = record { pairs = λ i there. h.pairs i (in_append_right us vs i there); tables = λ i there. h.tables i (in_append_right us vs i there) }

-- a table that refuses what an expression does is no deeper than the expression
pub within_depth : (c : Core) (table : Tree Row) → IsTable RefusesAsked IsRow table → HasAnswersOf c table → tree_depth table ≤ depth c
within_depth c table form same = shallow table (depth c) form (λ path question h. paths_within_depth c path question ((same path question).0 h))

abbrev pub each_of : TableBuilder → List Expr → Cores
each_of known es = parts_of known.pairs (elements_of_list es)

-- ---- the declarations of a struct literal or of a text
pub record Gathering (known : TableBuilder) (given : List (Step × Tree Row)) (all left : Entries) : Type 0 where
  pub refused : (step : paths.Step) (path : Path) (question : Question) →
      (GivenRefuse given step path question ⊎ AtLabels (members_of known left) step path question) ↔ AtLabels (members_of known all) step path question
  pub deep : All (λ one. tree_depth one.1 < step_limit) given
  pub others : AreReadyFields known left

pub gathering_none : (known : TableBuilder) (all : Entries) → AreReadyFields known all → Gathering known [] all all
gathering_none known all h = record {
  refused = λ step path question. (λ k. ⊎_elim (λ g. absurd g) (λ g. g) k, λ k. inr k);
  deep = λ k d l. absurd (omega arith);
  others = h;
}

past_ellipsis : (known : TableBuilder) (given : List (Step × Tree Row)) (all rest : Entries) → Gathering known given all (entry ellipsis rest) → (step : paths.Step) (path : Path) (question : Question) →
    (GivenRefuse given step path question ⊎ AtLabels (members_of known rest) step path question) ↔ AtLabels (members_of known all) step path question
past_ellipsis known given all rest w (label l) path question = w.refused (label l) path question
past_ellipsis known given all rest w (index i) path question = w.refused (index i) path question

pub ellipsis_passed : (known : TableBuilder) (given : List (Step × Tree Row)) (all rest : Entries) → Gathering known given all (entry ellipsis rest) → Gathering known given all rest
ellipsis_passed known given all rest w =
    let here = w.others in record {
      refused = λ step path question. past_ellipsis known given all rest w step path question;
      deep = w.deep;
      others = record { right = here.right.1; used = here.used; terms = here.terms; size = here.size; depth = here.depth };
    }

pub definition_passed : (known : TableBuilder) (given : List (Step × Tree Row)) (all rest : Entries) (t : List ℕ) (from : ℕ) (chain : List Label) (e : Expression)
    → Gathering known given all (entry (definition t from chain e) rest) → Gathering known given all rest
definition_passed known given all rest t from chain e w =
    let here = w.others in
    let ds = all_definitions known in record {
      refused = w.refused;
      deep = w.deep;
      others = record {
        right = here.right.1;
        used = here.used;
        terms = (nil_both (terms ds (meaning_of_number ds) e) (terms_of_entries ds (meaning_of_number ds) rest) here.terms).1;
        size = here.size;
        depth = here.depth;
      };
    }

pub nested_depth : (chain : List Label) (c : Core) → depth (nest_in_labels chain c) ≡ depth c + length chain
nested_depth chain c = ap (λ (t : Total). t.depth) (total_nested chain c [])

nested_size : (chain : List Label) (c : Core) → size (nest_in_labels chain c) ≡ size c + 2 * length chain
nested_size chain c = ap (λ (t : Total). t.size) (total_nested chain c [])

pub field_ready : (known : TableBuilder) (given : List (Step × Tree Row)) (all rest : Entries) (l : Label) (chain : List Label) (e : Expression) → Gathering known given all (entry (field l chain e) rest) → IsReady known e
field_ready known given all rest l chain e w =
    let here = w.others in
    let ds = all_definitions known in
    let c = core_of known.pairs e in
    let s = here.size in
    let d = here.depth in
    let more = nested_size chain c in
    let deeper = nested_depth chain c in record {
      right = here.right.0;
      used = known_left known (uses ds e) (uses_of_fields ds rest) here.used;
      terms = (nil_both (terms ds (meaning_of_number ds) e) (terms_of_entries ds (meaning_of_number ds) rest) here.terms).0;
      size = omega arith;
      depth = omega arith;
    }

pub field_within : (known : TableBuilder) (given : List (Step × Tree Row)) (all rest : Entries) (l : Label) (chain : List Label) (e : Expression) → Gathering known given all (entry (field l chain e) rest)
    → depth (nest_in_labels chain (core_of known.pairs e)) < step_limit
field_within known given all rest l chain e w = let d = w.others.depth in omega arith

past_field : (known : TableBuilder) (given : List (Step × Tree Row)) (all rest : Entries) (l : Label) (chain : List Label) (e : Expression) (one : Step × Tree Row)
    → Gathering known given all (entry (field l chain e) rest) → IsField l (nest_in_labels chain (core_of known.pairs e)) one → (step : paths.Step) (path : Path) (question : Question)
    → (GivenRefuse (given ++ one ∷ []) step path question ⊎ AtLabels (members_of known rest) step path question) ↔ AtLabels (members_of known all) step path question
past_field known given all rest l chain e one w f (label k) path question =
    let h = w.refused (label k) path question in
    let push = one_of-push (λ (o : Step × Tree Row). (step_of o.0 ≡ label k) × TreeRefusals o.1 path question) given one in
    let a = f.answers path question in
    let at = f.step in (
      λ x. ⊎_elim
          (λ g. ⊎_elim (λ y. h.0 (inl y)) (λ y. let there = y.0 in let same : text_of l.name ≡ k = cc in h.0 (inr (inl (same, a.0 y.1)))) (push.0 g))
          (λ g. h.0 (inr (inr g))) x,
      λ x. ⊎_elim
          (λ g. inl (push.1 (inl g)))
          (λ g. ⊎_elim (λ y. inl (push.1 (inr (at ∙ ap label y.0, a.1 y.1)))) (λ y. inr y) g)
          (h.1 x),
    )
past_field known given all rest l chain e one w f (index i) path question =
    let h = w.refused (index i) path question in
    let push = one_of-push (λ (o : Step × Tree Row). (step_of o.0 ≡ index i) × TreeRefusals o.1 path question) given one in
    let at = f.step in (
      λ x. ⊎_elim (λ g. ⊎_elim (λ y. h.0 (inl y)) (λ y. let there = y.0 in absurd (cc)) (push.0 g)) (λ g. absurd g) x,
      λ x. absurd x,
    )

pub field_gathered : (known : TableBuilder) (given : List (Step × Tree Row)) (all rest : Entries) (l : Label) (chain : List Label) (e : Expression) (one : Step × Tree Row)
    → Gathering known given all (entry (field l chain e) rest) → IsField l (nest_in_labels chain (core_of known.pairs e)) one → Gathering known (given ++ one ∷ []) all rest
field_gathered known given all rest l chain e one w f =
    let here = w.others in
    let ds = all_definitions known in
    let s = here.size in
    let d = here.depth in record {
      refused = λ step path question. past_field known given all rest l chain e one w f step path question;
      deep = All-push (λ (o : Step × Tree Row). tree_depth o.1 < step_limit) given one w.deep f.deep;
      others = record {
        right = here.right.1;
        used = known_right known (uses ds e) (uses_of_fields ds rest) here.used;
        terms = (nil_both (terms ds (meaning_of_number ds) e) (terms_of_entries ds (meaning_of_number ds) rest) here.terms).1;
        size = omega arith;
        depth = omega arith;
      };
    }

none_left : (step : paths.Step) (path : Path) (question : Question) (known : TableBuilder) → AtLabels (members_of known no_entries) step path question → ⊥
none_left (label l) path question known h = h
none_left (index i) path question known h = h

pub fields_gathered : (known : TableBuilder) (given : List (Step × Tree Row)) (all left : Entries) → Gathering known given all left → left ≡ no_entries → AreGiven (AtLabels (members_of known all)) given
fields_gathered known given all left w is =
    let here = subst (λ z. Gathering known given all z) is w in record {
      refused = λ step path question.
          let h = here.refused step path question in
          (λ k. h.0 (inl k), λ k. ⊎_elim (λ g. g) (λ g. absurd (none_left step path question known g)) (h.1 k));
      deep = here.deep;
    }

-- a field that is made of the table of what its chain of labels and its value mean
pub field_made : (l : Label) (c : Core) (step : Step) (inner made : Tree Row) → step ≡ steps.Label (text_of l.name) → depth c < step_limit → IsTable RefusesAsked IsRow inner → HasAnswersOf c inner
    → IsTable RefusesAsked IsRow made → SameAnswers (TreeRefusals made) (λ path question. IsAtPlace (MarkRefuses l.mark) path question ⊎ TreeRefusals inner path question) → IsField l c (step, made)
field_made l c step inner made is less inner_form same form marked =
    let at = within_depth c inner inner_form same in
    let no_deeper = marked_depth inner made l.mark form marked in record {
      step = ap step_of is;
      deep = omega arith;
      answers = λ path question.
          let m = marked path question in
          let s = same path question in (
            λ h. ⊎_elim (λ g. inl g) (λ g. inr (s.0 g)) (m.0 h),
            λ h. m.1 (⊎_elim (λ g. inl g) (λ g. inr (s.1 g)) h),
          );
    }

no_length : {A : Type 0} (xs : List A) → length xs ≡ 0 → xs ≡ []
no_length [] h = refl
no_length (x ∷ xs) h = absurd (omega (arith, h))

pub none_behind : {A : Type 0} (xs : List A) (i : ℕ) → length xs ≤ i → drop i xs ≡ []
none_behind xs i h = no_length (drop i xs) (let d = length-drop i xs in omega arith)

-- the declarations that are left begin with the one at hand
pub entry_first : (ds : List Declaration) (i : ℕ) (d : Declaration) (e : Entry) → i < length ds → d ≡ get_or ds i d → entry_tree d ≡ e → entries (drop i ds) ≡ entry e (entries (drop (i + 1) ds))
entry_first ds i d e h is same = ap entries (at_hand ds i d h is) ∙ ap (λ z. entry z (entries (drop (i + 1) ds))) same

pub field_first : (ds : List Declaration) (i : ℕ) (d : Declaration) (l : Label) (chain : Vec Label Global) (e : Expr) → i < length ds → d ≡ get_or ds i d → d ≡ declarations.Field l chain e
    → entries (drop i ds) ≡ entry (field l chain.items (expression e)) (entries (drop (i + 1) ds))
field_first ds i d l chain e h is same = entry_first ds i d (field l chain.items (expression e)) h is (ap entry_tree same ∙ view-Field l chain e)

pub definition_first : (ds : List Declaration) (i : ℕ) (d : Declaration) (t : List ℕ) (from : ℕ) (chain : Vec Label Global) (e : Expr) → i < length ds → d ≡ get_or ds i d → d ≡ declarations.Definition t from chain e
    → entries (drop i ds) ≡ entry (definition t from chain.items (expression e)) (entries (drop (i + 1) ds))
definition_first ds i d t from chain e h is same = entry_first ds i d (definition t from chain.items (expression e)) h is (ap entry_tree same ∙ view-Definition t from chain e)
