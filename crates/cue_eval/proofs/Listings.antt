-- Tables of the elements of a list, one after another.
use Rattle.std.proofs.Common.{◌≡◌, ◌↔◌, ◌⊎◌, ◌+◌, ◌≤◌, ◌<◌, inl, inr, ⊎_elim, ℕ, zero, suc, Bool, refl, List, [], ◌∷◌, ◌++◌, All, length, sym, ap, subst, length-append, arith}
use Rattle.std.proofs.lemmas.List.Elements.{All-push}
use Rattle.cue_lattice.specs.Limits.{step_limit, length_limit}
use Rattle.cue_lattice.proofs.OneOf.{one_of-push}
use Rattle.cue_lattice.specs.Path as paths
use Rattle.cue_lattice.specs.Path.{Path, label, index}
use Rattle.cue_lattice.specs.Question.{Question}
use Rattle.cue_row.specs.Row.{RefusesAsked, IsRow}
use Rattle.cue_row.specs.Steps.{step_of}
use Rattle.cue_row.specs.declared.parts.RowParts.{RowParts as Row}
use Rattle.cue_row.specs.declared.step.Step.{Step}
use Rattle.cue_row.specs.declared.step.Step.TheVariants.{Index}
use Rattle.cue_table.specs.Depth.{tree_depth}
use Rattle.cue_table.specs.Form.{IsTable}
use Rattle.cue_table.specs.Tree.{Tree}
use Rattle.cue_syntax.specs.declared.tree.Expr.{Expr}
use Rattle.cue_syntax.specs.Syntax as syntax
use Rattle.cue_syntax.specs.Syntax.{Rest, expression, elements_of_list}
use Rattle.cue_scope.specs.Core.{Core, null, truth, integer, text, named, top, bottom, bound, other_integer, other_text, conjunction, disjunction, struct, close, list, closed, Elements, ends, goes_on, each, element, followed_by}
use Rattle.cue_scope.proofs.Followed.{size_followed, depth_followed}
use Rattle.cue_scope.specs.Limits.{size, size_of_elements}
use Rattle.cue_scope.specs.Meaning.{meaning_of_number}
use Rattle.cue_scope.specs.Terms.{terms, terms_of_elements, terms_of_rest}
use Rattle.cue_scope.specs.Uses.{uses, uses_of_elements, uses_of_rest}
use Rattle.cue_eval.specs.declared.pair.Pairs.{Pairs}
use Rattle.cue_eval.specs.declared.tables.TableBuilder.{TableBuilder}
use Rattle.cue_eval.specs.Evaluated.{HasAnswersOf}
use Rattle.cue_eval.specs.Inner.Gathered.{TreeRefusals, GivenRefuse}
use Rattle.cue_eval.specs.Inner.Known.{core_of, parts_of, rest_of}
use Rattle.cue_eval.specs.Inner.Ready.{all_definitions, IsReady, AreReadyElements, IsReadyRest, AreGiven, AtIndexes}
use Rattle.cue_eval.specs.Refuses.{count_of_elements}
use Rattle.cue_eval.proofs.Leaves.{nil_both}
use Rattle.cue_eval.proofs.Walks.{known_left, known_right, within_depth, each_of}

some_size : (c : Core) → 1 ≤ size c
some_size (conjunction cs) = omega arith
some_size (disjunction cs) = omega arith
some_size (struct ms) = omega arith
some_size (close ms) = omega arith
some_size (list es) = omega arith
some_size (closed c) = omega arith
some_size null = omega arith
some_size (truth b) = omega arith
some_size (integer n) = omega arith
some_size (text t) = omega arith
some_size (named n) = omega arith
some_size top = omega arith
some_size bottom = omega arith
some_size (bound c n) = omega arith
some_size (other_integer n) = omega arith
some_size (other_text t) = omega arith

count_small : (es : Elements) → count_of_elements es ≤ size_of_elements es
count_small ends = omega arith
count_small goes_on = omega arith
count_small (each c) = omega arith
count_small (element c es) = let here = some_size c in let rest = count_small es in omega arith

-- these elements, and nothing behind them
abbrev pub only_elements : TableBuilder → List Expr → Elements
only_elements known es = followed_by (each_of known es) ends

pub count_of : (known : TableBuilder) (es : List Expr) → count_of_elements (only_elements known es) ≡ length es
count_of known [] = refl
count_of known (e ∷ es) = let more = count_of known es in omega (arith, more)

pub elements_few : (known : TableBuilder) (es : List Expr) → AreReadyElements known (elements_of_list es) → length es ≤ length_limit
elements_few known es h =
    let few = count_small (only_elements known es) in
    let same = count_of known es in
    let s = h.size in
    omega arith

pub record Listing (known : TableBuilder) (given : List (Step × Tree Row)) (all left : List Expr) : Type 0 where
  pub counted : length given + length left ≡ length all
  pub refused : (step : paths.Step) (path : Path) (question : Question) →
      (GivenRefuse given step path question ⊎ AtIndexes (length given) (only_elements known left) step path question) ↔ AtIndexes 0 (only_elements known all) step path question
  pub deep : All (λ one. tree_depth one.1 < step_limit) given
  pub others : AreReadyElements known (elements_of_list left)

pub listing_none : (known : TableBuilder) (all : List Expr) → AreReadyElements known (elements_of_list all) → Listing known [] all all
listing_none known all h = record {
  counted = omega arith;
  refused = λ step path question. (λ k. ⊎_elim (λ g. absurd g) (λ g. g) k, λ k. inr k);
  deep = λ k d l. absurd (omega arith);
  others = h;
}

pub element_ready : (known : TableBuilder) (given : List (Step × Tree Row)) (all left : List Expr) (e : Expr) (rest : List Expr) → Listing known given all left → left ≡ e ∷ rest → IsReady known (expression e)
element_ready known given all left e rest w is =
    let here = (subst (λ z. Listing known given all z) is w).others in
    let ds = all_definitions known in
    let s = here.size in
    let d = here.depth in record {
      right = here.right.0;
      used = known_left known (uses ds (expression e)) (uses_of_elements ds (elements_of_list rest)) here.used;
      terms = (nil_both (terms ds (meaning_of_number ds) (expression e)) (terms_of_elements ds (meaning_of_number ds) (elements_of_list rest)) here.terms).0;
      size = omega arith;
      depth = omega arith;
    }

-- an element at an index, counted from the first one of the list or from the one behind it
behind_first : (n i : ℕ) (c : Core) (es : Elements) (table : Tree Row) (path : Path) (question : Question) → HasAnswersOf c table
    → AtIndexes n (element c es) (index i) path question → ((index n ≡ index i) × TreeRefusals table path question) ⊎ AtIndexes (n + 1) es (index i) path question
behind_first n i c es table path question same (zero, e, r) = let at : n ≡ i = omega arith in inl (ap index at, (same path question).1 r)
behind_first n i c es table path question same (suc k, e, r) = let at : n + 1 + k ≡ i = omega arith in inr (k, at, r)

with_first : (n i : ℕ) (c : Core) (es : Elements) (path : Path) (question : Question) → AtIndexes (n + 1) es (index i) path question → AtIndexes n (element c es) (index i) path question
with_first n i c es path question (k, e, r) = let at : n + suc k ≡ i = omega arith in (suc k, at, r)

past_element : (known : TableBuilder) (given : List (Step × Tree Row)) (all : List Expr) (e : Expr) (rest : List Expr) (table : Tree Row) → Listing known given all (e ∷ rest)
    → HasAnswersOf (core_of known.pairs (expression e)) table → (step : paths.Step) (path : Path) (question : Question)
    → (GivenRefuse (given ++ (Index (length given), table) ∷ []) step path question ⊎ AtIndexes (length given + 1) (only_elements known rest) step path question)
    ↔ AtIndexes 0 (only_elements known all) step path question
past_element known given all e rest table w same (label l) path question =
    let h = w.refused (label l) path question in
    let push = one_of-push (λ (o : Step × Tree Row). (step_of o.0 ≡ label l) × TreeRefusals o.1 path question) given (Index (length given), table) in (
      λ x. ⊎_elim (λ g. ⊎_elim (λ y. h.0 (inl y)) (λ y. let there = y.0 in absurd (cc)) (push.0 g)) (λ g. absurd g) x,
      λ x. absurd x,
    )
past_element known given all e rest table w same (index i) path question =
    let h = w.refused (index i) path question in
    let n = length given in
    let c = core_of known.pairs (expression e) in
    let es = only_elements known rest in
    let push = one_of-push (λ (o : Step × Tree Row). (step_of o.0 ≡ index i) × TreeRefusals o.1 path question) given (Index n, table) in (
      λ x. ⊎_elim
          (λ g. ⊎_elim (λ y. h.0 (inl y)) (λ y. let there = y.0 in let at : n ≡ i = cc in let sum : n + 0 ≡ i = omega (arith, at) in h.0 (inr (0, sum, (same path question).0 y.1))) (push.0 g))
          (λ g. h.0 (inr (with_first n i c es path question g))) x,
      λ x. ⊎_elim
          (λ g. inl (push.1 (inl g)))
          (λ g. ⊎_elim (λ y. inl (push.1 (inr y))) (λ y. inr y) (behind_first n i c es table path question same g))
          (h.1 x),
    )

pub element_listed : (known : TableBuilder) (given : List (Step × Tree Row)) (all left : List Expr) (e : Expr) (rest : List Expr) (at : ℕ) (table : Tree Row) → Listing known given all left → left ≡ e ∷ rest
    → at ≡ length given → IsTable RefusesAsked IsRow table → HasAnswersOf (core_of known.pairs (expression e)) table → Listing known (given ++ (Index at, table) ∷ []) all rest
element_listed known given all left e rest at table w is place form same =
    subst (λ (n : ℕ). Listing known (given ++ (Index n, table) ∷ []) all rest) (sym place)
    (let now = subst (λ z. Listing known given all z) is w in
    let here = now.others in
    let ds = all_definitions known in
    let s = here.size in
    let d = here.depth in
    let counted = now.counted in
    let one_more = length-append given ((Index (length given), table) ∷ []) in
    let shallow_enough = within_depth (core_of known.pairs (expression e)) table form same in
    let deep : tree_depth table < step_limit = omega arith in
    let longer : length given + 1 ≡ length (given ++ (Index (length given), table) ∷ []) = omega arith in record {
      counted = omega arith;
      refused = λ step path question. subst (λ n. (GivenRefuse (given ++ (Index (length given), table) ∷ []) step path question ⊎ AtIndexes n (only_elements known rest) step path question)
          ↔ AtIndexes 0 (only_elements known all) step path question) longer (past_element known given all e rest table now same step path question);
      deep = All-push (λ (o : Step × Tree Row). tree_depth o.1 < step_limit) given (Index (length given), table) now.deep deep;
      others = record {
        right = here.right.1;
        used = known_right known (uses ds (expression e)) (uses_of_elements ds (elements_of_list rest)) here.used;
        terms = (nil_both (terms ds (meaning_of_number ds) (expression e)) (terms_of_elements ds (meaning_of_number ds) (elements_of_list rest)) here.terms).1;
        size = omega arith;
        depth = omega arith;
      };
    })

none_left : (n : ℕ) (step : paths.Step) (path : Path) (question : Question) → AtIndexes n ends step path question → ⊥
none_left n (label l) path question h = h
none_left n (index i) path question h = h.2

pub elements_listed : (known : TableBuilder) (given : List (Step × Tree Row)) (all left : List Expr) → Listing known given all left → left ≡ []
    → AreGiven (AtIndexes 0 (only_elements known all)) given
elements_listed known given all left w is =
    let here = subst (λ z. Listing known given all z) is w in record {
      refused = λ step path question.
          let h = here.refused step path question in
          (λ k. h.0 (inl k), λ k. ⊎_elim (λ g. g) (λ g. absurd (none_left (length given) step path question g)) (h.1 k));
      deep = here.deep;
    }

pub all_listed : (known : TableBuilder) (given : List (Step × Tree Row)) (all left : List Expr) → Listing known given all left → left ≡ [] → length given ≡ length all
all_listed known given all left w is = let here = (subst (λ z. Listing known given all z) is w).counted in omega arith

-- what stands behind the elements of a list that is ready, is ready too
pub rest_ready : (known : TableBuilder) (es : syntax.Elements) (rest : Rest) (comma : Bool) → IsReady known (syntax.list es rest comma) → IsReadyRest known rest
rest_ready known es rest comma h =
    let ds = all_definitions known in
    let larger = size_followed (parts_of known.pairs es) (rest_of known.pairs rest) in
    let deeper = depth_followed (parts_of known.pairs es) (rest_of known.pairs rest) in
    let s = h.size in
    let d = h.depth in record {
      right = h.right.1;
      used = known_right known (uses_of_elements ds es) (uses_of_rest ds rest) h.used;
      terms = (nil_both (terms_of_elements ds (meaning_of_number ds) es) (terms_of_rest ds (meaning_of_number ds) rest) h.terms).1;
      size = omega arith;
      depth = omega arith;
    }

-- and so are the elements
pub elements_ready : (known : TableBuilder) (es : syntax.Elements) (rest : Rest) (comma : Bool) → IsReady known (syntax.list es rest comma) → AreReadyElements known es
elements_ready known es rest comma h =
    let ds = all_definitions known in
    let larger = size_followed (parts_of known.pairs es) (rest_of known.pairs rest) in
    let deeper = depth_followed (parts_of known.pairs es) (rest_of known.pairs rest) in
    let alone = size_followed (parts_of known.pairs es) ends in
    let s = h.size in
    let d = h.depth in record {
      right = h.right.0;
      used = known_left known (uses_of_elements ds es) (uses_of_rest ds rest) h.used;
      terms = (nil_both (terms_of_elements ds (meaning_of_number ds) es) (terms_of_rest ds (meaning_of_number ds) rest) h.terms).0;
      size = omega arith;
      depth = omega arith;
    }

-- what stands behind the elements counts as none
pub none_counted : (known : Pairs) (rest : Rest) → count_of_elements (rest_of known rest) ≡ 0
none_counted known syntax.no_rest = refl
none_counted known syntax.any_rest = refl
none_counted known (syntax.each_rest e) = refl
