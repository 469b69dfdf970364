-- Definitions that an `&` names, of which each is taken once.
use Rattle.std.proofs.Common.{◌≡◌, ◌↔◌, ◌⊎◌, ◌+◌, ◌≤◌, ◌<◌, inl, inr, ⊎_elim, ℕ, zero, suc, List, [], ◌∷◌, ◌++◌, length, take, get_or, Result, Ok, Err, refl, sym, subst, add-one, arith}
use Rattle.std.proofs.Math.Dec.{eqb}
use Rattle.std.proofs.Math.Seq.{take-suc}
use Rattle.std.specs.List.{Contains, dedup}
use Rattle.std.specs.List.Sorted.{IsPermutation}
use Rattle.std.proofs.lemmas.List.{take_all}
use Rattle.std.proofs.lemmas.List.Kept.{Contains-dedup_nat, Contains-from_dedup}
use Rattle.std.proofs.lemmas.List.Sorted.{IsPermutation-sym, Contains-permutation}
use Rattle.cue_lattice.specs.OneOf.{OneOf}
use Rattle.cue_lattice.proofs.OneOf.{one_of-push}
use Rattle.cue_lattice.specs.Path.{Path}
use Rattle.cue_lattice.specs.Question.{Question}
use Rattle.cue_row.specs.declared.parts.RowParts.{RowParts as Row}
use Rattle.cue_table.specs.Tree.{Tree}
use Rattle.cue_scope.specs.Definitions.{Definition}
use Rattle.cue_scope.specs.Graph.{IsNodeIn}
use Rattle.cue_scope.specs.Meaning.{meaning_of_number}
use Rattle.cue_row.specs.Row as rows
use Rattle.cue_table.specs.Many.{AreUnified}
use Rattle.cue_syntax.specs.declared.tree.Expr.{Expr}
use Rattle.cue_syntax.specs.Syntax.{expression, elements_of_list}
use Rattle.cue_scope.specs.Core.{conjunction}
use Rattle.cue_scope.specs.Terms.{terms, terms_of_elements}
use Rattle.cue_scope.specs.Uses.{uses, uses_of_elements}
use Rattle.cue_scope.proofs.Nodes.{in_append}
use Rattle.cue_eval.specs.declared.tables.TableBuilder.{TableBuilder}
use Rattle.cue_eval.specs.Inner.Known.{core_of}
use Rattle.cue_eval.specs.Inner.Ready.{all_definitions, AreKnown, IsReady, AreReadyParts}
use Rattle.cue_scalars.specs.Values.{pair_of_value}
use Rattle.cue_scalars.specs.declared.valued.Valued.{Valued}
use Rattle.cue_eval.proofs.Gathering.{unified_answers}
use Rattle.cue_eval.proofs.Joined.{part_value, more_left, more_right}
use Rattle.cue_eval.proofs.Leaves.{nil_both}
use Rattle.cue_eval.proofs.TellingParts.{IsSplit, split_more, split_all, same_sides, itself}
use Rattle.cue_eval.proofs.Walks.{known_left, known_right, each_of}
use Rattle.std.specs.Prelude.{IfOk}
use Rattle.cue_eval.specs.Evaluated.{HasAnswersOf}
use Rattle.cue_eval.specs.Inner.Gathered.{TreeRefusals}
use Rattle.cue_eval.specs.Pairs.{pair}
use Rattle.cue_eval.specs.Inner.Parts.{AreAdded, AreJoined, IsScalarPart, IsUseOf, OneScalarRefuses}
use Rattle.cue_eval.specs.Places.{IsAtPlace, ScalarRefuses}
use Rattle.cue_eval.specs.Refuses.{Refuses, PartsRefuse}

contains_in : (xs : List ℕ) (i : ℕ) → Contains xs i → IsNodeIn i xs
contains_in [] i (k, less, e) = absurd (omega arith)
contains_in (x ∷ xs) i (zero, less, e) = inl (sym e)
contains_in (x ∷ xs) i (suc k, less, e) = inr (contains_in xs i (k, omega arith, e))

in_contains : (xs : List ℕ) (i : ℕ) → IsNodeIn i xs → Contains xs i
in_contains [] i h = absurd h
in_contains (x ∷ xs) i (inl e) = (0, omega arith, sym e)
in_contains (x ∷ xs) i (inr h) = let found = in_contains xs i h in (suc found.0, omega (arith, found.1), found.2)

-- a list that is sorted, and of which repeated numbers are dropped, has the same numbers
pub same_numbers : (xs ys : List ℕ) (i : ℕ) → IsPermutation xs ys → IsNodeIn i (dedup eqb ys) ↔ IsNodeIn i xs
same_numbers xs ys i moved = (
  λ h. contains_in xs i (Contains-permutation ys xs i (IsPermutation-sym xs ys moved) (Contains-from_dedup eqb ys i (in_contains (dedup eqb ys) i h))),
  λ h. contains_in (dedup eqb ys) i (Contains-dedup_nat ys i (Contains-permutation xs ys i moved (in_contains xs i h))),
)

-- ---- one of several numbers
one_is_in : (Q : ℕ → Type 0) (is : List ℕ) → OneOf Q is → (i : ℕ) × IsNodeIn i is × Q i
one_is_in Q [] h = absurd h
one_is_in Q (i ∷ is) (inl h) = (i, inl refl, h)
one_is_in Q (i ∷ is) (inr h) = let found = one_is_in Q is h in (found.0, inr found.1, found.2)

in_is_one : (Q : ℕ → Type 0) (is : List ℕ) (i : ℕ) → IsNodeIn i is → Q i → OneOf Q is
in_is_one Q [] i there h = absurd there
in_is_one Q (j ∷ is) i (inl e) h = inl (subst Q e h)
in_is_one Q (j ∷ is) i (inr there) h = inr (in_is_one Q is i there h)

-- what holds of one of these numbers holds of one of others that have all of them
pub one_of_same : (Q : ℕ → Type 0) (is js : List ℕ) → ((i : ℕ) → IsNodeIn i is → IsNodeIn i js) → OneOf Q is → OneOf Q js
one_of_same Q is js inside h = let found = one_is_in Q is h in in_is_one Q js found.0 (inside found.0 found.1) found.2

-- ---- tables that come to those of a list, one after the other
pub added_none : (ds : List Definition) (old : List (Tree Row)) → AreAdded ds old [] old
added_none ds old path question = (λ h. inl h, λ h. ⊎_elim (λ g. g) (λ n. absurd n) h)

pub added_more : (ds : List Definition) (old now : List (Tree Row)) (numbers : List ℕ) (k : ℕ) (table : Tree Row) → AreAdded ds old (take k numbers) now → k < length numbers
    → HasAnswersOf (meaning_of_number ds (get_or numbers k 0)) table → AreAdded ds old (take (k + 1) numbers) (now ++ table ∷ [])
added_more ds old now numbers k table h less same = rw taken (λ path question. by path question) where
  taken : take (k + 1) numbers ≡ take k numbers ++ get_or numbers k 0 ∷ []
  taken = rw add-one (take-suc numbers k 0 less)

  by : AreAdded ds old (take k numbers ++ get_or numbers k 0 ∷ []) (now ++ table ∷ [])
  by path question =
      let p = one_of-push (λ t. TreeRefusals t path question) now table in
      let q = one_of-push (λ j. Refuses (meaning_of_number ds j) path question) (take k numbers) (get_or numbers k 0) in
      let here = h path question in
      let s = same path question in (
        λ x. ⊎_elim (λ g. ⊎_elim (λ o. inl o) (λ o. inr (q.1 (inl o))) (here.0 g)) (λ g. inr (q.1 (inr (s.0 g)))) (p.0 x),
        λ x. ⊎_elim (λ o. p.1 (inl (here.1 (inl o)))) (λ g. ⊎_elim (λ o. p.1 (inl (here.1 (inr o)))) (λ o. p.1 (inr (s.1 o))) (q.0 g)) x,
      )

pub added_all : (ds : List Definition) (old now : List (Tree Row)) (numbers : List ℕ) (k : ℕ) → length numbers ≤ k → AreAdded ds old (take k numbers) now → AreAdded ds old numbers now
added_all ds old now numbers k less h = subst (λ is. AreAdded ds old is now) (take_all k numbers less) h

-- ---- the parts of a conjunction: the tables, scalars and definitions so far, and the parts that are left
abbrev pub SoFar : TableBuilder → List (Tree Row) → List Valued → List ℕ → Path → Question → Type 0
SoFar known given scalars numbers path question =
    (OneOf (λ table. TreeRefusals table path question) given ⊎ OneScalarRefuses scalars path question) ⊎ OneOf (λ i. Refuses (meaning_of_number (all_definitions known) i) path question) numbers

pub record Joining (known : TableBuilder) (given : List (Tree Row)) (scalars : List Valued) (numbers : List ℕ) (all left : List Expr) : Type 0 where
  pub refused : (path : Path) (question : Question) →
      IsSplit (PartsRefuse (each_of known all) path question) (SoFar known given scalars numbers path question) (PartsRefuse (each_of known left) path question)
  pub named : AreKnown known numbers
  pub others : AreReadyParts known (elements_of_list left)

pub joining_none : (known : TableBuilder) (all : List Expr) → AreReadyParts known (elements_of_list all) → Joining known [] [] [] all all
joining_none known all h = record {
  refused = λ path question. (λ k. inr k, λ k. ⊎_elim (λ g. ⊎_elim (λ f. ⊎_elim (λ n. absurd n) (λ n. absurd n) f) (λ n. absurd n) g) (λ g. g) k);
  named = record { pairs = λ i there. absurd there; tables = λ i there. absurd there };
  others = h;
}

pub joined_ready : (known : TableBuilder) (given : List (Tree Row)) (scalars : List Valued) (numbers : List ℕ) (all left : List Expr) (e : Expr) (rest : List Expr) → Joining known given scalars numbers all left → left ≡ e ∷ rest
    → IsReady known (expression e)
joined_ready known given scalars numbers all left e rest w is =
    let here = (subst (λ z. Joining known given scalars numbers all z) is w).others in
    let ds = all_definitions known in
    let s = here.size in
    let d = here.depth in record {
      right = here.right.0;
      used = known_left known (uses ds (expression e)) (uses_of_elements ds (elements_of_list rest)) here.used;
      terms = (nil_both (terms ds (meaning_of_number ds) (expression e)) (terms_of_elements ds (meaning_of_number ds) (elements_of_list rest)) here.terms).0;
      size = omega arith;
      depth = omega arith;
    }

-- what the parts are that are left after one
rest_ready : (known : TableBuilder) (e : Expr) (rest : List Expr) → AreReadyParts known (elements_of_list (e ∷ rest)) → AreReadyParts known (elements_of_list rest)
rest_ready known e rest here =
    let ds = all_definitions known in
    let s = here.size in
    let d = here.depth in record {
      right = here.right.1;
      used = known_right known (uses ds (expression e)) (uses_of_elements ds (elements_of_list rest)) here.used;
      terms = (nil_both (terms ds (meaning_of_number ds) (expression e)) (terms_of_elements ds (meaning_of_number ds) (elements_of_list rest)) here.terms).1;
      size = omega arith;
      depth = omega arith;
    }

pub table_joined : (known : TableBuilder) (given : List (Tree Row)) (scalars : List Valued) (numbers : List ℕ) (all left : List Expr) (e : Expr) (rest : List Expr) (table : Tree Row)
    → Joining known given scalars numbers all left → left ≡ e ∷ rest → HasAnswersOf (core_of known.pairs (expression e)) table → Joining known (given ++ table ∷ []) scalars numbers all rest
table_joined known given scalars numbers all left e rest table w is same =
    let now = subst (λ z. Joining known given scalars numbers all z) is w in record {
      refused = λ path question. split_more _ _ _ _ (TreeRefusals table path question) _ (now.refused path question)
          (same_sides _ _ _ _ (let a = same path question in (a.1, a.0)) (itself _))
          (more_left (more_left (one_of-push (λ t. TreeRefusals t path question) given table)));
      named = now.named;
      others = rest_ready known e rest now.others;
    }

pub scalar_joined : (known : TableBuilder) (given : List (Tree Row)) (scalars : List Valued) (numbers : List ℕ) (all left : List Expr) (e : Expr) (rest : List Expr) (v : Valued)
    → Joining known given scalars numbers all left → left ≡ e ∷ rest → IsScalarPart (expression e) → pair_of_value v ≡ pair (core_of known.pairs (expression e)) → Joining known given (scalars ++ v ∷ []) numbers all rest
scalar_joined known given scalars numbers all left e rest v w is part same =
    let ds = all_definitions known in
    let now = subst (λ z. Joining known given scalars numbers all z) is w in record {
      refused = λ path question. split_more _ _ _ _ (IsAtPlace (ScalarRefuses (pair_of_value v)) path question) _ (now.refused path question)
          (same_sides _ _ _ _ (part_value ds (meaning_of_number ds) (expression e) v part same path question) (itself _))
          (more_left (more_right (one_of-push (λ (x : Valued). IsAtPlace (ScalarRefuses (pair_of_value x)) path question) scalars v)));
      named = now.named;
      others = rest_ready known e rest now.others;
    }

known_more : (known : TableBuilder) (us : List ℕ) (i : ℕ) → AreKnown known us → AreKnown known (i ∷ []) → AreKnown known (us ++ i ∷ [])
known_more known us i h one = record {
  pairs = λ j there sure. ⊎_elim (λ g. h.pairs j g sure) (λ g. one.pairs j g sure) (in_append us (i ∷ []) j there);
  tables = λ j there. ⊎_elim (λ g. h.tables j g) (λ g. one.tables j g) (in_append us (i ∷ []) j there);
}

pub name_joined : (known : TableBuilder) (given : List (Tree Row)) (scalars : List Valued) (numbers : List ℕ) (all left : List Expr) (e : Expr) (rest : List Expr) (i : ℕ)
    → Joining known given scalars numbers all left → left ≡ e ∷ rest → IsUseOf (all_definitions known) e i → Joining known given scalars (numbers ++ i ∷ []) all rest
name_joined known given scalars numbers all left e rest i w is one =
    let ds = all_definitions known in
    let now = subst (λ z. Joining known given scalars numbers all z) is w in
    let used = known_left known (uses ds (expression e)) (uses_of_elements ds (elements_of_list rest)) now.others.used in
    let means = one.means (meaning_of_number ds) in record {
      refused = λ path question. split_more _ _ _ _ (Refuses (meaning_of_number ds i) path question) _ (now.refused path question)
          (same_sides _ _ _ _ (λ h. subst (λ c. Refuses c path question) means h, λ h. subst (λ c. Refuses c path question) (sym means) h) (itself _))
          (more_right (one_of-push (λ j. Refuses (meaning_of_number ds j) path question) numbers i));
      named = known_more known numbers i now.named (subst (λ us. AreKnown known us) one.used used);
      others = rest_ready known e rest now.others;
    }

-- the same of each of these numbers
pub named_same : (known : TableBuilder) (us vs : List ℕ) → ((i : ℕ) → IsNodeIn i vs ↔ IsNodeIn i us) → AreKnown known us → AreKnown known vs
named_same known us vs same h = record { pairs = λ i there. h.pairs i ((same i).0 there); tables = λ i there. h.tables i ((same i).0 there) }

-- the tables of the parts, that of the scalars and those of the definitions, unified
pub all_joined : (known : TableBuilder) (given with_scalars tables : List (Tree Row)) (scalars : List Valued) (numbers each : List ℕ) (all left : List Expr) (met : Tree Row) → Joining known given scalars numbers all left → left ≡ []
    → AreJoined given scalars with_scalars → ((i : ℕ) → IsNodeIn i each ↔ IsNodeIn i numbers) → AreAdded (all_definitions known) with_scalars each tables → AreUnified rows.RefusesAsked tables met → HasAnswersOf (conjunction (each_of known all)) met
all_joined known given with_scalars tables scalars numbers each all left met w is joined same added unified path question =
    let N : ℕ → Type 0 = λ i. Refuses (meaning_of_number (all_definitions known) i) path question in
    let here = split_all _ _ _ ((subst (λ z. Joining known given scalars numbers all z) is w).refused path question) (λ n. n) in
    let of_numbers : OneOf N each ↔ OneOf N numbers =
    (one_of_same N each numbers (λ i there. (same i).0 there), one_of_same N numbers each (λ i there. (same i).1 there)) in
    let sides = same_sides _ _ _ _ (joined path question) of_numbers in
    let a = added path question in
    let u = unified_answers tables met path question unified in
    (λ k. here.0 (sides.0 (a.0 (u.0 k))), λ k. u.1 (a.1 (sides.1 (here.1 k))))

pub joined_result : {E : Type 0} (r : Result (Tree Row) E) (known : TableBuilder) (given with_scalars tables : List (Tree Row)) (scalars : List Valued) (numbers each : List ℕ) (all left : List Expr)
    → Joining known given scalars numbers all left → left ≡ [] → AreJoined given scalars with_scalars → ((i : ℕ) → IsNodeIn i each ↔ IsNodeIn i numbers) → AreAdded (all_definitions known) with_scalars each tables
    → IfOk r (λ met. AreUnified rows.RefusesAsked tables met) → IfOk r (HasAnswersOf (conjunction (each_of known all)))
joined_result (Ok met) known given with_scalars tables scalars numbers each all left w is joined same added unified =
    all_joined known given with_scalars tables scalars numbers each all left met w is joined same added unified
joined_result (Err e) known given with_scalars tables scalars numbers each all left w is joined same added unified = unified
