-- Pairs of the parts of a conjunction, and of the terms of a disjunction, one after another.
use Rattle.std.proofs.Common.{◌≡◌, ◌+◌, ℕ, Bool, List, [], ◌∷◌, ◌++◌, length, map, sym, ap, subst, ◌∙◌, append_assoc, append-nil, length-append, arith}
use Rattle.std.proofs.lemmas.List.{map-append}
use Rattle.cue_scalars.specs.Pairs.{ScalarPair}
use Rattle.cue_scalars.specs.Values as values
use Rattle.cue_scalars.specs.Values.{pair_of_value}
use Rattle.cue_scalars.specs.declared.valued.Valued.{Valued}
use Rattle.cue_syntax.specs.declared.tree.Expr.{Expr}
use Rattle.cue_syntax.specs.declared.tree.Term.{Term}
use Rattle.cue_syntax.specs.Syntax.{branch, Branches, next_branch, expression, elements_of_list, branches_of_list}
use Rattle.cue_syntax.proofs.Views.{view-term}
use Rattle.cue_scope.specs.Core.{is_scalar, are_scalar, are_scalar_choices}
use Rattle.cue_scope.specs.Uses.{uses, uses_of_elements, uses_of_branches}
use Rattle.cue_scope.proofs.Nodes.{in_append_left, in_append_right}
use Rattle.cue_eval.specs.declared.pair.Pairs.{Pairs}
use Rattle.cue_eval.specs.Inner.Known.{ArePairsKnown, IsPairable, ArePairable, ArePairableTerms, definitions_of, core_of, parts_of, choices_of}
use Rattle.cue_eval.specs.Pairs.{pair, pairs_of, terms_of}
use Rattle.cue_eval.proofs.ByPair.{both_true}

known_left : (p : Pairs) (us vs : List ℕ) → ArePairsKnown p (us ++ vs) → ArePairsKnown p us
known_left p us vs h = λ i there. h i (in_append_left us vs i there)

known_right : (p : Pairs) (us vs : List ℕ) → ArePairsKnown p (us ++ vs) → ArePairsKnown p vs
known_right p us vs h = λ i there. h i (in_append_right us vs i there)

-- one more, with what it means
pairs_more : (so_far : List Valued) (v : Valued) (of_it : ScalarPair) (rest all : List ScalarPair) → map pair_of_value so_far ++ (of_it ∷ rest) ≡ all → pair_of_value v ≡ of_it → map pair_of_value (so_far ++ v ∷ []) ++ rest ≡ all
pairs_more so_far v of_it rest all h is =
    ap (λ xs. xs ++ rest) (map-append pair_of_value so_far (v ∷ [])) ∙ append_assoc (map pair_of_value so_far) (pair_of_value v ∷ []) rest
    ∙ ap (λ x. map pair_of_value so_far ++ (x ∷ rest)) is ∙ h

-- a loop over parts: the pairs so far, and the parts that are left
pub record PairingParts (p : Pairs) (so_far : List Valued) (all left : List Expr) : Type 0 where
  pub pairs : map pair_of_value so_far ++ pairs_of (parts_of p (elements_of_list left)) ≡ pairs_of (parts_of p (elements_of_list all))
  pub counted : length so_far + length left ≡ length all
  pub others : ArePairable p (elements_of_list left)

pub part_can : (p : Pairs) (so_far : List Valued) (all left : List Expr) (e : Expr) (rest : List Expr) → PairingParts p so_far all left → left ≡ e ∷ rest → IsPairable p (expression e)
part_can p so_far all left e rest w is =
    let here = subst (λ z. PairingParts p so_far all z) is w in record {
      right = here.others.right.0;
      scalar = (both_true (is_scalar (core_of p (expression e))) (are_scalar (parts_of p (elements_of_list rest))) here.others.scalar).0;
      used = known_left p (uses (definitions_of p) (expression e)) (uses_of_elements (definitions_of p) (elements_of_list rest)) here.others.used;
    }

pub part_more : (p : Pairs) (so_far : List Valued) (all left : List Expr) (e : Expr) (rest : List Expr) (v : Valued) → PairingParts p so_far all left → left ≡ e ∷ rest
    → pair_of_value v ≡ pair (core_of p (expression e)) → PairingParts p (so_far ++ v ∷ []) all rest
part_more p so_far all left e rest v w is h =
    let here = subst (λ z. PairingParts p so_far all z) is w in
    let counted = here.counted in record {
      pairs = pairs_more so_far v (pair (core_of p (expression e))) (pairs_of (parts_of p (elements_of_list rest))) (pairs_of (parts_of p (elements_of_list all))) here.pairs h;
      counted = omega (arith, length-append so_far (v ∷ []), counted);
      others = record {
        right = here.others.right.1;
        scalar = (both_true (is_scalar (core_of p (expression e))) (are_scalar (parts_of p (elements_of_list rest))) here.others.scalar).1;
        used = known_right p (uses (definitions_of p) (expression e)) (uses_of_elements (definitions_of p) (elements_of_list rest)) here.others.used;
      };
    }

-- all parts
pub parts_paired : (p : Pairs) (so_far : List Valued) (all left : List Expr) → PairingParts p so_far all left → left ≡ [] → map pair_of_value so_far ≡ pairs_of (parts_of p (elements_of_list all))
parts_paired p so_far all left w is =
    let here = subst (λ z. PairingParts p so_far all z) is w in
    sym (append-nil (map pair_of_value so_far)) ∙ here.pairs

pub parts_counted : (p : Pairs) (so_far : List Valued) (all left : List Expr) → PairingParts p so_far all left → left ≡ [] → length so_far ≡ length all
parts_counted p so_far all left w is =
    let here = (subst (λ z. PairingParts p so_far all z) is w).counted in omega (arith, here)

-- the same of terms
terms_more : (so_far : List (Bool × Valued)) (marked : Bool) (v : Valued) (of_it : ScalarPair) (rest all : List (Bool × ScalarPair)) → values.terms_of_values so_far ++ ((marked, of_it) ∷ rest) ≡ all → pair_of_value v ≡ of_it
    → values.terms_of_values (so_far ++ (marked, v) ∷ []) ++ rest ≡ all
terms_more so_far marked v of_it rest all h is =
    ap (λ xs. xs ++ rest) (map-append (λ (t : Bool × Valued). (t.0, pair_of_value t.1)) so_far ((marked, v) ∷ []))
    ∙ append_assoc (values.terms_of_values so_far) ((marked, pair_of_value v) ∷ []) rest
    ∙ ap (λ x. values.terms_of_values so_far ++ ((marked, x) ∷ rest)) is ∙ h

pub record PairingTerms (p : Pairs) (so_far : List (Bool × Valued)) (all : List Term) (left : Branches) : Type 0 where
  pub pairs : values.terms_of_values so_far ++ terms_of (choices_of p left) ≡ terms_of (choices_of p (branches_of_list all))
  pub others : ArePairableTerms p left

term_here : (p : Pairs) (so_far : List (Bool × Valued)) (all left : List Term) (t : Term) (rest : List Term) → PairingTerms p so_far all (branches_of_list left) → left ≡ t ∷ rest
    → PairingTerms p so_far all (next_branch (branch t.marked t.from (expression t.value)) (branches_of_list rest))
term_here p so_far all left t rest w is =
    subst (λ z. PairingTerms p so_far all (next_branch z (branches_of_list rest))) (view-term t) (subst (λ z. PairingTerms p so_far all (branches_of_list z)) is w)

pub term_can : (p : Pairs) (so_far : List (Bool × Valued)) (all left : List Term) (t : Term) (rest : List Term) → PairingTerms p so_far all (branches_of_list left) → left ≡ t ∷ rest → IsPairable p (expression t.value)
term_can p so_far all left t rest w is =
    let here = term_here p so_far all left t rest w is in record {
      right = here.others.right.0.0;
      scalar = (both_true (is_scalar (core_of p (expression t.value))) (are_scalar_choices (choices_of p (branches_of_list rest))) here.others.scalar).0;
      used = known_left p (uses (definitions_of p) (expression t.value)) (uses_of_branches (definitions_of p) (branches_of_list rest)) here.others.used;
    }

pub term_more : (p : Pairs) (so_far : List (Bool × Valued)) (all left : List Term) (t : Term) (rest : List Term) (v : Valued) → PairingTerms p so_far all (branches_of_list left) → left ≡ t ∷ rest
    → pair_of_value v ≡ pair (core_of p (expression t.value)) → PairingTerms p (so_far ++ (t.marked, v) ∷ []) all (branches_of_list rest)
term_more p so_far all left t rest v w is h =
    let here = term_here p so_far all left t rest w is in record {
      pairs = terms_more so_far t.marked v (pair (core_of p (expression t.value))) (terms_of (choices_of p (branches_of_list rest))) (terms_of (choices_of p (branches_of_list all))) here.pairs h;
      others = record {
        right = here.others.right.1;
        scalar = (both_true (is_scalar (core_of p (expression t.value))) (are_scalar_choices (choices_of p (branches_of_list rest))) here.others.scalar).1;
        used = known_right p (uses (definitions_of p) (expression t.value)) (uses_of_branches (definitions_of p) (branches_of_list rest)) here.others.used;
      };
    }

pub terms_paired : (p : Pairs) (so_far : List (Bool × Valued)) (all left : List Term) → PairingTerms p so_far all (branches_of_list left) → left ≡ [] → values.terms_of_values so_far ≡ terms_of (choices_of p (branches_of_list all))
terms_paired p so_far all left w is =
    let here = subst (λ z. PairingTerms p so_far all (branches_of_list z)) is w in
    sym (append-nil (values.terms_of_values so_far)) ∙ here.pairs
