-- What the trees of printed scalars mean, as pairs of a value and a default.
use Rattle.std.proofs.Common.{◌≡◌, ℕ, ℤ, pos, negsuc, Bool, true, false, not, ◌&&◌, ◌||◌, List, [], ◌∷◌, map, None, Some, is_some, refl, ap, ap₂, ◌∙◌, sym, if◌then◌else◌}
use Rattle.std.specs.Prelude.{filter_map, unwrap_or, int_le}
use Rattle.std.specs.List.{list_any, list_all, cons_option}
use Rattle.std.specs.Str.{bytes_eq}
use Rattle.cue_lattice.specs.declared.scalar.Scalar.{Scalar}
use Rattle.cue_lattice.specs.declared.scalar.Scalar.TheVariants as scalars
use Rattle.cue_sets.specs.Pieces.{is_int64}
use Rattle.cue_sets.specs.Texts.{is_listed}
use Rattle.cue_scalars.specs.Pairs as pairs
use Rattle.cue_scalars.specs.Pairs.{ScalarMembers, ScalarPair, default_or_value, default_of, unite_defaults}
use Rattle.cue_syntax.specs.declared.tree.Comparison.TheVariants as comparisons
use Rattle.cue_syntax.specs.Syntax as grammar
use Rattle.cue_scope.specs.Core.{Core}
use Rattle.cue_scope.specs.Definitions.{Definition}
use Rattle.cue_scope.specs.Meaning.{meant, meant_elements, meant_branches}
use Rattle.cue_eval.specs.Pairs as meanings
use Rattle.cue_eval.specs.Pairs.{pair, pairs_of, plain_pair}
use Rattle.cue_eval.specs.Sets as sets
use Rattle.cue_print.specs.Expressions.{PrintedTerm, null, truths, truth, integers, number, at_most, at_least, between, texts, text, other_texts}
use Rattle.cue_print.specs.Spelled.{is_compound}
use Rattle.print_laws.specs.PrintedTree.{signed_of_integer, term_tree, printed_branches, terms_branches, terms_tree, operand_tree, scalar_tree}
use Rattle.cue_eval.proofs.Integers.{or_none}
use Rattle.print_laws.proofs.ScalarsTerms.{stands, any_stands}

-- just these scalars may stand, and there is no default
pub record IsPlain (p : ScalarPair) (set : ScalarMembers) : Type 0 where
  pub value : (scalar : Scalar) → p.value scalar ≡ set scalar
  pub usual : p.usual ≡ None

-- just these scalars may stand, and those are usual
pub record IsPairOf (p : ScalarPair) (may_stand are_usual : ScalarMembers) : Type 0 where
  pub value : (scalar : Scalar) → p.value scalar ≡ may_stand scalar
  pub usual : (scalar : Scalar) → default_or_value p scalar ≡ are_usual scalar

plain_brought : (p : ScalarPair) (set : ScalarMembers) → IsPlain p set → (scalar : Scalar) → default_or_value p scalar ≡ set scalar
plain_brought p set is scalar = ap (λ usual. unwrap_or usual p.value scalar) is.usual ∙ is.value scalar

-- ---- integers
pub signed_is : (n : ℤ) → sets.integer_of (signed_of_integer n) ≡ n
signed_is (pos n) = refl
signed_is (negsuc n) = refl

both_bounds : (range above below : Bool) → ((range && above) && ((range && below) && true)) ≡ (range && (above && below))
both_bounds true true true = refl
both_bounds true true false = refl
both_bounds true false below = refl
both_bounds false above below = refl

bounds_between : (m n : ℤ) (scalar : Scalar) →
    (sets.bound_scalars comparisons.AtLeast m scalar && (sets.bound_scalars comparisons.AtMost n scalar && true)) ≡ sets.integers_between m n scalar
bounds_between m n scalars.Null = refl
bounds_between m n (scalars.Bool b) = refl
bounds_between m n (scalars.Int k) = both_bounds (is_int64 k) (int_le m k) (int_le k n)
bounds_between m n (scalars.Text t) = refl

-- ---- texts that are left out
all_true : (b : Bool) → (b && true) ≡ b
all_true true = refl
all_true false = refl

neither : (a b : Bool) → (not a && not b) ≡ not (a || b)
neither true b = refl
neither false b = refl

both_texts : (x y : List ℕ → Bool) (scalar : Scalar) → (sets.all_texts x scalar && sets.all_texts y scalar) ≡ sets.all_texts (λ t. x t && y t) scalar
both_texts x y scalars.Null = refl
both_texts x y (scalars.Bool b) = refl
both_texts x y (scalars.Int n) = refl
both_texts x y (scalars.Text t) = refl

same_texts : (x y : List ℕ → Bool) → ((t : List ℕ) → x t ≡ y t) → (scalar : Scalar) → sets.all_texts x scalar ≡ sets.all_texts y scalar
same_texts x y same scalars.Null = refl
same_texts x y same (scalars.Bool b) = refl
same_texts x y same (scalars.Int n) = refl
same_texts x y same (scalars.Text t) = same t

other_alone : (t : List ℕ) (scalar : Scalar) → sets.other_texts t scalar ≡ sets.all_texts (λ s. not (is_listed (t ∷ []) s)) scalar
other_alone t = same_texts (λ s. not (bytes_eq t s)) (λ s. not (is_listed (t ∷ []) s)) (λ s. ap not (sym (or_none (bytes_eq t s))))

module _ (ds : List Definition) (meaning : ℕ → Core) where
  -- the pairs of texts that are left out one by one
  abbrev others_meant : List (List ℕ) → List ScalarPair
  others_meant ts = pairs_of (meant_elements ds meaning (grammar.elements_of (map grammar.other_text ts)))

  others_value : (t : List ℕ) (ts : List (List ℕ)) (scalar : Scalar) → list_all (λ (p : ScalarPair). p.value scalar) (others_meant (t ∷ ts)) ≡ sets.all_texts (λ s. not (is_listed (t ∷ ts) s)) scalar
  others_value t [] scalar = all_true (sets.other_texts t scalar) ∙ other_alone t scalar
  others_value t (u ∷ us) scalar =
      ap (λ b. sets.other_texts t scalar && b) (others_value u us scalar)
      ∙ both_texts (λ s. not (bytes_eq t s)) (λ s. not (is_listed (u ∷ us) s)) scalar
      ∙ same_texts (λ s. not (bytes_eq t s) && not (is_listed (u ∷ us) s)) (λ s. not (is_listed (t ∷ u ∷ us) s)) (λ s. neither (bytes_eq t s) (is_listed (u ∷ us) s)) scalar

  others_usual : (ts : List (List ℕ)) → list_any (λ (p : ScalarPair). is_some p.usual) (others_meant ts) ≡ false
  others_usual [] = refl
  others_usual (t ∷ ts) = others_usual ts

  others_pair : (ts : List (List ℕ)) → IsPlain (pair (meant ds meaning (term_tree (other_texts ts)))) (stands (other_texts ts))
  unfolding term_tree
  others_pair [] = record { value = λ scalar. refl; usual = refl }
  others_pair (t ∷ []) = record { value = other_alone t; usual = refl }
  others_pair (t ∷ u ∷ us) = record {
    value = others_value t (u ∷ us);
    usual = ap (λ b. if b then Some (λ scalar. list_all (λ p. default_or_value p scalar) (others_meant (t ∷ u ∷ us))) else None) (others_usual (t ∷ u ∷ us));
  }

  -- ---- one term
  pub term_pair : (term : PrintedTerm) → IsPlain (pair (meant ds meaning (term_tree term))) (stands term)
  unfolding term_tree
  term_pair null = record { value = λ scalar. refl; usual = refl }
  term_pair truths = record { value = λ scalar. refl; usual = refl }
  term_pair (truth false) = record { value = λ scalar. refl; usual = refl }
  term_pair (truth true) = record { value = λ scalar. refl; usual = refl }
  term_pair integers = record { value = λ scalar. refl; usual = refl }
  term_pair (number n) = record { value = λ scalar. ap (λ k. sets.integer_alone k scalar) (signed_is n); usual = refl }
  term_pair (at_most n) = record { value = λ scalar. ap (λ k. sets.bound_scalars comparisons.AtMost k scalar) (signed_is n); usual = refl }
  term_pair (at_least n) = record { value = λ scalar. ap (λ k. sets.bound_scalars comparisons.AtLeast k scalar) (signed_is n); usual = refl }
  term_pair (between m n) = record {
    value =
        λ scalar. bounds_between (sets.integer_of (signed_of_integer m)) (sets.integer_of (signed_of_integer n)) scalar
        ∙ ap₂ (λ k l. sets.integers_between k l scalar) (signed_is m) (signed_is n);
    usual = refl;
  }
  term_pair texts = record { value = λ scalar. refl; usual = refl }
  term_pair (text t) = record { value = λ scalar. refl; usual = refl }
  term_pair (other_texts ts) = others_pair ts

-- ---- several terms
-- unmarked terms, none of which brings a default
pub record ArePlain (terms : List (Bool × ScalarPair)) (set : ScalarMembers) : Type 0 where
  pub value : (scalar : Scalar) → list_any (λ (term : Bool × ScalarPair). term.1.value scalar) terms ≡ set scalar
  pub usual : (any_marked : Bool) → filter_map (default_of any_marked) terms ≡ []

none_brought : (any_marked : Bool) (p : ScalarPair) → p.usual ≡ None → default_of any_marked (false, p) ≡ None
none_brought false p none = none
none_brought true p none = refl

plain_more : (p : ScalarPair) (terms : List (Bool × ScalarPair)) (here more : ScalarMembers) → IsPlain p here → ArePlain terms more → ArePlain ((false, p) ∷ terms) (λ scalar. here scalar || more scalar)
plain_more p terms here more is are = record {
  value = λ scalar. ap₂ (λ a b. a || b) (is.value scalar) (are.value scalar);
  usual = λ any_marked. ap₂ cons_option (none_brought any_marked p is.usual) (are.usual any_marked);
}

plain_joined : (terms : List (Bool × ScalarPair)) (set : ScalarMembers) → ArePlain terms set → IsPlain (pairs.disjunction terms) set
plain_joined terms set are = record { value = are.value; usual = ap unite_defaults (are.usual (pairs.is_any_marked terms)) }

-- a marked term in front of others brings what it lets stand
marked_joined : (p : ScalarPair) (terms : List (Bool × ScalarPair)) (here more : ScalarMembers) → IsPlain p here → ArePlain terms more → IsPairOf (pairs.disjunction ((true, p) ∷ terms)) (λ scalar. here scalar || more scalar) here
marked_joined p terms here more is are = record {
  value = λ scalar. ap₂ (λ a b. a || b) (is.value scalar) (are.value scalar);
  usual =
      λ scalar. ap (λ (others : List ScalarMembers). list_any (λ (set : ScalarMembers). set scalar) (default_or_value p ∷ others)) (are.usual true)
      ∙ or_none (default_or_value p scalar) ∙ plain_brought p here is scalar;
}

module _ (ds : List Definition) (meaning : ℕ → Core) where
  branches_plain : (terms : List PrintedTerm) → ArePlain (meanings.terms_of (meant_branches ds meaning (printed_branches terms))) (any_stands terms)
  branches_plain [] = record { value = λ scalar. refl; usual = λ any_marked. refl }
  branches_plain (term ∷ terms) = plain_more _ _ (stands term) (any_stands terms) (term_pair ds meaning term) (branches_plain terms)

  bottom_plain : IsPlain (pair (meant ds meaning grammar.bottom)) (any_stands [])
  bottom_plain = record { value = λ scalar. refl; usual = refl }

  terms_branches_plain : (terms : List PrintedTerm) → ArePlain (meanings.terms_of (meant_branches ds meaning (terms_branches terms))) (any_stands terms)
  terms_branches_plain [] = plain_more _ [] (any_stands []) (any_stands []) bottom_plain (record { value = λ scalar. refl; usual = λ any_marked. refl })
  terms_branches_plain (term ∷ terms) = branches_plain (term ∷ terms)

  pub terms_pair : (terms : List PrintedTerm) → IsPlain (pair (meant ds meaning (terms_tree terms))) (any_stands terms)
  unfolding terms_tree
  terms_pair [] = bottom_plain
  terms_pair (term ∷ []) =
      let is = term_pair ds meaning term in record { value = λ scalar. is.value scalar ∙ sym (or_none (stands term scalar)); usual = is.usual }
  terms_pair (first ∷ second ∷ others) = plain_joined _ (any_stands (first ∷ second ∷ others)) (branches_plain (first ∷ second ∷ others))

  operand_by : (terms : List PrintedTerm) (compound : Bool) → IsPlain (pair (meant ds meaning (if compound then grammar.parenthesis (terms_tree terms) false else terms_tree terms))) (any_stands terms)
  operand_by terms true = let is = terms_pair terms in record { value = is.value; usual = is.usual }
  operand_by terms false = terms_pair terms

  operand_pair : (terms : List PrintedTerm) → IsPlain (pair (meant ds meaning (operand_tree terms))) (any_stands terms)
  unfolding operand_tree
  operand_pair terms = operand_by terms (is_compound terms)

  -- Terms without a default are usual as they may stand.
  pub all_usual : (terms : List PrintedTerm) → IsPairOf (pair (meant ds meaning (scalar_tree None terms))) (any_stands terms) (any_stands terms)
  unfolding scalar_tree
  all_usual terms = let is = terms_pair terms in record { value = is.value; usual = plain_brought _ (any_stands terms) is }

  -- Terms behind a default may stand as it may, and are not usual.
  pub some_usual : (usual terms : List PrintedTerm) → IsPairOf (pair (meant ds meaning (scalar_tree (Some usual) terms))) (λ scalar. any_stands usual scalar || any_stands terms scalar) (any_stands usual)
  unfolding scalar_tree
  some_usual usual terms = marked_joined _ _ (any_stands usual) (any_stands terms) (operand_pair usual) (terms_branches_plain terms)
