-- Printed scalars refuse what the pair refuses that they mean.
use Rattle.std.proofs.Common.{◌&&◌, ℕ, ℤ, Bool, true, false, List, [], ◌∷◌, ◌++◌, map, Option, None, Some, refl, if◌then◌else◌}
use Rattle.std.specs.Prelude.{IsTrue}
use Rattle.std.specs.List.{AllByRecursion}
use Rattle.std.specs.Ordering.{int_eq}
use Rattle.cue_lattice.specs.Question.{SameAnswers}
use Rattle.cue_sets.specs.Pieces.{least, greatest}
use Rattle.cue_scalars.specs.declared.scalar_set.ScalarSet.{ScalarSet}
use Rattle.cue_syntax.specs.Syntax as grammar
use Rattle.cue_scope.specs.Core.{Core, are_scalar}
use Rattle.cue_scope.specs.Definitions.{Definition}
use Rattle.cue_scope.specs.Meaning.{meant, meant_elements}
use Rattle.cue_eval.specs.Laws.{AllHaveParts}
use Rattle.cue_eval.specs.Pairs.{pair}
use Rattle.cue_eval.specs.Places.{IsAtPlace, ScalarRefuses}
use Rattle.cue_eval.specs.Refuses.{Refuses}
use Rattle.cue_eval.proofs.ByPair.{by_pair}
use Rattle.cue_print.specs.Expressions.{PrintedTerm, null, truths, truth, integers, number, at_most, at_least, between, texts, text, other_texts}
use Rattle.cue_print.specs.Terms.{null_terms, truth_terms, piece_term, text_terms, terms_of}
use Rattle.print_laws.specs.PrintedTree.{term_tree, terms_tree, scalar_tree}

-- ---- the terms of a set
-- no `&` without parts
abbrev pub HasParts : PrintedTerm → Type 0
HasParts (other_texts []) = ⊥
HasParts _ = Unit {0}

abbrev pub HaveParts : List PrintedTerm → Type 0
HaveParts = AllByRecursion HasParts

both : (xs ys : List PrintedTerm) → HaveParts xs → HaveParts ys → HaveParts (xs ++ ys)
both [] ys first second = second
both (x ∷ xs) ys first second = (first.0, both xs ys first.1 second)

null_parts : (is : Bool) → HaveParts (null_terms is)
null_parts false = tt
null_parts true = (tt, tt)

truth_parts : (for_no for_yes : Bool) → HaveParts (truth_terms for_no for_yes)
truth_parts false false = tt
truth_parts true false = (tt, tt)
truth_parts false true = (tt, tt)
truth_parts true true = (tt, tt)

piece_by : (a b : ℤ) (whole one low high : Bool) → HasParts (if whole then integers else (if one then number a else (if low then at_most b else (if high then at_least a else between a b))))
piece_by a b true one low high = tt
piece_by a b false true low high = tt
piece_by a b false false true high = tt
piece_by a b false false false true = tt
piece_by a b false false false false = tt

pieces_parts : (pieces : List (ℤ × ℤ)) → HaveParts (map piece_term pieces)
pieces_parts [] = tt
pieces_parts (piece ∷ pieces) = (
  piece_by piece.0 piece.1 (int_eq piece.0 least && int_eq piece.1 greatest) (int_eq piece.0 piece.1) (int_eq piece.0 least) (int_eq piece.1 greatest),
  pieces_parts pieces,
)

listed_parts : (ts : List (List ℕ)) → HaveParts (map text ts)
listed_parts [] = tt
listed_parts (t ∷ ts) = (tt, listed_parts ts)

texts_parts : (set : Bool × List (List ℕ)) → HaveParts (text_terms set)
texts_parts (false, ts) = listed_parts ts
texts_parts (true, []) = (tt, tt)
texts_parts (true, t ∷ ts) = (tt, tt)

pub set_parts : (set : ScalarSet) → HaveParts (terms_of set)
unfolding terms_of
set_parts set =
    both (null_terms set.null) _ (null_parts set.null)
    (both (truth_terms set.no set.yes) _ (truth_parts set.no set.yes)
    (both (map piece_term set.ints) _ (pieces_parts set.ints) (texts_parts set.texts)))

-- ---- what is refused
abbrev RefusesItsPair : Core → Type 0
RefusesItsPair c = SameAnswers (Refuses c) (IsAtPlace (ScalarRefuses (pair c)))

module _ (ds : List Definition) (meaning : ℕ → Core) where
  others_scalar : (ts : List (List ℕ)) → IsTrue (are_scalar (meant_elements ds meaning (grammar.elements_of (map grammar.other_text ts))))
  others_scalar [] = refl
  others_scalar (t ∷ ts) = others_scalar ts

  others_parts : (ts : List (List ℕ)) → AllHaveParts (meant_elements ds meaning (grammar.elements_of (map grammar.other_text ts)))
  others_parts [] = tt
  others_parts (t ∷ ts) = (tt, others_parts ts)

  term_refuses : (term : PrintedTerm) → HasParts term → RefusesItsPair (meant ds meaning (term_tree term))
  unfolding term_tree
  term_refuses null has path question = (λ r. r, λ r. r)
  term_refuses truths has path question = (λ r. r, λ r. r)
  term_refuses (truth false) has path question = (λ r. r, λ r. r)
  term_refuses (truth true) has path question = (λ r. r, λ r. r)
  term_refuses integers has path question = (λ r. r, λ r. r)
  term_refuses (number n) has path question = (λ r. r, λ r. r)
  term_refuses (at_most n) has path question = (λ r. r, λ r. r)
  term_refuses (at_least n) has path question = (λ r. r, λ r. r)
  term_refuses (between m n) has path question = by_pair (meant ds meaning (term_tree (between m n))) refl (tt, (tt, tt)) path question
  term_refuses texts has path question = (λ r. r, λ r. r)
  term_refuses (text t) has path question = (λ r. r, λ r. r)
  term_refuses (other_texts []) has path question = absurd has
  term_refuses (other_texts (t ∷ [])) has path question = (λ r. r, λ r. r)
  term_refuses (other_texts (t ∷ u ∷ us)) has path question =
      by_pair (meant ds meaning (term_tree (other_texts (t ∷ u ∷ us)))) (others_scalar us) (tt, (tt, others_parts us)) path question

  terms_refuse : (terms : List PrintedTerm) → HaveParts terms → RefusesItsPair (meant ds meaning (terms_tree terms))
  unfolding terms_tree
  terms_refuse [] have path question = (λ r. r, λ r. r)
  terms_refuse (term ∷ []) have path question = term_refuses term have.0 path question
  terms_refuse (first ∷ second ∷ others) have path question = (λ r. r, λ r. r)

  -- Scalars, with a default or without one, refuse what their value and default refuse.
  pub scalars_refuse : (usual : Option (List PrintedTerm)) (terms : List PrintedTerm) → HaveParts terms → RefusesItsPair (meant ds meaning (scalar_tree usual terms))
  unfolding scalar_tree
  scalars_refuse None terms have path question = terms_refuse terms have path question
  scalars_refuse (Some usual) terms have path question = (λ r. r, λ r. r)
