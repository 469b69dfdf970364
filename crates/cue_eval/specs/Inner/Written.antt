-- Terms and parts of which each writes one text, or each one integer, as lists of these: what private clauses alone cite.
use Rattle.std.specs.Prelude.{◌≡◌, ◌<◌, ℕ, ℤ, Bool, true, false, not, List, length, map, All}
use Rattle.std.specs.List.{list_any}
use Rattle.std.specs.Ordering.{int_eq}
use Rattle.cue_sets.specs.Texts.{is_listed}
use Rattle.cue_scalars.specs.Pairs.{ScalarPair, all_of}
use Rattle.cue_scalars.specs.Values.{pair_of_value}
use Rattle.cue_scalars.specs.declared.valued.Valued.{Valued}
use Rattle.cue_syntax.specs.Grammar.{AreRightBranches, IsInRange}
use Rattle.cue_syntax.specs.Syntax.{branches_of_list, elements_of_list}
use Rattle.cue_syntax.specs.declared.tree.Expr.{Expr}
use Rattle.cue_syntax.specs.declared.tree.Expr.TheVariants.{OtherInteger, OtherText}
use Rattle.cue_syntax.specs.declared.tree.Signed.{Signed}
use Rattle.cue_syntax.specs.declared.tree.Term.{Term}
use Rattle.cue_scope.specs.Core.{are_scalar, conjunction}
use Rattle.cue_eval.specs.declared.pair.Pairs.{Pairs}
use Rattle.cue_eval.specs.Inner.Known.{choices_of, parts_of}
use Rattle.cue_eval.specs.Laws.{HasParts}
use Rattle.cue_eval.specs.Pairs.{pairs_of, plain_pair, terms_of}
use Rattle.cue_eval.specs.Sets.{all_texts, integer_alone, integer_of, integers, text_alone}

-- a text without a mark
abbrev pub text_term : List ℕ → Bool × ScalarPair
text_term t = (false, plain_pair (text_alone t))

-- whatever is known of definitions, the terms are these texts
abbrev pub AreTextTerms : List Term → List (List ℕ) → Type 0
AreTextTerms terms texts =
    (known : Pairs) → terms_of (choices_of known (branches_of_list terms)) ≡ map text_term texts

-- The parts are `!=` and texts, of which there is one at least, and the value is all other texts.
pub record IsAllButTexts (parts : List Expr) (valued : Valued) : Type 0 where
  pub texts : List (List ℕ)
  pub some : 0 < length texts
  pub written : parts ≡ map OtherText texts
  pub value : pair_of_value valued ≡ plain_pair (all_texts (λ t. not (is_listed texts t)))

-- whether the integer is one of these
abbrev pub is_listed_integer : List Signed → ℤ → Bool
is_listed_integer numbers n = list_any (λ number. int_eq n (integer_of number)) numbers

-- an integer without a mark
abbrev pub integer_term : Signed → Bool × ScalarPair
integer_term number = (false, plain_pair (integer_alone (integer_of number)))

-- Whatever is known of definitions, the terms are these integers. In a tree that follows the grammar each has 64 bits.
pub record AreIntegerTerms (terms : List Term) (numbers : List Signed) : Type 0 where
  pub meant : (known : Pairs) → terms_of (choices_of known (branches_of_list terms)) ≡ map integer_term numbers
  pub in_range : AreRightBranches (branches_of_list terms) → All IsInRange numbers

-- The parts are `!=` and integers, of which there is one at least, and the value is all other integers.
pub record IsAllButIntegers (parts : List Expr) (valued : Valued) : Type 0 where
  pub numbers : List Signed
  pub some : 0 < length numbers
  pub written : parts ≡ map OtherInteger numbers
  pub value : pair_of_value valued ≡ plain_pair (integers (λ n. not (is_listed_integer numbers n)))

-- Whatever is known of definitions, the parts are scalar, and the value is what they let stand together.
pub record IsAllBut (parts : List Expr) (valued : Valued) : Type 0 where
  pub scalar : (known : Pairs) → are_scalar (parts_of known (elements_of_list parts)) ≡ true
  pub parted : (known : Pairs) → HasParts (conjunction (parts_of known (elements_of_list parts)))
  pub value : (known : Pairs) → pair_of_value valued ≡ all_of (pairs_of (parts_of known (elements_of_list parts)))
