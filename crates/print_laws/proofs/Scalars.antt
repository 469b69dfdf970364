-- What the scalars of a row are printed as refuses what the row does.
use Rattle.std.proofs.Common.{◌≡◌, ◌↔◌, ℕ, Bool, true, false, not, ◌&&◌, ◌||◌, List, [], ◌∷◌, None, refl, sym, ap, ap₂, ◌∙◌}
use Rattle.std.proofs.lemmas.Bool.{false≢true}
use Rattle.cue_lattice.specs.Path.{Path}
use Rattle.cue_lattice.specs.Question as questions
use Rattle.cue_lattice.specs.Question.{Question, may_be, usual}
use Rattle.cue_lattice.specs.Scalar.{IsScalar}
use Rattle.cue_lattice.specs.declared.scalar.Scalar.{Scalar}
use Rattle.cue_lattice.specs.declared.scalar.Scalar.TheVariants as scalars
use Rattle.cue_scalars.specs.Pairs.{ScalarPair, default_or_value}
use Rattle.cue_scalars.specs.Scalars.{members, RefusesScalar}
use Rattle.cue_scalars.specs.declared.scalar_set.ScalarSet.{ScalarSet}
use Rattle.cue_scope.specs.Core.{Core}
use Rattle.cue_scope.specs.Definitions.{Definition}
use Rattle.cue_scope.specs.Meaning.{meant}
use Rattle.cue_eval.specs.Pairs.{pair}
use Rattle.cue_eval.specs.Places.{IsAtPlace, ScalarRefuses}
use Rattle.cue_eval.specs.Refuses.{Refuses}
use Rattle.cue_print.specs.Difference.{scalars_without}
use Rattle.cue_print.specs.Expressions.{PrintedTerm}
use Rattle.cue_print.specs.Printed.{scalar_value}
use Rattle.cue_print.specs.Terms.{terms_of}
use Rattle.cue_print.proofs.Left.{left_scalar, left_set}
use Rattle.print_laws.specs.Inner.ScalarMeaning.{SetsRefuse, AreScalars, printed_scalars, AreScalarsMeant}
use Rattle.print_laws.specs.PrintedTree.{value_tree, scalar_tree}
use Rattle.print_laws.proofs.ScalarsParts.{set_parts, scalars_refuse}
use Rattle.print_laws.proofs.ScalarsTerms.{any_stands, terms_stand}
use Rattle.print_laws.proofs.ScalarsTrees.{IsPairOf, all_usual, some_usual}

-- ---- a set within another one, and what the other has besides
-- nothing is left: both have the same
none_left : (value common : Bool) → (common ≡ true → value ≡ true) → (value && not common) ≡ false → value ≡ common
none_left true true within none = refl
none_left true false within none = absurd (false≢true (sym none))
none_left false true within none = within refl
none_left false false within none = refl

-- both together are the whole
all_left : (value common : Bool) → (common ≡ true → value ≡ true) → (common || (value && not common)) ≡ value
all_left true true within = refl
all_left true false within = refl
all_left false true within = sym (within refl)
all_left false false within = refl

module _ (ds : List Definition) (meaning : ℕ → Core) (value common : ScalarSet) (are : AreScalars value common) where
  left_stands : (scalar : Scalar) → any_stands (terms_of (scalars_without value common)) scalar ≡ (members value scalar && not (members common scalar))
  left_stands scalar =
      terms_stand (scalars_without value common) (left_set value common are.value_set are.usual_set) scalar ∙ left_scalar value common scalar

  pair_by : (left : List PrintedTerm) → terms_of (scalars_without value common) ≡ left
      → IsPairOf (pair (meant ds meaning (value_tree (scalar_value (terms_of value) (terms_of common) left)))) (members value) (members common)
  unfolding value_tree
  pair_by [] same =
      let is = all_usual ds meaning (terms_of value) in record {
        value = λ scalar. is.value scalar ∙ terms_stand value are.value_set scalar;
        usual =
            λ scalar. is.usual scalar ∙ terms_stand value are.value_set scalar
            ∙ none_left (members value scalar) (members common scalar) (are.within scalar) (sym (left_stands scalar) ∙ ap (λ terms. any_stands terms scalar) same);
      }
  pair_by (term ∷ left) same =
      let is = some_usual ds meaning (terms_of common) (term ∷ left) in record {
        value =
            λ scalar. is.value scalar
            ∙ ap₂ (λ a b. a || b) (terms_stand common are.usual_set scalar) (ap (λ terms. any_stands terms scalar) (sym same) ∙ left_stands scalar)
            ∙ all_left (members value scalar) (members common scalar) (are.within scalar);
        usual = λ scalar. is.usual scalar ∙ terms_stand common are.usual_set scalar;
      }

  refused_by : (left : List PrintedTerm) (path : Path) (question : Question) →
      Refuses (meant ds meaning (value_tree (scalar_value (terms_of value) (terms_of common) left))) path question
      ↔ IsAtPlace (ScalarRefuses (pair (meant ds meaning (value_tree (scalar_value (terms_of value) (terms_of common) left))))) path question
  unfolding value_tree scalar_tree
  refused_by [] path question = scalars_refuse ds meaning None (terms_of value) (set_parts value) path question
  refused_by (term ∷ left) path question = (λ r. r, λ r. r)

-- ---- what a pair refuses
refuses_member : (set : ScalarSet) (scalar : Scalar) → RefusesScalar set scalar ↔ (IsScalar scalar × (members set scalar ≡ false))
refuses_member set scalars.Null = (λ r. (tt, r), λ r. r.1)
refuses_member set (scalars.Bool false) = (λ r. (tt, r), λ r. r.1)
refuses_member set (scalars.Bool true) = (λ r. (tt, r), λ r. r.1)
refuses_member set (scalars.Int n) = (λ r. r, λ r. r)
refuses_member set (scalars.Text t) = (λ r. (tt, r), λ r. r.1)

-- by an answer that is the same
refuses_same : (set : ScalarSet) (scalar : Scalar) (b : Bool) → b ≡ members set scalar → (IsScalar scalar × (b ≡ false)) ↔ RefusesScalar set scalar
refuses_same set scalar b same =
    let is = refuses_member set scalar in (
      λ r. is.1 (r.0, sym same ∙ r.1),
      λ r. let found = is.0 r in (found.0, same ∙ found.1),
    )

pair_refuses : (p : ScalarPair) (value common : ScalarSet) → IsPairOf p (members value) (members common) → (question : Question) → ScalarRefuses p question ↔ SetsRefuse value common question
pair_refuses p value common is (may_be scalar) = refuses_same value scalar (p.value scalar) (is.value scalar)
pair_refuses p value common is (usual scalar) = refuses_same common scalar (default_or_value p scalar) (is.usual scalar)
pair_refuses p value common is questions.struct = (λ r. r, λ r. r)
pair_refuses p value common is questions.list = (λ r. r, λ r. r)
pair_refuses p value common is _ = (λ r. r, λ r. r)

same_here : (a b : Question → Type 0) → ((question : Question) → a question ↔ b question) → (path : Path) (question : Question) → IsAtPlace a path question ↔ IsAtPlace b path question
same_here a b same [] question = same question
same_here a b same (step ∷ path) question = (λ r. r, λ r. r)

-- Printed scalars refuse at their own place what the row does, and nothing below it.
pub scalars_meant : AreScalarsMeant
scalars_meant ds meaning value common are path question =
    let left = terms_of (scalars_without value common) in
    let is = pair_by ds meaning value common are left refl in
    let core = meant ds meaning (value_tree (printed_scalars value common)) in
    let refused = refused_by ds meaning value common are left path question in
    let same = same_here (ScalarRefuses (pair core)) (SetsRefuse value common) (pair_refuses (pair core) value common is) path question in
    (λ r. same.0 (refused.0 r), λ r. refused.1 (same.1 r))
