-- A set of scalars has terms where it has members.
use Rattle.std.proofs.Common.{◌≡◌, ℕ, ℤ, Bool, true, false, List, [], ◌∷◌, map, refl, sym, ap, ap₂, ◌∙◌}
use Rattle.std.proofs.lemmas.Bool.{false≢true}
use Rattle.cue_lattice.specs.declared.scalar.Scalar.TheVariants as scalars
use Rattle.cue_sets.specs.Pieces.{is_member, IsCanonical}
use Rattle.cue_sets.specs.PieceLaws.{some_member}
use Rattle.cue_sets.specs.Texts.{is_text_member}
use Rattle.cue_sets.specs.TextLaws.{first_is_listed, some_text}
use Rattle.cue_scalars.specs.Scalars.{IsScalarSet}
use Rattle.cue_scalars.specs.declared.scalar_set.ScalarSet.{ScalarSet}
use Rattle.cue_row.specs.Kinds.{IsEmptySet}
use Rattle.cue_print.specs.Terms.{null_terms, truth_terms, piece_term, text_terms, terms_of}
use Rattle.print_laws.proofs.Places.{both_none}
use Rattle.print_laws.proofs.ScalarsTerms.{any_stands, terms_stand}

-- A set without terms is empty.
pub no_terms : (set : ScalarSet) → IsScalarSet set → terms_of set ≡ [] → IsEmptySet set
no_terms set is none scalar = sym (terms_stand set is scalar) ∙ ap (λ terms. any_stands terms scalar) none

no_pieces : (pieces : List (ℤ × ℤ)) → IsCanonical pieces → ((n : ℤ) → is_member pieces n ≡ false) → map piece_term pieces ≡ []
no_pieces [] is none = refl
no_pieces (piece ∷ pieces) is none =
    let some = some_member (piece ∷ pieces) is (λ e. cc) in absurd (false≢true (sym (none some.0) ∙ some.1))

no_texts : (set : Bool × List (List ℕ)) → ((t : List ℕ) → is_text_member set t ≡ false) → text_terms set ≡ []
no_texts (false, []) none = refl
no_texts (false, t ∷ ts) none = absurd (false≢true (sym (none t) ∙ first_is_listed t ts))
no_texts (true, ts) none =
    let some = some_text (true, ts) (λ e. absurd (false≢true (sym (ap (λ (set : Bool × List (List ℕ)). set.0) e)))) in
    absurd (false≢true (sym (none some.0) ∙ some.1))

-- An empty set has no terms.
pub empty_terms : (set : ScalarSet) → IsScalarSet set → IsEmptySet set → terms_of set ≡ []
unfolding terms_of
empty_terms set is none =
    both_none (ap null_terms (none scalars.Null))
    (both_none (ap₂ truth_terms (none (scalars.Bool false)) (none (scalars.Bool true)))
    (both_none (no_pieces set.ints is.ints (λ n. none (scalars.Int n))) (no_texts set.texts (λ t. none (scalars.Text t)))))
