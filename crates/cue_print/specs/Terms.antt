-- The terms that say which scalars are in a set.
use Rattle.std.specs.Prelude.{ℕ, ℤ, Bool, true, false, ◌&&◌, List, [], ◌∷◌, ◌++◌, map}
use Rattle.std.specs.Prelude.{if◌then◌else◌}
use Rattle.std.specs.Ordering.{int_eq}
use Rattle.cue_sets.specs.Pieces.{least, greatest}
use Rattle.cue_scalars.specs.declared.scalar_set.ScalarSet.{ScalarSet}
use Rattle.cue_print.specs.Expressions.{PrintedTerm, null, truths, truth, integers, number, at_most}
use Rattle.cue_print.specs.Expressions.{at_least, between, texts, text, other_texts}

abbrev pub null_terms : Bool → List PrintedTerm
null_terms false = []
null_terms true = null ∷ []

-- by whether false is in the set, and whether true is
abbrev pub truth_terms : Bool → Bool → List PrintedTerm
truth_terms false false = []
truth_terms true false = truth false ∷ []
truth_terms false true = truth true ∷ []
truth_terms true true = truths ∷ []

-- the integers from first to last: all, one, those from the least one on, those up to the greatest
-- one, or others
abbrev pub piece_term : ℤ × ℤ → PrintedTerm
piece_term piece =
    if int_eq piece.0 least && int_eq piece.1 greatest then integers else
    (if int_eq piece.0 piece.1 then number piece.0 else
    (if int_eq piece.0 least then at_most piece.1 else
    (if int_eq piece.1 greatest then at_least piece.0 else between piece.0 piece.1)))

-- the listed texts, all texts, or all but those that are listed
abbrev pub text_terms : Bool × List (List ℕ) → List PrintedTerm
text_terms (false, ts) = map text ts
text_terms (true, []) = texts ∷ []
text_terms (true, t ∷ ts) = other_texts (t ∷ ts) ∷ []

-- the terms of a set: null, truth values, integers, texts
unfoldable pub terms_of : ScalarSet → List PrintedTerm
terms_of set =
    null_terms set.null
    ++ (truth_terms set.no set.yes ++ (map piece_term set.ints ++ text_terms set.texts))
