-- The terms of a set of scalars let just its members stand.
use Rattle.std.proofs.Common.{◌≡◌, ℕ, ℤ, pos, ◌+ℤ◌, ◌≤ℤ◌, Bool, true, false, not, ◌&&◌, ◌||◌, List, [], ◌∷◌, ◌++◌, map, refl, ap, ap₂, ◌∙◌, sym, arith, if◌then◌else◌}
use Rattle.std.specs.Prelude.{int_le}
use Rattle.std.specs.List.{list_any}
use Rattle.std.specs.Ordering.{int_eq}
use Rattle.std.specs.Str.{bytes_eq}
use Rattle.std.proofs.lemmas.Bool.{and_parts}
use Rattle.std.proofs.lemmas.Bool.Decides.{Decides-int_eq}
use Rattle.std.proofs.lemmas.Int.{ints}
use Rattle.std.proofs.lemmas.List.Folds.{list_any-append}
use Rattle.cue_lattice.specs.declared.scalar.Scalar.{Scalar}
use Rattle.cue_lattice.specs.declared.scalar.Scalar.TheVariants as scalars
use Rattle.cue_sets.specs.Pieces.{is_within, is_member, is_int64, least, greatest, AscendsFrom}
use Rattle.cue_sets.specs.PieceLaws.{is_within-inside}
use Rattle.cue_sets.specs.Texts.{is_listed, is_text_member}
use Rattle.cue_scalars.specs.Pairs.{ScalarMembers}
use Rattle.cue_scalars.specs.Scalars.{members, IsScalarSet}
use Rattle.cue_scalars.specs.declared.scalar_set.ScalarSet.{ScalarSet}
use Rattle.cue_eval.specs.Sets as sets
use Rattle.cue_print.specs.Expressions.{PrintedTerm, null, truths, truth, integers, number, at_most, at_least, between, texts, text, other_texts}
use Rattle.cue_print.specs.Terms.{null_terms, truth_terms, piece_term, text_terms, terms_of}
use Rattle.cue_eval.proofs.Integers.{one_piece, all_integers, alone, up_to, from_below, or_none}

-- which scalars a term lets stand; an `&` of no parts leaves none out
abbrev pub stands : PrintedTerm → ScalarMembers
stands null = sets.null_alone
stands truths = sets.truth_values (λ b. true)
stands (truth b) = sets.truth_alone b
stands integers = sets.integers (λ n. true)
stands (number n) = sets.integer_alone n
stands (at_most n) = sets.integers (λ k. int_le k n)
stands (at_least n) = sets.integers (λ k. int_le n k)
stands (between m n) = sets.integers_between m n
stands texts = sets.all_texts (λ t. true)
stands (text t) = sets.text_alone t
stands (other_texts []) = λ scalar. true
stands (other_texts (t ∷ ts)) = sets.all_texts (λ s. not (is_listed (t ∷ ts) s))

-- which scalars one of some terms lets stand
abbrev pub any_stands : List PrintedTerm → ScalarMembers
any_stands terms scalar = list_any (λ term. stands term scalar) terms

-- ---- null and the truth values
null_stands : (is : Bool) (scalar : Scalar) → any_stands (null_terms is) scalar ≡ (is && sets.null_alone scalar)
null_stands false scalar = refl
null_stands true scalar = or_none (sets.null_alone scalar)

-- whether a truth value is in the set
abbrev has_truth : Bool → Bool → Bool → Bool
has_truth for_no for_yes false = for_no
has_truth for_no for_yes true = for_yes

truth_stands : (for_no for_yes : Bool) (scalar : Scalar) → any_stands (truth_terms for_no for_yes) scalar ≡ sets.truth_values (has_truth for_no for_yes) scalar
truth_stands false false scalars.Null = refl
truth_stands false false (scalars.Bool false) = refl
truth_stands false false (scalars.Bool true) = refl
truth_stands false false (scalars.Int n) = refl
truth_stands false false (scalars.Text t) = refl
truth_stands true false scalars.Null = refl
truth_stands true false (scalars.Bool false) = refl
truth_stands true false (scalars.Bool true) = refl
truth_stands true false (scalars.Int n) = refl
truth_stands true false (scalars.Text t) = refl
truth_stands false true scalars.Null = refl
truth_stands false true (scalars.Bool false) = refl
truth_stands false true (scalars.Bool true) = refl
truth_stands false true (scalars.Int n) = refl
truth_stands false true (scalars.Text t) = refl
truth_stands true true scalars.Null = refl
truth_stands true true (scalars.Bool false) = refl
truth_stands true true (scalars.Bool true) = refl
truth_stands true true (scalars.Int n) = refl
truth_stands true true (scalars.Text t) = refl

-- ---- integers
-- the integers of a test, of whatever range
abbrev tested : (ℤ → Bool) → ScalarMembers
tested test (scalars.Int n) = test n
tested test _ = false

-- tests that agree on the integers of 64 bits
same_tested : (test within : ℤ → Bool) → ((n : ℤ) → within n ≡ (is_int64 n && test n)) → (scalar : Scalar) → sets.integers test scalar ≡ tested within scalar
same_tested test within same scalars.Null = refl
same_tested test within same (scalars.Bool b) = refl
same_tested test within same (scalars.Int n) = sym (same n)
same_tested test within same (scalars.Text t) = refl

at_most_from : (m n : ℤ) → int_le m n ≡ true → m ≤ℤ n
at_most_from m n h = grind (arith, ints)

equal : (m n : ℤ) → int_eq m n ≡ true → m ≡ n
equal m n h = (Decides-int_eq m n).0 h

-- a piece by its bounds, as they are compared with those of the language
piece_by : (a b : ℤ) (whole one low high : Bool) → least ≤ℤ a → b ≤ℤ greatest
    → ((whole ≡ true) → (a ≡ least) × (b ≡ greatest)) → ((one ≡ true) → a ≡ b) → ((low ≡ true) → a ≡ least) → ((high ≡ true) → b ≡ greatest)
    → (scalar : Scalar) → stands (if whole then integers else (if one then number a else (if low then at_most b else (if high then at_least a else between a b)))) scalar ≡ tested (is_within (a, b)) scalar
piece_by a b true one low high from to all same least_is greatest_is scalar =
    same_tested (λ n. true) (is_within (a, b))
    (λ n. ap₂ (λ x y. is_within (x, y) n) (all refl).0 (all refl).1 ∙ sym (or_none (is_within (least, greatest) n)) ∙ all_integers n) scalar
piece_by a b false true low high from to all same least_is greatest_is scalar =
    same_tested (λ n. int_eq n a) (is_within (a, b))
    (λ n. ap (λ y. is_within (a, y) n) (sym (same refl)) ∙ sym (or_none (is_within (a, a) n)) ∙ alone a n from (omega (arith, ints, to, same refl))) scalar
piece_by a b false false true high from to all same least_is greatest_is scalar =
    same_tested (λ n. int_le n b) (is_within (a, b))
    (λ n. ap (λ x. is_within (x, b) n) (least_is refl) ∙ sym (or_none (is_within (least, b) n)) ∙ up_to b n to) scalar
piece_by a b false false false true from to all same least_is greatest_is scalar =
    same_tested (λ n. int_le a n) (is_within (a, b))
    (λ n. ap (λ y. is_within (a, y) n) (greatest_is refl) ∙ sym (or_none (is_within (a, greatest) n)) ∙ from_below a n from) scalar
piece_by a b false false false false from to all same least_is greatest_is scalar =
    same_tested (λ n. int_le a n && int_le n b) (is_within (a, b))
    (λ n. sym (or_none (is_within (a, b) n)) ∙ one_piece a b n (int_le a n && int_le n b) from to
    (λ low high h. let parts = and_parts (int_le a n) (int_le n b) h in (at_most_from a n parts.0, at_most_from n b parts.1))
    (λ low high. is_within-inside (a, b) n low high)) scalar

piece_stands : (piece : ℤ × ℤ) → least ≤ℤ piece.0 → piece.1 ≤ℤ greatest → (scalar : Scalar) → stands (piece_term piece) scalar ≡ tested (is_within piece) scalar
piece_stands piece from to scalar =
    piece_by piece.0 piece.1 (int_eq piece.0 least && int_eq piece.1 greatest) (int_eq piece.0 piece.1) (int_eq piece.0 least) (int_eq piece.1 greatest) from to
    (λ h. let parts = and_parts (int_eq piece.0 least) (int_eq piece.1 greatest) h in (equal piece.0 least parts.0, equal piece.1 greatest parts.1))
    (equal piece.0 piece.1) (equal piece.0 least) (equal piece.1 greatest) scalar

one_more : (x y : ℤ → Bool) (scalar : Scalar) → (tested x scalar || tested y scalar) ≡ tested (λ n. x n || y n) scalar
one_more x y scalars.Null = refl
one_more x y (scalars.Bool b) = refl
one_more x y (scalars.Int n) = refl
one_more x y (scalars.Text t) = refl

none_tested : (scalar : Scalar) → false ≡ tested (λ n. false) scalar
none_tested scalars.Null = refl
none_tested (scalars.Bool b) = refl
none_tested (scalars.Int n) = refl
none_tested (scalars.Text t) = refl

pieces_stand : (start : ℤ) (pieces : List (ℤ × ℤ)) → least ≤ℤ start → AscendsFrom start pieces → (scalar : Scalar) → any_stands (map piece_term pieces) scalar ≡ tested (is_member pieces) scalar
pieces_stand start [] from ascends scalar = none_tested scalar
pieces_stand start (piece ∷ pieces) from ascends scalar =
    let a : least ≤ℤ start = from in
    let b : start ≤ℤ piece.0 = ascends.0 in
    let c : piece.0 ≤ℤ piece.1 = ascends.1 in
    let here = piece_stands piece (omega (arith, ints)) ascends.2 scalar in
    let later = pieces_stand (piece.1 +ℤ pos 2) pieces (omega (arith, ints)) ascends.3 scalar in
    ap₂ (λ x y. x || y) here later ∙ one_more (is_within piece) (is_member pieces) scalar

-- ---- texts
no_text : (scalar : Scalar) → false ≡ sets.all_texts (λ t. false) scalar
no_text scalars.Null = refl
no_text (scalars.Bool b) = refl
no_text (scalars.Int n) = refl
no_text (scalars.Text t) = refl

one_text_more : (x y : List ℕ → Bool) (scalar : Scalar) → (sets.all_texts x scalar || sets.all_texts y scalar) ≡ sets.all_texts (λ t. x t || y t) scalar
one_text_more x y scalars.Null = refl
one_text_more x y (scalars.Bool b) = refl
one_text_more x y (scalars.Int n) = refl
one_text_more x y (scalars.Text t) = refl

listed_stand : (ts : List (List ℕ)) (scalar : Scalar) → any_stands (map text ts) scalar ≡ sets.all_texts (is_listed ts) scalar
listed_stand [] scalar = no_text scalar
listed_stand (t ∷ ts) scalar = ap (λ b. sets.text_alone t scalar || b) (listed_stand ts scalar) ∙ one_text_more (λ s. bytes_eq t s) (is_listed ts) scalar

texts_stand : (set : Bool × List (List ℕ)) (scalar : Scalar) → any_stands (text_terms set) scalar ≡ sets.all_texts (is_text_member set) scalar
texts_stand (false, ts) scalar = listed_stand ts scalar
texts_stand (true, []) scalar = or_none (sets.all_texts (λ t. true) scalar)
texts_stand (true, t ∷ ts) scalar = or_none (sets.all_texts (λ s. not (is_listed (t ∷ ts) s)) scalar)

-- ---- all together
none_more : (b : Bool) → (b && true) ≡ b
none_more true = refl
none_more false = refl

null_out : (b : Bool) → (b && false) ≡ false
null_out true = refl
null_out false = refl

by_kind : (set : ScalarSet) (scalar : Scalar) →
    ((set.null && sets.null_alone scalar) || (sets.truth_values (has_truth set.no set.yes) scalar || (tested (is_member set.ints) scalar || sets.all_texts (is_text_member set.texts) scalar))) ≡ members set scalar
by_kind set scalars.Null = or_none (set.null && true) ∙ none_more set.null
by_kind set (scalars.Bool false) = ap₂ (λ x y. x || y) (null_out set.null) (or_none set.no)
by_kind set (scalars.Bool true) = ap₂ (λ x y. x || y) (null_out set.null) (or_none set.yes)
by_kind set (scalars.Int n) = ap₂ (λ x y. x || y) (null_out set.null) (or_none (is_member set.ints n))
by_kind set (scalars.Text t) = ap (λ x. x || is_text_member set.texts t) (null_out set.null)

-- One of the terms of a set lets a scalar stand where it is a member.
pub terms_stand : (set : ScalarSet) → IsScalarSet set → (scalar : Scalar) → any_stands (terms_of set) scalar ≡ members set scalar
unfolding terms_of
terms_stand set is scalar =
    let some = λ (term : PrintedTerm). stands term scalar in
    let texts_are = text_terms set.texts in
    let ints_are = map piece_term set.ints in
    let truths_are = truth_terms set.no set.yes in
    list_any-append some (null_terms set.null) (truths_are ++ (ints_are ++ texts_are))
    ∙ ap₂ (λ x y. x || y) (null_stands set.null scalar)
    (list_any-append some truths_are (ints_are ++ texts_are)
    ∙ ap₂ (λ x y. x || y) (truth_stands set.no set.yes scalar)
    (list_any-append some ints_are texts_are
    ∙ ap₂ (λ x y. x || y) (pieces_stand least set.ints (omega (arith, ints)) is.ints scalar) (texts_stand set.texts scalar)))
    ∙ by_kind set scalar
