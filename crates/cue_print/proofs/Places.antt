-- What a place is printed as, by its row.
use Rattle.std.proofs.Common.{◌≡◌, ℕ, ℤ, Bool, true, false, List, [], ◌∷◌, ◌++◌, Option, Some, None, map, refl, sym, ap, ◌∙◌, append_assoc}
use Rattle.std.specs.Prelude.{codes}
use Rattle.std.proofs.lemmas.Bool.{false≢true}
use Rattle.cue_lattice.specs.declared.scalar.Scalar.{Scalar}
use Rattle.cue_lattice.specs.declared.scalar.Scalar.TheVariants as scalars
use Rattle.cue_sets.specs.Pieces.{is_member, IsCanonical}
use Rattle.cue_sets.specs.PieceLaws.{some_member}
use Rattle.cue_sets.specs.Texts.{is_text_member}
use Rattle.cue_sets.specs.TextLaws.{some_text}
use Rattle.cue_scalars.specs.declared.scalar_set.ScalarSet.{ScalarSet}
use Rattle.cue_scalars.specs.Scalars.{members, IsScalarSet}
use Rattle.cue_row.specs.declared.parts.RowParts.{RowParts as Row}
use Rattle.cue_table.specs.Tree.{Tree, node, below, rest_below, row_of}
use Rattle.cue_print.specs.Difference.{scalars_without}
use Rattle.cue_print.specs.Expressions.{Value, top, all, no_parts, PrintedTerm, Fields}
use Rattle.cue_print.specs.Printed.{fields_of_labels, struct_part, scalar_value, nothing_value, scalar_or_nothing, value_by, row_value, value_of, fields_below, element_below, element_at, rest_value}
use Rattle.cue_print.specs.Spelled.{join_texts, value_text, field_texts}
use Rattle.cue_print.specs.Terms.{null_terms, truth_terms, piece_term, text_terms, terms_of}

-- ---- the kind of a place
pub no_row : (tree : Tree Row) → row_of tree ≡ None → top ≡ value_of tree
unfolding value_of
no_row (node None children rest) e = refl
no_row (node (Some row) children rest) e = cc

pub by_kind :
    (tree : Tree Row) (row : Row) (struct_ok list_ok : Bool) → Some row ≡ row_of tree → row.struct_ok ≡ struct_ok → row.list_ok ≡ list_ok
    → value_by struct_ok list_ok row (fields_below (below tree)) (element_at (rest_below tree) (element_below (below tree))) (rest_value (rest_below tree)) ≡ value_of tree
unfolding value_of row_value
by_kind (node None children rest) row struct_ok list_ok e s l = cc
by_kind (node (Some here) children rest) row struct_ok list_ok e s l =
    let same : row ≡ here = cc in
    sym (ap (λ b. value_by b list_ok row (fields_below children) (element_at rest (element_below children)) (rest_value rest)) s)
    ∙ sym (ap (λ b. value_by row.struct_ok b row (fields_below children) (element_at rest (element_below children)) (rest_value rest)) l)
    ∙ ap (λ (r : Row). value_by r.struct_ok r.list_ok r (fields_below children) (element_at rest (element_below children)) (rest_value rest)) same

-- ---- sets without scalars
no_pieces : (pieces : List (ℤ × ℤ)) → IsCanonical pieces → ((n : ℤ) → is_member pieces n ≡ false) → pieces ≡ []
no_pieces [] c none = refl
no_pieces (piece ∷ pieces) c none = let some = some_member (piece ∷ pieces) c (λ e. cc) in absurd (false≢true (sym (none some.0) ∙ some.1))

some_listed : (text : List ℕ) (texts : List (List ℕ)) → text ∷ texts ≡ [] → ⊥
some_listed text texts e = cc

no_texts : (set : Bool × List (List ℕ)) → ((t : List ℕ) → is_text_member set t ≡ false) → set ≡ (false, [])
no_texts (false, []) none = refl
no_texts (false, text ∷ texts) none = let some = some_text (false, text ∷ texts) (λ e. some_listed text texts (ap (λ (set : Bool × List (List ℕ)). set.1) e)) in absurd (false≢true (sym (none some.0) ∙ some.1))
no_texts (true, texts) none =
    let some = some_text (true, texts) (λ e. false≢true (sym (ap (λ (set : Bool × List (List ℕ)). set.0) e))) in absurd (false≢true (sym (none some.0) ∙ some.1))

pub no_terms : (set : ScalarSet) → IsScalarSet set → ((scalar : Scalar) → members set scalar ≡ false) → terms_of set ≡ []
unfolding terms_of
no_terms set is none =
    ap (λ b. null_terms b ++ (truth_terms set.no set.yes ++ (map piece_term set.ints ++ text_terms set.texts))) (none scalars.Null)
    ∙ ap (λ b. truth_terms b set.yes ++ (map piece_term set.ints ++ text_terms set.texts)) (none (scalars.Bool false))
    ∙ ap (λ b. truth_terms false b ++ (map piece_term set.ints ++ text_terms set.texts)) (none (scalars.Bool true))
    ∙ ap (λ ps. map piece_term ps ++ text_terms set.texts) (no_pieces set.ints is.ints (λ n. none (scalars.Int n)))
    ∙ ap text_terms (no_texts set.texts (λ t. none (scalars.Text t)))

first_none : {X : Type 0} (xs ys : List X) → xs ++ ys ≡ [] → xs ≡ []
first_none [] ys e = refl
first_none (x ∷ xs) ys e = cc

others_none : {X : Type 0} (xs ys : List X) → xs ++ ys ≡ [] → ys ≡ []
others_none [] ys e = e
others_none (x ∷ xs) ys e = cc

not_null : (b : Bool) → null_terms b ≡ [] → b ≡ false
not_null false e = refl
not_null true e = cc

not_truth : (no yes : Bool) → truth_terms no yes ≡ [] → (no ≡ false) × (yes ≡ false)
not_truth false false e = (refl, refl)
not_truth true false e = cc
not_truth false true e = cc
not_truth true true e = cc

none_of : (pieces : List (ℤ × ℤ)) → map piece_term pieces ≡ [] → (n : ℤ) → is_member pieces n ≡ false
none_of [] e n = refl
none_of (piece ∷ pieces) e n = cc

no_text : (set : Bool × List (List ℕ)) → text_terms set ≡ [] → (t : List ℕ) → is_text_member set t ≡ false
no_text (false, []) e t = refl
no_text (false, text ∷ texts) e t = cc
no_text (true, []) e t = cc
no_text (true, text ∷ texts) e t = cc

pub no_members : (set : ScalarSet) → terms_of set ≡ [] → (scalar : Scalar) → members set scalar ≡ false
unfolding terms_of
no_members set e = each where
  first : null_terms set.null ≡ []
  first = first_none (null_terms set.null) (truth_terms set.no set.yes ++ (map piece_term set.ints ++ text_terms set.texts)) e

  others : truth_terms set.no set.yes ++ (map piece_term set.ints ++ text_terms set.texts) ≡ []
  others = others_none (null_terms set.null) (truth_terms set.no set.yes ++ (map piece_term set.ints ++ text_terms set.texts)) e

  second : truth_terms set.no set.yes ≡ []
  second = first_none (truth_terms set.no set.yes) (map piece_term set.ints ++ text_terms set.texts) others

  last : map piece_term set.ints ++ text_terms set.texts ≡ []
  last = others_none (truth_terms set.no set.yes) (map piece_term set.ints ++ text_terms set.texts) others

  each : (scalar : Scalar) → members set scalar ≡ false
  each scalars.Null = not_null set.null first
  each (scalars.Bool false) = (not_truth set.no set.yes second).0
  each (scalars.Bool true) = (not_truth set.no set.yes second).1
  each (scalars.Int n) = none_of set.ints (first_none (map piece_term set.ints) (text_terms set.texts) last) n
  each (scalars.Text t) = no_text set.texts (others_none (map piece_term set.ints) (text_terms set.texts) last) t

pub by_terms :
    (terms : List PrintedTerm) (row : Row) (fields : Fields) (value_at : ℕ → Value) (further : Option Value) → (terms ≡ [] → ⊥)
    → scalar_value terms (terms_of row.usual) (terms_of (scalars_without row.value row.usual)) ≡ scalar_or_nothing terms row fields value_at further
by_terms [] row fields value_at further h = absurd (h refl)
by_terms (term ∷ terms) row fields value_at further h = refl

pub without_terms : (terms : List PrintedTerm) (row : Row) (fields : Fields) (value_at : ℕ → Value) (further : Option Value) → terms ≡ [] → nothing_value row fields value_at further ≡ scalar_or_nothing terms row fields value_at further
without_terms [] row fields value_at further e = refl
without_terms (term ∷ terms) row fields value_at further e = cc
