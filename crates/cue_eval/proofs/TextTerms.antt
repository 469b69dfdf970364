-- Terms that each write one text without a mark.
use Rattle.std.proofs.Common.{◌≡◌, ℕ, Bool, false, ◌||◌, List, [], ◌∷◌, ◌++◌, map, refl, sym, ap, ◌∙◌, append_assoc, append-nil}
use Rattle.std.specs.Prelude.{filter_map}
use Rattle.std.specs.List.{list_any}
use Rattle.std.specs.Str.{bytes_eq}
use Rattle.std.proofs.lemmas.List.{map-append}
use Rattle.cue_lattice.specs.declared.scalar.Scalar.{Scalar}
use Rattle.cue_lattice.specs.declared.scalar.Scalar.TheVariants as scalars
use Rattle.cue_sets.specs.Texts.{is_listed}
use Rattle.cue_scalars.specs.Pairs.{ScalarPair, ScalarMembers, disjunction, sum_of, is_any_marked, default_of, unite_defaults}
use Rattle.cue_syntax.specs.declared.tree.Term.{Term}
use Rattle.cue_syntax.specs.declared.tree.Expr.TheVariants as exprs
use Rattle.cue_syntax.specs.Syntax.{next_branch, expression, branches_of_list}
use Rattle.cue_syntax.proofs.Views.{view-term, view-Text}
use Rattle.cue_eval.specs.declared.pair.Pairs.{Pairs}
use Rattle.cue_eval.specs.Inner.Known.{core_of, choices_of}
use Rattle.cue_eval.specs.Inner.Written.{AreTextTerms, text_term}
use Rattle.cue_eval.specs.Pairs.{pair, plain_pair, terms_of}
use Rattle.cue_eval.specs.Sets.{all_texts}

-- a loop over terms: the texts so far, and the terms that are left
abbrev pub AreTextsSoFar : List Term → List (List ℕ) → List Term → Type 0
AreTextsSoFar all texts left =
    (known : Pairs) → map text_term texts ++ terms_of (choices_of known (branches_of_list left)) ≡ terms_of (choices_of known (branches_of_list all))

pub texts_none : (all : List Term) (texts : List (List ℕ)) → texts ≡ [] → AreTextsSoFar all texts all
texts_none all texts none known = ap (λ xs. map text_term xs ++ terms_of (choices_of known (branches_of_list all))) none

-- one more
pub texts_more : (all left rest : List Term) (texts : List (List ℕ)) (t : Term) (text : List ℕ) → AreTextsSoFar all texts left → left ≡ t ∷ rest → t.marked ≡ false → t.value ≡ exprs.Text text
    → AreTextsSoFar all (texts ++ text ∷ []) rest
texts_more all left rest texts t text so_far is unmarked writes known =
    let later = terms_of (choices_of known (branches_of_list rest)) in
    let first : terms_of (choices_of known (branches_of_list left)) ≡ text_term text ∷ later =
    ap (λ l. terms_of (choices_of known (branches_of_list l))) is
    ∙ ap (λ z. terms_of (choices_of known (next_branch z (branches_of_list rest)))) (view-term t)
    ∙ ap (λ m. (m, pair (core_of known (expression t.value))) ∷ later) unmarked
    ∙ ap (λ e. (false, pair (core_of known (expression e))) ∷ later) writes
    ∙ ap (λ e. (false, pair (core_of known e)) ∷ later) (view-Text text) in
    ap (λ xs. xs ++ later) (map-append text_term texts (text ∷ []))
    ∙ append_assoc (map text_term texts) (text_term text ∷ []) later
    ∙ ap (λ xs. map text_term texts ++ xs) (sym first)
    ∙ so_far known

-- all
pub texts_all : (all left : List Term) (texts : List (List ℕ)) → AreTextsSoFar all texts left → left ≡ [] → AreTextTerms all texts
texts_all all left texts so_far none known =
    sym (so_far known) ∙ ap (λ l. map text_term texts ++ terms_of (choices_of known (branches_of_list l))) none ∙ append-nil (map text_term texts)

none_marked : (texts : List (List ℕ)) → is_any_marked (map text_term texts) ≡ false
none_marked [] = refl
none_marked (text ∷ texts) = none_marked texts

no_default : (texts : List (List ℕ)) → filter_map (default_of false) (map text_term texts) ≡ []
no_default [] = refl
no_default (text ∷ texts) = no_default texts

-- which scalars the terms let stand
any_text : (texts : List (List ℕ)) (scalar : Scalar) → list_any (λ (term : Bool × ScalarPair). term.1.value scalar) (map text_term texts) ≡ all_texts (is_listed texts) scalar
any_text [] scalars.Null = refl
any_text [] (scalars.Bool b) = refl
any_text [] (scalars.Int n) = refl
any_text [] (scalars.Text t) = refl
any_text (text ∷ texts) scalars.Null = any_text texts scalars.Null
any_text (text ∷ texts) (scalars.Bool b) = any_text texts (scalars.Bool b)
any_text (text ∷ texts) (scalars.Int n) = any_text texts (scalars.Int n)
any_text (text ∷ texts) (scalars.Text t) = ap (λ b. bytes_eq text t || b) (any_text texts (scalars.Text t))

-- together they are the texts of the list, without a default
pub text_disjunction : (texts : List (List ℕ)) → disjunction (map text_term texts) ≡ plain_pair (all_texts (is_listed texts))
text_disjunction texts =
    let terms = map text_term texts in
    let value : (λ scalar. list_any (λ (term : Bool × ScalarPair). term.1.value scalar) terms) ≡ all_texts (is_listed texts) = λ i scalar. any_text texts scalar i in
    ap (λ marked. sum_of marked terms) (none_marked texts)
    ∙ ap (λ (members : ScalarMembers). record { value = members; usual = unite_defaults (filter_map (default_of false) terms) }) value
    ∙ ap (λ usuals. record { value = all_texts (is_listed texts); usual = unite_defaults usuals }) (no_default texts)
