-- Terms that each write one integer without a mark, and sets of such integers.
use Rattle.std.proofs.Common.{◌≡◌, ◌+◌, ◌<◌, ◌≤◌, ℕ, ℤ, Bool, true, false, ◌&&◌, ◌||◌, ◌≤ℤ◌, List, [], ◌∷◌, ◌++◌, map, length, take, get_or, All, refl, sym, ap, subst, ◌∙◌, append_assoc, append-nil}
use Rattle.std.specs.Prelude.{filter_map, Result, Ok, Err, IfOk}
use Rattle.std.specs.List.{list_any}
use Rattle.std.specs.Ordering.{int_eq}
use Rattle.std.proofs.lemmas.List.{map-append, take_all}
use Rattle.std.proofs.lemmas.List.Elements.{All-nil, All-push}
use Rattle.std.proofs.lemmas.List.Folds.{list_any-append, list_any_more}
use Rattle.cue_lattice.specs.declared.scalar.Scalar.{Scalar}
use Rattle.cue_lattice.specs.declared.scalar.Scalar.TheVariants as scalars
use Rattle.cue_sets.specs.Pieces.{is_int64, is_member, least, greatest}
use Rattle.cue_scalars.specs.Pairs.{ScalarPair, ScalarMembers, disjunction, sum_of, is_any_marked, default_of, unite_defaults}
use Rattle.cue_syntax.specs.declared.tree.Term.{Term}
use Rattle.cue_syntax.specs.declared.tree.Signed.{Signed}
use Rattle.cue_syntax.specs.declared.tree.Expr.TheVariants as exprs
use Rattle.cue_syntax.specs.Grammar.{AreRightBranches, IsInRange, IsRight}
use Rattle.cue_syntax.specs.Syntax.{next_branch, expression, branches_of_list}
use Rattle.cue_syntax.proofs.Views.{view-term, view-Integer}
use Rattle.cue_eval.specs.declared.pair.Pairs.{Pairs}
use Rattle.cue_eval.specs.Inner.Known.{core_of, choices_of}
use Rattle.cue_eval.specs.Inner.Written.{AreIntegerTerms, integer_term, is_listed_integer}
use Rattle.cue_eval.specs.Pairs.{pair, plain_pair, terms_of}
use Rattle.cue_eval.specs.Sets.{integer_of, integers}
use Rattle.cue_eval.proofs.Integers.{alone}

-- a loop over terms: the integers so far, and the terms that are left
pub record AreIntegersSoFar (all : List Term) (numbers : List Signed) (left : List Term) : Type 0 where
  pub meant : (known : Pairs) → map integer_term numbers ++ terms_of (choices_of known (branches_of_list left)) ≡ terms_of (choices_of known (branches_of_list all))
  pub in_range : AreRightBranches (branches_of_list all) → All IsInRange numbers × AreRightBranches (branches_of_list left)

pub integers_none : (all : List Term) (numbers : List Signed) → numbers ≡ [] → AreIntegersSoFar all numbers all
integers_none all numbers none = record {
  meant = λ known. ap (λ ns. map integer_term ns ++ terms_of (choices_of known (branches_of_list all))) none;
  in_range = λ right. (subst (λ ns. All IsInRange ns) (sym none) (All-nil IsInRange), right);
}

-- one more
pub integers_more : (all left rest : List Term) (numbers : List Signed) (t : Term) (number : Signed) → AreIntegersSoFar all numbers left → left ≡ t ∷ rest → t.marked ≡ false → t.value ≡ exprs.Integer number
    → AreIntegersSoFar all (numbers ++ number ∷ []) rest
integers_more all left rest numbers t number so_far is unmarked writes =
    let written : expression t.value ≡ expression (exprs.Integer number) = ap expression writes in
    let tree = written ∙ view-Integer number in record {
      meant = λ known.
          let later = terms_of (choices_of known (branches_of_list rest)) in
          let first : terms_of (choices_of known (branches_of_list left)) ≡ integer_term number ∷ later =
          ap (λ l. terms_of (choices_of known (branches_of_list l))) is
          ∙ ap (λ z. terms_of (choices_of known (next_branch z (branches_of_list rest)))) (view-term t)
          ∙ ap (λ m. (m, pair (core_of known (expression t.value))) ∷ later) unmarked
          ∙ ap (λ e. (false, pair (core_of known e)) ∷ later) tree in
          ap (λ xs. xs ++ later) (map-append integer_term numbers (number ∷ []))
          ∙ append_assoc (map integer_term numbers) (integer_term number ∷ []) later
          ∙ ap (λ xs. map integer_term numbers ++ xs) (sym first)
          ∙ so_far.meant known;
      in_range = λ right.
          let so = so_far.in_range right in
          let here = subst (λ z. AreRightBranches (next_branch z (branches_of_list rest))) (view-term t) (subst (λ l. AreRightBranches (branches_of_list l)) is so.1) in
          let fits : IsInRange number = subst IsRight tree here.0.0 in
          (All-push IsInRange numbers number so.0 fits, here.1);
    }

-- all
pub integers_all : (all left : List Term) (numbers : List Signed) → AreIntegersSoFar all numbers left → left ≡ [] → AreIntegerTerms all numbers
integers_all all left numbers so_far none = record {
  meant = λ known. sym (so_far.meant known) ∙ ap (λ l. map integer_term numbers ++ terms_of (choices_of known (branches_of_list l))) none ∙ append-nil (map integer_term numbers);
  in_range = λ right. (so_far.in_range right).0;
}

none_marked : (numbers : List Signed) → is_any_marked (map integer_term numbers) ≡ false
none_marked [] = refl
none_marked (number ∷ numbers) = none_marked numbers

no_default : (numbers : List Signed) → filter_map (default_of false) (map integer_term numbers) ≡ []
no_default [] = refl
no_default (number ∷ numbers) = no_default numbers

and_none : (a : Bool) → false ≡ (a && false)
and_none true = refl
and_none false = refl

one_or_more : (a b c : Bool) → ((a && b) || (a && c)) ≡ (a && (b || c))
one_or_more true b c = refl
one_or_more false b c = refl

-- which scalars the terms let stand
any_integer : (numbers : List Signed) (scalar : Scalar) → list_any (λ (term : Bool × ScalarPair). term.1.value scalar) (map integer_term numbers) ≡ integers (is_listed_integer numbers) scalar
any_integer [] scalars.Null = refl
any_integer [] (scalars.Bool b) = refl
any_integer [] (scalars.Int n) = and_none (is_int64 n)
any_integer [] (scalars.Text t) = refl
any_integer (number ∷ numbers) scalars.Null = any_integer numbers scalars.Null
any_integer (number ∷ numbers) (scalars.Bool b) = any_integer numbers (scalars.Bool b)
any_integer (number ∷ numbers) (scalars.Int n) =
    ap (λ b. (is_int64 n && int_eq n (integer_of number)) || b) (any_integer numbers (scalars.Int n))
    ∙ one_or_more (is_int64 n) (int_eq n (integer_of number)) (is_listed_integer numbers n)
any_integer (number ∷ numbers) (scalars.Text t) = any_integer numbers (scalars.Text t)

-- together they are the integers of the list, without a default
pub integer_disjunction : (numbers : List Signed) → disjunction (map integer_term numbers) ≡ plain_pair (integers (is_listed_integer numbers))
integer_disjunction numbers =
    let terms = map integer_term numbers in
    let value : (λ scalar. list_any (λ (term : Bool × ScalarPair). term.1.value scalar) terms) ≡ integers (is_listed_integer numbers) = λ i scalar. any_integer numbers scalar i in
    ap (λ marked. sum_of marked terms) (none_marked numbers)
    ∙ ap (λ (members : ScalarMembers). record { value = members; usual = unite_defaults (filter_map (default_of false) terms) }) value
    ∙ ap (λ usuals. record { value = integers (is_listed_integer numbers); usual = unite_defaults usuals }) (no_default numbers)

-- ---- sets of one integer each
abbrev pub AreSetsSoFar : List (List (ℤ × ℤ)) → List Signed → Type 0
AreSetsSoFar sets numbers = (n : ℤ) → list_any (λ set. is_member set n) sets ≡ (is_int64 n && is_listed_integer numbers n)

pub sets_none : (sets : List (List (ℤ × ℤ))) → sets ≡ [] → AreSetsSoFar sets []
sets_none sets none n = ap (λ (xs : List (List (ℤ × ℤ))). list_any (λ set. is_member set n) xs) none ∙ and_none (is_int64 n)

one_more : (a b c : Bool) → ((a && b) || ((a && c) || false)) ≡ (a && (b || c))
one_more true true c = refl
one_more true false true = refl
one_more true false false = refl
one_more false b c = refl

-- one more
pub sets_more : (sets : List (List (ℤ × ℤ))) (numbers : List Signed) (i : ℕ) (number : Signed) (m : ℤ) → AreSetsSoFar sets (take i numbers) → i < length numbers → number ≡ get_or numbers i number
    → m ≡ integer_of number → least ≤ℤ m → m ≤ℤ greatest → AreSetsSoFar (sets ++ ((m, m) ∷ []) ∷ []) (take (i + 1) numbers)
sets_more sets numbers i number m so_far inside is same from to n =
    let before = is_listed_integer (take i numbers) n in
    list_any-append (λ set. is_member set n) sets (((m, m) ∷ []) ∷ [])
    ∙ ap (λ b. b || (is_member ((m, m) ∷ []) n || false)) (so_far n)
    ∙ ap (λ b. (is_int64 n && before) || (b || false)) (alone m n from to)
    ∙ one_more (is_int64 n) before (int_eq n m)
    ∙ ap (λ a. is_int64 n && (before || int_eq n a)) same
    ∙ ap (λ b. is_int64 n && b) (ap (λ x. before || int_eq n (integer_of x)) is ∙ sym (list_any_more (λ x. int_eq n (integer_of x)) numbers i number inside))

-- all
pub sets_all : (sets : List (List (ℤ × ℤ))) (numbers : List Signed) (i : ℕ) → AreSetsSoFar sets (take i numbers) → length numbers ≤ i → AreSetsSoFar sets numbers
sets_all sets numbers i so_far all = subst (λ ns. AreSetsSoFar sets ns) (take_all i numbers all) so_far

-- a set of all of them
pub set_united : {E : Type 0} (r : Result (List (ℤ × ℤ)) E) (sets : List (List (ℤ × ℤ))) (numbers : List Signed) → AreSetsSoFar sets numbers → IfOk r (λ set. (n : ℤ) → is_member set n ≡ list_any (λ (s : List (ℤ × ℤ)). is_member s n) sets)
    → IfOk r (λ set. (n : ℤ) → is_member set n ≡ (is_int64 n && is_listed_integer numbers n))
set_united (Ok set) sets numbers all united = λ n. united n ∙ all n
set_united (Err e) sets numbers all united = united
