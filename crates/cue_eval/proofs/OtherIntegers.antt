-- Parts that are each `!=` and an integer.
use Rattle.std.proofs.Common.{◌≡◌, ◌<◌, ℤ, Bool, true, false, not, ◌&&◌, ◌||◌, List, [], ◌∷◌, map, length, All, refl, sym, ap, subst, ◌∙◌, arith}
use Rattle.std.specs.Prelude.{None, Some, is_some, if◌then◌else◌}
use Rattle.std.specs.List.{list_all, list_any}
use Rattle.std.specs.Ordering.{int_eq}
use Rattle.std.proofs.lemmas.List.Elements.{All-nil, All-cons}
use Rattle.cue_lattice.specs.declared.scalar.Scalar.{Scalar}
use Rattle.cue_lattice.specs.declared.scalar.Scalar.TheVariants as scalars
use Rattle.cue_sets.specs.Pieces.{is_int64, is_member, least, greatest}
use Rattle.cue_scalars.specs.Pairs.{ScalarPair, ScalarMembers, all_of, default_or_value}
use Rattle.cue_scalars.specs.Values.{pair_of_value}
use Rattle.cue_scalars.specs.declared.valued.Valued.{Valued}
use Rattle.cue_syntax.specs.declared.tree.Expr.{Expr}
use Rattle.cue_syntax.specs.declared.tree.Expr.TheVariants as exprs
use Rattle.cue_syntax.specs.declared.tree.Signed.{Signed}
use Rattle.cue_syntax.specs.Grammar.{AreRight, IsInRange, IsRight}
use Rattle.cue_syntax.specs.Syntax.{elements_of_list}
use Rattle.cue_syntax.proofs.Views.{view-OtherInteger}
use Rattle.cue_scope.specs.Core.{Cores, no_cores, core, conjunction, other_integer, are_scalar}
use Rattle.cue_eval.specs.declared.pair.Pairs.{Pairs}
use Rattle.cue_eval.specs.Inner.Known.{core_of, parts_of}
use Rattle.cue_eval.specs.Inner.Written.{IsAllBut, IsAllButIntegers, is_listed_integer}
use Rattle.cue_eval.specs.Laws.{AllHaveParts, HasParts}
use Rattle.cue_eval.specs.Pairs.{pairs_of, plain_pair}
use Rattle.cue_eval.specs.Sets.{integer_of, integers}
use Rattle.cue_eval.proofs.Integers.{all_integers}

-- each has 64 bits
listed_in_range : (numbers : List Signed) → AreRight (elements_of_list (map exprs.OtherInteger numbers)) → All IsInRange numbers
listed_in_range [] right = All-nil IsInRange
listed_in_range (number ∷ numbers) right = All-cons IsInRange number numbers (subst IsRight (view-OtherInteger number) right.0) (listed_in_range numbers right.1)

pub others_in_range : (parts : List Expr) (numbers : List Signed) → parts ≡ map exprs.OtherInteger numbers → AreRight (elements_of_list parts) → All IsInRange numbers
others_in_range parts numbers written right = listed_in_range numbers (subst (λ ps. AreRight (elements_of_list ps)) written right)

all_others : (a b : Bool) → ((a && true) && not (a && b)) ≡ (a && not b)
all_others true b = refl
all_others false b = refl

-- all integers but those of a set
pub all_without : (rest set : List (ℤ × ℤ)) (numbers : List Signed) (n : ℤ) → is_member rest n ≡ (is_member ((least, greatest) ∷ []) n && not (is_member set n)) → is_member set n ≡ (is_int64 n && is_listed_integer numbers n)
    → is_member rest n ≡ (is_int64 n && not (is_listed_integer numbers n))
all_without rest set numbers n is listed =
    is
    ∙ ap (λ b. b && not (is_member set n)) (all_integers n)
    ∙ ap (λ b. (is_int64 n && true) && not b) listed
    ∙ all_others (is_int64 n) (is_listed_integer numbers n)

-- what they mean
abbrev others : List Signed → Cores
others [] = no_cores
others (number ∷ numbers) = core (other_integer number) (others numbers)

parts_mean : (known : Pairs) (numbers : List Signed) → parts_of known (elements_of_list (map exprs.OtherInteger numbers)) ≡ others numbers
parts_mean known [] = refl
parts_mean known (number ∷ numbers) =
    ap (λ e. core (core_of known e) (parts_of known (elements_of_list (map exprs.OtherInteger numbers)))) (view-OtherInteger number) ∙ ap (core (other_integer number)) (parts_mean known numbers)

all_scalar : (numbers : List Signed) → are_scalar (others numbers) ≡ true
all_scalar [] = refl
all_scalar (number ∷ numbers) = all_scalar numbers

all_whole : (numbers : List Signed) → AllHaveParts (others numbers)
all_whole [] = tt
all_whole (number ∷ numbers) = (tt, all_whole numbers)

none_either : (a b c d : Bool) → (a && c) ≡ (a && not d) → ((a && not b) && c) ≡ (a && not (b || d))
none_either true true c d h = refl
none_either true false c d h = h
none_either false b c d h = refl

each_other : (numbers : List Signed) (n : ℤ) → (is_int64 n && list_all (λ (part : ScalarPair). part.value (scalars.Int n)) (pairs_of (others numbers))) ≡ (is_int64 n && not (is_listed_integer numbers n))
each_other [] n = refl
each_other (number ∷ numbers) n =
    ap (λ b. is_int64 n && b)
    (none_either (is_int64 n) (int_eq n (integer_of number)) (list_all (λ (part : ScalarPair). part.value (scalars.Int n)) (pairs_of (others numbers))) (is_listed_integer numbers n) (each_other numbers n))
    ∙ again (is_int64 n) (not (is_listed_integer (number ∷ numbers) n)) where
      again : (a b : Bool) → (a && (a && b)) ≡ (a && b)
      again true b = refl
      again false b = refl

no_default : (numbers : List Signed) → list_any (λ (part : ScalarPair). is_some part.usual) (pairs_of (others numbers)) ≡ false
no_default [] = refl
no_default (number ∷ numbers) = no_default numbers

lets_stand : (number : Signed) (numbers : List Signed) (scalar : Scalar) → list_all (λ (part : ScalarPair). part.value scalar) (pairs_of (others (number ∷ numbers))) ≡ integers (λ n. not (is_listed_integer (number ∷ numbers) n)) scalar
lets_stand number numbers scalars.Null = refl
lets_stand number numbers (scalars.Bool b) = refl
lets_stand number numbers (scalars.Int n) =
    none_either (is_int64 n) (int_eq n (integer_of number)) (list_all (λ (part : ScalarPair). part.value (scalars.Int n)) (pairs_of (others numbers))) (is_listed_integer numbers n) (each_other numbers n)
lets_stand number numbers (scalars.Text t) = refl

-- together they are all integers but these, without a default
other_pair : (number : Signed) (numbers : List Signed) → all_of (pairs_of (others (number ∷ numbers))) ≡ plain_pair (integers (λ n. not (is_listed_integer (number ∷ numbers) n)))
other_pair number numbers =
    let pairs = pairs_of (others (number ∷ numbers)) in
    let left : ScalarMembers = integers (λ n. not (is_listed_integer (number ∷ numbers) n)) in
    let value : (λ scalar. list_all (λ (part : ScalarPair). part.value scalar) pairs) ≡ left = λ i scalar. lets_stand number numbers scalar i in
    ap (λ (members : ScalarMembers). record { value = members; usual = if list_any (λ part. is_some part.usual) pairs then Some (λ scalar. list_all (λ part. default_or_value part scalar) pairs) else None }) value
    ∙ ap (λ some. record { value = left; usual = if some then Some (λ scalar. list_all (λ part. default_or_value part scalar) pairs) else None }) (no_default (number ∷ numbers))

known_others : (numbers : List Signed) (v : Valued) → 0 < length numbers → pair_of_value v ≡ plain_pair (integers (λ n. not (is_listed_integer numbers n))) → IsAllBut (map exprs.OtherInteger numbers) v
known_others [] v some is = absurd (omega arith)
known_others (number ∷ numbers) v some is = record {
  scalar = λ known. ap are_scalar (parts_mean known (number ∷ numbers)) ∙ all_scalar (number ∷ numbers);
  parted = λ known. subst (λ cs. HasParts (conjunction cs)) (sym (parts_mean known (number ∷ numbers))) (tt, all_whole numbers);
  value = λ known. is ∙ sym (other_pair number numbers) ∙ ap (λ cs. all_of (pairs_of cs)) (sym (parts_mean known (number ∷ numbers)));
}

-- their value is what they let stand together
pub others_known : (parts : List Expr) (v : Valued) → IsAllButIntegers parts v → IsAllBut parts v
others_known parts v are = subst (λ ps. IsAllBut ps v) (sym are.written) (known_others are.numbers v are.some are.value)
