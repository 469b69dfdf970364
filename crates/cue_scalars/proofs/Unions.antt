-- The union of several sets of scalars, kind by kind.
use Rattle.std.proofs.Common.{◌≡◌, Bool, true, false, ◌||◌, List, [], ◌∷◌, ◌++◌, ℕ, ℤ, refl, sym, ap, ◌∙◌, map, length, arith}
use Rattle.std.specs.List.{list_any}
use Rattle.cue_lattice.specs.declared.scalar.Scalar.{Scalar}
use Rattle.cue_lattice.specs.declared.scalar.Scalar.TheVariants as scalars
use Rattle.cue_sets.specs.Pieces.{is_member}
use Rattle.cue_sets.specs.Texts.{is_text_member}
use Rattle.cue_scalars.specs.Scalars.{members}
use Rattle.cue_scalars.specs.declared.scalar_set.ScalarSet.{ScalarSet}

-- the parts of the sets that are taken, and of those that are left, are those of all
pub record AreTaken (null nay yes : Bool) (ints : List (List (ℤ × ℤ))) (texts : List (Bool × List (List ℕ))) (rest all : List ScalarSet) : Type 0 where
  pub nulls : (null || list_any (λ set. set.null) rest) ≡ list_any (λ set. set.null) all
  pub nos : (nay || list_any (λ set. set.no) rest) ≡ list_any (λ set. set.no) all
  pub yess : (yes || list_any (λ set. set.yes) rest) ≡ list_any (λ set. set.yes) all
  pub numbers : ints ++ map (λ set. set.ints) rest ≡ map (λ set. set.ints) all
  pub words : texts ++ map (λ set. set.texts) rest ≡ map (λ set. set.texts) all

or_false : (a b : Bool) (e : b ≡ false) → (a || b) ≡ a
or_false true b e = refl
or_false false b e = e

none_left : {A : Type 0} (xs : List A) → (xs ++ []) ≡ xs
none_left [] = refl
none_left (x ∷ xs) = ap (λ ys. x ∷ ys) (none_left xs)

any_int : (all : List ScalarSet) (n : ℤ) → list_any (λ pieces. is_member pieces n) (map (λ set. set.ints) all) ≡ list_any (λ set. members set (scalars.Int n)) all
any_int [] n = refl
any_int (set ∷ all) n = ap (λ b. is_member set.ints n || b) (any_int all n)

any_text : (all : List ScalarSet) (t : List ℕ) → list_any (λ texts. is_text_member texts t) (map (λ set. set.texts) all) ≡ list_any (λ set. members set (scalars.Text t)) all
any_text [] t = refl
any_text (set ∷ all) t = ap (λ b. is_text_member set.texts t || b) (any_text all t)

-- the parts of all sets, united kind by kind
pub union_of_parts :
    (union : ScalarSet) (ints : List (List (ℤ × ℤ))) (texts : List (Bool × List (List ℕ))) (rest all : List ScalarSet) → length rest ≡ 0
    → AreTaken union.null union.no union.yes ints texts rest all
    → ((n : ℤ) → is_member union.ints n ≡ list_any (λ pieces. is_member pieces n) ints)
    → ((t : List ℕ) → is_text_member union.texts t ≡ list_any (λ texts. is_text_member texts t) texts)
    → (scalar : Scalar) → members union scalar ≡ list_any (λ set. members set scalar) all
union_of_parts union ints texts (set ∷ rest) all none t i w scalar = absurd (omega arith)
union_of_parts union ints texts [] all none t i w scalars.Null = sym (or_false union.null false refl) ∙ t.nulls
union_of_parts union ints texts [] all none t i w (scalars.Bool false) = sym (or_false union.no false refl) ∙ t.nos
union_of_parts union ints texts [] all none t i w (scalars.Bool true) = sym (or_false union.yes false refl) ∙ t.yess
union_of_parts union ints texts [] all none t i w (scalars.Int n) =
    i n ∙ ap (list_any (λ pieces. is_member pieces n)) (sym (none_left ints) ∙ t.numbers) ∙ any_int all n
union_of_parts union ints texts [] all none t i w (scalars.Text s) =
    w s ∙ ap (list_any (λ texts. is_text_member texts s)) (sym (none_left texts) ∙ t.words) ∙ any_text all s
