-- The meet of several sets of scalars, kind by kind.
use Rattle.std.proofs.Common.{◌≡◌, ◌<◌, Bool, true, false, ◌&&◌, List, [], ◌∷◌, ◌++◌, ℕ, ℤ, refl, sym, ap, ◌∙◌, map, length, append-nil, arith}
use Rattle.std.specs.List.{list_all}
use Rattle.cue_lattice.specs.declared.scalar.Scalar.{Scalar}
use Rattle.cue_lattice.specs.declared.scalar.Scalar.TheVariants as scalars
use Rattle.cue_sets.specs.Pieces.{is_member}
use Rattle.cue_sets.specs.Texts.{is_text_member}
use Rattle.cue_scalars.specs.Scalars.{members}
use Rattle.cue_scalars.specs.declared.scalar_set.ScalarSet.{ScalarSet}

-- the parts of the sets that are taken, and of those that are left, are those of all
pub record AreTaken (null nay yes : Bool) (ints : List (List (ℤ × ℤ))) (texts : List (Bool × List (List ℕ))) (rest all : List ScalarSet) : Type 0 where
  pub nulls : (null && list_all (λ set. set.null) rest) ≡ list_all (λ set. set.null) all
  pub nos : (nay && list_all (λ set. set.no) rest) ≡ list_all (λ set. set.no) all
  pub yess : (yes && list_all (λ set. set.yes) rest) ≡ list_all (λ set. set.yes) all
  pub numbers : ints ++ map (λ set. set.ints) rest ≡ map (λ set. set.ints) all
  pub words : texts ++ map (λ set. set.texts) rest ≡ map (λ set. set.texts) all

and_true : (a : Bool) → (a && true) ≡ a
and_true true = refl
and_true false = refl

-- there are as many sets of integers as sets
pub some_ints : (null nay aye : Bool) (ints : List (List (ℤ × ℤ))) (texts : List (Bool × List (List ℕ))) (rest all : List ScalarSet) → length rest ≡ 0 → AreTaken null nay aye ints texts rest all → 0 < length all → 0 < length ints
some_ints null nay aye ints texts (set ∷ rest) all none t some = absurd (omega arith)
some_ints null nay aye (pieces ∷ ints) texts [] all none t some = omega arith
some_ints null nay aye [] texts [] [] none t some = some
some_ints null nay aye [] texts [] (set ∷ all) none t some = absurd (nothing (ap length t.numbers)) where
  nothing : 0 ≡ length (set.ints ∷ map (λ set. set.ints) all) → ⊥
  nothing e = omega (arith, e)

all_int : (all : List ScalarSet) (n : ℤ) → list_all (λ pieces. is_member pieces n) (map (λ set. set.ints) all) ≡ list_all (λ set. members set (scalars.Int n)) all
all_int [] n = refl
all_int (set ∷ all) n = ap (λ b. is_member set.ints n && b) (all_int all n)

all_text : (all : List ScalarSet) (t : List ℕ) → list_all (λ texts. is_text_member texts t) (map (λ set. set.texts) all) ≡ list_all (λ set. members set (scalars.Text t)) all
all_text [] t = refl
all_text (set ∷ all) t = ap (λ b. is_text_member set.texts t && b) (all_text all t)

-- the parts of all sets, met kind by kind
pub meet_of_parts :
    (met : ScalarSet) (ints : List (List (ℤ × ℤ))) (texts : List (Bool × List (List ℕ))) (rest all : List ScalarSet) → length rest ≡ 0
    → AreTaken met.null met.no met.yes ints texts rest all
    → ((n : ℤ) → is_member met.ints n ≡ list_all (λ pieces. is_member pieces n) ints)
    → ((t : List ℕ) → is_text_member met.texts t ≡ list_all (λ texts. is_text_member texts t) texts)
    → (scalar : Scalar) → members met scalar ≡ list_all (λ set. members set scalar) all
meet_of_parts met ints texts (set ∷ rest) all none t i w scalar = absurd (omega arith)
meet_of_parts met ints texts [] all none t i w scalars.Null = sym (and_true met.null) ∙ t.nulls
meet_of_parts met ints texts [] all none t i w (scalars.Bool false) = sym (and_true met.no) ∙ t.nos
meet_of_parts met ints texts [] all none t i w (scalars.Bool true) = sym (and_true met.yes) ∙ t.yess
meet_of_parts met ints texts [] all none t i w (scalars.Int n) =
    i n ∙ ap (list_all (λ pieces. is_member pieces n)) (sym (append-nil ints) ∙ t.numbers) ∙ all_int all n
meet_of_parts met ints texts [] all none t i w (scalars.Text s) =
    w s ∙ ap (list_all (λ texts. is_text_member texts s)) (sym (append-nil texts) ∙ t.words) ∙ all_text all s
