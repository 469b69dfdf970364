-- Sets of scalars: null, false, true, integers of 64 bits and texts.
use Rattle.std.specs.Prelude.{◌≡◌, ℕ, Bool, true, false, ◌<◌, ◌<ℤ◌}
use Rattle.std.specs.declared.cmp.Ordering.TheVariants.{Less}
use Rattle.cue_lattice.specs.declared.scalar.Scalar.{Scalar}
use Rattle.cue_lattice.specs.declared.scalar.Scalar.TheVariants as scalars
use Rattle.cue_sets.specs.Pieces.{is_member, IsCanonical, RefusesInteger}
use Rattle.cue_sets.specs.Texts.{is_text_member, text_cmp, IsTextSet, RefusesText}
use Rattle.cue_scalars.specs.declared.scalar_set.ScalarSet.{ScalarSet}

-- whether the scalar is a member of the set
abbrev pub members : ScalarSet → Scalar → Bool
members set scalars.Null = set.null
members set (scalars.Bool false) = set.no
members set (scalars.Bool true) = set.yes
members set (scalars.Int n) = is_member set.ints n
members set (scalars.Text text) = is_text_member set.texts text

-- integers and texts are kept in their one form
pub record IsScalarSet (set : ScalarSet) : Type 0 where
  pub ints : IsCanonical set.ints
  pub texts : IsTextSet set.texts

-- A set refuses the scalars that are no members. It refuses no number outside the 64-bit range.
abbrev pub RefusesScalar : ScalarSet → Scalar → Type 0
RefusesScalar set scalars.Null = set.null ≡ false
RefusesScalar set (scalars.Bool false) = set.no ≡ false
RefusesScalar set (scalars.Bool true) = set.yes ≡ false
RefusesScalar set (scalars.Int n) = RefusesInteger set.ints n
RefusesScalar set (scalars.Text text) = RefusesText set.texts text

-- the scalar is in the set, and no other is
pub record IsOnlyScalar (set : ScalarSet) (scalar : Scalar) : Type 0 where
  pub member : members set scalar ≡ true
  pub only : (other : Scalar) → members set other ≡ true → other ≡ scalar

-- the place of a kind of scalar: null, false, true, integers, texts
abbrev pub kind : Scalar → ℕ
kind scalars.Null = 0
kind (scalars.Bool false) = 1
kind (scalars.Bool true) = 2
kind (scalars.Int n) = 3
kind (scalars.Text text) = 4

-- one scalar comes before another: by kind, integers upwards, texts by their bytes
abbrev pub IsScalarBefore : Scalar → Scalar → Type 0
IsScalarBefore (scalars.Int m) (scalars.Int n) = m <ℤ n
IsScalarBefore (scalars.Text s) (scalars.Text t) = text_cmp s t ≡ Less
IsScalarBefore a b = kind a < kind b

-- the scalar is in the set, and no member comes before it
pub record IsFirstScalar (set : ScalarSet) (scalar : Scalar) : Type 0 where
  pub member : members set scalar ≡ true
  pub first : (other : Scalar) → members set other ≡ true → ¬ IsScalarBefore other scalar

-- each member of the small set is one of the large set
abbrev pub IsScalarsWithin : ScalarSet → ScalarSet → Type 0
IsScalarsWithin small large = (scalar : Scalar) → members small scalar ≡ true → members large scalar ≡ true
