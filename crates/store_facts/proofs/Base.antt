-- What the facts share: labels, numbers, and that two literals differ.
use Rattle.std.proofs.Common.{◌≡◌, ◌<◌, ℕ, false, List, sym, ◌∙◌, arith}
use Rattle.std.specs.Prelude.{codes, pos}
use Rattle.std.specs.Str.{bytes_eq}
use Rattle.std.proofs.lemmas.Bool.{false≢true}
use Rattle.std.proofs.lemmas.Int.{ints}
use Rattle.std.proofs.lemmas.Slice.Eq.{bytes_eq-Decides}
use Rattle.cue_lattice.specs.Scalar.{IsInteger}
use Rattle.cue_lattice.specs.declared.scalar.Scalar.{Scalar}
use Rattle.cue_lattice.specs.declared.scalar.Scalar.TheVariants as scalars

abbrev pub a : List ℕ
a = codes "a"

abbrev pub b : List ℕ
b = codes "b"

abbrev pub c : List ℕ
c = codes "c"

abbrev pub number : ℕ → Scalar
number n = scalars.Int (pos n)

abbrev pub text : List ℕ → Scalar
text t = scalars.Text t

-- such a number is an integer of the language where it is not too large
pub in_range : (n : ℕ) → n < 9223372036854775808 → IsInteger (pos n)
in_range n h = (omega (arith, ints), omega (arith, ints))

-- two texts that differ
pub other : (k l : List ℕ) → bytes_eq k l ≡ false → k ≡ l → ⊥
other k l e f = false≢true (sym e ∙ (bytes_eq-Decides k l).1 f)
