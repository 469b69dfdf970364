-- The scalars of the language: null, the truth values, the integers of 64 bits, and the texts.
use Rattle.std.specs.Prelude.{ℤ, pos, negsuc, ◌≤ℤ◌}
use Rattle.cue_lattice.specs.declared.scalar.Scalar.{Scalar}
use Rattle.cue_lattice.specs.declared.scalar.Scalar.TheVariants as scalars

-- the least and the greatest integer of the language: -2^63 and 2^63 - 1
abbrev pub least : ℤ
least = negsuc 9223372036854775807

abbrev pub greatest : ℤ
greatest = pos 9223372036854775807

abbrev pub IsInteger : ℤ → Type 0
IsInteger n = (least ≤ℤ n) × (n ≤ℤ greatest)

-- A scalar, as a question asks for it: an integer is one of the language, and a text any list of
-- bytes. A set is told by its answers, and more questions tell more: asked for texts in UTF-8
-- alone, two sets of bytes with equal answers could still differ. In a document a text is UTF-8.
abbrev pub IsScalar : Scalar → Type 0
IsScalar scalars.Null = Unit {0}
IsScalar (scalars.Bool b) = Unit {0}
IsScalar (scalars.Int n) = IsInteger n
IsScalar (scalars.Text t) = Unit {0}
