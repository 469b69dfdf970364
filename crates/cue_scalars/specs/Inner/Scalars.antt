-- Beside `specs/Scalars.antt`: what private clauses and proofs alone cite.
use Rattle.std.specs.Prelude.{Bool, true, false, Option, Some, None}
use Rattle.cue_lattice.specs.declared.scalar.Scalar.{Scalar}
use Rattle.cue_lattice.specs.declared.scalar.Scalar.TheVariants as scalars

-- the only one of null, false and true, where it is one
abbrev pub only_of : Bool → Bool → Bool → Option Scalar
only_of true false false = Some scalars.Null
only_of false true false = Some (scalars.Bool false)
only_of false false true = Some (scalars.Bool true)
only_of is_null is_no is_yes = None
