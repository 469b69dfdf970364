-- Laws of sets of scalars.
use Rattle.std.proofs.Common.{◌≡◌, true, false, ◌↔◌}
use Rattle.cue_lattice.specs.Bools.{bool_same}
use Rattle.cue_lattice.specs.declared.scalar.Scalar.{Scalar}
use Rattle.cue_lattice.specs.declared.scalar.Scalar.TheVariants as scalars
use Rattle.cue_sets.specs.PieceLaws.{same_pieces}
use Rattle.cue_sets.specs.TextLaws.{same_texts}
use Rattle.cue_scalars.specs.Scalars.{IsScalarSet, RefusesScalar}
use Rattle.cue_scalars.specs.declared.scalar_set.ScalarSet.{ScalarSet}

-- sets that refuse the same scalars are equal
pub same_scalars : (a b : ScalarSet) → IsScalarSet a → IsScalarSet b
    → ((q : Scalar) → RefusesScalar a q ↔ RefusesScalar b q) → a ≡ b
same_scalars a b p q e =
    let null = bool_same a.null b.null (e scalars.Null).0 (e scalars.Null).1 in
    let no = bool_same a.no b.no (e (scalars.Bool false)).0 (e (scalars.Bool false)).1 in
    let yes = bool_same a.yes b.yes (e (scalars.Bool true)).0 (e (scalars.Bool true)).1 in
    let ints = same_pieces a.ints b.ints p.ints q.ints (λ n. e (scalars.Int n)) in
    let texts = same_texts a.texts b.texts p.texts q.texts (λ t. e (scalars.Text t)) in
    λ i. record { null = null i; no = no i; yes = yes i; ints = ints i; texts = texts i }
