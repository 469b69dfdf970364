-- Sets of scalars without others.
use Rattle.std.proofs.Common.{◌≡◌, true, false, not, ◌&&◌, refl, sym, ◌∙◌}
use Rattle.cue_lattice.specs.declared.scalar.Scalar.{Scalar}
use Rattle.cue_lattice.specs.declared.scalar.Scalar.TheVariants as scalars
use Rattle.cue_sets.specs.Pieces.{least}
use Rattle.cue_sets.specs.PieceLaws.{same_from_members}
use Rattle.cue_sets.specs.TextLaws.{same_from_text_members}
use Rattle.cue_scalars.specs.declared.scalar_set.ScalarSet.{ScalarSet}
use Rattle.cue_scalars.specs.Scalars.{members, IsScalarSet}
use Rattle.cue_print.specs.Difference.{scalars_without}
use Rattle.cue_print.proofs.IntegersLeft.{left_member, left_canonical}
use Rattle.cue_print.proofs.TextsLeft.{left_text, left_ascends}

-- which scalars are left
pub left_scalar : (a b : ScalarSet) (scalar : Scalar) → members (scalars_without a b) scalar ≡ (members a scalar && not (members b scalar))
left_scalar a b scalars.Null = refl
left_scalar a b (scalars.Bool false) = refl
left_scalar a b (scalars.Bool true) = refl
left_scalar a b (scalars.Int n) = left_member a.ints b.ints n
left_scalar a b (scalars.Text t) = left_text a.texts b.texts t

pub left_set : (a b : ScalarSet) → IsScalarSet a → IsScalarSet b → IsScalarSet (scalars_without a b)
left_set a b p q = record { ints = left_canonical a.ints b.ints p.ints q.ints; texts = left_ascends a.texts b.texts p.texts q.texts }

-- a set of just these scalars is that set
pub left_alone : (a b set : ScalarSet) → IsScalarSet a → IsScalarSet b → IsScalarSet set → ((scalar : Scalar) → members set scalar ≡ (members a scalar && not (members b scalar))) → set ≡ scalars_without a b
left_alone a b set p q r e =
    let here : (scalar : Scalar) → members set scalar ≡ members (scalars_without a b) scalar = λ scalar. e scalar ∙ sym (left_scalar a b scalar) in
    let is = left_set a b p q in
    let null = here scalars.Null in
    let no = here (scalars.Bool false) in
    let yes = here (scalars.Bool true) in
    let ints = same_from_members least least set.ints (scalars_without a b).ints r.ints is.ints (λ n. here (scalars.Int n)) in
    let texts = same_from_text_members set.texts (scalars_without a b).texts r.texts is.texts (λ t. here (scalars.Text t)) in
    λ i. record { null = null i; no = no i; yes = yes i; ints = ints i; texts = texts i }
