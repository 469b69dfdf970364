use Rattle.std.proofs.Common.{ℤ, refl, subst}
use Rattle.cue_row.specs.Kept.{integers_set}
use Rattle.cue_codec.specs.Parts.{set_bytes}
use Rattle.cue_codec.specs.Reading.{ReadsItem}
use Rattle.cue_codec.specs.StateRow.{IsStateSet}
use Rattle.cue_codec.proofs.RowParts.{scalars_found}
use Rattle.cue_codec.proofs.SetLaws.{same_piece}
use Rattle.cue_codec.proofs.rows.usual_piece_at.Goals as goal

pub returns-clause-sets : goal.returns-clause-sets
returns-clause-sets c =
    let first = c.in_ok-first.first in
    let last = c.in_ok-first.last in
    let same = same_piece first last c.in_ok-first.ensures.set.value.ints.0 in
    let begins = subst (λ (p : ℤ × ℤ). ReadsItem IsStateSet set_bytes (integers_set p) c.args.bytes.now c.in_ok-first.behind.now) same c.in_ok-first.ensures.set in
    scalars_found c.args.bytes.now c.in_ok-first.behind.now c.in_ok-rest.rest.now _ _ begins refl (c.in_ok-rest.ensures _ begins)
