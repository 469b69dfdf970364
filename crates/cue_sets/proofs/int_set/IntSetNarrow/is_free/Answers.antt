use Rattle.std.proofs.Common.{[], ◌∷◌, ◌∙◌, subst}
use Rattle.cue_sets.specs.Pieces.{least, greatest, IsCanonical}
use Rattle.cue_sets.specs.PieceLaws.{free_is_full}
use Rattle.cue_sets.proofs.PieceTests.{Decides-slices}
use Rattle.cue_sets.proofs.int_set.IntSetNarrow.is_free.Goals as goal

pub returns : goal.returns
returns c =
    let tells = Decides-slices c.eq.result c.as_slice.result.now c.as_slice-2.result.now c.args.self.now ((least, greatest) ∷ []) c.eq.ensures (c.as_slice.ensures ∙ c.self.view_is) c.as_slice-2.ensures in
    let free = free_is_full c.args.self.now (subst IsCanonical c.self.view_is c.self.invariant) in
    (λ e. free.0 (tells.0 e), λ h. tells.1 (free.1 h))
