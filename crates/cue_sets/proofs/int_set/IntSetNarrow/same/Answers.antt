use Rattle.std.proofs.Common.{◌∙◌}
use Rattle.cue_sets.proofs.PieceTests.{Decides-slices}
use Rattle.cue_sets.proofs.int_set.IntSetNarrow.same.Goals as goal

pub returns : goal.returns
returns c =
    Decides-slices c.eq.result c.as_slice.result.now c.as_slice-2.result.now c.args.self.now c.args.other.now c.eq.ensures (c.as_slice.ensures ∙ c.self.view_is) (c.as_slice-2.ensures ∙ c.other.view_is)
