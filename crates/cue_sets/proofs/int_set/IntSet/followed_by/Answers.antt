use Rattle.std.proofs.Common.{ap, ◌∙◌}
use Rattle.cue_sets.specs.Kept.{pieces_of_set}
use Rattle.cue_sets.specs.Pieces.{is_member}
use Rattle.cue_sets.proofs.Following.{is_member-append}
use Rattle.cue_sets.proofs.int_set.IntSet.followed_by.Goals as goal

pub returns : goal.returns
returns c = λ n.
    rw (← c.self.view_is, ← c.other.view_is)
    (ap (λ pieces. is_member pieces n) c.in_ok-followed_by.ensures ∙ is_member-append (pieces_of_set c.self.inside.pieces) (pieces_of_set c.other.inside.pieces) n)
