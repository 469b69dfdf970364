use Rattle.std.proofs.Common.{◌≡◌, ℤ, take, All}
use Rattle.std.specs.List.{list_any}
use Rattle.cue_sets.specs.Pieces.{is_member}
use Rattle.cue_sets.specs.Inner.Sorted.{IsPiece}
use Rattle.cue_sets.proofs.int_set.IntSet.gather_pieces.Given as goal

-- the pieces of the sets before this one
abbrev pub invariant-loop-set : goal.invariant-loop-set
invariant-loop-set l = record {
  pieces : All IsPiece l.pieces.items;
  members : (n : ℤ) → is_member l.pieces.items n ≡ list_any (λ set. is_member set n) (take l.set-index l.sets);
}
