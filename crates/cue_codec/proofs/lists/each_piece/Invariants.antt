use Rattle.std.proofs.Common.{◌≡◌, ◌≤◌, ◌++◌, ◌-◌, length}
use Rattle.std.specs.List.{flat_map, AllByRecursion}
use Rattle.cue_codec.specs.Parts.{piece_bytes}
use Rattle.cue_codec.specs.Reading.{IsPieceBytes}
use Rattle.cue_codec.proofs.lists.each_piece.Given as goal

abbrev pub invariant-loop-rest : goal.invariant-loop-rest
invariant-loop-rest l = record {
  few : length l.pieces.items ≤ l.count;
  each : AllByRecursion IsPieceBytes l.pieces.items;
  parts : l.bytes ≡ flat_map piece_bytes l.pieces.items ++ l.rest;
}

abbrev pub decreases-loop-rest : goal.decreases-loop-rest
decreases-loop-rest l = l.count - length l.pieces.items
