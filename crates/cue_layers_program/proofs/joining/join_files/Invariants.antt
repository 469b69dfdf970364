use Rattle.std.proofs.Common.{◌≡◌, map, take}
use Rattle.cue_program.specs.Files.{known_at, texts_of_files}
use Rattle.cue_layers_program.specs.Joined.{IsJoined}
use Rattle.cue_layers_program.proofs.joining.join_files.Given as goal

abbrev pub invariant-loop-name : goal.invariant-loop-name
invariant-loop-name g l = record {
  joined : IsJoined (map (known_at (g.H.FileSystem.held l.fn.rt)) (texts_of_files (take l.name-index l.fn.files))) l.all;
  counted : l.number ≡ l.name-index;
}
