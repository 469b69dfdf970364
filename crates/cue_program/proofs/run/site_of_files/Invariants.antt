use Rattle.std.proofs.Common.{◌≡◌, map, take, vec_len}
use Rattle.cue_program.specs.Files.{known_at, texts_of_files}
use Rattle.cue_program.specs.Stops.{piece_size}
use Rattle.cue_program.proofs.SubmittedInputs.{HasTakenFiles}
use Rattle.cue_program.proofs.run.site_of_files.Given as goal

abbrev pub invariant-loop-name : goal.invariant-loop-name
invariant-loop-name g l = record {
  taken : HasTakenFiles l.gathered (map (known_at (g.H.FileSystem.held l.fn.rt)) (texts_of_files (take l.name-index l.fn.names)));
  counted : l.number ≡ l.name-index;
  room : vec_len l.piece ≡ piece_size;
}
