use Rattle.std.proofs.Common.{◌≡◌, map, take, vec_len}
use Rattle.cue_program.specs.Files.{known_at, texts_of_files}
use Rattle.cue_program.specs.Stops.{piece_size}
use Rattle.cue_program.specs.Inputs.{files}
use Rattle.cue_program.specs.Requests.{AreRequests}
use Rattle.cue_program.proofs.request.requests_of_files.Given as goal

abbrev pub invariant-loop-name : goal.invariant-loop-name
invariant-loop-name g l = record {
  sent : AreRequests (files (map (known_at (g.H.FileSystem.held l.fn.rt)) (texts_of_files (take l.name-index l.fn.names)))) l.requests.items;
  room : vec_len l.piece ≡ piece_size;
}
