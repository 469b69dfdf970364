use Rattle.std.proofs.Common.{◌≡◌, ◌+◌, ◌-◌, length}
use Rattle.cue_program.proofs.Pieces.{Goes}
use Rattle.cue_program.proofs.input.read_rest.Given as goal

abbrev pub invariant-loop : goal.invariant-loop
invariant-loop g l = record {
  room : length l.piece ≡ length l.initial.piece;
  read : Goes g.K.InputReader.keeps (g.S.Source.to_come l.initial.input) (g.S.Source.to_come l.input) l.initial.kept l.kept (l.counter - 1);
  calls : g.S.Source.called l.input + 1 ≡ g.S.Source.called l.initial.input + l.counter;
  failures : g.S.Source.failed l.input ≡ g.S.Source.failed l.initial.input;
}
