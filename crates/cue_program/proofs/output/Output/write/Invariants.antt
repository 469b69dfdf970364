use Rattle.std.specs.Io.KnownBytes.{Keeps}
use Rattle.cue_program.proofs.output.Output.write.Given as goal

-- calls that were interrupted wrote nothing
abbrev pub invariant-loop : goal.invariant-loop
invariant-loop g l = Keeps (g.W.Write.contents l.initial.self.inner) (g.W.Write.contents l.self.inner)
