use Rattle.std.proofs.Common.{arith}
use Rattle.cue_syntax.proofs.MovesAndStops.{takes, stopped, stops_here, halts_at}
use Rattle.cue_syntax.proofs.GoalsAtTokens.{magnitude_none, magnitude_step, magnitude_large}
use Rattle.cue_syntax.specs.Recogniser.{step_stack, magnitude}
use Rattle.std.proofs.Common.{◌∙◌, ap, ◌∷◌}
use Rattle.cue_syntax.proofs.literal.magnitude.Goals as goal

pub returns-else-magnitude-greatest_magnitude-clause-moves : goal.returns-else-magnitude-greatest_magnitude-clause-moves
returns-else-magnitude-greatest_magnitude-clause-moves c =
    takes c.in-Some.token.now c.in-Some.ensures.first (λ below. ap (step_stack (magnitude c.args.sign ∷ below)) c.in-Integer.is ∙ magnitude_step c.args.sign _ below (omega arith)) (omega arith)

pub returns-in_default-kind : goal.returns-in_default-kind
returns-in_default-kind c = record {
  further = tt;
  spelled = tt;
  signed = tt;
  range = tt;
  moves = tt;
  refused = λ room. stopped (stops_here c.syntax-in_default-kind.ensures
      (halts_at c.in-Some.token.now c.in-Some.ensures.first (λ below closes. magnitude_none c.args.sign _ c.in_default-kind.not-Integer below)));
}

pub returns-then-magnitude-greatest_magnitude-clause-refused : goal.returns-then-magnitude-greatest_magnitude-clause-refused
returns-then-magnitude-greatest_magnitude-clause-refused c room =
    stopped (stops_here c.syntax-then-magnitude-greatest_magnitude.ensures (halts_at c.in-Some.token.now c.in-Some.ensures.first (λ below closes. ap (step_stack (magnitude c.args.sign ∷ below)) c.in-Integer.is ∙ magnitude_large c.args.sign _ below (omega arith))))
