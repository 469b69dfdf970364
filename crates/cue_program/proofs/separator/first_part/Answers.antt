use Rattle.std.proofs.Common.{length, arith, ap}
use Rattle.std.proofs.lemmas.Bool.{both_ways}
use Rattle.std.proofs.lemmas.List.{length-append}
use Rattle.cue_program.proofs.Lines.{walked_more}
use Rattle.cue_program.proofs.separator.first_part.Goals as goal

pub loop-rest-smaller : goal.loop-rest-smaller
loop-rest-smaller c = omega (arith, ap length c.first_line.ensures.whole, length-append c.first_line.result.0.now c.first_line.result.1.now, c.first_line.ensures.some)

pub loop-rest-preserved : goal.loop-rest-preserved
loop-rest-preserved c =
    walked_more c.args.bytes.now c.loop-rest.rest.now c.first_line.result.0.now c.first_line.result.1.now c.loop-rest.invariant c.first_line.ensures.whole c.first_line.ensures.lines
    (λ is. both_ways c.is_separator.result c.if-is_separator.false (c.is_separator.ensures.1 is))
