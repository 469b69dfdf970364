use Rattle.std.proofs.Common.{◌≡◌, ◌+◌, ◌-◌, arith, rules, ◌∙◌}
use Rattle.cue_program.proofs.Pieces.{goes_further}
use Rattle.cue_program.proofs.input.read_rest.Goals as goal

pub loop-preserved : goal.loop-preserved
loop-preserved g c =
    let to_come = g.S.Source.to_come in
    let next : c.loop.counter + 1 - 1 ≡ (c.loop.counter - 1) + 1 = omega (arith, c.loop.auto.counter) in
    record {
      room = c.in_ok-count.ensures.room ∙ c.loop.invariant.room;
      read = goes_further g.K.InputReader.keeps (to_come c.args.input.now) (to_come c.loop.input) (to_come c.read_piece.new.input)
          c.args.kept.now c.loop.kept c.go_on.new.self (c.loop.counter - 1) (c.loop.counter + 1 - 1) c.in_ok-count.count
          c.read_piece.new.piece c.loop.invariant.read c.in_ok-count.ensures.read.0
          (c.in_ok-count.ensures.room ∙ (c.loop.invariant.room ∙ c.requires.room)) (search rules) c.in_ok-count.ensures.bound next
          (λ front some is. c.in_ok-go_on.ensures.kept front some is);
      calls = omega (arith, c.in_ok-count.ensures.counted, c.loop.invariant.calls);
      failures = c.in_ok-count.ensures.failures ∙ c.loop.invariant.failures;
    }
