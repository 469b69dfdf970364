use Rattle.std.proofs.Common.{◌∙◌, ◌-◌, [], take, sym, arith}
use Rattle.cue_syntax.specs.Inner.Backwards.{open_from}
use Rattle.cue_syntax.proofs.SpotByTheLastToken.{seen_last}
use Rattle.cue_syntax.proofs.spot.find_open.Goals as goal

pub returns-in-Open : goal.returns-in-Open
returns-in-Open c =
    sym (c.in-Open.ensures.tells (open_from [] (take (c.tokens.left - 1) c.args.before.now)))
    ∙ sym (seen_last c.tokens.back c.args.before.now (c.tokens.left - 1) c.tokens.left c.index-before-left.result (omega arith) (omega arith))
    ∙ c.tokens.invariant.sees

pub tokens-preserved : goal.tokens-preserved
tokens-preserved c = record {
  few = omega (arith, c.in-Further.ensures.few);
  sees =
      sym (c.in-Further.ensures.tells (open_from [] (take (c.tokens.left - 1) c.args.before.now)))
      ∙ sym (seen_last c.tokens.back c.args.before.now (c.tokens.left - 1) c.tokens.left c.index-before-left.result (omega arith) (omega arith))
      ∙ c.tokens.invariant.sees;
}
