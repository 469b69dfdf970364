use Rattle.std.proofs.Common.{◌+◌, [], ◌∷◌, ◌++◌}
use Rattle.std.proofs.lemmas.Result.{on_err_weaker}
use Rattle.std.specs.Int.{w32, to_be_bytes}
use Rattle.cue_wire.proofs.Exchanges.{extends_through}
use Rattle.cue_wire.proofs.state_reply.add_state.Goals as goal

pub returns-clause-err : goal.returns-clause-err
returns-clause-err c =
    on_err_weaker c.add_rest.result
    (extends_through c.args.out.now.items (to_be_bytes w32 (c.args.len + 1) ++ 0 ∷ []) c.begin.new.out.items c.add_rest.new.out.items c.in_ok-begin.ensures.ok)
    c.add_rest.ensures.err
