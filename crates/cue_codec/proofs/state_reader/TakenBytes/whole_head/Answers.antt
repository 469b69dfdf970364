use Rattle.std.proofs.Common.{subst, arith}
use Rattle.cue_codec.specs.Decoding.{IsRejected}
use Rattle.cue_codec.proofs.Fed.{other_more, rejected_version, rejected_known, no_head_no_state}
use Rattle.cue_codec.proofs.state_reader.TakenBytes.whole_head.Goals as goal

pub returns-in-Version-clause-taken : goal.returns-in-Version-clause-taken
returns-in-Version-clause-taken c = (tt, other_more c.args.head c.args.piece.now (rejected_version c.args.head (subst (IsRejected c.args.head) c.in-Version.is c.in-Err.ensures.refused)))

pub returns-in_default-clause-taken : goal.returns-in_default-clause-taken
returns-in_default-clause-taken c = (tt, no_head_no_state c.args.head c.args.piece.now (omega (arith, c.requires)) c.in-Err.ensures.begun (rejected_known c.args.head c.in-Err.kind c.in_default.not-Version c.in-Err.ensures.refused))
