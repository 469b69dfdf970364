use Rattle.std.proofs.Common.{◌++◌, subst}
use Rattle.cue_codec.specs.Inner.Drafting.{IsFed}
use Rattle.cue_codec.proofs.Fed.{no_rows_no_state}
use Rattle.cue_codec.proofs.state_reader.TakenBytes.more_rows.Goals as goal

pub returns-in-None-clause-taken : goal.returns-in-None-clause-taken
returns-in-None-clause-taken c = (tt, no_rows_no_state c.args.rows.version c.args.rows.count (c.args.rows.bytes ++ c.args.piece.now) c.requires (subst (IsFed c.args.rows c.args.piece.now) c.in-None.is c.in_ok-rows.ensures.fed))
