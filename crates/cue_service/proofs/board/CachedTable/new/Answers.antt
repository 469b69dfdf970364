use Rattle.cue_service.proofs.board.CachedTable.new.Goals as goal

pub invariant_of-result : goal.invariant_of-result
invariant_of-result c = c.none-kept.ensures c.args.table
