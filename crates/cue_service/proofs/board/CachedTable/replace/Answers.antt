use Rattle.cue_service.proofs.board.CachedTable.replace.Goals as goal

pub invariant_of-self : goal.invariant_of-self
invariant_of-self c = c.none-kept.ensures c.args.table
