use Rattle.cue_service.proofs.board.CachedTable.unify.Goals as goal

pub invariant_of-self-2 : goal.invariant_of-self-2
invariant_of-self-2 c = c.none-kept.ensures c.unify.new.self
