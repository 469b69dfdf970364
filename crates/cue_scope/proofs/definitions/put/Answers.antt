use Rattle.std.proofs.lemmas.Map.Text.{hash_map_updates_str}
use Rattle.cue_scope.proofs.definitions.put.Goals as goal

pub returns-in-Ok-clause-put : goal.returns-in-Ok-clause-put
returns-in-Ok-clause-put c = λ other. hash_map_updates_str c.args.name.now c.args.numbers.now c.insert.new.self _ c.in-Ok.ensures.updates other
