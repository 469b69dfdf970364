use Rattle.std.proofs.lemmas.Result.{on_ok_weaker}
use Rattle.cue_replica.specs.Language.{language}
use Rattle.cue_layers.proofs.Growing.{grows, grown_map}
use Rattle.cue_layers.proofs.putting.unify.Goals as goal

pub returns-clause-ok : goal.returns-clause-ok
returns-clause-ok c =
    on_ok_weaker c.unify.result (grows c.args.entries.now.items c.index_mut.result.now c.unify.new.self (language.table_refuses c.args.site) c.requires c.index_mut.ensures.value) c.unify.ensures.ok

pub returns-clause-is_map : goal.returns-clause-is_map
returns-clause-is_map c = grown_map c.args.entries.now.items c.index_mut.result.now c.unify.new.self c.requires c.index_mut.ensures.value c.unify.ensures.valid
