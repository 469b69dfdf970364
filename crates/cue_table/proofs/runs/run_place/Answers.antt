use Rattle.std.proofs.Common.{rules}
use Rattle.std.proofs.lemmas.Fn.{always_returns_same}
use Rattle.cue_table.specs.Inner.Alike.{run_cmp}
use Rattle.cue_table.proofs.RunPlaces.{run_searched}
use Rattle.cue_table.proofs.runs.run_place.Goals as goal

pub returns : goal.returns
returns g c =
    run_searched c.args.runs.now c.args.number c.binary_search_by.result c.requires c.binary_search_by.ensures.bound
    (c.binary_search_by.ensures.position (run_cmp c.args.number) (always_returns_same _ _ _ (λ a r f k. search rules)))
