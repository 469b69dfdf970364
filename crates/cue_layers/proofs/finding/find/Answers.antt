use Rattle.std.proofs.Common.{rules}
use Rattle.std.proofs.lemmas.Fn.{always_returns_same}
use Rattle.cue_layers.specs.Layers.{key}
use Rattle.cue_layers.proofs.Places.{searched, cmp_with}
use Rattle.cue_layers.proofs.finding.find.Goals as goal

pub returns : goal.returns
returns c =
    let k = key c.args.kind c.args.name.now in
    searched c.args.entries.now k c.binary_search_by.result c.requires c.binary_search_by.ensures.bound
    (c.binary_search_by.ensures.position (cmp_with k) (always_returns_same _ _ _ (λ a r f k. search rules)))
