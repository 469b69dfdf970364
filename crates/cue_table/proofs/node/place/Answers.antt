use Rattle.std.proofs.Common.{rules}
use Rattle.std.proofs.lemmas.Fn.{always_returns_same}
use Rattle.cue_lattice.specs.Path.{step_cmp}
use Rattle.cue_row.specs.Steps.{step_of}
use Rattle.cue_table.proofs.Finding.{place_searched}
use Rattle.cue_table.proofs.node.place.Goals as goal

pub returns : goal.returns
returns g c =
    place_searched c.args.children.now (step_of c.args.step.now) c.binary_search_by.result c.requires c.binary_search_by.ensures.bound
    (c.binary_search_by.ensures.position (λ child. step_cmp (step_of child.step) (step_of c.args.step.now)) (always_returns_same _ _ _ (λ a r f k. search rules)))
