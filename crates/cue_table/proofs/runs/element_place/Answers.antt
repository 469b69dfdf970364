use Rattle.cue_lattice.specs.Path.{index}
use Rattle.cue_table.specs.Inner.Place.{HasAtIndex}
use Rattle.cue_table.proofs.Finding.{place_known}
use Rattle.cue_table.proofs.runs.element_place.Goals as goal

pub returns-then-is_at_index : goal.returns-then-is_at_index
returns-then-is_at_index g c =
    let here : HasAtIndex c.args.children.now c.args.number = c.is_at_index.ensures c.if-is_at_index.true in
    place_known c.args.children.now (index c.args.number) c.args.number c.requires here.in_range here.at_step
