use Rattle.std.proofs.Common.{refl}
use Rattle.cue_table.specs.Form.{IsRowKept}
use Rattle.cue_table.proofs.Finding.{tree_rises}
use Rattle.cue_table.proofs.Sides.{is_at}
use Rattle.cue_table.proofs.lists.ListSide.new.Goals as goal

pub look_at_index-found-requires : goal.look_at_index-found-requires
look_at_index-found-requires g c = tree_rises (IsRowKept g.R.Narrow.refuses g.R.Narrow.is_value) c.args.place.now c.requires

pub returns : goal.returns
returns g c = is_at c.args.place.now 0 _ refl c.look_at_index-found.ensures.node c.look_at_index-found.ensures.alike
