use Rattle.std.proofs.Common.{refl}
use Rattle.cue_table.specs.Form.{IsRowKept}
use Rattle.cue_table.proofs.Finding.{tree_rises}
use Rattle.cue_table.proofs.Sides.{is_at}
use Rattle.cue_table.proofs.lists.ListSide.go_on.Goals as goal

pub look_at_index-self-requires : goal.look_at_index-self-requires
look_at_index-self-requires g c = tree_rises (IsRowKept g.R.Narrow.refuses g.R.Narrow.is_value) c.args.self.now.place.now c.requires.form

pub returns-clause-at : goal.returns-clause-at
returns-clause-at g c = is_at c.args.self.now.place.now c.args.number _ refl c.look_at_index-self.ensures.node c.look_at_index-self.ensures.alike
