use Rattle.std.proofs.Common.{sym, ◌∙◌, arith}
use Rattle.cue_table.specs.Form.{IsRowKept}
use Rattle.cue_table.proofs.Sides.{at_found}
use Rattle.cue_table.proofs.Sweeping.{rest_reached}
use Rattle.cue_table.proofs.lists.ListSide.is_as_rest.Goals as goal

pub returns-then-from-fixed_from : goal.returns-then-from-fixed_from
returns-then-from-fixed_from g c = λ yes.
    rest_reached (IsRowKept g.R.Narrow.refuses g.R.Narrow.is_value) c.args.self.now.place.now c.args.number c.requires.form (omega arith)

pub returns-else-from-fixed_from : goal.returns-else-from-fixed_from
returns-else-from-fixed_from g c = λ yes. sym (at_found c.args.self.now.place.now c.args.number c.args.self.now c.requires.at) ∙ (c.same_found.ensures.0 yes ∙ c.rest.ensures)
