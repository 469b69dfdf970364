use Rattle.std.proofs.Common.{sym, ◌∙◌}
use Rattle.cue_places.proofs.Rows.{no_kind_is}
use Rattle.cue_places.proofs.bars.is_of_no_kind.Goals as goal

pub returns : goal.returns
returns c =
    no_kind_is c.args.row.now c.has_no_scalar.result c.known.ensures (sym c.list_ok.ensures ∙ c.if-list_ok.false) (sym c.struct_ok.ensures ∙ c.if-struct_ok.false) c.has_no_scalar.ensures
