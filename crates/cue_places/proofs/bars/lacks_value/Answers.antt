use Rattle.std.proofs.Common.{sym, ◌∙◌}
use Rattle.cue_report.proofs.Empty.{lacks_scalar}
use Rattle.cue_places.proofs.bars.lacks_value.Goals as goal

pub returns-then-not-struct_ok : goal.returns-then-not-struct_ok
returns-then-not-struct_ok c =
    lacks_scalar c.args.row.now c.has_no_scalar.result c.requires.value (sym c.list_ok.ensures ∙ c.if-list_ok.false) (sym c.struct_ok.ensures ∙ c.if-not-struct_ok.true) c.has_no_scalar.ensures
