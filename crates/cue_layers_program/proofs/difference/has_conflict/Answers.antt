use Rattle.std.proofs.Common.{sym, ◌∙◌}
use Rattle.cue_layers_program.specs.Tries.{is_conflict}
use Rattle.cue_layers_program.proofs.Lines.{any_at}
use Rattle.cue_layers_program.proofs.difference.has_conflict.Goals as goal

pub returns-then-starts_with : goal.returns-then-starts_with
returns-then-starts_with c =
    sym (any_at is_conflict c.args.lines.now c.loop-line.line-index _ c.loop-line-test.true (sym c.starts_with.ensures.value ∙ c.if-starts_with.true))
