use Rattle.std.proofs.Common.{◌<◌}
use Rattle.std.proofs.lemmas.List.Elements.{All-push}
use Rattle.cue_lattice.specs.Limits.{step_limit}
use Rattle.cue_table.specs.Depth.{tree_depth}
use Rattle.language_tests.proofs.tables.many.hung.Goals as goal

pub loop-given-preserved : goal.loop-given-preserved
loop-given-preserved g c =
    rw c.in_ok-push.ensures.items (All-push (λ one. tree_depth one.1 < step_limit) c.loop-given.tables.items (c.in_ok-copy.field-0, c.in_ok-shallow.field-0) c.loop-given.invariant c.in_ok-shallow.ensures)
