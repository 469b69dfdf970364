use Rattle.std.proofs.Common.{◌<◌, ◌≤◌, ◌^◌, arith}
use Rattle.std.proofs.lemmas.List.Elements.{All-push}
use Rattle.cue_lattice.specs.Limits.{step_limit}
use Rattle.cue_table.specs.Depth.{tree_depth}
use Rattle.language_tests.proofs.tables.many.listed.Goals as goal

pub loop-given-preserved : goal.loop-given-preserved
loop-given-preserved g c = record {
  few = rw c.in_ok-push.ensures.items (All-push (λ one. one.0 ≤ 2 ^ 32) c.loop-given.tables.items (c.from.result, c.in_ok-shallow.field-0) c.loop-given.invariant.few (omega (arith, c.from.ensures, c.start.type_inv)));
  deep = rw c.in_ok-push.ensures.items (All-push (λ one. tree_depth one.1 < step_limit) c.loop-given.tables.items (c.from.result, c.in_ok-shallow.field-0) c.loop-given.invariant.deep c.in_ok-shallow.ensures);
}
