use Rattle.std.proofs.Common.{◌<◌, length}
use Rattle.cue_lattice.specs.Limits.{step_limit}
use Rattle.cue_lattice.specs.Path.{Path}
use Rattle.cue_table.specs.Form.{IsTable}
use Rattle.cue_table.specs.Refuses.{TableRefuses}
use Rattle.language_tests.proofs.tables.many.shallow.Given as goal

-- nothing is refused at the longest paths
abbrev pub invariant-loop-entry : goal.invariant-loop-entry
invariant-loop-entry g l = record {
  form : IsTable g.R.Narrow.refuses g.R.Narrow.is_value l.made;
  short : (path : Path) (question : g.row.R-Question.Denot) → TableRefuses g.R.Narrow.refuses l.made path question → length path < step_limit;
}
