-- Branches that are kept as one.
use Rattle.std.specs.Prelude.{ℕ, ◌+◌}
use Rattle.cue_table.specs.Spans.{Span, field, elements}

-- how many they are
abbrev pub branch_count : Span → ℕ
branch_count (field text) = 1
branch_count (elements first more) = more + 1
