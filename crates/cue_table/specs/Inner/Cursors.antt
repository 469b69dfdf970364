-- The branches that are left on a way along them.
use Rattle.std.specs.Prelude.{ℕ, ◌+◌, ◌-◌, ◌^◌, ◌<◌, nat_lt, if◌then◌else◌, List, [], ◌∷◌, ◌++◌}
use Rattle.std.specs.Prelude.{Option, Some, None}
use Rattle.cue_table.specs.Spans.{Span, field, elements}
use Rattle.cue_table.specs.Tree.{Tree}
use Rattle.cue_table.specs.Inner.View.{more_of, run_spans, spans_in}
use Rattle.cue_table.specs.declared.cursor.BranchCursor.{BranchCursor}
use Rattle.cue_table.specs.declared.cursor.Begun.{Begun}

-- elements that were begun
abbrev pub begun_spans : {R Q : Type 0} → Option (Begun R Q) → List (Span × Tree R)
begun_spans None = []
begun_spans (Some b) = (elements b.first (more_of b.first b.more), b.node.now) ∷ []

abbrev pub spans_left : {R Q : Type 0} → BranchCursor R Q → List (Span × Tree R)
spans_left cursor = begun_spans cursor.begun ++ (spans_in cursor.own.now ++ run_spans cursor.runs.now)

-- the indexes have 32 bits
abbrev pub CursorFits : Span → Type 0
CursorFits (field text) = Unit {0}
CursorFits (elements first more) = first + more < 2 ^ 32

-- what a span has behind its first branch and so many others
abbrev pub span_behind : {R : Type 0} → ℕ → Span → Tree R → List (Span × Tree R)
span_behind passed (field text) tree = []
span_behind passed (elements first more) tree =
    if nat_lt passed more then (elements (first + passed + 1) (more - passed - 1), tree) ∷ [] else []
