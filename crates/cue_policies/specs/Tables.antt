-- The view of tables.
use Rattle.std.specs.Prelude.{List, [], ◌∷◌}
use Rattle.cue_lattice.specs.Question.{Refusals}
use Rattle.cue_row.specs.Row.{RowRefusesQuestion}
use Rattle.cue_row.specs.declared.parts.RowParts.{RowParts as Row}
use Rattle.cue_table.specs.Refuses.{TableRefuses}
use Rattle.cue_table.specs.Tree.{Tree}
use Rattle.cue_policies.specs.View.{ViewedPart, ViewRefuses}
use Rattle.cue_policies.specs.declared.kind.LayerKind.{LayerKind}
use Rattle.cue_policies.specs.declared.kind.LayerKind.TheVariants.{Layer, Policy}

-- a layer or a policy with this table
abbrev pub table_part : LayerKind × Tree Row → ViewedPart
table_part part = record { kind = part.0; refuses = TableRefuses RowRefusesQuestion part.1 }

-- what the view of such layers and policies refuses
abbrev pub TablesRefuse : List (LayerKind × Tree Row) → Refusals
TablesRefuse = ViewRefuses table_part

-- and that of one table for all layers proper and one for all policies
abbrev pub ViewOfTwo : Tree Row → Tree Row → Refusals
ViewOfTwo layers policies = TablesRefuse ((Layer, layers) ∷ (Policy, policies) ∷ [])
