-- What a table refuses one step below a place.
use Rattle.std.proofs.Common.{◌≡◌, Option, Some, None, ap}
use Rattle.std.specs.Option.{option_and_then}
use Rattle.cue_lattice.specs.Path.{Step, Path}
use Rattle.cue_lattice.specs.Question.{Question, Refusals}
use Rattle.cue_report.specs.Export.{refused_below}
use Rattle.cue_row.specs.Row as rows
use Rattle.cue_row.specs.declared.parts.RowParts.{RowParts as Row}
use Rattle.cue_table.specs.Refuses.{RowRefuses, TableRefuses}
use Rattle.cue_table.specs.Tree.{Tree, row_of, branch_at, step_into}

abbrev pub Told : Tree Row → Refusals
Told = TableRefuses rows.RowRefusesQuestion

-- what is refused from a branch on, where there is one
abbrev pub FoundRefuses : Option (Tree Row) → Refusals
FoundRefuses found path = RowRefuses rows.RowRefusesQuestion (option_and_then row_of (option_and_then (λ branch. branch_at branch path) found))

abbrev pub Nothing : Refusals
Nothing path question = ⊥

pub below_found : (tree next : Tree Row) (step : Step) → step_into tree step ≡ Some next → refused_below (Told tree) step ≡ Told next
below_found tree next step e = ap FoundRefuses e

pub below_none : (tree : Tree Row) (step : Step) → step_into tree step ≡ None → refused_below (Told tree) step ≡ Nothing
below_none tree step e = ap FoundRefuses e
