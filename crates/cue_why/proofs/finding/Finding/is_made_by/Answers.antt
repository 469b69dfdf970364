use Rattle.std.proofs.Common.{map, ◌∙◌, ap, suc, sym, rules}
use Rattle.std.specs.Prelude.{IsTrue}
use Rattle.cue_row.specs.Row.{RowRefusesQuestion}
use Rattle.cue_row.specs.Steps.{step_of}
use Rattle.cue_why.specs.Inner.Trails.{TrailRefuses}
use Rattle.cue_why.proofs.Demands.{map_length}
use Rattle.cue_why.proofs.RowFacts.{end_row, met_at}
use Rattle.cue_why.proofs.finding.Finding.is_made_by.Goals as goal

pub returns-in-Some : goal.returns-in-Some
returns-in-Some c =
    let path = map step_of c.args.path.now in
    let own = TrailRefuses RowRefusesQuestion path c.args.rows.now in
    let long = c.requires ∙ ap suc (sym (map_length step_of c.args.path.now)) in
    let same = end_row path c.args.rows.now c.in-Some._above.now c.in-Some.row.now c.in-Some.ensures.cases.0 long in
    let asked : IsTrue c.is_demanded.result = search rules in
    let kept : IsTrue c.follows.result = search rules in
    let all = met_at c.args.self own path c.in-Some.row.now same (c.is_demanded.ensures.0 asked) (λ t. c.is_not_allowed.ensures.0 (c.follows.ensures.0 kept t)) in
    (λ t. all.0 (c.is_met_at.ensures.0 t), λ h. c.is_met_at.ensures.1 (all.1 h))
