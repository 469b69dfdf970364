use Rattle.std.proofs.Common.{map, suc, sym, ap, ◌∙◌, rules}
use Rattle.std.specs.Prelude.{IsTrue}
use Rattle.cue_row.specs.Row.{RowRefusesQuestion}
use Rattle.cue_row.specs.Steps.{step_of}
use Rattle.cue_why.specs.Inner.Findings.{IsFoundAt, IsNothingAt, IsReportedAs}
use Rattle.cue_why.specs.Inner.Trails.{TrailRefuses}
use Rattle.cue_why.specs.Reported.{IsReported}
use Rattle.cue_why.proofs.Calls.{found_as, nothing_as}
use Rattle.cue_why.proofs.Demands.{map_length}
use Rattle.cue_why.proofs.Reports.{found_is, nothing_is}
use Rattle.cue_why.proofs.RowFacts.{end_row}
use Rattle.cue_why.proofs.finding.Finding.at.Goals as goal

pub returns-in-Some-clause-some : goal.returns-in-Some-clause-some
returns-in-Some-clause-some c =
    let path = map step_of c.args.path.now in
    let view = TrailRefuses RowRefusesQuestion path c.args.rows.now in
    let row = c.in-Some.row.now in
    let barred = c.is_not_allowed.result in
    let long = c.requires ∙ ap suc (sym (map_length step_of c.args.path.now)) in
    let same = end_row path c.args.rows.now c.in-Some._above.now row c.in-Some.ensures.cases.0 long in
    let asked : IsTrue c.is_demanded.result = search rules in
    found_as c.finding_here.result (IsFoundAt row barred) (IsReportedAs view path)
    (λ finding h. found_is view path row barred same (c.is_demanded.ensures.0 asked) c.is_not_allowed.ensures h.0 finding h.1) c.finding_here.ensures.some

pub returns-in-Some-clause-none : goal.returns-in-Some-clause-none
returns-in-Some-clause-none c =
    let path = map step_of c.args.path.now in
    let view = TrailRefuses RowRefusesQuestion path c.args.rows.now in
    let row = c.in-Some.row.now in
    let barred = c.is_not_allowed.result in
    let long = c.requires ∙ ap suc (sym (map_length step_of c.args.path.now)) in
    let same = end_row path c.args.rows.now c.in-Some._above.now row c.in-Some.ensures.cases.0 long in
    let asked : IsTrue c.is_demanded.result = search rules in
    let none : Type 0 = ¬ IsReported view path in
    nothing_as c.finding_here.result (IsNothingAt row barred) none
    (λ h. nothing_is view path row barred same (c.is_demanded.ensures.0 asked) c.is_not_allowed.ensures h.0 h.1 h.2 h.3) c.finding_here.ensures.none
