use Rattle.std.proofs.Common.{[], map, sym, subst}
use Rattle.std.proofs.lemmas.Bool.{false≢true}
use Rattle.cue_row.specs.Row.{RowRefusesQuestion}
use Rattle.cue_row.specs.Steps.{step_of}
use Rattle.cue_why.specs.Least.{IsLeft}
use Rattle.cue_why.specs.Reported.{IsReported}
use Rattle.cue_why.specs.Sources.{SourcesRefuse}
use Rattle.cue_why.specs.Inner.Findings.{IsReportedAs}
use Rattle.cue_why.specs.Inner.Stacks.{IsTrailOf, Suffice}
use Rattle.cue_why.specs.Inner.Trails.{TrailRefuses}
use Rattle.cue_why.proofs.Calls.{at_some, at_none}
use Rattle.cue_why.proofs.Whole.{view_finding, view_reported, rows_reported, left_make, least_make, label_is}
use Rattle.cue_why.proofs.making.makers.Goals as goal

pub returns-in-None-clause-left : goal.returns-in-None-clause-left
returns-in-None-clause-left c = λ reported.
    let path = map step_of c.args.path.now in
    let all = c.args.sources.items in
    let rows = c.deref.result.now in
    let trail = subst (IsTrailOf path all) (sym c.deref.ensures.value) c.in_ok-stack.ensures.trail in
    let none : Type 0 = ¬ IsReported (TrailRefuses RowRefusesQuestion path rows) path in
    absurd (at_none c.in_ok-at.field-0 none c.in-None.is c.in_ok-at.ensures.none (rows_reported path all rows trail reported))

pub returns-in-None-clause-least : goal.returns-in-None-clause-least
returns-in-None-clause-least c = λ reported.
    let path = map step_of c.args.path.now in
    let all = c.args.sources.items in
    let rows = c.deref.result.now in
    let trail = subst (IsTrailOf path all) (sym c.deref.ensures.value) c.in_ok-stack.ensures.trail in
    let none : Type 0 = ¬ IsReported (TrailRefuses RowRefusesQuestion path rows) path in
    absurd (at_none c.in_ok-at.field-0 none c.in-None.is c.in_ok-at.ensures.none (rows_reported path all rows trail reported))

pub returns-clause-none : goal.returns-clause-none
returns-clause-none c = λ silent.
    let path = map step_of c.args.path.now in
    let all = c.args.sources.items in
    let rows = c.deref.result.now in
    let trail = subst (IsTrailOf path all) (sym c.deref.ensures.value) c.in_ok-stack.ensures.trail in
    let is = at_some c.in_ok-at.field-0 c.in-Some.finding (IsReportedAs (TrailRefuses RowRefusesQuestion path rows) path) c.in-Some.is c.in_ok-at.ensures.some in
    absurd (silent (view_reported path all rows trail is.1))

pub returns-clause-left : goal.returns-clause-left
returns-clause-left c = λ reported.
    let path = map step_of c.args.path.now in
    let all = c.args.sources.items in
    let rows = c.deref.result.now in
    let kept = c.in_ok-reduce_sources-in-Some.field-0.items in
    let trail = subst (IsTrailOf path all) (sym c.deref.ensures.value) c.in_ok-stack.ensures.trail in
    let is = at_some c.in_ok-at.field-0 c.in-Some.finding (IsReportedAs (TrailRefuses RowRefusesQuestion path rows) path) c.in-Some.is c.in_ok-at.ensures.some in
    let passed = subst (λ xs. IsLeft (Suffice c.in-Some.finding path) [] xs kept) c.in_ok-stack.ensures.sources c.in_ok-reduce_sources-in-Some.ensures in
    left_make all kept path c.in-Some.finding (view_finding path all rows trail c.in-Some.finding is) passed

pub returns-clause-least : goal.returns-clause-least
returns-clause-least c = λ reported.
    let path = map step_of c.args.path.now in
    let all = c.args.sources.items in
    let rows = c.deref.result.now in
    let kept = c.in_ok-reduce_sources-in-Some.field-0.items in
    let trail = subst (IsTrailOf path all) (sym c.deref.ensures.value) c.in_ok-stack.ensures.trail in
    let is = at_some c.in_ok-at.field-0 c.in-Some.finding (IsReportedAs (TrailRefuses RowRefusesQuestion path rows) path) c.in-Some.is c.in_ok-at.ensures.some in
    let finding = view_finding path all rows trail c.in-Some.finding is in
    let passed = subst (λ xs. IsLeft (Suffice c.in-Some.finding path) [] xs kept) c.in_ok-stack.ensures.sources c.in_ok-reduce_sources-in-Some.ensures in
    least_make all kept path c.in-Some.finding finding (left_make all kept path c.in-Some.finding finding passed)

pub returns-in-None-clause-label : goal.returns-in-None-clause-label
returns-in-None-clause-label c =
    let path = map step_of c.args.path.now in
    let all = c.args.sources.items in
    let rows = c.deref.result.now in
    let trail = subst (IsTrailOf path all) (sym c.deref.ensures.value) c.in_ok-stack.ensures.trail in
    let none : Type 0 = ¬ IsReported (TrailRefuses RowRefusesQuestion path rows) path in
    (λ t. absurd (false≢true t), λ h. absurd (at_none c.in_ok-at.field-0 none c.in-None.is c.in_ok-at.ensures.none (rows_reported path all rows trail h.0)))

pub returns-clause-label : goal.returns-clause-label
returns-clause-label c =
    let path = map step_of c.args.path.now in
    let all = c.args.sources.items in
    let rows = c.deref.result.now in
    let trail = subst (IsTrailOf path all) (sym c.deref.ensures.value) c.in_ok-stack.ensures.trail in
    let is = at_some c.in_ok-at.field-0 c.in-Some.finding (IsReportedAs (TrailRefuses RowRefusesQuestion path rows) path) c.in-Some.is c.in_ok-at.ensures.some in
    label_is (SourcesRefuse all) path c.in-Some.finding c.is_of_label.result (view_finding path all rows trail c.in-Some.finding is) (view_reported path all rows trail is.1) c.is_of_label.ensures
