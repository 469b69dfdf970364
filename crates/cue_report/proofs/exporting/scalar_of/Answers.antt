use Rattle.serde_json.specs.View.{view}
use Rattle.serde_json.specs.declared.value.Value.{Null}
use Rattle.cue_report.proofs.Documents.{told_one, told_none}
use Rattle.cue_report.proofs.exporting.scalar_of.Goals as goal

pub returns-in-None-clause-picked : goal.returns-in-None-clause-picked
returns-in-None-clause-picked c form = told_none c.args.row.now c.in_ok-pick_scalar.field-0 (view Null) c.in-None.is (c.in_ok-pick_scalar.ensures.none form)

pub returns-in_ok-json_of-in-Some-clause-picked : goal.returns-in_ok-json_of-in-Some-clause-picked
returns-in_ok-json_of-in-Some-clause-picked c form =
    told_one c.args.row.now c.in_ok-pick_scalar.field-0 c.in-Some.scalar (view c.in_ok-json_of-in-Some.field-0) c.in-Some.is (c.in_ok-pick_scalar.ensures.some form) c.in_ok-json_of-in-Some.ensures.json
