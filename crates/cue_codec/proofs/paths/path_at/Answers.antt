use Rattle.std.proofs.Common.{◌++◌, arith, ap}
use Rattle.std.proofs.lemmas.Result.{err_from_is_err_and}
use Rattle.std.specs.List.{flat_map}
use Rattle.cue_codec.specs.Entry.{path_of_place}
use Rattle.cue_codec.specs.Inner.Reading.{AreSo}
use Rattle.cue_codec.specs.Parts.{step_bytes}
use Rattle.cue_codec.specs.StateRow.{IsStateStep}
use Rattle.cue_codec.proofs.Codes.{begins_more, tag_more, unread_so}
use Rattle.cue_codec.proofs.StatePaths.{steps_in, path_empty, path_rest, path_long, path_many, path_found}
use Rattle.cue_codec.proofs.paths.path_at.Goals as goal

pub returns-in_default-clause-refused : goal.returns-in_default-clause-refused
returns-in_default-clause-refused c = path_empty c.args.version c.args.bytes.now c.in_default.ensures.cases

pub returns-in_err-slots-clause-refused : goal.returns-in_err-slots-clause-refused
returns-in_err-slots-clause-refused c =
    let p = err_from_is_err_and c.from_residual.result c.from_residual.ensures.1 in
    rw (p.1, p.2) (unread_so c.in_err-slots.field-0.0 _ _ c.in-Some.rest.now c.args.bytes.now (λ more. path_rest c.args.version (c.args.bytes.now ++ more) (c.in-Some.rest.now ++ more) c.in-Some.count.now (tag_more c.args.bytes.now c.in-Some.rest.now c.in-Some.count.now more c.in-Some.ensures.cases.0)) c.in_err-slots.ensures.refused)

pub returns-in_default-new-clause-refused : goal.returns-in_default-new-clause-refused
returns-in_default-new-clause-refused c = λ more.
    path_long c.args.version (c.args.bytes.now ++ more) (c.in-Some.rest.now ++ more) (c.in_ok-slots.rest.now ++ more) c.in-Some.count.now c.in_ok-slots.slots.items (tag_more c.args.bytes.now c.in-Some.rest.now c.in-Some.count.now more c.in-Some.ensures.cases.0)
    (begins_more (AreSo (IsStateStep c.args.version) c.in-Some.count.now) (flat_map (step_bytes c.args.version)) (steps_in c.in_ok-slots.slots.items) c.in-Some.rest.now c.in_ok-slots.rest.now more c.in_ok-slots.ensures.ok) c.in_default-new.ensures.none

pub returns-then-asked-gt-STEP_LIMIT-clause-refused : goal.returns-then-asked-gt-STEP_LIMIT-clause-refused
returns-then-asked-gt-STEP_LIMIT-clause-refused c = λ more.
    path_many c.args.version (c.args.bytes.now ++ more) (c.in-Some.rest.now ++ more) c.in-Some.count.now (tag_more c.args.bytes.now c.in-Some.rest.now c.in-Some.count.now more c.in-Some.ensures.cases.0) (omega (arith, c.if-asked-gt-STEP_LIMIT.true))

pub returns-clause-ok : goal.returns-clause-ok
returns-clause-ok c =
    path_found c.args.version c.args.bytes.now c.in-Some.rest.now c.in_ok-slots.rest.now c.in-Some.count.now c.in_ok-slots.slots.items (path_of_place c.in-Some-new.place) c.in-Some.ensures.cases.0 c.in_ok-slots.ensures.ok (ap path_of_place c.in-Some-new.ensures.some) (omega (arith, c.if-asked-gt-STEP_LIMIT.false))
