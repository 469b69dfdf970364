use Rattle.std.proofs.Common.{◌++◌}
use Rattle.std.proofs.lemmas.Result.{err_from_is_err_and}
use Rattle.cue_codec.specs.Entry.{path_of_place}
use Rattle.cue_codec.specs.Parts.{path_bytes}
use Rattle.cue_codec.specs.StateRow.{IsStatePath}
use Rattle.cue_codec.proofs.Codes.{begins_more, tag_more, unread_so}
use Rattle.cue_codec.proofs.StateRows.{row_path, row_cut, row_level, row_parts, row_found}
use Rattle.cue_codec.proofs.row_reader.row_at.Goals as goal

pub returns-in_err-place-clause-refused : goal.returns-in_err-place-clause-refused
returns-in_err-place-clause-refused c =
    let p = err_from_is_err_and c.from_residual.result c.from_residual.ensures.1 in
    rw (p.1, p.2) (unread_so c.in_err-place.field-0.0 _ _ c.args.bytes.now c.args.bytes.now (λ more. row_path c.args.version (c.args.bytes.now ++ more)) c.in_err-place.ensures.refused)

pub returns-in_default-clause-refused : goal.returns-in_default-clause-refused
returns-in_default-clause-refused c = row_cut c.args.version c.args.bytes.now c.in_ok-place.behind.now (path_of_place c.in_ok-place.place) c.in_ok-place.ensures.ok c.in_default.ensures.cases

pub returns-in_default-from_number-clause-refused : goal.returns-in_default-from_number-clause-refused
returns-in_default-from_number-clause-refused c = λ more.
    row_level c.args.version (c.args.bytes.now ++ more) (c.in_ok-place.behind.now ++ more) (c.in-Some.rest.now ++ more) (path_of_place c.in_ok-place.place) c.in-Some.number.now (begins_more (IsStatePath c.args.version) (path_bytes c.args.version) (path_of_place c.in_ok-place.place) c.args.bytes.now c.in_ok-place.behind.now more c.in_ok-place.ensures.ok)
    (tag_more c.in_ok-place.behind.now c.in-Some.rest.now c.in-Some.number.now more c.in-Some.ensures.cases.0) c.in_default-from_number.ensures.none

pub returns-in_err-row-clause-refused : goal.returns-in_err-row-clause-refused
returns-in_err-row-clause-refused c =
    let p = err_from_is_err_and c.from_residual-in_err-row.result c.from_residual-in_err-row.ensures.1 in
    rw (p.1, p.2) (unread_so c.in_err-row.field-0.0 _ _ c.in-Some.rest.now c.args.bytes.now
    (λ more. row_parts c.args.version (c.args.bytes.now ++ more) (c.in_ok-place.behind.now ++ more) (c.in-Some.rest.now ++ more) (path_of_place c.in_ok-place.place) c.in-Some.number.now (begins_more (IsStatePath c.args.version) (path_bytes c.args.version) (path_of_place c.in_ok-place.place) c.args.bytes.now c.in_ok-place.behind.now more c.in_ok-place.ensures.ok)
    (tag_more c.in_ok-place.behind.now c.in-Some.rest.now c.in-Some.number.now more c.in-Some.ensures.cases.0)) c.in_err-row.ensures.refused)

pub returns-clause-ok : goal.returns-clause-ok
returns-clause-ok c =
    row_found c.args.version c.args.bytes.now c.in_ok-place.behind.now c.in-Some.rest.now c.in_ok-row.rest.now (path_of_place c.in_ok-place.place) c.in-Some.number.now c.in-Some-from_number.level c.in_ok-row.row c.in_ok-row.fixed c.in_ok-place.ensures.ok c.in-Some.ensures.cases.0 c.in-Some-from_number.ensures.some c.in_ok-row.ensures.ok
