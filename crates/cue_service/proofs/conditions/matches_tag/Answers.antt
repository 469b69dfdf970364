use Rattle.std.proofs.Common.{rules, ◌≡◌, Some, None, codes}
use Rattle.http.specs.Request.{head_of}
use Rattle.http_header.specs.HeaderMap.{get}
use Rattle.cue_service.specs.Conditions.{NamesStrongTag}
use Rattle.cue_service.proofs.Fields.{has_field, if_field, if_no_field}
use Rattle.cue_service.proofs.conditions.matches_tag.Goals as goal

pub returns-in-Some : goal.returns-in-Some
returns-in-Some c =
    let found : get (head_of c.args.request.now).headers (codes "if-match") ≡ Some c.in-Some.field.now = search rules in
    if_field (codes "if-match") (NamesStrongTag c.args.tag.now) c.args.request.now c.in-Some.field.now c.names_strong_tag.result found
    (has_field (codes "if-match") (NamesStrongTag c.args.tag.now) c.args.request.now c.in-Some.field.now c.as_bytes.result.now c.names_strong_tag.result found c.as_bytes.ensures.value c.names_strong_tag.ensures)

pub returns-in-None : goal.returns-in-None
returns-in-None c =
    let found : get (head_of c.args.request.now).headers (codes "if-match") ≡ None = search rules in
    if_no_field (codes "if-match") (NamesStrongTag c.args.tag.now) c.args.request.now found
