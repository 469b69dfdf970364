use Rattle.std.proofs.Common.{rules, ◌≡◌, Some, None, codes}
use Rattle.http.specs.Request.{head_of}
use Rattle.http_header.specs.HeaderMap.{get}
use Rattle.cue_service.specs.Conditions.{NamesTag}
use Rattle.cue_service.proofs.Fields.{has_field, no_field}
use Rattle.cue_service.proofs.conditions.has_tag.Goals as goal

pub returns-in-Some : goal.returns-in-Some
returns-in-Some c =
    let found : get (head_of c.args.request.now).headers (codes "if-none-match") ≡ Some c.in-Some.field.now = search rules in
    has_field (codes "if-none-match") (NamesTag c.args.tag.now) c.args.request.now c.in-Some.field.now c.as_bytes.result.now c.names_tag.result found c.as_bytes.ensures.value c.names_tag.ensures

pub returns-in-None : goal.returns-in-None
returns-in-None c =
    let found : get (head_of c.args.request.now).headers (codes "if-none-match") ≡ None = search rules in
    no_field (codes "if-none-match") (NamesTag c.args.tag.now) c.args.request.now found
