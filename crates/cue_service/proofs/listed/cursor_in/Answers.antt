use Rattle.std.proofs.Common.{ap, ◌∙◌}
use Rattle.http_uri.specs.Uri.{uri_query}
use Rattle.cue_service.specs.Requests.{query_of}
use Rattle.cue_service.proofs.Asking.{stripped, is_named, none_named}
use Rattle.cue_service.proofs.listed.cursor_in.Goals as goal

pub returns-clause-some : goal.returns-clause-some
returns-clause-some c =
    let q = c.in_ok-query.query.now in
    let x = c.in_ok-strip_prefix.field-0.now in
    is_named c.read.result (query_of c.args.request.now) q x (c.in_ok-query.ensures.value ∙ ap uri_query c.uri.ensures) (stripped q x c.in_ok-strip_prefix.ensures.cases) c.read.ensures.some

pub returns-clause-none : goal.returns-clause-none
returns-clause-none c =
    let q = c.in_ok-query.query.now in
    let x = c.in_ok-strip_prefix.field-0.now in
    none_named c.read.result (query_of c.args.request.now) q x (c.in_ok-query.ensures.value ∙ ap uri_query c.uri.ensures) (stripped q x c.in_ok-strip_prefix.ensures.cases) c.read.ensures.written
