use Rattle.std.proofs.Common.{◌≡◌, ◌++◌, rules}
use Rattle.percent_encoding.specs.Percent.{percent_decode}
use Rattle.cue_service.specs.Requests.{path_of}
use Rattle.cue_layers_site.specs.Requests.{name_prefix}
use Rattle.cue_layers_site.proofs.route.name_in.Goals as goal

pub returns-in_ok-append_to-in-Some : goal.returns-in_ok-append_to-in-Some
returns-in_ok-append_to-in-Some c =
    let spelled = c.in-Some.spelled.now in
    let path : path_of c.args.request.now ≡ name_prefix c.args.kind ++ spelled = search rules in
    let decoded : c.append_to.new.out.items ≡ percent_decode spelled = search rules in
    (spelled, path, decoded)
