use Rattle.std.proofs.Common.{codes, rules}
use Rattle.cue_layers_site.specs.Requests.{HasFieldValue}
use Rattle.cue_layers_site.specs.Conditions.{FitsName}
use Rattle.cue_layers_site.proofs.Fitting.{if_ok, with_field}
use Rattle.cue_layers_site.proofs.conditions.matches.Goals as goal

pub returns-in-Some : goal.returns-in-Some
returns-in-Some c =
    let has : HasFieldValue (codes "if-match") c.as_bytes.result.now c.args.request.now = search rules in
    if_ok c.fits_name.result
    (λ fits same. with_field c.args.request.now (codes "if-match") c.as_bytes.result.now (λ v. FitsName v c.args.map.now c.args.kind c.args.name.now) fits has same)
    c.fits_name.ensures
