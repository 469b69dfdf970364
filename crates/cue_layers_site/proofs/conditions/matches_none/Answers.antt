use Rattle.std.proofs.Common.{codes, rules}
use Rattle.cue_layers_site.specs.Requests.{HasFieldValue}
use Rattle.cue_layers_site.specs.Conditions.{FitsName}
use Rattle.cue_layers_site.proofs.Fitting.{with_field, turned}
use Rattle.cue_layers_site.proofs.conditions.matches_none.Goals as goal

pub returns-in_ok-fits_name-in-Some : goal.returns-in_ok-fits_name-in-Some
returns-in_ok-fits_name-in-Some c =
    let has : HasFieldValue (codes "if-none-match") c.as_bytes.result.now c.args.request.now = search rules in
    with_field c.args.request.now (codes "if-none-match") c.as_bytes.result.now (λ v. FitsName v c.args.map.now c.args.kind c.args.name.now → ⊥) _ has
    (turned c.in_ok-fits_name-in-Some.field-0 c.in_ok-fits_name-in-Some.ensures)
