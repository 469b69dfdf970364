use Rattle.std.proofs.lemmas.Bool.{false≢true}
use Rattle.cue_layers_site.proofs.Fitting.{fits_none, fits_some, if_ok}
use Rattle.cue_layers_site.proofs.conditions.fits_name.Goals as goal

pub returns-in-Some : goal.returns-in-Some
returns-in-Some c =
    if_ok c.fits_layer.result
    (λ fits same. fits_some c.args.value.now c.args.map.now c.args.kind c.args.name.now c.in-Some.layer.now fits c.entries-entries.ensures.is_map c.in-Some.ensures.some.0 c.in-Some.ensures.some.1 same)
    c.fits_layer.ensures

pub returns-in-None : goal.returns-in-None
returns-in-None c = (
  λ t. absurd (false≢true t),
  λ h. absurd (fits_none c.args.value.now c.args.map.now c.args.kind c.args.name.now c.in-None.ensures.none h),
)
