use Rattle.cue_layers_site.proofs.conditions.is_met.Goals as goal

pub returns-then-fits : goal.returns-then-fits
returns-then-fits c = (
  λ t. record { match = c.in_ok-fits.ensures.0 c.if-fits.true; none = c.in_ok-differs.ensures.0 t },
  λ met. c.in_ok-differs.ensures.1 met.none,
)
