use Rattle.std.proofs.Common.{◌∙◌, ap}
use Rattle.cue_syntax.specs.Spots.{spot_after}
use Rattle.cue_syntax.proofs.SpotByTheLastToken.{spot_by_last}
use Rattle.cue_syntax.proofs.spot.find_spot.Goals as goal

pub returns-in-Some : goal.returns-in-Some
returns-in-Some c =
    c.spot_after.ensures ∙ ap (λ inside. spot_after inside c.own_spot.result c.in-Some.last.now.kind) c.find_open.ensures
    ∙ spot_by_last c.args.before.now c.in-Some.earlier.now c.in-Some.last.now c.own_spot.result c.in-Some.ensures.cases.0 c.own_spot.ensures
