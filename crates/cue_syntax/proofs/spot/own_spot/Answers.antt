use Rattle.std.proofs.Common.{subst, sym, ◌↔◌, None}
use Rattle.cue_syntax.specs.declared.spot.Position.TheVariants as spots
use Rattle.cue_syntax.specs.Spots.{spot_of}
use Rattle.cue_syntax.specs.Inner.Backwards.{IsCloseName}
use Rattle.cue_syntax.proofs.SpotByTheLastToken.{close_name_last}
use Rattle.cue_syntax.proofs.spot.own_spot.Goals as goal

pub returns-in-Some : goal.returns-in-Some
returns-in-Some c =
    subst (λ spot. IsCloseName spot ↔ IsCloseName (spot_of c.args.before.now)) (sym c.spot_after.ensures)
    (close_name_last c.args.before.now c.in-Some.field-0-1.now c.in-Some.last.now None spots.Other c.in-Some.ensures.cases.0)
