use Rattle.std.proofs.Common.{◌≡◌, codes}
use Rattle.cue_owners.proofs.Fitting.{by_front, no}
use Rattle.cue_owners.proofs.patterns.fits.Goals as goal

pub returns-in-Some : goal.returns-in-Some
returns-in-Some c =
    by_front c.args.pattern.now c.args.target.now c.in-Some.front.now c.is_below.result (no (c.args.pattern.now ≡ codes "*") c.is_text.result c.if-is_text.false c.is_text.ensures) (no (c.args.pattern.now ≡ c.args.target.now) c.is_text-else-is_text.result c.if-is_text-2.false c.is_text-else-is_text.ensures) c.in-Some.ensures c.is_below.ensures
