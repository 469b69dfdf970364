use Rattle.std.proofs.Common.{refl}
use Rattle.cue_codec.proofs.rows.list_at.Goals as goal

pub returns-clause-ok : goal.returns-clause-ok
returns-clause-ok c = record { item = (c.in_ok-least.least, c.in_ok-least.most, c.in_ok-least.fixed); says = c.in-Ok.ensures; fixed_is = refl; begins = c.in_ok-least.ensures.ok }
