use Rattle.std.proofs.Common.{◌-◌}
use Rattle.bench.proofs.sets.+spaced.Given as goal

abbrev pub decreases-spaced : goal.decreases-spaced
decreases-spaced l = l.to - l.from
