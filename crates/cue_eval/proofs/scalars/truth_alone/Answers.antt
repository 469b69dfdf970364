use Rattle.std.proofs.Common.{◌≡◌, Bool, false, true, not, refl}
use Rattle.cue_eval.specs.Sets as sets
use Rattle.cue_eval.proofs.scalars.truth_alone.Goals as goal

no_is : (t : Bool) → not t ≡ sets.same_truth t false
no_is true = refl
no_is false = refl

yes_is : (t : Bool) → t ≡ sets.same_truth t true
yes_is true = refl
yes_is false = refl

pub returns : goal.returns
returns c = c.of_truths.ensures (sets.same_truth c.args.truth) (no_is c.args.truth) (yes_is c.args.truth)
