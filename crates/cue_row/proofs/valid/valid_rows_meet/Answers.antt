use Rattle.cue_row.proofs.MetValid.{met_valid}
use Rattle.cue_row.proofs.valid.valid_rows_meet.Goals as goal

pub returns : goal.returns
returns c a b met h k l same p q = met_valid a b met (record { left = h; right = k; row = l; met = same }) p q
