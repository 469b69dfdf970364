use Rattle.cue_eval.proofs.Own.{own_or_used}
use Rattle.cue_eval.proofs.Adding.{used_are_closed, closed_by_own}
use Rattle.cue_eval.proofs.laws.laws_of_closing.Goals as goal

pub returns : goal.returns
returns c = record { written = own_or_used; used = used_are_closed; closed = closed_by_own }
