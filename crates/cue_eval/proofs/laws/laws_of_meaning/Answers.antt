use Rattle.cue_scope.proofs.Meanings.{meaning_is}
use Rattle.cue_eval.proofs.Unified as unified
use Rattle.cue_eval.proofs.Once.{closed_once}
use Rattle.cue_eval.proofs.ByPair.{by_pair}
use Rattle.cue_eval.proofs.laws.laws_of_meaning.Goals as goal

pub returns : goal.returns
returns c = record {
  uses = meaning_is;
  unified = unified.unification;
  monotone = unified.monotone;
  split = unified.split_anywhere;
  by_parts = unified.closed_by_parts;
  for_good = unified.closed_for_good;
  once = closed_once;
  scalars = by_pair;
}
