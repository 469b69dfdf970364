use Rattle.std.proofs.Common.{arith, refl, ⊎_elim}
use Rattle.std.proofs.lemmas.Bool.{false≢true}
use Rattle.cue_sets.proofs.Neighbours.{ascending_from_neighbours, not_ascending}
use Rattle.cue_sets.proofs.texts.ascends.Goals as goal

pub returns : goal.returns
returns c = (λ h. ascending_from_neighbours c.args.texts.now (λ k d l. c.loop-index.invariant k d (omega arith)), λ a. refl)

pub returns-in-Equal : goal.returns-in-Equal
returns-in-Equal c = (
  λ h. absurd (false≢true h),
  λ a. absurd (not_ascending c.args.texts.now c.loop-index.index c.index-texts-index.result c.index-texts-index-in-loop-index.result (omega arith) (omega arith) c.index-texts-index.is c.index-texts-index-in-loop-index.is (λ less. ⊎_elim (λ e. let so = c.compare.ensures in cc) (λ e. let so = c.compare.ensures in cc) c.in-Equal.is) a),
)
