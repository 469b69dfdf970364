use Rattle.std.proofs.Common.{sym, ◌∙◌, subst}
use Rattle.cue_scalars.specs.Scalars.{IsScalarSet}
use Rattle.cue_row.specs.Kinds.{IsFullSet}
use Rattle.cue_row.proofs.SmallRows.{all_of_anything, full_of_free}
use Rattle.cue_row.proofs.scalars.Scalars.is_full.Goals as goal

pub returns : goal.returns
returns c = (
  λ e. subst IsFullSet (sym (c.same.ensures.0 e ∙ c.all.ensures)) all_of_anything,
  λ full. c.same.ensures.1 (full_of_free c.args.self.now (subst IsScalarSet c.self.view_is c.self.invariant) full ∙ sym c.all.ensures),
)
