use Rattle.std.proofs.Common.{⊎_elim}
use Rattle.cue_row.specs.declared.kind.RowKind.TheVariants.{Nothing}
use Rattle.cue_table.proofs.valid.is_kind.Goals as goal

pub returns-in-None : goal.returns-in-None
returns-in-None c = (
  λ no. absurd (cc),
  λ h. absurd (⊎_elim (c.in-None.ensures.none c.args.kind) (c.in-None.ensures.none Nothing) h),
)
