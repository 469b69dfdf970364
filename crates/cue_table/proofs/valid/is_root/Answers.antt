use Rattle.cue_row.specs.declared.kind.RowKind.TheVariants.{Struct}
use Rattle.cue_table.proofs.valid.is_root.Goals as goal

pub returns-in-None : goal.returns-in-None
returns-in-None c = (λ no. absurd (cc), λ h. absurd (c.in-None.ensures.none Struct h.0.0))
