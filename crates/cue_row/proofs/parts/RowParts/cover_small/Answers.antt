use Rattle.std.proofs.Common.{sym, subst}
use Rattle.cue_row.specs.Inner.Covers.{CoversRow}
use Rattle.cue_row.specs.Kept.{small_parts}
use Rattle.cue_row.specs.Made.{at_level}
use Rattle.cue_row.proofs.CoveredRows.{covers_struct}
use Rattle.cue_row.proofs.parts.RowParts.cover_small.Goals as goal

pub returns-in-Struct : goal.returns-in-Struct
returns-in-Struct c = λ e a b.
    let none = c.have_no_scalar_and_no_list.ensures e in
    subst (λ small. CoversRow (at_level a c.args.self.now) (small_parts b small)) (sym c.in-Struct.is)
    (covers_struct c.args.self.now a b none.0 none.1 none.2)
