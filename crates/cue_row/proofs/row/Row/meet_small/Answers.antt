use Rattle.std.proofs.Common.{IfSome, sym, ap, ◌∙◌, subst}
use Rattle.cue_row.specs.Kept.{row_parts_of}
use Rattle.cue_row.specs.Inner.Kept.{IsMetSmall}
use Rattle.cue_row.proofs.SmallRows.{rows_met}
use Rattle.cue_row.proofs.row.Row.meet_small.Goals as goal

pub returns-in-Some : goal.returns-in-Some
returns-in-Some c =
    let p = c.in-Small-Small in
    rows_met p.small p.other c.in-Some.met p.left p.right c.greater.result c.args.self.now c.args.other.now c.small.result
    (subst (λ found. IfSome found (IsMetSmall p.small p.other)) c.in-Some.is c.in_ok-meet.ensures.met) c.greater.ensures
    (ap row_parts_of (sym p.is-0) ∙ c.self.view_is) (ap row_parts_of (sym p.is-1) ∙ c.other.view_is) (sym c.small.ensures)
