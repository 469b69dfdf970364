use Rattle.std.proofs.Common.{sym}
use Rattle.cue_table.proofs.Validity.{valid_walk}
use Rattle.cue_table.proofs.ValidWalks.{valid_end}
use Rattle.cue_table.proofs.valid.Table+Row.is_valid.Goals as goal

pub returns-in-None : goal.returns-in-None
returns-in-None c =
    let end = valid_end c.root-root.result (sym c.in-None.ensures.row) in
    rw (← c.root-root.ensures.branch) (λ yes. end.0 (c.is_end.ensures.0 yes), λ h. c.is_end.ensures.1 (end.1 h))

pub returns-then-is_root : goal.returns-then-is_root
returns-then-is_root c =
    let walk = valid_walk c.root-root.result c.in-Some.row.now (rw c.root-root.ensures.branch c.root-root.ensures.form) (rw c.root-root.ensures.branch c.root-root.ensures.depth) (sym c.in-Some.ensures.row) in
    let top = c.is_root.ensures.0 (c.if-is_root.true) in
    rw (← c.root-root.ensures.branch) (λ yes. walk.0 (top, c.is_sound.ensures.0 yes), λ h. c.is_sound.ensures.1 (walk.1 h).1)
