use Rattle.std.proofs.Common.{[], sym, subst, ◌∙◌}
use Rattle.cue_row.specs.Row.{RefusesAsked}
use Rattle.cue_table.specs.Meet.{IsAdded}
use Rattle.cue_places.specs.Places.{IsRootAt}
use Rattle.cue_places.proofs.Roots.{loose_root, bare_root}
use Rattle.cue_places.proofs.Seen.{Told}
use Rattle.cue_places.proofs.root.as_root.Goals as goal

pub returns-in-None : goal.returns-in-None
returns-in-None c =
    let table = c.in_ok-table.table in
    let new = c.take_row.new.self in
    subst (λ t. IsRootAt (Told t) [] (Told new)) c.in_ok-table.ensures (bare_root table new (sym c.take_row.ensures.row ∙ c.in-None.is) c.take_row.ensures.others)

pub returns-in_ok-meet_row-in-Some : goal.returns-in_ok-meet_row-in-Some
returns-in_ok-meet_row-in-Some c =
    let table = c.in_ok-table.table in
    let new = c.meet_row.new.self in
    let old = c.take_row.new.self in
    let added = subst (λ row. IsAdded RefusesAsked old [] row new) c.at_level.ensures c.in_ok-meet_row-in-Some.ensures.ok in
    subst (λ t. IsRootAt (Told t) [] (Told new)) c.in_ok-table.ensures (loose_root table old new c.in-Some.row (sym c.take_row.ensures.row ∙ c.in-Some.is) c.take_row.ensures.others added)
