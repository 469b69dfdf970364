use Rattle.std.proofs.Common.{ℕ, List, [], map, Vec, sym, subst}
use Rattle.std.specs.declared.alloc.Global.{Global}
use Rattle.cue_replica.specs.Accepted.{IsOfPieces}
use Rattle.cue_replica.specs.Language.{Table}
use Rattle.cue_replica.proofs.Accepted.{of_no_piece}
use Rattle.cue_service.specs.Entries.{pieces_of}
use Rattle.cue_service.proofs.Alike.{pieces_append}
use Rattle.cue_service.proofs.start.table_of.Goals as goal

pub returns : goal.returns
returns c =
    let f : Vec ℕ Global → List ℕ = λ v. v.items in
    let spare = map f c.args.spare.now in
    let first = c.in_ok-add_entries.ensures [] (subst (λ (t : Table). IsOfPieces t []) (sym c.new-table.ensures) of_no_piece) in
    subst (IsOfPieces c.add_entries-2.new.board) (sym (pieces_append spare (map f c.args.growing.now)))
    (c.in_ok-add_entries-2.ensures (pieces_of spare) first)
