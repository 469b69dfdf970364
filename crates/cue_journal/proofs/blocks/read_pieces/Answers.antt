use Rattle.std.proofs.Common.{◌++◌, [], ◌∷◌, List, ℕ, map, ap, ◌∙◌, sym, subst}
use Rattle.std.proofs.lemmas.List.{map_push}
use Rattle.cue_journal.proofs.Reading.{IsRead, read_more}
use Rattle.cue_journal.proofs.blocks.read_pieces.Goals as goal

pub loop-piece-preserved : goal.loop-piece-preserved
loop-piece-preserved c =
    let pieces = map (λ v. v.items) c.loop-piece.pieces.items in
    let more = ap (map (λ v. v.items)) c.in_ok-push.ensures.items ∙ map_push (λ v. v.items) c.loop-piece.pieces.items c.in_ok-from_slice.field-0 ∙ ap (λ (x : List ℕ). pieces ++ x ∷ []) c.in_ok-from_slice.ensures.items in
    subst (IsRead c.args.bytes.now c.in-Some.after.now) (sym more)
    (read_more c.args.bytes.now c.loop-piece.rest.now pieces (c.in-Some.piece.now, c.in-Some.after.now) c.loop-piece.invariant c.in-Some.ensures)
