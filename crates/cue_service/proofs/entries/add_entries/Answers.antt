use Rattle.std.proofs.Common.{◌≡◌, ◌+◌, ◌<◌, ℕ, List, [], ◌∷◌, ◌++◌, length, map, take, get_or, Vec, sym, ap, ◌∙◌, subst, arith}
use Rattle.std.proofs.lemmas.List.{take_more, take_all, map_push}
use Rattle.std.specs.declared.alloc.Global.{Global}
use Rattle.cue_replica.specs.Accepted.{IsOfPieces}
use Rattle.cue_service.specs.Entries.{pieces_of}
use Rattle.cue_service.proofs.Opening.{entry_added}
use Rattle.cue_service.proofs.entries.add_entries.Goals as goal

pub loop-entry-preserved : goal.loop-entry-preserved
loop-entry-preserved c = λ pieces of.
    let i = c.loop-entry.entry-index in
    let xs = c.args.entries.now in
    let f : Vec ℕ Global → List ℕ = λ v. v.items in
    let lt : i < length xs = omega arith in
    let is : map f (take (i + 1) xs) ≡ map f (take i xs) ++ c.deref.result.now ∷ [] =
    ap (map f) (take_more xs i c.entry-item.result lt) ∙ map_push f (take i xs) (get_or xs i c.entry-item.result)
    ∙ ap (λ (x : List ℕ). map f (take i xs) ++ x ∷ []) (ap f (sym c.entry-item.is) ∙ sym c.deref.ensures.value) in
    subst (λ (l : List (List ℕ)). IsOfPieces c.add_entry.new.board (pieces ++ pieces_of l)) (sym is)
    (entry_added c.args.board.now c.loop-entry.board c.add_entry.new.board (map f (take i xs)) c.deref.result.now c.loop-entry.invariant c.in_ok-add_entry.ensures pieces of)

pub returns : goal.returns
returns c = λ pieces of.
    let f : Vec ℕ Global → List ℕ = λ v. v.items in
    subst (λ (l : List (Vec ℕ Global)). IsOfPieces c.loop-entry.board (pieces ++ pieces_of (map f l))) (take_all c.loop-entry.entry-index c.args.entries.now (omega arith)) (c.loop-entry.invariant pieces of)
