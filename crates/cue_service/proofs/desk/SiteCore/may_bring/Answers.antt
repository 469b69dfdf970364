use Rattle.std.proofs.Common.{◌≡◌, ◌+◌, ◌<◌, ℕ, List, [], ◌∷◌, ◌++◌, length, map, take, get_or, Vec, sym, ap, ◌∙◌, subst, arith}
use Rattle.std.proofs.lemmas.List.{take_more, take_all, map_push}
use Rattle.std.specs.declared.alloc.Global.{Global}
use Rattle.cue_replica.specs.Language.{Table}
use Rattle.cue_service.specs.Entries.{piece_of_entry, pieces_of}
use Rattle.cue_service.specs.Pulls.{CoversAll}
use Rattle.cue_service.proofs.Alike.{pieces_append}
use Rattle.cue_service.proofs.Pulls.{covers_none, covers_one_more, was_true}
use Rattle.cue_service.proofs.desk.SiteCore.may_bring.Goals as goal

pub loop-entry-init : goal.loop-entry-init
loop-entry-init c = covers_none _

pub loop-entry-preserved : goal.loop-entry-preserved
loop-entry-preserved c =
    let i = c.loop-entry.entry-index in
    let xs = c.args.entries.now in
    let f : Vec ℕ Global → List ℕ = λ v. v.items in
    let lt : i < length xs = omega arith in
    let is : map f (take (i + 1) xs) ≡ map f (take i xs) ++ c.deref.result.now ∷ [] =
    ap (map f) (take_more xs i c.entry-item.result lt) ∙ map_push f (take i xs) (get_or xs i c.entry-item.result)
    ∙ ap (λ (x : List ℕ). map f (take i xs) ++ x ∷ []) (ap f (sym c.entry-item.is) ∙ sym c.deref.ensures.value) in
    subst (CoversAll c.offer.new.site) (sym (ap pieces_of is ∙ pieces_append (map f (take i xs)) (c.deref.result.now ∷ [])))
    (covers_one_more c.loop-entry.all c.offer.new.site (pieces_of (map f (take i xs))) (piece_of_entry c.deref.result.now)
    c.in_ok-offer.ensures.keeps c.loop-entry.invariant c.in_ok-offer.ensures.brings)

pub returns : goal.returns
returns c = λ none.
    let f : Vec ℕ Global → List ℕ = λ v. v.items in
    subst (λ (t : Table). CoversAll t (pieces_of (map f c.args.entries.now))) (c.same.ensures.0 (was_true _ none) ∙ c.table-2.ensures)
    (subst (λ (l : List (Vec ℕ Global)). CoversAll c.loop-entry.all (pieces_of (map f l))) (take_all c.loop-entry.entry-index c.args.entries.now (omega arith)) c.loop-entry.invariant)
