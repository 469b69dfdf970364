use Rattle.std.proofs.Common.{◌≡◌, ◌+◌, ◌<◌, ℕ, List, [], ◌∷◌, ◌++◌, length, map, take, get_or, Vec, sym, ap, ◌∙◌, subst, arith}
use Rattle.std.proofs.lemmas.Bool.{and_parts}
use Rattle.std.proofs.lemmas.List.{take_more, take_all, map_push}
use Rattle.std.specs.declared.alloc.Global.{Global}
use Rattle.cue_lattice.specs.World.{Piece}
use Rattle.cue_service.specs.Answering.{GathersPieces}
use Rattle.cue_service.specs.Entries.{piece_of_entry, pieces_of}
use Rattle.cue_service.specs.Pulls.{CoversAll}
use Rattle.cue_service.proofs.Alike.{pieces_append}
use Rattle.cue_service.proofs.Gathered.{gathers_more, same_desk}
use Rattle.cue_service.proofs.Pulls.{covers_after, covers_none, covers_one_more, listed_after_all}
use Rattle.cue_service.proofs.desk.SiteCore.gather_entries.Goals as goal

pub loop-entry-init : goal.loop-entry-init
loop-entry-init c = record {
  gathers = same_desk c.args.self.now;
  brings = λ well of. covers_none c.args.self.now.board;
}

pub loop-entry-preserved : goal.loop-entry-preserved
loop-entry-preserved c =
    let i = c.loop-entry.entry-index in
    let xs = c.args.entries.now in
    let f : Vec ℕ Global → List ℕ = λ v. v.items in
    let lt : i < length xs = omega arith in
    let is : map f (take (i + 1) xs) ≡ map f (take i xs) ++ c.deref.result.now ∷ [] =
    ap (map f) (take_more xs i c.entry-item.result lt) ∙ map_push f (take i xs) (get_or xs i c.entry-item.result)
    ∙ ap (λ (x : List ℕ). map f (take i xs) ++ x ∷ []) (ap f (sym c.entry-item.is) ∙ sym c.deref.ensures.value) in
    let all = sym (ap pieces_of is ∙ pieces_append (map f (take i xs)) (c.deref.result.now ∷ [])) in
    let front = pieces_of (map f (take i xs)) in
    let piece = piece_of_entry c.deref.result.now in
    let gathers = c.gather_entry-sufficed.ensures.gathers in
    record {
      gathers = subst (λ (l : List Piece). GathersPieces l c.args.self.now c.gather_entry-sufficed.new.self) all
          (gathers_more front piece c.args.self.now c.loop-entry.self c.gather_entry-sufficed.new.self c.loop-entry.invariant.gathers gathers);
      brings = λ well of. subst (CoversAll c.gather_entry-sufficed.new.self.board) all
          (covers_one_more c.loop-entry.self.board c.gather_entry-sufficed.new.self.board front piece
          (λ other. covers_after c.loop-entry.self c.gather_entry-sufficed.new.self piece other gathers)
          (c.loop-entry.invariant.brings (and_parts _ _ well).0 of)
          (λ acceptable. c.gather_entry-sufficed.ensures.brings (and_parts _ _ well).1 (listed_after_all front c.args.self.now c.loop-entry.self c.loop-entry.invariant.gathers of) acceptable));
    }

pub returns : goal.returns
returns c =
    let f : Vec ℕ Global → List ℕ = λ v. v.items in
    let whole = take_all c.loop-entry.entry-index c.args.entries.now (omega arith) in
    record {
      gathers = subst (λ (l : List (Vec ℕ Global)). GathersPieces (pieces_of (map f l)) c.args.self.now c.loop-entry.self) whole c.loop-entry.invariant.gathers;
      brings = λ well of. subst (λ (l : List (Vec ℕ Global)). CoversAll c.loop-entry.self.board (pieces_of (map f l))) whole (c.loop-entry.invariant.brings well of);
    }
