use Rattle.std.proofs.Common.{◌≡◌, ◌+◌, ◌<◌, ℕ, List, [], ◌∷◌, ◌++◌, length, map, take, get_or, Vec, refl, sym, ap, ◌∙◌, subst, arith, append-nil}
use Rattle.std.proofs.lemmas.List.{take_more, take_all, map_push}
use Rattle.std.specs.declared.alloc.Global.{Global}
use Rattle.cue_layers.specs.declared.layer.Layer.{Layer}
use Rattle.cue_layers.specs.Maps.{IsJoin}
use Rattle.cue_layers_site.specs.Entries.{AreLayersIn}
use Rattle.cue_layers_site.proofs.Stands.{entry_joined}
use Rattle.cue_layers_site.proofs.entries.add_layers.Goals as goal

pub loop-entry-init : goal.loop-entry-init
loop-entry-init c = λ front layers join. ([], refl, subst (λ (l : List Layer). IsJoin front l c.args.joined.now) (sym (append-nil layers)) join)

pub loop-entry-preserved : goal.loop-entry-preserved
loop-entry-preserved c = λ front layers join.
    let i = c.loop-entry.entry-index in
    let xs = c.args.entries.now in
    let f : Vec ℕ Global → List ℕ = λ v. v.items in
    let lt : i < length xs = omega arith in
    let is : map f (take (i + 1) xs) ≡ map f (take i xs) ++ c.deref.result.now ∷ [] =
    ap (map f) (take_more xs i c.entry-item.result lt) ∙ map_push f (take i xs) (get_or xs i c.entry-item.result)
    ∙ ap (λ (x : List ℕ). map f (take i xs) ++ x ∷ []) (ap f (sym c.entry-item.is) ∙ sym c.deref.ensures.value) in
    let so_far = c.loop-entry.invariant front layers join in
    let one = entry_joined front layers so_far.0 c.loop-entry.joined c.add_entry.new.joined (map f (take i xs)) c.deref.result.now so_far.1 so_far.2 c.in_ok-add_entry.ensures in
    (one.0, subst (λ (l : List (List ℕ)). AreLayersIn l one.0) (sym is) one.1, one.2)

pub returns : goal.returns
returns c = λ front layers join.
    let f : Vec ℕ Global → List ℕ = λ v. v.items in
    subst (λ (l : List (Vec ℕ Global)). (more : List Layer) × AreLayersIn (map f l) more × IsJoin front (layers ++ more) c.loop-entry.joined)
    (take_all c.loop-entry.entry-index c.args.entries.now (omega arith)) (c.loop-entry.invariant front layers join)
