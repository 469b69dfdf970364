use Rattle.std.proofs.Common.{◌≡◌, ℕ, List, ◌∷◌, ◌++◌, length, sym, ap, ◌∙◌, arith}
use Rattle.std.specs.List.{flat_map}
use Rattle.cue_layers.specs.Bytes.{layer_bytes}
use Rattle.cue_layers.specs.Inner.Walks.{walk_bytes}
use Rattle.cue_layers.proofs.Walks.{walk_first, begun, begun_less}
use Rattle.cue_layers.proofs.layers_writer.LayerWalk.begin_next.Goals as goal

pub returns-clause-same : goal.returns-clause-same
returns-clause-same c =
    let l = c.in-Some.layer.now in
    let others = c.in-Some.others.now in
    let rest = c.in_ok-writer.writer ++ flat_map layer_bytes others in
    let ready = c.args.ready.now.items in
    let first : walk_bytes c.args.self.now ≡ flat_map layer_bytes (l ∷ others) = walk_first c.args.self.now l others c.requires.none c.in-Some.ensures.cases.0 in
    ap (λ (t : List ℕ). t ++ rest) (c.in_ok-extend_from_slice.ensures.items ∙ ap (λ (t : List ℕ). ready ++ t) c.deref.ensures.value)
    ∙ begun ready c.in_ok-head.head.items c.in_ok-writer.writer l others c.in_ok-size.size c.in_ok-head.ensures c.in_ok-size.ensures c.in_ok-writer.ensures
    ∙ ap (λ (t : List ℕ). ready ++ t) (sym first)

pub returns-clause-less : goal.returns-clause-less
returns-clause-less c = λ yes.
    let l = c.in-Some.layer.now in
    let others = c.in-Some.others.now in
    let first : walk_bytes c.args.self.now ≡ flat_map layer_bytes (l ∷ others) = walk_first c.args.self.now l others c.requires.none c.in-Some.ensures.cases.0 in
    let less = begun_less c.in_ok-writer.writer l others c.in_ok-writer.ensures in
    let same = ap length first in
    omega (arith, less, same)
