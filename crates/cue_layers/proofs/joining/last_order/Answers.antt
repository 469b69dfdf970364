use Rattle.std.proofs.Common.{◌≡◌, ℕ, List, nat_cmp, subst, sym}
use Rattle.std.specs.Cmp.Lexicographic.{slice_cmp}
use Rattle.cue_layers.specs.Layers.{key, key_of}
use Rattle.cue_layers.proofs.Merging.{last_ordered}
use Rattle.cue_layers.proofs.joining.last_order.Goals as goal

pub returns : goal.returns
returns c =
    let x = c.in-Some.layer.now in
    let y = c.in-Some-last.other.now in
    let P : List ℕ → Type 0 = λ name. c.compare_key.result ≡ slice_cmp nat_cmp (key_of x) (key y.kind name) in
    last_ordered c.args.own.now c.args.others.now x y c.compare_key.result (sym c.in-Some.ensures.value) (sym c.in-Some-last.ensures.value) (subst P c.as_str.ensures c.compare_key.ensures)
