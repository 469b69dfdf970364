use Rattle.std.proofs.Common.{◌≡◌, ℕ, [], ◌∷◌, get_or, rules, arith}
use Rattle.cue_layers.specs.declared.layer.Layer.{Layer}
use Rattle.cue_layers.proofs.FewLayers.{one_layer, two_layers}
use Rattle.cue_layers.proofs.extracting.copy_two.Goals as goal

pub returns : goal.returns
returns c = λ key place.
    let xs = c.args.layers.now in
    let x : Layer = c.index-layers-0.result in
    let l : Layer = c.index-layers-at.result in
    let first : x ≡ get_or xs 0 x = search rules in
    let here : l ≡ get_or xs c.args.at l = search rules in
    let items : c.push-2.new.self.items ≡ x ∷ l ∷ [] = search rules in
    two_layers xs key c.args.at x l c.push-2.new.self.items c.requires.is_map place first here (λ e. omega (arith, e, c.if-at-eq0.false)) items
