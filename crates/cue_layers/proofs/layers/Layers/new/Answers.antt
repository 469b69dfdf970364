use Rattle.std.proofs.Common.{◌≡◌, ◌∷◌, [], refl, rules}
use Rattle.cue_policies.specs.declared.kind.LayerKind.TheVariants as kinds
use Rattle.cue_layers.specs.declared.layer.Layer.{Layer}
use Rattle.cue_layers.proofs.Opening.{opening_map}
use Rattle.cue_layers.proofs.layers.Layers.new.Goals as goal

pub invariant_of-result : goal.invariant_of-result
invariant_of-result c =
    let x : Layer = record { kind = kinds.Layer; name = c.in_ok-from_str.field-0; revision = 0; content = c.new.result } in
    let items : c.push.new.self.items ≡ x ∷ [] = search rules in
    (opening_map c.push.new.self.items x items refl c.in_ok-from_str.ensures.text refl c.new.ensures).is_map

pub returns : goal.returns
returns c =
    let x : Layer = record { kind = kinds.Layer; name = c.in_ok-from_str.field-0; revision = 0; content = c.new.result } in
    let items : c.push.new.self.items ≡ x ∷ [] = search rules in
    opening_map c.push.new.self.items x items refl c.in_ok-from_str.ensures.text refl c.new.ensures
