use Rattle.std.proofs.Common.{ℕ, List, ◌++◌, ap, ◌∙◌}
use Rattle.cue_codec.specs.Parts.{text_bytes}
use Rattle.cue_layers.proofs.Walks.{head_put}
use Rattle.cue_layers.proofs.layers_writer.put_layer_head.Goals as goal

pub returns : goal.returns
returns c =
    let named = c.in_ok-put_name.ensures ∙ ap (λ (t : List ℕ). c.push.new.self.items ++ text_bytes t) c.as_bytes.ensures in
    let dated = c.in_ok-extend_from_slice.ensures.items ∙ ap (λ (t : List ℕ). c.put_name.new.out.items ++ t) c.to_be_bytes.ensures in
    let all = c.in_ok-extend_from_slice-2.ensures.items ∙ ap (λ (t : List ℕ). c.extend_from_slice.new.self.items ++ t) c.to_be_bytes-2.ensures in
    head_put c.args.out.now.items c.push.new.self.items c.put_name.new.out.items c.extend_from_slice.new.self.items c.extend_from_slice-2.new.self.items
    c.args.layer.now.kind c.args.layer.now.name c.args.layer.now.revision c.args.size c.byte_of.result
    c.in_ok-push.ensures.items c.byte_of.ensures named dated all
