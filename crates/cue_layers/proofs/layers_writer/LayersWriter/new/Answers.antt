use Rattle.std.proofs.Common.{ℕ, List, ◌∷◌, ◌++◌, length, ap, ◌∙◌}
use Rattle.std.specs.Int.{w64, to_be_bytes}
use Rattle.std.specs.List.{flat_map}
use Rattle.cue_layers.specs.Bytes.{layers_mark, version, layer_bytes}
use Rattle.cue_layers.proofs.Walks.{whole_written}
use Rattle.cue_layers.proofs.layers_writer.LayersWriter.new.Goals as goal

pub returns : goal.returns
returns c =
    let rest = flat_map layer_bytes c.args.layers.now in
    ap (λ (t : List ℕ). t ++ rest) (c.in_ok-put_head.ensures ∙ ap (λ (t : List ℕ). t ++ (layers_mark ++ (version ∷ to_be_bytes w64 (length c.args.layers.now)))) c.new-ready.ensures.items)
    ∙ whole_written c.args.layers.now
