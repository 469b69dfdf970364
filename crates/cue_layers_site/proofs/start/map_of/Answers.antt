use Rattle.std.proofs.Common.{ℕ, List, [], ◌++◌, map, Vec}
use Rattle.std.specs.declared.alloc.Global.{Global}
use Rattle.cue_layers_site.specs.Entries.{new_map}
use Rattle.cue_layers_site.proofs.Stands.{layers_both}
use Rattle.cue_layers_site.proofs.Opening.{opening_joined}
use Rattle.cue_layers_site.proofs.start.map_of.Goals as goal

pub returns : goal.returns
returns c =
    let f : Vec ℕ Global → List ℕ = λ v. v.items in
    let first = c.in_ok-add_layers.ensures new_map [] (opening_joined c.in_ok-map.map c.in_ok-map.ensures) in
    let second = c.in_ok-add_layers-2.ensures new_map first.0 first.2 in
    (first.0 ++ second.0, layers_both (map f c.args.spare.now) (map f c.args.growing.now) first.0 second.0 first.1 second.1, second.2)
