use Rattle.std.proofs.Common.{map, rules}
use Rattle.cue_layers.specs.Extracts.{IsExtract}
use Rattle.cue_layers.specs.Join.{IsOnePut}
use Rattle.cue_layers.specs.Layers.{key}
use Rattle.cue_layers.specs.Refusals.{piece_of_refusal}
use Rattle.cue_layers_site.proofs.Joins.{put_joined}
use Rattle.cue_layers_site.proofs.store.LayersStore.prepare_put.Goals as goal

pub returns-in-Some-clause-change : goal.returns-in-Some-clause-change
returns-in-Some-clause-change g c =
    let next = c.put.new.self in
    let put : IsOnePut c.args.self.now.map c.args.kind c.args.name.now (map piece_of_refusal c.args.pieces.now) next c.in_ok-put.field-0 = search rules in
    let extract : IsExtract next (key c.args.kind c.args.name.now) c.in-Some.more = search rules in
    record {
      is_map = extract.is_map;
      joined = put_joined c.args.self.now.map next c.in-Some.more c.args.kind c.args.name.now (map piece_of_refusal c.args.pieces.now) c.in_ok-put.field-0 put extract;
    }
