-- The map of a new site.
use Rattle.std.proofs.Common.{List, [], refl, subst}
use Rattle.cue_policies.specs.declared.kind.LayerKind.TheVariants as kinds
use Rattle.cue_replica.specs.Language.{empty_site}
use Rattle.cue_layers.specs.declared.layer.Layer.{Layer}
use Rattle.cue_layers.specs.Maps.{IsMapOfPuts, IsJoin}
use Rattle.cue_layers.proofs.Maps.{equal_of_one_set}
use Rattle.cue_layers.proofs.Opening.{opening_map}
use Rattle.cue_layers_site.specs.Entries.{new_map}
use Rattle.cue_layers_site.proofs.Joins.{joined_none}

opening : IsMapOfPuts [] new_map
opening = opening_map new_map (record { kind = kinds.Layer; name = []; revision = 0; content = empty_site }) refl refl refl refl refl

pub opening_joined : (map : List Layer) → IsMapOfPuts [] map → IsJoin new_map [] map
opening_joined map of =
    subst (IsJoin new_map []) (equal_of_one_set new_map map [] [] opening of (λ x. (λ h. h, λ h. h))) (joined_none new_map opening.is_map)
