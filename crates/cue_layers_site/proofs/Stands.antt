-- Entries, and the maps that they stand for.
use Rattle.std.proofs.Common.{◌≡◌, inl, inr, ⊎_elim, ℕ, List, [], ◌∷◌, ◌++◌, refl, sym, ap, ◌∙◌, subst, append_assoc, append-nil}
use Rattle.cue_layers.specs.declared.layer.Layer.{Layer}
use Rattle.cue_layers.specs.Layers.{IsMap}
use Rattle.cue_layers.specs.Maps.{IsJoin}
use Rattle.cue_layers.proofs.Lists.{has-append, has_left, has_right}
use Rattle.cue_layers_site.specs.Entries.{new_map, layers_entry, AreLayersIn, StandForMap}
use Rattle.cue_layers_site.proofs.Joins.{joined_more, joined_again}

pub layers_both : (entries more : List (List ℕ)) (layers others : List Layer) → AreLayersIn entries layers → AreLayersIn more others → AreLayersIn (entries ++ more) (layers ++ others)
layers_both [] more layers others none are = subst (λ (l : List Layer). AreLayersIn more (l ++ others)) (sym none) are
layers_both (entry ∷ entries) more layers others is are =
    (is.0, is.1 ++ others, is.2, is.3, layers_both entries more is.1 others is.4 are, ap (λ (l : List Layer). l ++ others) is.5 ∙ append_assoc is.0 is.1 others)

pub layers_of_one : (entry : List ℕ) (layers : List Layer) → IsMap layers → entry ≡ layers_entry layers → AreLayersIn (entry ∷ []) layers
layers_of_one entry layers map is = (layers, [], map, is, refl, sym (append-nil layers))

-- the layers of entries in front, and of those behind
pub layers_parts : (entries more : List (List ℕ)) (layers : List Layer) → AreLayersIn (entries ++ more) layers
    → (front back : List Layer) × AreLayersIn entries front × AreLayersIn more back × (layers ≡ front ++ back)
layers_parts [] more layers are = ([], layers, refl, are, refl)
layers_parts (entry ∷ entries) more layers are =
    let rest = layers_parts entries more are.1 are.4 in
    (are.0 ++ rest.0, rest.1, (are.0, rest.0, are.2, are.3, rest.2, refl), rest.3, are.5 ∙ ap (λ (l : List Layer). are.0 ++ l) rest.4 ∙ sym (append_assoc are.0 rest.0 rest.1))

-- one more entry
pub stand_more : (entries : List (List ℕ)) (map more new : List Layer) → StandForMap entries map → IsMap more → IsJoin map more new → StandForMap (entries ++ layers_entry more ∷ []) new
stand_more entries map more new stands is_map join = (
  stands.0 ++ more,
  layers_both entries (layers_entry more ∷ []) stands.0 more stands.1 (layers_of_one (layers_entry more) more is_map refl),
  joined_more new_map stands.0 map more new stands.2 join,
)

-- the map in the place of the entries that grew
pub snapshot_stands : (spare growing : List (List ℕ)) (map : List Layer) → StandForMap (spare ++ growing) map → StandForMap (spare ++ layers_entry map ∷ []) map
snapshot_stands spare growing map stands =
    let parts = layers_parts spare growing stands.0 stands.1 in
    let join = subst (λ (l : List Layer). IsJoin new_map l map) parts.4 stands.2 in (
      parts.0 ++ map,
      layers_both spare (layers_entry map ∷ []) parts.0 map parts.2 (layers_of_one (layers_entry map) map stands.2.is_map refl),
      joined_again new_map (parts.0 ++ parts.1) (parts.0 ++ map) map join
          (λ x h. ⊎_elim (λ g. inl (has_left parts.0 parts.1 x g)) (λ g. inr g) (has-append parts.0 map x h))
          (λ x h. has_right parts.0 map x h),
    )

-- and beside them
pub both_stand : (spare growing : List (List ℕ)) (map : List Layer) → StandForMap (spare ++ growing) map → StandForMap ((spare ++ layers_entry map ∷ []) ++ growing) map
both_stand spare growing map stands =
    let parts = layers_parts spare growing stands.0 stands.1 in
    let join = subst (λ (l : List Layer). IsJoin new_map l map) parts.4 stands.2 in (
      (parts.0 ++ map) ++ parts.1,
      layers_both (spare ++ layers_entry map ∷ []) growing (parts.0 ++ map) parts.1 (layers_both spare (layers_entry map ∷ []) parts.0 map parts.2 (layers_of_one (layers_entry map) map stands.2.is_map refl)) parts.3,
      joined_again new_map (parts.0 ++ parts.1) ((parts.0 ++ map) ++ parts.1) map join
          (λ x h. ⊎_elim
          (λ g. ⊎_elim (λ k. inl (has_left parts.0 parts.1 x k)) (λ k. inr k) (has-append parts.0 map x g))
          (λ g. inl (has_right parts.0 parts.1 x g))
          (has-append (parts.0 ++ map) parts.1 x h))
          (λ x h. has_left (parts.0 ++ map) parts.1 x (has_right parts.0 map x h)),
    )

-- an entry that is joined behind others
pub entry_joined : (front layers so_far mid new : List Layer) (entries : List (List ℕ)) (entry : List ℕ) → AreLayersIn entries so_far → IsJoin front (layers ++ so_far) mid
    → (more : List Layer) × IsMap more × (entry ≡ layers_entry more) × IsJoin mid more new
    → (all : List Layer) × AreLayersIn (entries ++ entry ∷ []) all × IsJoin front (layers ++ all) new
entry_joined front layers so_far mid new entries entry are join one = (
  so_far ++ one.0,
  layers_both entries (entry ∷ []) so_far one.0 are (layers_of_one entry one.0 one.1 one.2),
  subst (λ (l : List Layer). IsJoin front l new) (append_assoc layers so_far one.0) (joined_more front (layers ++ so_far) mid one.0 new join one.3),
)
