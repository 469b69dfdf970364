-- Layers bytes are those of one map, and a map is that of its layers as puts.
use Rattle.std.proofs.Common.{◌≡◌, inl, inr, ⊎_elim, ℕ, ◌<◌, ◌^◌, List, [], ◌∷◌, ◌++◌, append-nil, drop, length, map, refl, sym, ap, ◌∙◌, subst, arith}
use Rattle.std.specs.Int.{w64, to_be_bytes}
use Rattle.std.specs.List.{AllByRecursion, flat_map}
use Rattle.std.proofs.lemmas.List.{length-append}
use Rattle.cue_codec.specs.Parts.{counted_bytes}
use Rattle.cue_codec.proofs.Codes.{one_list, one_number, wide64}
use Rattle.cue_replica.proofs.Sound.{sound}
use Rattle.cue_layers.specs.declared.layer.Layer.{Layer}
use Rattle.cue_layers.specs.Bytes.{layer_bytes, IsLayersBytes}
use Rattle.cue_layers.specs.Layers.{key, IsMap}
use Rattle.cue_layers.specs.Maps.{IsMapOfPuts, commons_put, put_of}
use Rattle.cue_layers.specs.Puts.{Put, HasElement, of_layers, of_puts}
use Rattle.cue_layers.specs.Inner.Covers.{IsCovered, Covers}
use Rattle.cue_layers.specs.Inner.Reading.{IsHeld}
use Rattle.cue_layers.proofs.Covers.{alike_current}
use Rattle.cue_layers.proofs.Lists.{all_at}
use Rattle.cue_layers.proofs.ReadBytes.{one_layer, all_held}

-- ---- one map for its bytes
-- the layers behind the mark, the version and the count are held where the bytes are
held_in : (bytes : List ℕ) (layers : List Layer) → length bytes < 2 ^ 64 → IsLayersBytes bytes layers → AllByRecursion IsHeld layers × (length layers < 2 ^ 64)
unfolding counted_bytes
held_in bytes layers small is =
    let count = to_be_bytes w64 (length layers) in
    let whole = ap length is.spelled in
    all_held layers is.is_map.each (omega (arith, small, whole, length-append count (flat_map layer_bytes layers)))

pub one_of_bytes : (bytes : List ℕ) (a b : List Layer) → length bytes < 2 ^ 64 → IsLayersBytes bytes a → IsLayersBytes bytes b → a ≡ b
unfolding counted_bytes
one_of_bytes bytes a b small is other =
    let here = held_in bytes a small is in
    let there = held_in bytes b small other in
    let parts : to_be_bytes w64 (length a) ++ flat_map layer_bytes a ≡ to_be_bytes w64 (length b) ++ flat_map layer_bytes b = ap (drop 5) (sym is.spelled ∙ other.spelled) in
    let same = one_number w64 (2 ^ 64) wide64 (length a) (length b) (flat_map layer_bytes a) (flat_map layer_bytes b) here.1 there.1 parts in
    (one_list IsHeld layer_bytes one_layer a b [] [] here.0 there.0 same.0 (append-nil (flat_map layer_bytes a) ∙ same.1 ∙ sym (append-nil (flat_map layer_bytes b)))).0

-- ---- a map, of its layers as puts
has_put : (layers : List Layer) (layer : Layer) → HasElement layers layer → HasElement (map put_of layers) (put_of layer)
has_put [] layer h = absurd h
has_put (l ∷ ls) layer (inl e) = inl (ap put_of e)
has_put (l ∷ ls) layer (inr h) = inr (has_put ls layer h)

put_found : (layers : List Layer) (put : Put) → HasElement (map put_of layers) put → (layer : Layer) × HasElement layers layer × (put_of layer ≡ put)
put_found [] put h = absurd h
put_found (l ∷ ls) put (inl e) = (l, inl refl, e)
put_found (l ∷ ls) put (inr h) = let r = put_found ls put h in (r.0, inr r.1, r.2)

module _ (layers : List Layer) (is_map : IsMap layers) (held : AllByRecursion IsHeld layers) where
  layers_covered : Covers of_layers of_puts layers (commons_put [] ∷ map put_of layers)
  layers_covered layer h = record {
    above = (put_of layer, inr (has_put layers layer h), refl, omega arith);
    refused = λ path question r.
        let good = all_at IsHeld layers layer held h in
        (put_of layer, inr (has_put layers layer h), refl, inr (refl, inl (((sound.reads_own layer.content good.is_layer.valid good.long).1 path question).1 r)));
  }

  commons_covered : (ls : List Layer) → IsMap ls → IsCovered of_puts of_layers (commons_put []) ls
  commons_covered [] m = absurd m.commons
  commons_covered (l ∷ ls) m = record {
    above = (l, inl refl, λ i. key (m.commons.kind i) (m.commons.name i), omega (arith, m.commons.revision));
    refused = λ path question r. absurd r;
  }

  puts_covered : Covers of_puts of_layers (commons_put [] ∷ map put_of layers) layers
  puts_covered put (inl e) = subst (λ (p : Put). IsCovered of_puts of_layers p layers) e (commons_covered layers is_map)
  puts_covered put (inr h) =
      let found = put_found layers put h in
      let good = all_at IsHeld layers found.0 held found.1 in
      subst (λ (p : Put). IsCovered of_puts of_layers p layers) found.2 (record {
        above = (found.0, found.1, refl, omega arith);
        refused = λ path question r. (found.0, found.1, refl, inr (refl, ⊎_elim (λ s. ((sound.reads_own found.0.content good.is_layer.valid good.long).1 path question).0 s) (λ no. absurd no) r));
      })

  pub of_itself : IsMapOfPuts (map put_of layers) layers
  of_itself = record {
    is_map = is_map;
    current = alike_current of_puts (commons_put [] ∷ map put_of layers) layers is_map.in_order (layers_covered, puts_covered);
  }

pub map_of_bytes : (bytes : List ℕ) (layers : List Layer) → length bytes < 2 ^ 64 → IsLayersBytes bytes layers → IsMapOfPuts (map put_of layers) layers
map_of_bytes bytes layers small is = of_itself layers is.is_map (held_in bytes layers small is).0
