-- Layers bytes that are written in pieces.
use Rattle.std.proofs.Common.{◌≡◌, ℕ, ◌+◌, ◌<◌, ◌≤◌, List, [], ◌∷◌, ◌++◌, append_assoc, length, take, drop, Option, None, refl, sym, ap, ◌∙◌, arith}
use Rattle.std.specs.Int.{w16, w64, to_be_bytes}
use Rattle.std.specs.List.{flat_map}
use Rattle.std.proofs.lemmas.List.{length-append, length-take, take_at, take-append-drop}
use Rattle.std.proofs.lemmas.List.Concat.{flat_map-cons}
use Rattle.cue_codec.specs.Parts.{text_bytes, counted_bytes}
use Rattle.cue_codec.proofs.Codes.{wide16, wide64}
use Rattle.cue_policies.specs.declared.kind.LayerKind.{LayerKind}
use Rattle.cue_replica.specs.Language.{language}
use Rattle.cue_layers.specs.declared.layer.Layer.{Layer}
use Rattle.cue_layers.specs.declared.layers_writer.LayerWalk.{LayerWalk}
use Rattle.cue_layers.specs.Bytes.{block_bytes, layer_bytes, layers_mark, version, layers_bytes}
use Rattle.cue_layers.specs.Layers.{kind_byte}
use Rattle.cue_layers.specs.Inner.Walks.{head_bytes, state_left, walk_bytes}

-- the bytes of a layer: what begins them, and the state bytes
pub layer_parts : (l : Layer) → layer_bytes l ≡ head_bytes l.kind l.name l.revision (length (language.written l.content)) ++ language.written l.content
unfolding layer_bytes block_bytes
layer_parts l =
    let w = language.written l.content in
    let n = to_be_bytes w64 (length w) in
    let r = to_be_bytes w64 l.revision in
    ap (λ (t : List ℕ). kind_byte l.kind ∷ t)
    (ap (λ (t : List ℕ). text_bytes l.name ++ t) (sym (append_assoc r n w)) ∙ sym (append_assoc (text_bytes l.name) (r ++ n) w))

-- how long they are
pub head_long : (kind : LayerKind) (name : List ℕ) (revision size : ℕ) → length (head_bytes kind name revision size) ≡ length name + 19
unfolding text_bytes
head_long kind name revision size =
    let r = to_be_bytes w64 revision in
    let n = to_be_bytes w64 size in
    omega (arith, length-append (to_be_bytes w16 (length name) ++ name) (r ++ n), length-append (to_be_bytes w16 (length name)) name, length-append r n, wide64.len revision, wide64.len size, wide16.len (length name))

pub layer_long : (l : Layer) → length (layer_bytes l) ≡ length l.name + 19 + length (language.written l.content)
layer_long l =
    let w = language.written l.content in
    omega (arith, ap length (layer_parts l), length-append (head_bytes l.kind l.name l.revision (length w)) w, head_long l.kind l.name l.revision (length w))

-- what begins the bytes of a layer was put behind others, part by part
pub head_put :
    (old pushed named dated all : List ℕ) (kind : LayerKind) (name : List ℕ) (revision size byte : ℕ) → pushed ≡ old ++ byte ∷ [] → byte ≡ kind_byte kind → named ≡ pushed ++ text_bytes name
    → dated ≡ named ++ to_be_bytes w64 revision → all ≡ dated ++ to_be_bytes w64 size → all ≡ old ++ head_bytes kind name revision size
head_put old pushed named dated all kind name revision size byte p b n d a =
    let k = kind_byte kind ∷ [] in
    let t = text_bytes name in
    let r = to_be_bytes w64 revision in
    let z = to_be_bytes w64 size in
    let first : pushed ≡ old ++ k = p ∙ ap (λ (x : ℕ). old ++ x ∷ []) b in
    let parts : all ≡ ((((old ++ k) ++ t) ++ r) ++ z) =
    a ∙ ap (λ (x : List ℕ). x ++ z) d ∙ ap (λ (x : List ℕ). (x ++ r) ++ z) n ∙ ap (λ (x : List ℕ). ((x ++ t) ++ r) ++ z) first in
    parts ∙ append_assoc ((old ++ k) ++ t) r z ∙ append_assoc (old ++ k) t (r ++ z) ∙ append_assoc old k (t ++ (r ++ z))

-- what is left, where no state was begun
pub walk_first : (walk : LayerWalk) (l : Layer) (others : List Layer) → walk.state ≡ None → walk.layers.now ≡ l ∷ others → walk_bytes walk ≡ flat_map layer_bytes (l ∷ others)
walk_first walk l others none first = ap (λ (s : Option (List ℕ)). state_left s ++ flat_map layer_bytes walk.layers.now) none ∙ ap (flat_map layer_bytes) first

-- a layer was begun
pub begun :
    (ready head written : List ℕ) (l : Layer) (others : List Layer) (size : ℕ) → head ≡ head_bytes l.kind l.name l.revision size → size ≡ length (language.written l.content) → written ≡ language.written l.content
    → (ready ++ head) ++ (written ++ flat_map layer_bytes others) ≡ ready ++ flat_map layer_bytes (l ∷ others)
begun ready head written l others size is len own =
    let rest = flat_map layer_bytes others in
    let whole : head ++ written ≡ layer_bytes l = ap (λ (t : List ℕ). t ++ written) is ∙ ap (λ (n : ℕ). head_bytes l.kind l.name l.revision n ++ written) len ∙ ap (λ (t : List ℕ). head_bytes l.kind l.name l.revision (length (language.written l.content)) ++ t) own ∙ sym (layer_parts l) in
    append_assoc ready head (written ++ rest) ∙ ap (λ (t : List ℕ). ready ++ t) (sym (append_assoc head written rest) ∙ ap (λ (t : List ℕ). t ++ rest) whole ∙ sym (flat_map-cons layer_bytes l others))

pub begun_less : (written : List ℕ) (l : Layer) (others : List Layer) → written ≡ language.written l.content → length (written ++ flat_map layer_bytes others) + 1 < length (flat_map layer_bytes (l ∷ others))
begun_less written l others own =
    let rest = flat_map layer_bytes others in
    omega (arith, ap length own, length-append written rest, ap length (flat_map-cons layer_bytes l others), length-append (layer_bytes l) rest, layer_long l)

-- a piece of a state was put behind other bytes
pub piece_added :
    (old left room written : List ℕ) (count len : ℕ) → len ≡ length old → count ≤ length left → written ≡ take count left ++ drop count room
    → take (len + count) (old ++ written) ++ drop count left ≡ old ++ left
piece_added old left room written count len is few e =
    let front = old ++ take count left in
    let long : length front ≡ len + count = omega (arith, length-append old (take count left), length-take count left) in
    let parts : old ++ written ≡ front ++ drop count room = ap (λ (t : List ℕ). old ++ t) e ∙ sym (append_assoc old (take count left) (drop count room)) in
    ap (λ (t : List ℕ). take (len + count) t ++ drop count left) parts ∙ ap (λ (t : List ℕ). t ++ drop count left) (take_at front (drop count room) (len + count) long) ∙ append_assoc old (take count left) (drop count left) ∙ ap (λ (t : List ℕ). old ++ t) (take-append-drop count left)

-- what begins layers bytes, and the layers
pub whole_written : (layers : List Layer) → (layers_mark ++ (version ∷ to_be_bytes w64 (length layers))) ++ flat_map layer_bytes layers ≡ layers_bytes layers
unfolding counted_bytes
whole_written layers = refl
