-- Layers bytes that come in pieces: what may go on so.
use Rattle.std.proofs.Common.{◌≡◌, inl, inr, ⊎_elim, ℕ, ◌<◌, ◌≤◌, ◌^◌, List, [], ◌∷◌, ◌++◌, append-nil, append_assoc, length, take, drop, refl, sym, ap, ◌∙◌, subst, arith}
use Rattle.std.specs.Int.{w16, w64, to_be_bytes}
use Rattle.std.specs.List.{flat_map, AllByRecursion}
use Rattle.std.proofs.lemmas.List.{length-append, take_at, take-append-le, take-append-drop}
use Rattle.cue_codec.specs.Parts.{text_bytes, counted_bytes}
use Rattle.cue_codec.specs.Reading.{IsShort}
use Rattle.cue_codec.proofs.Codes.{list_step, one_number, wide16, wide64}
use Rattle.cue_policies.specs.declared.kind.LayerKind.{LayerKind}
use Rattle.cue_replica.specs.Language.{language}
use Rattle.cue_layers.specs.declared.layer.Layer.{Layer}
use Rattle.cue_layers.specs.declared.refusal.LayersRefusal.TheVariants.{NotLayers}
use Rattle.cue_layers.specs.Bytes.{layers_mark, version, layer_bytes, IsLayersBytes, IsOtherLayersVersion, IsLayersFault}
use Rattle.cue_layers.specs.Layers.{IsMap, kind_byte}
use Rattle.cue_layers.specs.Pieces.{IsNoLayersPrefix}
use Rattle.cue_layers.specs.Inner.Reading.{both_bytes, kind_bytes, AreFront, AreSoManyOfMap, IsBehind, IsHeld, MayHave}
use Rattle.cue_layers.specs.Inner.Walks.{head_bytes}
use Rattle.cue_layers.proofs.ReadBytes.{one_layer, one_key, one_wide, all_held, parts_are}
use Rattle.cue_layers.proofs.ReadMaps.{behind_in_map}
use Rattle.cue_layers.proofs.Walks.{layer_parts}

-- the mark, the version, a count and layers
abbrev pub read_front : ℕ → List Layer → List ℕ
read_front count xs = layers_mark ++ (version ∷ (to_be_bytes w64 count ++ flat_map layer_bytes xs))

-- bytes behind the mark and the version are of no other version
pub known_front : (tail : List ℕ) → ¬ IsOtherLayersVersion (layers_mark ++ (version ∷ tail))
known_front tail other = other.3 (let e : 254 ∷ 76 ∷ 65 ∷ 89 ∷ 1 ∷ tail ≡ 254 ∷ 76 ∷ 65 ∷ 89 ∷ other.0 ∷ other.1 = other.2 in cc)

-- the layers of a map whose bytes begin so
pub map_begins :
    (count : ℕ) (tail all : List ℕ) (ys : List Layer) → count < 2 ^ 64 → length (layers_mark ++ (version ∷ all)) < 2 ^ 64 → all ≡ to_be_bytes w64 count ++ tail → IsLayersBytes (layers_mark ++ (version ∷ all)) ys
    → AreSoManyOfMap count ys × (tail ≡ flat_map layer_bytes ys)
unfolding counted_bytes
map_begins count tail all ys small fits parts is =
    let number = to_be_bytes w64 (length ys) in
    let held = all_held ys is.is_map.each (omega (arith, fits, ap length is.spelled, length-append number (flat_map layer_bytes ys))) in
    let whole : all ≡ number ++ flat_map layer_bytes ys = ap (drop 5) is.spelled in
    let same = one_number w64 (2 ^ 64) wide64 count (length ys) tail (flat_map layer_bytes ys) small held.1 (sym parts ∙ whole) in
    ((sym same.0, held.0, is.is_map), same.1)

-- a layer more behind those that were read
pub next_of :
    (xs ys : List Layer) (rest s : List ℕ) → AllByRecursion IsHeld xs → AllByRecursion IsHeld ys → length xs < length ys → flat_map layer_bytes xs ++ rest ≡ flat_map layer_bytes ys ++ s
    → (l : Layer) × (more : List Layer) × (ys ≡ xs ++ l ∷ more) × IsHeld l × (rest ≡ layer_bytes l ++ (flat_map layer_bytes more ++ s))
next_of [] [] rest s hx hy lt e = absurd (omega arith)
next_of [] (y ∷ ys) rest s hx hy lt e = (y, ys, refl, hy.0, e ∙ list_step layer_bytes y ys s)
next_of (x ∷ xs) [] rest s hx hy lt e = absurd (omega arith)
next_of (x ∷ xs) (y ∷ ys) rest s hx hy lt e =
    let same = one_layer x y (flat_map layer_bytes xs ++ rest) (flat_map layer_bytes ys ++ s) hx.0 hy.0 (sym (list_step layer_bytes x xs rest) ∙ e ∙ list_step layer_bytes y ys s) in
    let r = next_of xs ys rest s hx.1 hy.1 (omega arith) same.1 in
    (r.0, r.1, sym (λ i. same.0 i ∷ sym r.2 i), r.3, r.4)

-- a map goes on with a layer
pub goes_on :
    (count : ℕ) (xs ys : List Layer) (part : List ℕ) → AreFront xs → length xs < count → count < 2 ^ 64 → length (read_front count xs ++ part) < 2 ^ 64 → IsLayersBytes (read_front count xs ++ part) ys
    → (l : Layer) × (after : List ℕ) × IsHeld l × IsBehind xs l × (part ≡ layer_bytes l ++ after)
goes_on count xs ys part front lt small fits is =
    let number = to_be_bytes w64 count in
    let m = map_begins count (flat_map layer_bytes xs ++ part) ((number ++ flat_map layer_bytes xs) ++ part) ys small fits (append_assoc number (flat_map layer_bytes xs) part) is in
    let many : length ys ≡ count = m.0.0 in
    let n = next_of xs ys part [] front.each m.0.1 (omega (arith, many)) (m.1 ∙ sym (append-nil (flat_map layer_bytes ys))) in
    (n.0, flat_map layer_bytes n.1 ++ [], n.3, behind_in_map xs n.1 n.0 (subst IsMap n.2 m.0.2), n.4)

-- no map goes on so, whatever follows
pub no_next :
    (count : ℕ) (xs : List Layer) (part : List ℕ) → AreFront xs → length xs < count → count < 2 ^ 64 → ((l : Layer) (more after : List ℕ) → IsHeld l → IsBehind xs l → part ++ more ≡ layer_bytes l ++ after → ⊥)
    → IsNoLayersPrefix (read_front count xs ++ part)
no_next count xs part front lt small none = record {
  known = λ rest. known_front (((to_be_bytes w64 count ++ flat_map layer_bytes xs) ++ part) ++ rest);
  none = λ ys rest fits is.
      let longer = append_assoc (read_front count xs) part rest in
      let fits_longer : length (read_front count xs ++ (part ++ rest)) < 2 ^ 64 = subst (λ (b : List ℕ). length b < 2 ^ 64) longer fits in
      let is_longer : IsLayersBytes (read_front count xs ++ (part ++ rest)) ys = subst (λ (b : List ℕ). IsLayersBytes b ys) longer is in
      let n = goes_on count xs ys (part ++ rest) front lt small fits_longer is_longer in
      none n.0 rest n.1 n.2 n.3 n.4;
}

-- no map ends so
pub no_end :
    (count : ℕ) (xs : List Layer) (part : List ℕ) → AreFront xs → length xs < count → count < 2 ^ 64 → length (read_front count xs ++ part) < 2 ^ 64 → ((l : Layer) (after : List ℕ) → IsHeld l → part ≡ layer_bytes l ++ after → ⊥)
    → IsLayersFault (read_front count xs ++ part) NotLayers
no_end count xs part front lt small fits none = inr (
  refl,
  known_front ((to_be_bytes w64 count ++ flat_map layer_bytes xs) ++ part),
  λ ys is. let n = goes_on count xs ys part front lt small fits is in none n.0 n.1 n.2 n.4,
)

-- ---- what begins a layer

head_again : (kind : LayerKind) (name : List ℕ) (revision size : ℕ) (tail : List ℕ)
    → head_bytes kind name revision size ++ tail ≡ both_bytes kind_bytes text_bytes (kind, name) ++ (to_be_bytes w64 revision ++ (to_be_bytes w64 size ++ tail))
head_again kind name revision size tail =
    let r = to_be_bytes w64 revision in
    let n = to_be_bytes w64 size in
    ap (λ (t : List ℕ). kind_byte kind ∷ t) (append_assoc (text_bytes name) (r ++ n) tail ∙ ap (λ (t : List ℕ). text_bytes name ++ t) (append_assoc r n tail))

pub layer_again : (l : Layer) (after : List ℕ) → layer_bytes l ++ after ≡ head_bytes l.kind l.name l.revision (length (language.written l.content)) ++ (language.written l.content ++ after)
layer_again l after =
    let w = language.written l.content in
    ap (λ (t : List ℕ). t ++ after) (layer_parts l) ∙ append_assoc (head_bytes l.kind l.name l.revision (length w)) w after

-- a layer in front of bytes has the parts with which they begin
pub record HasHead (kind : LayerKind) (name : List ℕ) (revision size : ℕ) (tail after : List ℕ) (l : Layer) : Type 0 where
  pub kind_is : l.kind ≡ kind
  pub name_is : l.name ≡ name
  pub revision_is : l.revision ≡ revision
  pub size_is : length (language.written l.content) ≡ size
  pub tail_is : tail ≡ language.written l.content ++ after

pub same_head :
    (kind : LayerKind) (name : List ℕ) (revision size : ℕ) (tail after : List ℕ) (l : Layer) → IsShort name → revision < 2 ^ 64 → size < 2 ^ 64 → IsHeld l → head_bytes kind name revision size ++ tail ≡ layer_bytes l ++ after
    → HasHead kind name revision size tail after l
same_head kind name revision size tail after l short_name small_revision small_size held e =
    let w = language.written l.content in
    let parts = parts_are l held in
    let both = sym (head_again kind name revision size tail) ∙ e ∙ layer_again l after ∙ head_again l.kind l.name l.revision (length w) (w ++ after) in
    let key = one_key (kind, name) (l.kind, l.name) (to_be_bytes w64 revision ++ (to_be_bytes w64 size ++ tail)) (to_be_bytes w64 l.revision ++ (to_be_bytes w64 (length w) ++ (w ++ after))) (tt, short_name) (tt, parts.0.1) both in
    let rev = one_wide revision l.revision (to_be_bytes w64 size ++ tail) (to_be_bytes w64 (length w) ++ (w ++ after)) small_revision parts.1.0 key.1 in
    let len = one_wide size (length w) tail (w ++ after) small_size parts.1.1 rev.1 in
    record {
      kind_is = sym (ap (λ (p : LayerKind × List ℕ). p.0) key.0);
      name_is = sym (ap (λ (p : LayerKind × List ℕ). p.1) key.0);
      revision_is = sym rev.0;
      size_is = sym len.0;
      tail_is = len.1;
    }

-- the kind and the length of the name alone
pub same_start :
    (kind len : ℕ) (tail after : List ℕ) (l : Layer) → len < 2 ^ 16 → IsHeld l → kind ∷ (to_be_bytes w16 len ++ tail) ≡ layer_bytes l ++ after
    → (kind ≡ kind_byte l.kind) × (len ≡ length l.name)
unfolding text_bytes
same_start kind len tail after l small held e =
    let w = language.written l.content in
    let parts = parts_are l held in
    let n = to_be_bytes w16 (length l.name) in
    let rest = to_be_bytes w64 l.revision ++ (to_be_bytes w64 (length w) ++ (w ++ after)) in
    let both : kind ∷ (to_be_bytes w16 len ++ tail) ≡ kind_byte l.kind ∷ (n ++ (l.name ++ rest)) =
    e ∙ layer_again l after ∙ head_again l.kind l.name l.revision (length w) (w ++ after) ∙ ap (λ (t : List ℕ). kind_byte l.kind ∷ t) (append_assoc n l.name rest) in
    (cc, (one_number w16 (2 ^ 16) wide16 len (length l.name) tail (l.name ++ rest) small parts.0.1 (ap (drop 1) both)).0)

-- a layer may have its revision
pub may_have : (l : Layer) → IsHeld l → MayHave l.kind l.name l.revision
may_have l held = ⊎_elim (λ c. inl (c.kind, c.name, c.revision)) (λ n. inr (n.name, n.from)) held.is_layer.is

-- a list begins with what begins so, where it is no shorter
pub longer_front : (a b c d : List ℕ) → a ++ b ≡ c ++ d → length a ≤ length c → (m : List ℕ) × (c ≡ a ++ m)
longer_front a b c d e le =
    let n = length a in
    let front : take n c ≡ a = sym (take-append-le n c d le) ∙ ap (take n) (sym e) ∙ take_at a b n refl in
    (drop n c, sym (take-append-drop n c) ∙ ap (λ (t : List ℕ). t ++ drop n c) front)
