-- Layers bytes that come in pieces: the steps of a reader.
use Rattle.std.proofs.Common.{◌≡◌, ◌≢◌, ◌⊎◌, inr, ⊎_elim, ℕ, zero, suc, ◌+◌, ◌<◌, ◌≤◌, ◌^◌, List, [], ◌∷◌, ◌++◌, Some, append-nil, append_assoc, length, take, drop, refl, sym, ap, ◌∙◌, subst, arith}
use Rattle.std.specs.Prelude.{slice_get}
use Rattle.std.specs.Int.{w16, w64, to_be_bytes}
use Rattle.std.specs.List.{flat_map}
use Rattle.std.proofs.lemmas.List.{length-append}
use Rattle.cue_codec.specs.Decoding.{IsOtherStateVersion}
use Rattle.cue_codec.specs.Entry.{entries_of}
use Rattle.cue_codec.specs.Parts.{counted_bytes}
use Rattle.cue_codec.specs.Pieces as states
use Rattle.cue_codec.specs.Pieces.{IsNoStatePrefix}
use Rattle.cue_codec.specs.Reading.{ReadsNoItem, IsShort}
use Rattle.cue_codec.specs.RowBytes.{row_bytes}
use Rattle.cue_codec.specs.State.{IsTableBytes}
use Rattle.cue_codec.specs.Version.{written_version}
use Rattle.cue_codec.specs.declared.version.Version.TheVariants as versions
use Rattle.cue_codec.proofs.Codes.{same_fronts, items_more, one_list, wide16, wide64}
use Rattle.cue_codec.proofs.WrittenStates.{parts_of_state}
use Rattle.cue_policies.specs.declared.kind.LayerKind.{LayerKind}
use Rattle.cue_policies.specs.declared.kind.LayerKind.TheVariants as kinds
use Rattle.cue_policies.specs.WellFormed.{IsWellFormed}
use Rattle.cue_replica.specs.Language.{Table, language}
use Rattle.cue_replica.proofs.Sound.{sound}
use Rattle.cue_layers.specs.declared.layer.Layer.{Layer}
use Rattle.cue_layers.specs.declared.refusal.LayersRefusal.TheVariants.{NotLayers}
use Rattle.cue_layers.specs.Bytes.{layers_mark, version, layer_bytes, layers_bytes, IsOtherLayersVersion, IsLayersFault}
use Rattle.cue_layers.specs.Layers.{IsMap, kind_byte}
use Rattle.cue_layers.specs.Pieces.{IsNoLayersPrefix, IsLayersIntake}
use Rattle.cue_layers.specs.Inner.Reading.{AreFront, IsHeld, IsKeyBehind, MayHave}
use Rattle.cue_layers.specs.Inner.Stages.{front_bytes, front_byte, state_front, intake_behind, CanBegin}
use Rattle.cue_layers.specs.Inner.Walks.{head_bytes}
use Rattle.cue_layers.proofs.ReadBytes.{all_held, one_layer}
use Rattle.cue_layers.proofs.ReadMaps.{empty_map}
use Rattle.cue_layers.proofs.Stages.{read_front, known_front, map_begins, no_next, no_end, same_head, same_start, may_have, longer_front}
use Rattle.cue_layers.proofs.Walks.{layer_parts, layer_long}

-- ---- how short bytes may be

-- the state bytes in layers begin with the mark and the version
pub written_front : (table : Table) → language.written table ≡ state_front ++ drop 5 (language.written table)
written_front table = parts_of_state written_version (entries_of written_version table) ∙ ap (λ (t : List ℕ). state_front ++ t) (ap (drop 5) (sym (parts_of_state written_version (entries_of written_version table))))

pub written_long : (table : Table) → 13 ≤ length (language.written table)
written_long table =
    let rows = entries_of written_version table in
    omega (arith, ap length (parts_of_state written_version rows), length-append (to_be_bytes w64 (length rows)) (flat_map (row_bytes written_version) rows), wide64.len (length rows))

-- no layer is so short
pub too_short : (part after : List ℕ) (l : Layer) → part ≡ layer_bytes l ++ after → length part < 32 → ⊥
too_short part after l e short = omega (arith, short, ap length e, length-append (layer_bytes l) after, layer_long l, written_long l.content)

-- the front of layers bytes
pub front_fault : (bytes : List ℕ) → length bytes < 5 → IsLayersFault bytes NotLayers
front_fault bytes short = inr (refl, λ other. omega (arith, short, ap length other.2), λ layers is. omega (arith, short, ap length is.spelled))

pub count_fault : (bytes : List ℕ) → length bytes < 8 → IsLayersFault (front_bytes ++ bytes) NotLayers
unfolding counted_bytes
count_fault bytes short = inr (
  refl,
  known_front bytes,
  λ layers is. omega (arith, short, ap length is.spelled, length-append (to_be_bytes w64 (length layers)) (flat_map layer_bytes layers), wide64.len (length layers)),
)

pub start_fault : (count : ℕ) (xs : List Layer) (part : List ℕ) → AreFront xs → length xs < count → count < 2 ^ 64 → length (read_front count xs ++ part) < 2 ^ 64 → length part < 3 → IsLayersFault (read_front count xs ++ part) NotLayers
start_fault count xs part front lt small fits short = no_end count xs part front lt small fits (λ l after held e. too_short part after l e (omega (arith, short)))

pub head_fault :
    (count : ℕ) (xs : List Layer) (kind : LayerKind) (len : ℕ) (bytes : List ℕ) → AreFront xs → length xs < count → count < 2 ^ 64 → length (read_front count xs ++ (kind_byte kind ∷ (to_be_bytes w16 len ++ bytes))) < 2 ^ 64 → len ≤ 255 → length bytes < len + 21
    → IsLayersFault (read_front count xs ++ (kind_byte kind ∷ (to_be_bytes w16 len ++ bytes))) NotLayers
head_fault count xs kind len bytes front lt small fits few short = no_end count xs (kind_byte kind ∷ (to_be_bytes w16 len ++ bytes)) front lt small fits (λ l after held e.
    let same = same_start (kind_byte kind) len bytes after l (omega (arith, few)) held e in
    let name : len ≡ length l.name = same.1 in
    omega (arith, short, name, ap length e, length-append (to_be_bytes w16 len) bytes, wide16.len len, length-append (layer_bytes l) after, layer_long l, written_long l.content))

pub state_fault :
    (count : ℕ) (xs : List Layer) (kind : LayerKind) (name : List ℕ) (revision size missing : ℕ) (taken : List ℕ) → AreFront xs → length xs < count → count < 2 ^ 64 → length (read_front count xs ++ (head_bytes kind name revision size ++ taken)) < 2 ^ 64
    → IsShort name → revision < 2 ^ 64 → size < 2 ^ 64 → length taken + missing ≡ size → 0 < missing → IsLayersFault (read_front count xs ++ (head_bytes kind name revision size ++ taken)) NotLayers
state_fault count xs kind name revision size missing taken front lt small fits sn sr ss len more = no_end count xs (head_bytes kind name revision size ++ taken) front lt small fits (λ l after held e.
    let same = same_head kind name revision size taken after l sn sr ss held e in
    omega (arith, len, more, same.size_is, ap length same.tail_is, length-append (language.written l.content) after))

-- ---- steps

-- one byte more of the front
pub front_step : (count byte : ℕ) → count < 5 → byte ≡ front_byte count → take count front_bytes ++ byte ∷ [] ≡ take (count + 1) front_bytes
front_step zero byte lt e = ap (λ (b : ℕ). b ∷ []) e
front_step (suc zero) byte lt e = ap (λ (b : ℕ). 254 ∷ b ∷ []) e
front_step (suc (suc zero)) byte lt e = ap (λ (b : ℕ). 254 ∷ 76 ∷ b ∷ []) e
front_step (suc (suc (suc zero))) byte lt e = ap (λ (b : ℕ). 254 ∷ 76 ∷ 65 ∷ b ∷ []) e
front_step (suc (suc (suc (suc zero)))) byte lt e = ap (λ (b : ℕ). 254 ∷ 76 ∷ 65 ∷ 89 ∷ b ∷ []) e
front_step (suc (suc (suc (suc (suc n))))) byte lt e = absurd (omega arith)

-- another byte in its place
pub front_other : (byte : ℕ) → byte ≢ front_byte 4 → IsOtherLayersVersion (take 4 front_bytes ++ byte ∷ [])
front_other byte wrong = (byte, [], refl, wrong)

pub front_wrong : (count byte : ℕ) → count < 4 → byte ≢ front_byte count → IsNoLayersPrefix (take count front_bytes ++ byte ∷ [])
front_wrong count byte lt wrong = record {
  known = λ rest other. differs count byte rest (other.0 ∷ other.1) lt wrong other.2;
  none = λ layers rest fits is. differs count byte rest (version ∷ counted_bytes layer_bytes layers) lt wrong is.spelled;
}
  where
    differs : (count byte : ℕ) (rest tail : List ℕ) → count < 4 → byte ≢ front_byte count → (take count front_bytes ++ byte ∷ []) ++ rest ≡ layers_mark ++ tail → ⊥
    differs zero byte rest tail lt wrong e = wrong (let f : byte ∷ rest ≡ 254 ∷ 76 ∷ 65 ∷ 89 ∷ tail = e in cc)
    differs (suc zero) byte rest tail lt wrong e = wrong (let f : 254 ∷ byte ∷ rest ≡ 254 ∷ 76 ∷ 65 ∷ 89 ∷ tail = e in cc)
    differs (suc (suc zero)) byte rest tail lt wrong e = wrong (let f : 254 ∷ 76 ∷ byte ∷ rest ≡ 254 ∷ 76 ∷ 65 ∷ 89 ∷ tail = e in cc)
    differs (suc (suc (suc zero))) byte rest tail lt wrong e = wrong (let f : 254 ∷ 76 ∷ 65 ∷ byte ∷ rest ≡ 254 ∷ 76 ∷ 65 ∷ 89 ∷ tail = e in cc)
    differs (suc (suc (suc (suc n)))) byte rest tail lt wrong e = absurd (omega arith)

-- a map has a layer
pub no_count : (bytes : List ℕ) → bytes ≡ to_be_bytes w64 0 → IsNoLayersPrefix (front_bytes ++ bytes)
no_count bytes zero_is = record {
  known = λ rest. known_front (bytes ++ rest);
  none = λ layers rest fits is.
      let m = map_begins 0 rest (bytes ++ rest) layers (omega arith) fits (ap (λ (t : List ℕ). t ++ rest) zero_is) is in
      empty_map layers m.0.2 m.0.0;
}

-- no layer begins with another kind, or has a longer name
pub no_start : (kind len : ℕ) (more : List ℕ) → len < 2 ^ 16 → (1 < kind) ⊎ (255 < len) → ReadsNoItem IsHeld layer_bytes ((kind ∷ to_be_bytes w16 len) ++ more)
no_start kind len more small wrong = λ l after held e.
    let same = same_start kind len more after l small held e in
    ⊎_elim (λ k. bad_kind l.kind (omega (arith, k, same.0))) (λ n. omega (arith, n, same.1, name_short l held)) wrong
  where
    bad_kind : (k : LayerKind) → 1 < kind_byte k → ⊥
    bad_kind kinds.Layer lt = omega arith
    bad_kind kinds.Policy lt = omega arith

    name_short : (l : Layer) → IsHeld l → length l.name ≤ 255
    name_short l held = ⊎_elim (λ c. omega (arith, ap length c.name)) (λ n. n.name.0) held.is_layer.is

-- no layer that can't begin so
pub cant_begin :
    (count : ℕ) (xs : List Layer) (kind : LayerKind) (name : List ℕ) (revision size : ℕ) (state : List ℕ) → AreFront xs → length xs < count → count < 2 ^ 64 → IsShort name → revision < 2 ^ 64 → size < 2 ^ 64 → length state ≡ 5 → ¬ CanBegin xs kind name revision size state
    → IsNoLayersPrefix (read_front count xs ++ (head_bytes kind name revision size ++ state))
cant_begin count xs kind name revision size state front lt small sn sr ss five cant = no_next count xs (head_bytes kind name revision size ++ state) front lt small (λ l more after held behind e.
    let same = same_head kind name revision size (state ++ more) after l sn sr ss held (sym (append_assoc (head_bytes kind name revision size) state more) ∙ e) in
    let w = language.written l.content in
    let long = written_long l.content in
    let fronts = same_fronts state state_front more (drop 5 w ++ after) five (same.tail_is ∙ ap (λ (t : List ℕ). t ++ after) (written_front l.content) ∙ append_assoc state_front (drop 5 w) after) in
    cant (record {
      may = subst (λ (k : LayerKind). MayHave k name revision) same.kind_is (subst (λ (n : List ℕ). MayHave l.kind n revision) same.name_is (subst (λ (r : ℕ). MayHave l.kind l.name r) same.revision_is (may_have l held)));
      long = omega (arith, long, same.size_is);
      front = ([], fronts.0 ∙ sym (append-nil state_front));
      behind = subst (λ (n : List ℕ). IsKeyBehind xs kind n) same.name_is (subst (λ (k : LayerKind). IsKeyBehind xs k l.name) same.kind_is behind);
    }))

-- ---- the state of a layer

-- the fifth byte stays
pub fifth_more : (taken more : List ℕ) → slice_get taken 4 ≡ Some 2 → slice_get (taken ++ more) 4 ≡ Some 2
fifth_more [] more e = absurd cc
fifth_more (a ∷ []) more e = absurd cc
fifth_more (a ∷ b ∷ []) more e = absurd cc
fifth_more (a ∷ b ∷ c ∷ []) more e = absurd cc
fifth_more (a ∷ b ∷ c ∷ d ∷ []) more e = absurd cc
fifth_more (a ∷ b ∷ c ∷ d ∷ x ∷ taken) more e = e

pub known_state : (bytes : List ℕ) → slice_get bytes 4 ≡ Some 2 → ¬ IsOtherStateVersion bytes
known_state bytes two other = other.3 versions.Second (let one : Some other.0 ≡ Some 2 = sym (ap (λ (b : List ℕ). slice_get b 4) other.2) ∙ two in cc)

-- no layer has a state that begins as none does
pub no_state_inside :
    (count : ℕ) (xs : List Layer) (kind : LayerKind) (name : List ℕ) (revision size : ℕ) (taken : List ℕ) → AreFront xs → length xs < count → count < 2 ^ 64 → IsShort name → revision < 2 ^ 64 → size < 2 ^ 64 → length taken ≤ size → IsNoStatePrefix taken
    → IsNoLayersPrefix (read_front count xs ++ (head_bytes kind name revision size ++ taken))
no_state_inside count xs kind name revision size taken front lt small sn sr ss few none = no_next count xs (head_bytes kind name revision size ++ taken) front lt small (λ l more after held behind e.
    let same = same_head kind name revision size (taken ++ more) after l sn sr ss held (sym (append_assoc (head_bytes kind name revision size) taken more) ∙ e) in
    let w = language.written l.content in
    let longer = longer_front taken more w after same.tail_is (omega (arith, few, same.size_is)) in
    let state = (sound.reads_own l.content held.is_layer.valid held.long).0 in
    none state.0 longer.0 state.1.valid (subst (λ (b : List ℕ). length b < 2 ^ 64) longer.1 held.long) (subst (λ (b : List ℕ). IsTableBytes b state.0) longer.1 state.1.spelled))

-- a piece of a state was taken in behind other bytes
pub state_taken :
    (count : ℕ) (xs : List Layer) (kind : LayerKind) (name : List ℕ) (revision size : ℕ) (taken piece : List ℕ) (new : states.Intake) → AreFront xs → length xs < count → count < 2 ^ 64 → IsShort name → revision < 2 ^ 64 → size < 2 ^ 64
    → length (taken ++ piece) ≤ size → slice_get (taken ++ piece) 4 ≡ Some 2 → states.IsIntake (taken ++ piece) new
    → IsLayersIntake ((read_front count xs ++ head_bytes kind name revision size) ++ (taken ++ piece)) (intake_behind (read_front count xs ++ head_bytes kind name revision size) new)
state_taken count xs kind name revision size taken piece (states.so_far t) front lt small sn sr ss few two is = ap (λ (b : List ℕ). (read_front count xs ++ head_bytes kind name revision size) ++ b) is
state_taken count xs kind name revision size taken piece states.other_version front lt small sn sr ss few two is = absurd (known_state (taken ++ piece) two is)
state_taken count xs kind name revision size taken piece states.no_state front lt small sn sr ss few two is =
    subst IsNoLayersPrefix (sym (append_assoc (read_front count xs) (head_bytes kind name revision size) (taken ++ piece))) (no_state_inside count xs kind name revision size (taken ++ piece) front lt small sn sr ss few is.0)
state_taken count xs kind name revision size taken piece states.failed front lt small sn sr ss few two is = absurd is

-- a layer was read
pub layer_read :
    (count : ℕ) (xs : List Layer) (l : Layer) (size : ℕ) (taken : List ℕ) → language.written l.content ≡ taken → length taken ≡ size
    → (read_front count xs ++ head_bytes l.kind l.name l.revision size) ++ taken ≡ read_front count (xs ++ l ∷ [])
layer_read count xs l size taken own len =
    let number = to_be_bytes w64 count in
    let flat = flat_map layer_bytes xs in
    let head = head_bytes l.kind l.name l.revision size in
    let whole : head ++ taken ≡ layer_bytes l ++ [] =
    ap (λ (n : ℕ). head_bytes l.kind l.name l.revision n ++ taken) (sym len ∙ ap length (sym own)) ∙ ap (λ (t : List ℕ). head_bytes l.kind l.name l.revision (length (language.written l.content)) ++ t) (sym own) ∙ sym (layer_parts l) ∙ sym (append-nil (layer_bytes l)) in
    let items : flat ++ (head ++ taken) ≡ flat_map layer_bytes (xs ++ l ∷ []) ++ [] = items_more layer_bytes xs l (flat ++ (head ++ taken)) (head ++ taken) [] refl whole in
    append_assoc (read_front count xs) head taken ∙ ap (λ (t : List ℕ). layers_mark ++ (version ∷ t)) (append_assoc number flat (head ++ taken) ∙ ap (λ (t : List ℕ). number ++ t) (items ∙ append-nil (flat_map layer_bytes (xs ++ l ∷ []))))

-- no layer has a state that is none, or is not well formed in a policy
pub no_layer_inside :
    (count : ℕ) (xs : List Layer) (kind : LayerKind) (name : List ℕ) (revision size : ℕ) (taken : List ℕ) → AreFront xs → length xs < count → count < 2 ^ 64 → IsShort name → revision < 2 ^ 64 → size < 2 ^ 64 → length taken ≡ size
    → ((table : Table) → language.IsValid table → language.written table ≡ taken → (kind ≡ kinds.Policy → IsWellFormed (language.table_refuses table)) → ⊥)
    → IsNoLayersPrefix ((read_front count xs ++ head_bytes kind name revision size) ++ taken)
no_layer_inside count xs kind name revision size taken front lt small sn sr ss len none =
    subst IsNoLayersPrefix (sym (append_assoc (read_front count xs) (head_bytes kind name revision size) taken)) (no_next count xs (head_bytes kind name revision size ++ taken) front lt small (λ l more after held behind e.
    let same = same_head kind name revision size (taken ++ more) after l sn sr ss held (sym (append_assoc (head_bytes kind name revision size) taken more) ∙ e) in
    let w = language.written l.content in
    let fronts = same_fronts taken w more after (len ∙ sym same.size_is) same.tail_is in
    none l.content held.is_layer.valid (sym fronts.0) (λ policy. held.is_layer.well_formed (same.kind_is ∙ policy))))

-- ---- all layers

pub whole_read : (count : ℕ) (xs : List Layer) → length xs ≡ count → layers_bytes xs ≡ read_front count xs
unfolding counted_bytes
whole_read count xs len = ap (λ (n : ℕ). layers_mark ++ (version ∷ (to_be_bytes w64 n ++ flat_map layer_bytes xs))) len

-- nothing comes behind them
pub no_more : (xs : List Layer) (piece : List ℕ) → IsMap xs → 0 < length piece → IsNoLayersPrefix (layers_bytes xs ++ piece)
unfolding counted_bytes
no_more xs piece map some = record {
  known = λ rest. known_front (((to_be_bytes w64 (length xs) ++ flat_map layer_bytes xs) ++ piece) ++ rest);
  none = λ ys rest fits is.
      let number = to_be_bytes w64 (length xs) in
      let flat = flat_map layer_bytes xs in
      let all = ((number ++ flat) ++ piece) ++ rest in
      let parts : all ≡ number ++ (flat ++ (piece ++ rest)) = append_assoc (number ++ flat) piece rest ∙ append_assoc number flat (piece ++ rest) in
      let held = all_held xs map.each (omega (arith, fits, ap length parts, length-append number (flat ++ (piece ++ rest)), length-append flat (piece ++ rest))) in
      let m = map_begins (length xs) (flat ++ (piece ++ rest)) all ys held.1 fits parts is in
      let same = one_list IsHeld layer_bytes one_layer xs ys (piece ++ rest) [] held.0 m.0.1 (sym m.0.0) (m.1 ∙ sym (append-nil (flat_map layer_bytes ys))) in
      omega (arith, some, ap length same.1, length-append piece rest);
}
