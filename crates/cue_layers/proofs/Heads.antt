-- What bytes tell that come in pieces: numbers, and what begins a layer.
use Rattle.std.proofs.Common.{◌≡◌, ⊎_elim, ℕ, ◌+◌, ◌-◌, ◌<◌, ◌^◌, List, [], ◌∷◌, ◌++◌, Some, None, append-nil, append_assoc, length, take, drop, refl, sym, ap, ◌∙◌, subst, arith}
use Rattle.std.specs.Prelude.{slice_get}
use Rattle.std.specs.Int.{w16, w64, from_be_bytes, to_be_bytes}
use Rattle.std.proofs.lemmas.List.{length-append, length-drop, length-take-le, take-append-drop, take_all}
use Rattle.cue_codec.specs.Pieces as states
use Rattle.cue_codec.specs.Parts.{text_bytes}
use Rattle.cue_codec.specs.Reading.{IsShort, number_at}
use Rattle.cue_codec.proofs.Codes.{wide16, wide64}
use Rattle.cue_codec.proofs.Numbers.{IsBytes, IsBytes-rest, read16, read64, number_takes, number_missing}
use Rattle.cue_policies.specs.declared.kind.LayerKind.{LayerKind}
use Rattle.cue_layers.specs.declared.layer.Layer.{Layer}
use Rattle.cue_layers.specs.declared.stage.LayersRead.{LayersRead}
use Rattle.cue_layers.specs.declared.stage.LayerStart.{LayerStart}
use Rattle.cue_layers.specs.declared.stage.StateRead.{StateRead}
use Rattle.cue_layers.specs.declared.stage.Stage.TheVariants as stages
use Rattle.cue_layers.specs.Bytes.{layers_bytes}
use Rattle.cue_layers.specs.Layers.{IsMap, kind_byte}
use Rattle.cue_layers.specs.Pieces.{IsLayersIntake}
use Rattle.cue_layers.specs.Inner.Reading.{AreFront, MayHave}
use Rattle.cue_layers.specs.Inner.Stages.{IsHead, CanBegin, IsPartRead, IsFed, HasTaken, start_bytes, read_bytes, before_state, intake_behind}
use Rattle.cue_layers.specs.Inner.Walks.{head_bytes}
use Rattle.cue_layers.proofs.ReadMaps.{map_by}
use Rattle.cue_layers.proofs.Stages.{read_front}
use Rattle.cue_layers.proofs.Steps.{whole_read, state_taken}

nil_of : (bytes : List ℕ) → length bytes ≡ 0 → bytes ≡ []
nil_of [] e = refl
nil_of (x ∷ bytes) e = absurd (omega (arith, e))

pub bytes_back : (front back : List ℕ) → IsBytes (front ++ back) → IsBytes back
bytes_back [] back h = h
bytes_back (x ∷ front) back h = bytes_back front back (IsBytes-rest x (x ∷ (front ++ back)) (front ++ back) refl h)

-- a number of 8 bytes
pub whole_count : (bytes number : List ℕ) (n : ℕ) → IsBytes bytes → length bytes ≡ 8 → number ≡ take 8 bytes → n ≡ from_be_bytes w64 number → (bytes ≡ to_be_bytes w64 n) × (n < 2 ^ 64)
whole_count bytes number n fits len cut is =
    let whole : take 8 bytes ≡ bytes = take_all 8 bytes (omega (arith, len)) in
    let value : n ≡ from_be_bytes w64 bytes = is ∙ ap (from_be_bytes w64) (cut ∙ whole) in
    (sym (ap (to_be_bytes w64) value ∙ read64.back bytes len fits), subst (λ (m : ℕ). m < 2 ^ 64) (sym value) (read64.below bytes fits))

-- a kind, and the length of a name
pub start_parts : (bytes rest end : List ℕ) (kind len : ℕ) → IsBytes bytes → length bytes ≡ 3 → bytes ≡ kind ∷ rest → Some (len, end) ≡ number_at w16 rest → (bytes ≡ kind ∷ to_be_bytes w16 len) × (len < 2 ^ 16)
start_parts bytes rest end kind len fits three e found =
    let takes = number_takes w16 (2 ^ 16) read16 rest len end (IsBytes-rest kind bytes rest e fits) found in
    let none : length end ≡ 0 = omega (arith, three, ap length e, ap length takes.0, length-append (to_be_bytes w16 len) end, wide16.len len) in
    let empty : end ≡ [] = nil_of end none in
    (e ∙ ap (λ (t : List ℕ). kind ∷ t) (takes.0 ∙ ap (λ (t : List ℕ). to_be_bytes w16 len ++ t) empty ∙ append-nil (to_be_bytes w16 len)), takes.1)

pub start_missing : (bytes rest : List ℕ) (kind : ℕ) → length bytes ≡ 3 → bytes ≡ kind ∷ rest → None ≡ number_at w16 rest → ⊥
start_missing bytes rest kind three e none =
    let short : length rest < 2 = number_missing w16 rest none in
    omega (arith, three, ap length e, short)

-- from the name of a layer to the front of its state
module _ (len : ℕ) (bytes back : List ℕ) (fits : IsBytes bytes) (long : length bytes ≡ len + 21) (b : back ≡ drop len bytes) where
  parts_again : bytes ≡ take len bytes ++ back
  parts_again = sym (ap (λ (t : List ℕ). take len bytes ++ t) b ∙ take-append-drop len bytes)

  fits_back : IsBytes back
  fits_back = bytes_back (take len bytes) back (subst IsBytes parts_again fits)

  back_long : length back ≡ 21
  back_long = omega (arith, ap length b, length-drop len bytes, long)

  pub no_revision : None ≡ number_at w64 back → ⊥
  no_revision none =
      let short : length back < 8 = number_missing w64 back none in
      omega (arith, short, back_long)

  pub no_size : (revision : ℕ) (rest : List ℕ) → Some (revision, rest) ≡ number_at w64 back → None ≡ number_at w64 rest → ⊥
  no_size revision rest first none =
      let one = number_takes w64 (2 ^ 64) read64 back revision rest fits_back first in
      let short : length rest < 8 = number_missing w64 rest none in
      omega (arith, short, back_long, ap length one.0, length-append (to_be_bytes w64 revision) rest, wide64.len revision)

  pub head_parts : len < 2 ^ 16 → (revision size : ℕ) (front rest state : List ℕ) → front ≡ take len bytes → Some (revision, rest) ≡ number_at w64 back → Some (size, state) ≡ number_at w64 rest → IsHead len front revision size state bytes
  head_parts small revision size front rest state f first second =
      let one = number_takes w64 (2 ^ 64) read64 back revision rest fits_back first in
      let two = number_takes w64 (2 ^ 64) read64 rest size state (bytes_back (to_be_bytes w64 revision) rest (subst IsBytes one.0 fits_back)) second in
      record {
        parts = parts_again ∙ ap (λ (t : List ℕ). t ++ back) (sym f) ∙ ap (λ (t : List ℕ). front ++ t) (one.0 ∙ ap (λ (t : List ℕ). to_be_bytes w64 revision ++ t) two.0);
        name_len = ap length f ∙ length-take-le len bytes (omega (arith, long));
        short = let name = ap length f ∙ length-take-le len bytes (omega (arith, long)) in omega (arith, name, small);
        state_len = omega (arith, back_long, ap length one.0, length-append (to_be_bytes w64 revision) rest, ap length two.0, length-append (to_be_bytes w64 size) state, wide64.len revision, wide64.len size);
        revision_small = one.1;
        size_small = two.1;
      }

-- they are what begins a layer, and its state
pub head_whole : (start : LayerStart) (name : List ℕ) (revision size : ℕ) (state bytes : List ℕ) → IsHead start.len name revision size state bytes → start_bytes start ++ bytes ≡ head_bytes start.kind name revision size ++ state
unfolding text_bytes
head_whole start name revision size state bytes h =
    let r = to_be_bytes w64 revision in
    let z = to_be_bytes w64 size in
    let n = to_be_bytes w16 (length name) in
    let tail = name ++ (r ++ (z ++ state)) in
    let inner : to_be_bytes w16 start.len ++ bytes ≡ ((n ++ name) ++ (r ++ z)) ++ state =
    ap (λ (t : List ℕ). to_be_bytes w16 start.len ++ t) h.parts ∙ ap (λ (m : ℕ). to_be_bytes w16 m ++ tail) (sym h.name_len) ∙ sym (append_assoc n name (r ++ (z ++ state)))
    ∙ ap (λ (t : List ℕ). (n ++ name) ++ t) (sym (append_assoc r z state)) ∙ sym (append_assoc (n ++ name) (r ++ z) state) in
    ap (λ (t : List ℕ). kind_byte start.kind ∷ t) inner

-- all layers were read
pub after_whole : (count : ℕ) (xs : List Layer) → AreFront xs → 0 < length xs → length xs ≡ count → IsMap xs × (layers_bytes xs ≡ read_front count xs)
after_whole count xs front some len = (map_by xs front (λ none. absurd (omega (arith, none, some))), whole_read count xs len)

-- the length of a name has 2 bytes
pub short_of : (kind : LayerKind) (name : List ℕ) (revision : ℕ) → MayHave kind name revision → IsShort name
short_of kind name revision may = ⊎_elim (λ c. omega (arith, ap length c.1)) (λ n. omega (arith, n.0.0)) may

-- ---- the state of a layer was begun

pub fed_begun : (size missing : ℕ) (taken : List ℕ) (intake : states.Intake) → length taken + missing ≡ size → slice_get taken 4 ≡ Some 2 → states.IsIntake taken intake → IsFed size missing intake
fed_begun size missing taken (states.so_far t) len two is = (omega (arith, len, ap length is), ap (λ (b : List ℕ). slice_get b 4) is ∙ two)
fed_begun size missing taken states.other_version len two is = tt
fed_begun size missing taken states.no_state len two is = tt
fed_begun size missing taken states.failed len two is = absurd is

pub begun_state :
    (read : LayersRead) (state : StateRead) (taken : List ℕ) → IsPartRead read → CanBegin read.layers.items state.kind state.name state.revision state.size taken → length taken ≡ 5 → state.revision < 2 ^ 64 → state.size < 2 ^ 64
    → state.missing ≡ state.size - 5 → states.IsIntake taken state.reader → HasTaken (read_bytes read ++ (head_bytes state.kind state.name state.revision state.size ++ taken)) (stages.State read state)
begun_state read state taken part can five sr ss left is =
    let two : slice_get taken 4 ≡ Some 2 = ap (λ (b : List ℕ). slice_get b 4) can.front.1 in
    let short = short_of state.kind state.name state.revision can.may in
    let long = can.long in
    let head = head_bytes state.kind state.name state.revision state.size in
    let taken_in = state_taken read.count read.layers.items state.kind state.name state.revision state.size [] taken state.reader part.front part.more part.small short sr ss (omega (arith, five, long)) two is in (
      (part, record { may = can.may; behind = can.behind; revision_small = sr; size_small = ss; fed = fed_begun state.size state.missing taken state.reader (omega (arith, left, five, long)) two is }, omega (arith, left, long)),
      subst (λ (b : List ℕ). IsLayersIntake b (intake_behind (before_state read state) state.reader)) (append_assoc (read_bytes read) head taken) taken_in,
    )
