-- Maps of layers, read from bytes layer after layer.
use Rattle.std.proofs.Common.{◌≡◌, ◌≢◌, ◌⊎◌, inl, inr, ⊎_elim, ℕ, suc, ◌<◌, ◌^◌, List, [], ◌∷◌, ◌++◌, Bool, true, ◌==◌, append-nil, length, Some, None, refl, sym, ap, ◌∙◌, subst, arith}
use Rattle.std.specs.Int.{w64, to_be_bytes}
use Rattle.std.proofs.lemmas.Bool.Decides.{nat_tests}
use Rattle.std.specs.List.{flat_map, AllByRecursion}
use Rattle.std.specs.Str.{IsUtf8, IsAscii}
use Rattle.std.proofs.lemmas.Str.{IsUtf8-from_ascii}
use Rattle.std.proofs.lemmas.Str.Ascii.{IsAscii-nil, IsAscii-cons}
use Rattle.std.proofs.lemmas.List.{length-append}
use Rattle.cue_codec.specs.Parts.{counted_bytes}
use Rattle.cue_codec.specs.Reading.{ReadsItem, ReadsNoItem, number_at}
use Rattle.cue_codec.specs.Inner.Reading.{AreSo}
use Rattle.cue_codec.proofs.Codes.{list_step, all_more, one_list, one_number, wide64}
use Rattle.cue_codec.proofs.Numbers.{IsBytes, number_takes, number_missing, read64}
use Rattle.cue_policies.specs.declared.kind.LayerKind.{LayerKind}
use Rattle.cue_layers.specs.declared.layer.Layer.{Layer}
use Rattle.cue_layers.specs.Bytes.{layer_bytes}
use Rattle.cue_layers.specs.Layers.{key_of, IsKeyBefore, IsLayer, IsMap, IsCommons, BeginsWithCommons}
use Rattle.cue_layers.specs.Names.{EndsName, MayFollow, IsWordByte}
use Rattle.cue_layers.specs.Puts.{HasElement}
use Rattle.cue_layers.specs.Inner.Reading.{IsHeld, MayHave, AreFront, IsBehind, AreSoManyOfMap}
use Rattle.cue_layers.proofs.Keys.{order_both, order_across}
use Rattle.cue_layers.proofs.Lists.{all_at}
use Rattle.cue_layers.proofs.Merging.{all_before}
use Rattle.cue_layers.proofs.ReadBytes.{one_layer, all_held}
use Rattle.cue_layers.proofs.Replacing.{no_empty_name}

-- ---- names are texts

low : (before b : ℕ) → MayFollow before b → b < 128
low before b may = ⊎_elim word (λ h. ⊎_elim (λ e. omega (arith, e)) (λ k. ⊎_elim (λ e. omega (arith, e)) (λ e. omega (arith, e)) k) h.1) may
  where
    word : IsWordByte b → b < 128
    word h = ⊎_elim (λ r. omega (arith, r.0, r.1)) (λ g. ⊎_elim (λ r. omega (arith, r.0, r.1)) (λ k. ⊎_elim (λ r. omega (arith, r.0, r.1)) (λ e. omega (arith, e)) k) g) h

ends_ascii : (before : ℕ) (bytes : List ℕ) → EndsName before bytes → IsAscii bytes
ends_ascii before [] h = IsAscii-nil
ends_ascii before (b ∷ bytes) h = IsAscii-cons b bytes (low before b h.0) (ends_ascii b bytes h.1)

pub utf8_name : (kind : LayerKind) (name : List ℕ) (revision : ℕ) → MayHave kind name revision → IsUtf8 name
utf8_name kind name revision (inl h) = subst IsUtf8 (sym h.1) (IsUtf8-from_ascii [] IsAscii-nil)
utf8_name kind name revision (inr h) = IsUtf8-from_ascii name (ends_ascii 47 name h.0.1)

-- ---- a layer behind others

snoc_parts : {X : Type 0} (x : X) (xs : List X) → (front : List X) × (last : X) × (x ∷ xs ≡ front ++ last ∷ [])
snoc_parts x [] = ([], x, refl)
snoc_parts {X} x (y ∷ ys) = let r = snoc_parts y ys in (x ∷ r.0, r.1, ap (λ (zs : List X). x ∷ zs) r.2)

commons_first : (l : Layer) → IsHeld l → l.name ≡ [] → IsCommons l
commons_first l held is = ⊎_elim (λ c. c) (λ n. absurd (no_empty_name l.name n.name is)) held.is_layer.is

pub no_front : AreFront []
no_front = record { in_order = tt; commons = inl refl; each = tt }

pub more_front : (ls : List Layer) (l : Layer) → AreFront ls → IsBehind ls l → IsHeld l → AreFront (ls ++ l ∷ [])
more_front ls l front behind held = record {
  in_order = order_both ls (l ∷ []) front.in_order (tt, tt) (λ a b h g. ⊎_elim (λ e. subst (λ (z : Layer). IsKeyBefore (key_of a) (key_of z)) e (before a h)) (λ no. absurd no) g);
  commons = inr (first ls front.commons behind);
  each = all_more IsHeld ls l front.each held;
}
  where
    before : (a : Layer) → HasElement ls a → IsKeyBefore (key_of a) (key_of l)
    before a h = ⊎_elim
        (λ none. absurd (let P : List Layer → Type 0 = λ xs. HasElement xs a in subst P none.0 h))
        (λ some. all_at (λ (z : Layer). IsKeyBefore (key_of z) (key_of l)) ls a (all_before ls some.0 some.1 l front.in_order some.2 some.3) h)
        behind

    first : (xs : List Layer) → (xs ≡ []) ⊎ BeginsWithCommons xs → IsBehind xs l → BeginsWithCommons (xs ++ l ∷ [])
    first [] c (inl none) = commons_first l held none.1
    first [] c (inr some) = absurd (nothing some.0 some.1 some.2)
      where
        nothing : (f : List Layer) (x : Layer) → [] ≡ f ++ x ∷ [] → ⊥
        nothing [] x e = cc
        nothing (y ∷ f) x e = cc
    first (x ∷ xs) (inl none) b = absurd cc
    first (x ∷ xs) (inr c) b = c

-- a list that begins as another one does, with one layer more
longer : (xs ys : List Layer) (l : Layer) (rest after s : List ℕ) → AllByRecursion IsHeld xs → AllByRecursion IsHeld ys → IsHeld l → length xs < length ys → flat_map layer_bytes xs ++ rest ≡ flat_map layer_bytes ys ++ s → rest ≡ layer_bytes l ++ after
    → (more : List Layer) × (ys ≡ xs ++ l ∷ more)
longer [] [] l rest after s hx hy hl lt e is = absurd (omega arith)
longer [] (y ∷ ys) l rest after s hx hy hl lt e is =
    let same = one_layer l y after (flat_map layer_bytes ys ++ s) hl hy.0 (sym is ∙ e ∙ list_step layer_bytes y ys s) in
    (ys, ap (λ (z : Layer). z ∷ ys) (sym same.0))
longer (x ∷ xs) [] l rest after s hx hy hl lt e is = absurd (omega arith)
longer (x ∷ xs) (y ∷ ys) l rest after s hx hy hl lt e is =
    let same = one_layer x y (flat_map layer_bytes xs ++ rest) (flat_map layer_bytes ys ++ s) hx.0 hy.0 (sym (list_step layer_bytes x xs rest) ∙ e ∙ list_step layer_bytes y ys s) in
    let more = longer xs ys l rest after s hx.1 hy.1 hl (omega arith) same.1 is in
    (more.0, sym (λ i. same.0 i ∷ sym more.1 i))

-- a layer of a map comes behind those in front of it
pub behind_in_map : (xs more : List Layer) (l : Layer) → IsMap (xs ++ l ∷ more) → IsBehind xs l
behind_in_map [] more l map = inl (refl, map.commons.name)
behind_in_map (x ∷ xs) more l map =
    let p = snoc_parts x xs in
    let some : HasElement (x ∷ xs) p.1 = let P : List Layer → Type 0 = λ ls. HasElement ls p.1 in subst P (sym p.2) (last_in p.0 p.1) in
    inr (p.0, p.1, p.2, order_across (x ∷ xs) (l ∷ more) p.1 l map.in_order some (inl refl))
  where
    last_in : (f : List Layer) (z : Layer) → HasElement (f ++ z ∷ []) z
    last_in [] z = inl refl
    last_in (y ∷ f) z = inr (last_in f z)

-- no map has a layer that is not behind the others
pub not_behind :
    (count : ℕ) (xs : List Layer) (l : Layer) (bytes rest after : List ℕ) → AreFront xs → IsHeld l → length xs < count → bytes ≡ flat_map layer_bytes xs ++ rest → rest ≡ layer_bytes l ++ after
    → ¬ IsBehind xs l → ReadsNoItem (AreSoManyOfMap count) (flat_map layer_bytes) bytes
not_behind count xs l bytes rest after front held lt parts is bad = λ ys s h e.
    let n : length ys ≡ count = h.0 in
    let more = longer xs ys l rest after s front.each h.1 held (omega arith) (sym parts ∙ e) is in
    bad (behind_in_map xs more.0 l (subst IsMap more.1 h.2))

pub none_of_map : (count : ℕ) (bytes : List ℕ) → ReadsNoItem (AreSo IsHeld count) (flat_map layer_bytes) bytes → ReadsNoItem (AreSoManyOfMap count) (flat_map layer_bytes) bytes
none_of_map count bytes none = λ ys s h e. none ys s (h.0, h.1) e

-- ---- the count in front

counted_parts : (ls : List Layer) → counted_bytes layer_bytes ls ≡ to_be_bytes w64 (length ls) ++ flat_map layer_bytes ls
unfolding counted_bytes
counted_parts ls = refl

pub map_by : (ls : List Layer) → AreFront ls → length ls ≢ 0 → IsMap ls
map_by ls front some = record {
  in_order = front.in_order;
  commons = ⊎_elim (λ none. absurd (some (ap length none))) (λ c. c) front.commons;
  each = layers ls front.each;
}
  where
    layers : (ls : List Layer) → AllByRecursion IsHeld ls → AllByRecursion IsLayer ls
    layers [] h = tt
    layers (l ∷ ls) h = (h.0.is_layer, layers ls h.1)

pub map_spelled : (bytes rest after : List ℕ) (count : ℕ) (ls : List Layer) → IsBytes bytes → Some (count, rest) ≡ number_at w64 bytes → ReadsItem (AreSo IsHeld count) (flat_map layer_bytes) ls rest after → after ≡ [] → bytes ≡ counted_bytes layer_bytes ls
map_spelled bytes rest after count ls fits is begins none =
    let takes = number_takes w64 (2 ^ 64) read64 bytes count rest fits is in
    takes.0 ∙ ap (λ (t : List ℕ). to_be_bytes w64 count ++ t) (begins.parts ∙ ap (λ (t : List ℕ). flat_map layer_bytes ls ++ t) none ∙ append-nil (flat_map layer_bytes ls))
    ∙ ap (λ (n : ℕ). to_be_bytes w64 n ++ flat_map layer_bytes ls) (sym begins.value.0) ∙ sym (counted_parts ls)

-- what a map has behind its count
pub counted_map : (bytes rest : List ℕ) (count : ℕ) (ls : List Layer) → length bytes < 2 ^ 64 → IsBytes bytes → Some (count, rest) ≡ number_at w64 bytes → IsMap ls → bytes ≡ counted_bytes layer_bytes ls
    → AreSoManyOfMap count ls × (rest ≡ flat_map layer_bytes ls ++ [])
counted_map bytes rest count ls lt fits is map e =
    let spelled = e ∙ counted_parts ls in
    let held = all_held ls map.each (omega (arith, lt, ap length spelled, length-append (to_be_bytes w64 (length ls)) (flat_map layer_bytes ls))) in
    let takes = number_takes w64 (2 ^ 64) read64 bytes count rest fits is in
    let same = one_number w64 (2 ^ 64) wide64 count (length ls) rest (flat_map layer_bytes ls) takes.1 held.1 (sym takes.0 ∙ spelled) in
    ((sym same.0, held.0, map), same.1 ∙ sym (append-nil (flat_map layer_bytes ls)))

pub count_missing : (bytes : List ℕ) (ls : List Layer) → None ≡ number_at w64 bytes → bytes ≡ counted_bytes layer_bytes ls → ⊥
count_missing bytes ls is e =
    omega (arith, number_missing w64 bytes is, ap length (e ∙ counted_parts ls), length-append (to_be_bytes w64 (length ls)) (flat_map layer_bytes ls), wide64.len (length ls))

-- no map has layers without any, or bytes behind them
pub empty_map : (ls : List Layer) → IsMap ls → length ls ≡ 0 → ⊥
empty_map [] map e = map.commons
empty_map (l ∷ ls) map e = absurd (omega arith)

pub trailing : (count : ℕ) (xs ys : List Layer) (bytes after : List ℕ) → ReadsItem (AreSo IsHeld count) (flat_map layer_bytes) xs bytes after → AreSoManyOfMap count ys → bytes ≡ flat_map layer_bytes ys ++ [] → after ≡ []
trailing count xs ys bytes after begins h e =
    (one_list IsHeld layer_bytes one_layer xs ys after [] begins.value.1 h.1 (begins.value.0 ∙ sym h.0) (sym begins.parts ∙ e)).1

pub nil_by : (xs : List ℕ) (b : Bool) → b ≡ (length xs == 0) → b ≡ true → xs ≡ []
nil_by [] b e t = refl
nil_by (x ∷ xs) b e t = absurd (let no : (suc (length xs) == 0) ≡ true = sym e ∙ t in grind (arith, nat_tests))
