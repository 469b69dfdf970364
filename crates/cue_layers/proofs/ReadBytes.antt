-- Layers in front of bytes.
use Rattle.std.proofs.Common.{◌≡◌, ◌≢◌, ⊎_elim, ℕ, ◌+◌, ◌<◌, ◌≤◌, ◌^◌, List, [], ◌∷◌, ◌++◌, append_assoc, length, Some, None, refl, sym, ap, ◌∙◌, subst, arith}
use Rattle.std.specs.Int.{Width, w16, w64, to_be_bytes}
use Rattle.std.specs.List.{flat_map, AllByRecursion}
use Rattle.std.proofs.lemmas.List.{length-append}
use Rattle.std.proofs.lemmas.List.Concat.{flat_map-cons}
use Rattle.cue_codec.specs.Parts.{text_bytes}
use Rattle.cue_codec.specs.Reading.{ReadsItem, ReadsNoItem, IsShort, number_at}
use Rattle.cue_codec.proofs.Codes.{OneItem, IsWide as IsWidth, same_fronts, wide16, wide64, one_number}
use Rattle.cue_codec.proofs.Numbers.{IsBytes, IsRead, read16, read64, number_takes, number_missing}
use Rattle.cue_policies.specs.declared.kind.LayerKind.{LayerKind}
use Rattle.cue_policies.specs.declared.kind.LayerKind.TheVariants as kinds
use Rattle.cue_replica.specs.Language.{Table, language}
use Rattle.cue_replica.proofs.Sound.{sound}
use Rattle.cue_lattice.specs.Question.{SameAnswers}
use Rattle.cue_layers.specs.declared.layer.Layer.{Layer}
use Rattle.cue_layers.specs.Bytes.{block_bytes, layer_bytes}
use Rattle.cue_layers.specs.Layers.{IsLayer, kind_byte}
use Rattle.cue_layers.specs.Inner.Reading.{AreBoth, both_bytes, IsKind, kind_bytes, IsWide, wide_bytes, IsLong, LayerParts, AreParts, parts_bytes, parts_of, IsHeld, HasShortName}
use Rattle.cue_layers.proofs.Maps.{same_layer}

-- ---- one thing and another one behind it

pub both_found :
    {A B : Type 0} (va : A → Type 0) (ca : A → List ℕ) (vb : B → Type 0) (cb : B → List ℕ) (a : A) (b : B) (bytes middle rest : List ℕ)
    → ReadsItem va ca a bytes middle → ReadsItem vb cb b middle rest → ReadsItem (AreBoth va vb) (both_bytes ca cb) (a, b) bytes rest
both_found va ca vb cb a b bytes middle rest x y = record {
  value = (x.value, y.value);
  parts = x.parts ∙ ap (λ (t : List ℕ). ca a ++ t) y.parts ∙ sym (append_assoc (ca a) (cb b) rest);
}

pub one_both :
    {A B : Type 0} (va : A → Type 0) (ca : A → List ℕ) (vb : B → Type 0) (cb : B → List ℕ) → OneItem va ca → OneItem vb cb → OneItem (AreBoth va vb) (both_bytes ca cb)
one_both va ca vb cb oa ob x y r s vx vy e =
    let f = oa x.0 y.0 (cb x.1 ++ r) (cb y.1 ++ s) vx.0 vy.0 (sym (append_assoc (ca x.0) (cb x.1) r) ∙ e ∙ append_assoc (ca y.0) (cb y.1) s) in
    let g = ob x.1 y.1 r s vx.1 vy.1 f.1 in
    (λ i. (f.0 i, g.0 i), g.1)

pub first_missing :
    {A B : Type 0} (va : A → Type 0) (ca : A → List ℕ) (vb : B → Type 0) (cb : B → List ℕ) (bytes : List ℕ) → ReadsNoItem va ca bytes → ReadsNoItem (AreBoth va vb) (both_bytes ca cb) bytes
first_missing va ca vb cb bytes none = λ x s h e. none x.0 (cb x.1 ++ s) h.0 (e ∙ append_assoc (ca x.0) (cb x.1) s)

pub second_missing :
    {A B : Type 0} (va : A → Type 0) (ca : A → List ℕ) (vb : B → Type 0) (cb : B → List ℕ) (a : A) (bytes middle : List ℕ) → OneItem va ca → ReadsItem va ca a bytes middle → ReadsNoItem vb cb middle
    → ReadsNoItem (AreBoth va vb) (both_bytes ca cb) bytes
second_missing va ca vb cb a bytes middle one x none = λ y s h e.
    let same = one a y.0 middle (cb y.1 ++ s) x.value h.0 (sym x.parts ∙ e ∙ append_assoc (ca y.0) (cb y.1) s) in
    none y.1 s h.1 same.1

-- ---- bytes behind their length

module _ (w : Width) (limit : ℕ) (wide : IsWidth w limit) (reads : IsRead w limit) where
  abbrev behind : List ℕ → List ℕ
  behind bytes = to_be_bytes w (length bytes) ++ bytes

  parts_behind : (bytes r : List ℕ) → behind bytes ++ r ≡ to_be_bytes w (length bytes) ++ (bytes ++ r)
  parts_behind bytes r = append_assoc (to_be_bytes w (length bytes)) bytes r

  one_behind : OneItem (λ bytes. length bytes < limit) behind
  one_behind x y r s lx ly e =
      let f = one_number w limit wide (length x) (length y) (x ++ r) (y ++ s) lx ly (sym (parts_behind x r) ∙ e ∙ parts_behind y s) in
      same_fronts x y r s f.0 f.1

  behind_found : (bytes rest front after : List ℕ) (n : ℕ) → IsBytes bytes → Some (n, rest) ≡ number_at w bytes → rest ≡ front ++ after → length front ≡ n → ReadsItem (λ bytes. length bytes < limit) behind front bytes after
  behind_found bytes rest front after n fits is parts len =
      let takes = number_takes w limit reads bytes n rest fits is in
      record {
        value = let lt : n < limit = takes.1 in omega arith;
        parts = takes.0 ∙ ap (λ (t : List ℕ). to_be_bytes w n ++ t) parts ∙ ap (λ (m : ℕ). to_be_bytes w m ++ (front ++ after)) (sym len) ∙ sym (parts_behind front after);
      }

  behind_short : (bytes : List ℕ) → None ≡ number_at w bytes → ReadsNoItem (λ bytes. length bytes < limit) behind bytes
  behind_short bytes is = λ t r h e.
      omega (arith, number_missing w bytes is, ap length (e ∙ parts_behind t r), length-append (to_be_bytes w (length t)) (t ++ r), wide.len (length t))

  behind_cut : (bytes rest : List ℕ) (n : ℕ) → IsBytes bytes → Some (n, rest) ≡ number_at w bytes → length rest < n → ReadsNoItem (λ bytes. length bytes < limit) behind bytes
  behind_cut bytes rest n fits is short = λ t r h e.
      let takes = number_takes w limit reads bytes n rest fits is in
      let same = one_number w limit wide n (length t) rest (t ++ r) takes.1 h (sym takes.0 ∙ e ∙ parts_behind t r) in
      omega (arith, short, same.0, ap length same.1, length-append t r)

-- a name
pub one_short : OneItem IsShort text_bytes
unfolding text_bytes
one_short = one_behind w16 (2 ^ 16) wide16 read16

pub short_found : (bytes rest front after : List ℕ) (n : ℕ) → IsBytes bytes → Some (n, rest) ≡ number_at w16 bytes → rest ≡ front ++ after → length front ≡ n → ReadsItem IsShort text_bytes front bytes after
unfolding text_bytes
short_found = behind_found w16 (2 ^ 16) wide16 read16

pub short_none : (bytes : List ℕ) → None ≡ number_at w16 bytes → ReadsNoItem IsShort text_bytes bytes
unfolding text_bytes
short_none = behind_short w16 (2 ^ 16) wide16 read16

pub short_cut : (bytes rest : List ℕ) (n : ℕ) → IsBytes bytes → Some (n, rest) ≡ number_at w16 bytes → length rest < n → ReadsNoItem IsShort text_bytes bytes
unfolding text_bytes
short_cut = behind_cut w16 (2 ^ 16) wide16 read16

-- state bytes
pub one_block : OneItem IsLong block_bytes
unfolding block_bytes
one_block = one_behind w64 (2 ^ 64) wide64 read64

pub block_found : (bytes rest front after : List ℕ) (n : ℕ) → IsBytes bytes → Some (n, rest) ≡ number_at w64 bytes → rest ≡ front ++ after → length front ≡ n → ReadsItem IsLong block_bytes front bytes after
unfolding block_bytes
block_found = behind_found w64 (2 ^ 64) wide64 read64

pub block_none : (bytes : List ℕ) → None ≡ number_at w64 bytes → ReadsNoItem IsLong block_bytes bytes
unfolding block_bytes
block_none = behind_short w64 (2 ^ 64) wide64 read64

pub block_cut : (bytes rest : List ℕ) (n : ℕ) → IsBytes bytes → Some (n, rest) ≡ number_at w64 bytes → length rest < n → ReadsNoItem IsLong block_bytes bytes
unfolding block_bytes
block_cut = behind_cut w64 (2 ^ 64) wide64 read64

-- a revision
pub one_wide : OneItem IsWide wide_bytes
one_wide m n r s lm ln e = one_number w64 (2 ^ 64) wide64 m n r s lm ln e

pub wide_found : (bytes rest : List ℕ) (n : ℕ) → IsBytes bytes → Some (n, rest) ≡ number_at w64 bytes → ReadsItem IsWide wide_bytes n bytes rest
wide_found bytes rest n fits is = let takes = number_takes w64 (2 ^ 64) read64 bytes n rest fits is in record { value = takes.1; parts = takes.0 }

pub wide_none : (bytes : List ℕ) → None ≡ number_at w64 bytes → ReadsNoItem IsWide wide_bytes bytes
wide_none bytes is = λ n r h e. omega (arith, number_missing w64 bytes is, ap length e, length-append (to_be_bytes w64 n) r, wide64.len n)

-- a kind
pub one_kind : OneItem IsKind kind_bytes
one_kind kinds.Layer kinds.Layer r s a b e = (refl, cc)
one_kind kinds.Policy kinds.Policy r s a b e = (refl, cc)
one_kind kinds.Layer kinds.Policy r s a b e = absurd cc
one_kind kinds.Policy kinds.Layer r s a b e = absurd cc

pub kind_found : (bytes rest : List ℕ) (b : ℕ) (kind : LayerKind) → bytes ≡ b ∷ rest → b ≡ kind_byte kind → ReadsItem IsKind kind_bytes kind bytes rest
kind_found bytes rest b kind parts is = record { value = tt; parts = parts ∙ ap (λ (x : ℕ). x ∷ rest) is }

pub no_kind : (bytes rest : List ℕ) (b : ℕ) → bytes ≡ b ∷ rest → b ≢ 0 → b ≢ 1 → ReadsNoItem IsKind kind_bytes bytes
no_kind bytes rest b parts not_zero not_one = by
  where
    by : (kind : LayerKind) (r : List ℕ) → IsKind kind → bytes ≡ (kind_byte kind ∷ []) ++ r → ⊥
    by kinds.Layer r h e = not_zero (let same : b ∷ rest ≡ 0 ∷ r = sym parts ∙ e in cc)
    by kinds.Policy r h e = not_one (let same : b ∷ rest ≡ 1 ∷ r = sym parts ∙ e in cc)

pub no_byte : (bytes : List ℕ) → bytes ≡ [] → ReadsNoItem IsKind kind_bytes bytes
no_byte bytes is = λ kind r h e. let same : [] ≡ kind_byte kind ∷ r = sym is ∙ e in cc

pub one_key : OneItem (AreBoth IsKind IsShort) (both_bytes kind_bytes text_bytes)
one_key = one_both IsKind kind_bytes IsShort text_bytes one_kind one_short

pub one_parts : OneItem AreParts parts_bytes
one_parts = one_both (AreBoth IsKind IsShort) (both_bytes kind_bytes text_bytes) (AreBoth IsWide IsLong) (both_bytes wide_bytes block_bytes) one_key (one_both IsWide wide_bytes IsLong block_bytes one_wide one_block)

-- ---- layers

-- the parts of a layer
pub parts_are : (l : Layer) → IsHeld l → AreParts (parts_of l)
parts_are l held = ((tt, short), (wide, held.long))
  where
    short : IsShort l.name
    short = ⊎_elim (λ c. omega (arith, ap length c.name)) (λ n. let le : length l.name ≤ 255 = n.name.0 in omega arith) held.is_layer.is

    wide : l.revision < 2 ^ 64
    wide = ⊎_elim (λ c. omega (arith, c.revision)) (λ n. n.to) held.is_layer.is

layer_code : (l : Layer) (r : List ℕ) → layer_bytes l ++ r ≡ parts_bytes (parts_of l) ++ r
unfolding layer_bytes
layer_code l r = refl

-- tables with one spelling are equal
pub same_content : (a b : Table) → language.IsValid a → language.IsValid b → IsLong (language.written a) → language.written a ≡ language.written b → a ≡ b
same_content a b va vb held e =
    let here = (sound.reads_own a va held).1 in
    let P : List ℕ → Type 0 = λ bytes. IsLong bytes in
    let Q : List ℕ → Type 0 = λ bytes. SameAnswers (language.state_refuses bytes) (language.table_refuses b) in
    let there = subst Q (sym e) ((sound.reads_own b vb (subst P e held)).1) in
    sound.one_table a b va vb (λ path question. (
      λ h. (there path question).0 ((here path question).1 h),
      λ h. (here path question).0 ((there path question).1 h),
    ))

-- the parts tell the layer
pub same_parts : (a b : Layer) → IsHeld a → IsHeld b → parts_of a ≡ parts_of b → a ≡ b
same_parts a b ha hb e =
    same_layer a b (ap (λ (p : LayerParts). p.0.0) e) (ap (λ (p : LayerParts). p.0.1) e) (ap (λ (p : LayerParts). p.1.0) e)
    (same_content a.content b.content ha.is_layer.valid hb.is_layer.valid ha.long (ap (λ (p : LayerParts). p.1.1) e))

pub one_layer : OneItem IsHeld layer_bytes
one_layer x y r s hx hy e =
    let same = one_parts (parts_of x) (parts_of y) r s (parts_are x hx) (parts_are y hy) (sym (layer_code x r) ∙ e ∙ layer_code y s) in
    (same_parts x y hx hy same.0, same.1)

pub no_parts : (bytes : List ℕ) → ReadsNoItem AreParts parts_bytes bytes → ReadsNoItem IsHeld layer_bytes bytes
no_parts bytes none = λ l r held e. none (parts_of l) r (parts_are l held) (e ∙ layer_code l r)

pub bad_parts : (p : LayerParts) (bytes rest : List ℕ) → ReadsItem AreParts parts_bytes p bytes rest → ((l : Layer) → IsHeld l → parts_of l ≡ p → ⊥) → ReadsNoItem IsHeld layer_bytes bytes
bad_parts p bytes rest begins bad = λ l r held e.
    bad l held (sym (one_parts p (parts_of l) rest r begins.value (parts_are l held) (sym begins.parts ∙ e ∙ layer_code l r)).0)

pub layer_found : (p : LayerParts) (l : Layer) (bytes rest : List ℕ) → ReadsItem AreParts parts_bytes p bytes rest → IsLayer l → parts_of l ≡ p → ReadsItem IsHeld layer_bytes l bytes rest
layer_found p l bytes rest begins is same = record {
  value = record { is_layer = is; long = let P : LayerParts → Type 0 = λ q. IsLong q.1.1 in subst P (sym same) begins.value.1.1 };
  parts = begins.parts ∙ ap (λ (q : LayerParts). parts_bytes q ++ rest) (sym same) ∙ sym (layer_code l rest);
}

-- ---- whole maps

some_bytes : (l : Layer) → length (language.written l.content) < length (layer_bytes l)
unfolding layer_bytes block_bytes
some_bytes l =
    let written = language.written l.content in
    let block = to_be_bytes w64 (length written) ++ written in
    let says = to_be_bytes w64 l.revision ++ block in
    omega (arith, length-append (to_be_bytes w64 (length written)) written, length-append (to_be_bytes w64 l.revision) block, length-append (text_bytes l.name) says)

-- each layer is held where its bytes are
pub all_held : (ls : List Layer) → AllByRecursion IsLayer ls → length (flat_map layer_bytes ls) < 2 ^ 64 → AllByRecursion IsHeld ls × (length ls < 2 ^ 64)
all_held [] each lt = (tt, omega arith)
all_held (l ∷ ls) each lt =
    let parts = flat_map-cons layer_bytes l ls in
    let some = some_bytes l in
    let len : length (flat_map layer_bytes (l ∷ ls)) ≡ length (layer_bytes l) + length (flat_map layer_bytes ls) = ap length parts ∙ length-append (layer_bytes l) (flat_map layer_bytes ls) in
    let rest = all_held ls each.1 (omega (arith, lt, len)) in
    ((record { is_layer = each.0; long = omega (arith, lt, len, some) }, rest.0), omega (arith, lt, len, some, few ls))
  where
    few : (ls : List Layer) → length ls ≤ length (flat_map layer_bytes ls)
    few [] = omega arith
    few (m ∷ ms) = omega (arith, few ms, some_bytes m, ap length (flat_map-cons layer_bytes m ms), length-append (layer_bytes m) (flat_map layer_bytes ms))

pub short_names : (ls : List Layer) → AllByRecursion IsLayer ls → AllByRecursion HasShortName ls
short_names [] each = tt
short_names (l ∷ ls) each = (⊎_elim (λ c. omega (arith, ap length c.name)) (λ n. let le : length l.name ≤ 255 = n.name.0 in omega arith) each.0.is, short_names ls each.1)
