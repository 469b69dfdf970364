-- Numbers, pieces, texts and lengths: what is read is what was written, and nothing else can have been.
use Rattle.std.proofs.Common.{◌≡◌, ℕ, suc, ◌^◌, ◌<◌, ◌≤◌, ℤ, pos, negsuc, Bool, true, false, cond, ltb, List, ◌∷◌, ◌++◌, length, get_or, take, drop, Option, Some, None, refl, sym, ap, subst, ◌∙◌, append_assoc, arith, inl, inr}
use Rattle.std.specs.Int.{Width, w16, w32, w64, byte_len, from_be_bytes, to_be_bytes, cast_signed, cast_unsigned}
use Rattle.std.specs.Str.{IsUtf8}
use Rattle.std.proofs.lemmas.Bool.{cases_lt, ltb-false, ltb-true, lt-ltb, le-ltb}
use Rattle.std.proofs.lemmas.Int.{ints, of_z-to_z, to_z-of_z}
use Rattle.std.proofs.lemmas.List.{take-append-drop, length-append, length-take, get_or-take, get_or_past}
use Rattle.std.proofs.lemmas.Nat.{be_bytes_2, be_bytes_4, be_bytes_8}
use mir.Val.{SFits}
use Rattle.cue_lattice.specs.Scalar.{IsInteger}
use Rattle.cue_codec.specs.declared.version.Version.{Version}
use Rattle.cue_codec.specs.declared.version.Version.TheVariants as versions
use Rattle.cue_codec.specs.Parts.{Lengths, integer_bytes, piece_bytes, text_bytes, most_bytes, index_bytes, lengths_bytes}
use Rattle.cue_codec.specs.Inner.Reading.{IsNoneRead}
use Rattle.cue_codec.specs.declared.unread.Unread.{Unread}
use Rattle.cue_codec.specs.Reading.{ReadsItem, ReadsNoItem, number_at, IsPieceBytes, IsWord, IsMost, IsIndex, AreWideLengths}
use Rattle.cue_codec.proofs.Codes.{OneItem, front_more, unread_so, same_fronts, wide16, wide32, wide64, one_number}

abbrev pub IsBytes : List ℕ → Type 0
IsBytes bytes = (i : ℕ) → get_or bytes i 0 < 256

IsBytes-take : (n : ℕ) (bytes : List ℕ) → IsBytes bytes → IsBytes (take n bytes)
IsBytes-take n bytes h i =
    elim (cases_lt i n) [
      | inl lt ↦ rw (get_or-take n bytes i 0 lt) (h i)
      | inr le ↦ rw (get_or_past (take n bytes) i 0 (omega (arith, length-take n bytes))) (omega arith)
    ]

pub IsBytes-rest : (tag : ℕ) (bytes rest : List ℕ) → bytes ≡ tag ∷ rest → IsBytes bytes → IsBytes rest
IsBytes-rest tag bytes rest e h i = subst (λ (t : List ℕ). get_or t (suc i) 0 < 256) e (h (suc i))

-- a number that is read from bytes is written so
pub record IsRead (w : Width) (limit : ℕ) : Type 0 where
  pub back : (bytes : List ℕ) → length bytes ≡ byte_len w → IsBytes bytes → to_be_bytes w (from_be_bytes w bytes) ≡ bytes
  pub below : (bytes : List ℕ) → IsBytes bytes → from_be_bytes w bytes < limit

pub read16 : IsRead w16 (2 ^ 16)
read16 = record { back = λ bytes len fits. be_bytes_2 bytes _ len fits refl; below = λ bytes fits. omega (arith, fits 0, fits 1) }

pub read32 : IsRead w32 (2 ^ 32)
read32 = record { back = λ bytes len fits. be_bytes_4 bytes _ len fits refl; below = λ bytes fits. omega (arith, fits 0, fits 1, fits 2, fits 3) }

pub read64 : IsRead w64 (2 ^ 64)
read64 = record {
  back = λ bytes len fits. be_bytes_8 bytes _ len fits refl;
  below = λ bytes fits. omega (arith, fits 0, fits 1, fits 2, fits 3, fits 4, fits 5, fits 6, fits 7);
}

guard_some : {A : Type 0} (b : Bool) (x y : A) → cond b None (Some x) ≡ Some y → (b ≡ false) × (x ≡ y)
guard_some true x y e = absurd cc
guard_some false x y e = (refl, cc)

guard_none : {A : Type 0} (b : Bool) (x : A) → cond b None (Some x) ≡ None → b ≡ true
guard_none true x e = refl
guard_none false x e = absurd cc

pub number_takes : (w : Width) (limit : ℕ) → IsRead w limit → (bytes : List ℕ) (n : ℕ) (rest : List ℕ) → IsBytes bytes → Some (n, rest) ≡ number_at w bytes → (bytes ≡ to_be_bytes w n ++ rest) × (n < limit)
unfolding number_at
number_takes w limit reads bytes n rest fits e =
    let g = guard_some (ltb (length bytes) (byte_len w)) (from_be_bytes w (take (byte_len w) bytes), drop (byte_len w) bytes) (n, rest) (sym e) in
    let long : byte_len w ≤ length bytes = ltb-false _ _ g.0 in
    let n-is : from_be_bytes w (take (byte_len w) bytes) ≡ n = ap (λ (p : ℕ × List ℕ). p.0) g.1 in
    let rest-is : drop (byte_len w) bytes ≡ rest = ap (λ (p : ℕ × List ℕ). p.1) g.1 in
    let front : to_be_bytes w n ≡ take (byte_len w) bytes = rw (← n-is) (reads.back (take (byte_len w) bytes) (omega (arith, length-take (byte_len w) bytes)) (IsBytes-take (byte_len w) bytes fits)) in
    (rw (front, ← rest-is) (sym (take-append-drop (byte_len w) bytes)), rw (← n-is) (reads.below (take (byte_len w) bytes) (IsBytes-take (byte_len w) bytes fits)))

-- a zero and a count, where these stand in front
pub count_again : (bytes rest after : List ℕ) (tag found count : ℕ) → IsBytes bytes → bytes ≡ tag ∷ rest → tag ≡ 0 → Some (found, after) ≡ number_at w64 rest → found ≡ count → bytes ≡ 0 ∷ (to_be_bytes w64 count ++ after)
count_again bytes rest after tag found count fits e zero is same =
    let takes = number_takes w64 (2 ^ 64) read64 rest found after (IsBytes-rest tag bytes rest e fits) is in
    e ∙ ap (λ (t : List ℕ). tag ∷ t) takes.0 ∙ (λ i. zero i ∷ (to_be_bytes w64 (same i) ++ after))

pub number_missing : (w : Width) (bytes : List ℕ) → None ≡ number_at w bytes → length bytes < byte_len w
unfolding number_at
number_missing w bytes e =
    ltb-true _ _ (guard_none (ltb (length bytes) (byte_len w)) (from_be_bytes w (take (byte_len w) bytes), drop (byte_len w) bytes) (sym e))

-- ---- integers and pieces

integer_up : (n : ℕ) → n < 2 ^ 63 → IsInteger (pos n)
integer_up n h = (omega (arith, ints), omega (arith, ints))

integer_down : (n : ℕ) → n < 2 ^ 63 → IsInteger (negsuc n)
integer_down n h = (omega (arith, ints), omega (arith, ints))

IsInteger-cast : (n : ℕ) → n < 2 ^ 64 → IsInteger (cast_signed w64 n)
IsInteger-cast n lt =
    elim (cases_lt n (2 ^ 63)) [
      | inl low ↦ rw (lt-ltb n (2 ^ 63) low) (integer_up n low)
      | inr high ↦ rw (le-ltb n (2 ^ 63) high) (integer_down _ (omega arith))
    ]

fits_from_integer : (n : ℤ) → IsInteger n → SFits w64 n
fits_from_integer (pos n) h = record { sfits = let b = h.1 in omega (arith, ints) }
fits_from_integer (negsuc n) h = record { sfits = let a = h.0 in omega (arith, ints) }

unsigned_below : (n : ℤ) → IsInteger n → cast_unsigned w64 n < 2 ^ 64
unsigned_below (pos n) h = let b = h.1 in omega (arith, ints)
unsigned_below (negsuc n) h = omega arith

-- an integer in front tells itself and the rest
pub one_integer : OneItem IsInteger integer_bytes
unfolding integer_bytes
one_integer m n r s hm hn e =
    let f = one_number w64 (2 ^ 64) wide64 (cast_unsigned w64 m) (cast_unsigned w64 n) r s (unsigned_below m hm) (unsigned_below n hn) e in
    (sym (to_z-of_z w64 m (fits_from_integer m hm)) ∙ ap (cast_signed w64) f.0 ∙ to_z-of_z w64 n (fits_from_integer n hn), f.1)

pub integer_found : (bytes rest : List ℕ) (n : ℕ) (r : ℤ) → IsBytes bytes → Some (n, rest) ≡ number_at w64 bytes → r ≡ cast_signed w64 n → ReadsItem IsInteger integer_bytes (cast_signed w64 (cast_unsigned w64 r)) bytes rest
unfolding integer_bytes
integer_found bytes rest n r fits e is =
    let t = number_takes w64 (2 ^ 64) read64 bytes n rest fits e in
    let unsigned : cast_unsigned w64 (cast_signed w64 n) ≡ n = of_z-to_z w64 n t.1 in
    let back : cast_signed w64 (cast_unsigned w64 r) ≡ cast_signed w64 n = ap (λ (z : ℤ). cast_signed w64 (cast_unsigned w64 z)) is ∙ ap (cast_signed w64) unsigned in
    let found : ReadsItem IsInteger integer_bytes (cast_signed w64 n) bytes rest = record { value = IsInteger-cast n t.1; parts = t.0 ∙ ap (λ (m : ℕ). to_be_bytes w64 m ++ rest) (sym unsigned) } in
    subst (λ (z : ℤ). ReadsItem IsInteger integer_bytes z bytes rest) (sym back) found

length-integer_bytes : (n : ℤ) → length (integer_bytes n) ≡ 8
unfolding integer_bytes
length-integer_bytes n = refl

piece_parts : (piece : ℤ × ℤ) (r : List ℕ) → piece_bytes piece ++ r ≡ integer_bytes piece.0 ++ (integer_bytes piece.1 ++ r)
unfolding piece_bytes
piece_parts piece r = append_assoc (integer_bytes piece.0) (integer_bytes piece.1) r

pub length-piece_bytes : (piece : ℤ × ℤ) → length (piece_bytes piece) ≡ 16
unfolding piece_bytes
length-piece_bytes piece = omega (arith, length-append (integer_bytes piece.0) (integer_bytes piece.1), length-integer_bytes piece.0, length-integer_bytes piece.1)

-- a piece in front tells itself and the rest
pub one_piece : OneItem IsPieceBytes piece_bytes
one_piece p q r s hp hq e =
    let f = one_integer p.0 q.0 (integer_bytes p.1 ++ r) (integer_bytes q.1 ++ s) hp.0 hq.0 (sym (piece_parts p r) ∙ e ∙ piece_parts q s) in
    let g = one_integer p.1 q.1 r s hp.1 hq.1 f.1 in
    (λ i. (f.0 i, g.0 i), g.1)

pub piece_short : (bytes : List ℕ) → length bytes < 16 → ReadsNoItem IsPieceBytes piece_bytes bytes
piece_short bytes lt = λ p r h e. omega (arith, lt, ap length e, length-append (piece_bytes p) r, length-piece_bytes p)

pub piece_half : (bytes rest : List ℕ) (first : ℤ) → ReadsItem IsInteger integer_bytes first bytes rest → length rest < 8 → length bytes < 16
piece_half bytes rest first b lt = omega (arith, lt, ap length b.parts, length-append (integer_bytes first) rest, length-integer_bytes first)

pub same_integer : (n : ℤ) → IsInteger n → cast_signed w64 (cast_unsigned w64 n) ≡ n
same_integer n h = to_z-of_z w64 n (fits_from_integer n h)

pub piece_found : (bytes middle rest : List ℕ) (first last : ℤ) → ReadsItem IsInteger integer_bytes first bytes middle → ReadsItem IsInteger integer_bytes last middle rest
    → ReadsItem IsPieceBytes piece_bytes (cast_signed w64 (cast_unsigned w64 first), cast_signed w64 (cast_unsigned w64 last)) bytes rest
piece_found bytes middle rest first last a b =
    let found : ReadsItem IsPieceBytes piece_bytes (first, last) bytes rest = record {
      value = (a.value, b.value);
      parts = a.parts ∙ ap (λ (t : List ℕ). integer_bytes first ++ t) b.parts ∙ sym (piece_parts (first, last) rest);
    } in
    let one = same_integer first a.value in
    let two = same_integer last b.value in
    subst (λ (p : ℤ × ℤ). ReadsItem IsPieceBytes piece_bytes p bytes rest) (λ i. (sym one i, sym two i)) found

-- ---- texts

text_parts : (text r : List ℕ) → text_bytes text ++ r ≡ to_be_bytes w16 (length text) ++ (text ++ r)
unfolding text_bytes
text_parts text r = append_assoc (to_be_bytes w16 (length text)) text r

pub text_some : (text : List ℕ) → 1 ≤ length (text_bytes text)
unfolding text_bytes
text_some text = omega (arith, length-append (to_be_bytes w16 (length text)) text, wide16.len (length text))

-- a text in front tells itself and the rest
pub one_text : OneItem IsWord text_bytes
one_text t u r s ht hu e =
    let f = one_number w16 (2 ^ 16) wide16 (length t) (length u) (t ++ r) (u ++ s) (let k = ht.short in omega (arith, k)) (let k = hu.short in omega (arith, k)) (sym (text_parts t r) ∙ e ∙ text_parts u s) in
    same_fronts t u r s f.0 f.1

pub text_short : (bytes : List ℕ) → None ≡ number_at w16 bytes → ReadsNoItem IsWord text_bytes bytes
text_short bytes none = λ t r h e.
    omega (arith, number_missing w16 bytes none, ap length (e ∙ text_parts t r), length-append (to_be_bytes w16 (length t)) (t ++ r), wide16.len (length t))

after_length : (bytes rest : List ℕ) (n : ℕ) → IsBytes bytes → Some (n, rest) ≡ number_at w16 bytes → (t r : List ℕ) → IsWord t → bytes ≡ text_bytes t ++ r → (length t ≡ n) × (t ++ r ≡ rest)
after_length bytes rest n fits e t r h is =
    let found = number_takes w16 (2 ^ 16) read16 bytes n rest fits e in
    one_number w16 (2 ^ 16) wide16 (length t) n (t ++ r) rest (let k = h.short in omega (arith, k)) found.1 (sym (text_parts t r) ∙ sym is ∙ found.0)

pub text_cut : (bytes rest : List ℕ) (n : ℕ) → IsBytes bytes → Some (n, rest) ≡ number_at w16 bytes → length rest < n → ReadsNoItem IsWord text_bytes bytes
text_cut bytes rest n fits e lt = λ t r h is.
    let a = after_length bytes rest n fits e t r h is in
    omega (arith, lt, a.0, ap length a.1, length-append t r)

pub text_wrong : (bytes rest front after more : List ℕ) (n : ℕ) → IsBytes bytes → Some (n, rest) ≡ number_at w16 bytes → rest ≡ front ++ after → length front ≡ n → (IsUtf8 front → ⊥) → ReadsNoItem IsWord text_bytes (bytes ++ more)
text_wrong bytes rest front after more n fits e parts len bad = λ t r h is.
    let found = number_takes w16 (2 ^ 16) read16 bytes n rest fits e in
    let whole = front_more bytes (to_be_bytes w16 n) rest more found.0 in
    let a = one_number w16 (2 ^ 16) wide16 (length t) n (t ++ r) (rest ++ more) (let k = h.short in omega (arith, k)) found.1 (sym (text_parts t r) ∙ sym is ∙ whole) in
    bad (subst IsUtf8 (same_fronts t front r (after ++ more) (a.0 ∙ sym len) (a.1 ∙ front_more rest front after more parts)).0 h.utf8)

pub text_found : (bytes rest front after text : List ℕ) (n : ℕ) → IsBytes bytes → Some (n, rest) ≡ number_at w16 bytes → rest ≡ front ++ after → length front ≡ n → IsUtf8 front → text ≡ front → ReadsItem IsWord text_bytes text bytes after
text_found bytes rest front after text n fits e parts len good same =
    let found = number_takes w16 (2 ^ 16) read16 bytes n rest fits e in
    let whole : bytes ≡ text_bytes front ++ after = found.0 ∙ ap (λ (t : List ℕ). to_be_bytes w16 n ++ t) parts ∙ ap (λ (k : ℕ). to_be_bytes w16 k ++ (front ++ after)) (sym len) ∙ sym (text_parts front after) in
    let b : ReadsItem IsWord text_bytes front bytes after = record { value = record { utf8 = good; short = omega (arith, len, found.1) }; parts = whole } in
    subst (λ (t : List ℕ). ReadsItem IsWord text_bytes t bytes after) (sym same) b

-- a text that is known, after its length
pub text_again : (bytes rest after text : List ℕ) (n : ℕ) → IsBytes bytes → Some (n, rest) ≡ number_at w16 bytes → n ≡ length text → rest ≡ text ++ after → bytes ≡ text_bytes text ++ after
text_again bytes rest after text n fits e len parts =
    (number_takes w16 (2 ^ 16) read16 bytes n rest fits e).0 ∙ ap (λ (t : List ℕ). to_be_bytes w16 n ++ t) parts ∙ ap (λ (k : ℕ). to_be_bytes w16 k ++ (text ++ after)) len ∙ sym (text_parts text after)

-- ---- lengths

pub most_empty : (bytes : List ℕ) → length bytes ≡ 0 → ReadsNoItem IsMost most_bytes bytes
unfolding most_bytes
most_empty bytes none None r h e = omega (arith, none, ap length e)
most_empty bytes none (Some m) r h e = omega (arith, none, ap length e)

pub most_tag : (bytes rest : List ℕ) (tag : ℕ) → bytes ≡ tag ∷ rest → 2 ≤ tag → ReadsNoItem IsMost most_bytes bytes
unfolding most_bytes
most_tag bytes rest tag is more None r h e = omega (arith, more, ap (λ (t : List ℕ). get_or t 0 0) (sym is ∙ e))
most_tag bytes rest tag is more (Some m) r h e = omega (arith, more, ap (λ (t : List ℕ). get_or t 0 0) (sym is ∙ e))

pub most_cut : (bytes rest : List ℕ) → bytes ≡ 1 ∷ rest → None ≡ number_at w32 rest → ReadsNoItem IsMost most_bytes bytes
unfolding most_bytes
most_cut bytes rest is none None r h e = omega (arith, ap (λ (t : List ℕ). get_or t 0 0) (sym is ∙ e))
most_cut bytes rest is none (Some m) r h e =
    omega (arith, number_missing w32 rest none, ap length (sym is ∙ e), length-append (to_be_bytes w32 m) r, wide32.len m)

pub most_without : (bytes rest : List ℕ) → bytes ≡ 0 ∷ rest → ReadsItem IsMost most_bytes None bytes rest
unfolding most_bytes
most_without bytes rest is = record { value = tt; parts = is }

pub most_found : (bytes rest after : List ℕ) (m : ℕ) → IsBytes rest → bytes ≡ 1 ∷ rest → Some (m, after) ≡ number_at w32 rest → ReadsItem IsMost most_bytes (Some m) bytes after
unfolding most_bytes
most_found bytes rest after m fits is e =
    let found = number_takes w32 (2 ^ 32) read32 rest m after fits e in
    record { value = found.1; parts = is ∙ ap (λ (t : List ℕ). 1 ∷ t) found.0 }

-- a greatest length in front tells itself and the rest
pub one_most : OneItem IsMost most_bytes
unfolding most_bytes
one_most None None r s p q e = (refl, ap (λ (t : List ℕ). drop 1 t) e)
one_most None (Some m) r s p q e = absurd (omega (arith, ap (λ (t : List ℕ). get_or t 0 0) e))
one_most (Some m) None r s p q e = absurd (omega (arith, ap (λ (t : List ℕ). get_or t 0 0) e))
one_most (Some m) (Some n) r s p q e =
    let f = one_number w32 (2 ^ 32) wide32 m n r s p q (ap (λ (t : List ℕ). drop 1 t) e) in
    (ap (λ (k : ℕ). Some k) f.0, f.1)

-- ---- an index

-- an index in front tells itself and the rest
pub one_index : (version : Version) → OneItem (IsIndex version) (index_bytes version)
unfolding index_bytes
one_index versions.First a b r s p q e = (p ∙ sym q, e)
one_index versions.Second a b r s p q e = one_number w32 (2 ^ 32) wide32 a b r s p q e

pub index_cut : (bytes : List ℕ) → None ≡ number_at w32 bytes → ReadsNoItem (IsIndex versions.Second) (index_bytes versions.Second) bytes
unfolding index_bytes
index_cut bytes none = λ a r h e.
    omega (arith, number_missing w32 bytes none, ap length e, length-append (to_be_bytes w32 a) r, wide32.len a)

pub index_found : (bytes rest : List ℕ) (fixed : ℕ) → IsBytes bytes → Some (fixed, rest) ≡ number_at w32 bytes → ReadsItem (IsIndex versions.Second) (index_bytes versions.Second) fixed bytes rest
unfolding index_bytes
index_found bytes rest fixed fits is =
    let found = number_takes w32 (2 ^ 32) read32 bytes fixed rest fits is in
    record { value = found.1; parts = found.0 }

-- ---- lengths

lengths_parts : (version : Version) (lengths : Lengths) (r : List ℕ) → lengths_bytes version lengths ++ r ≡ to_be_bytes w32 lengths.0 ++ (most_bytes lengths.1 ++ (index_bytes version lengths.2 ++ r))
unfolding lengths_bytes
lengths_parts version lengths r =
    append_assoc (to_be_bytes w32 lengths.0) (most_bytes lengths.1 ++ index_bytes version lengths.2) r
    ∙ ap (λ (t : List ℕ). to_be_bytes w32 lengths.0 ++ t) (append_assoc (most_bytes lengths.1) (index_bytes version lengths.2) r)

-- lengths in front tell themselves and the rest
pub one_lengths : (version : Version) → OneItem (AreWideLengths version) (lengths_bytes version)
one_lengths version a b r s p q e =
    let f = one_number w32 (2 ^ 32) wide32 a.0 b.0 (most_bytes a.1 ++ (index_bytes version a.2 ++ r)) (most_bytes b.1 ++ (index_bytes version b.2 ++ s)) p.0 q.0 (sym (lengths_parts version a r) ∙ e ∙ lengths_parts version b s) in
    let g = one_most a.1 b.1 (index_bytes version a.2 ++ r) (index_bytes version b.2 ++ s) p.1 q.1 f.1 in
    let h = one_index version a.2 b.2 r s p.2 q.2 g.1 in
    (λ i. (f.0 i, g.0 i, h.0 i), h.1)

pub lengths_short : (version : Version) (bytes : List ℕ) → None ≡ number_at w32 bytes → ReadsNoItem (AreWideLengths version) (lengths_bytes version) bytes
lengths_short version bytes none = λ a r h e.
    let rest = most_bytes a.1 ++ (index_bytes version a.2 ++ r) in
    omega (arith, number_missing w32 bytes none, ap length (e ∙ lengths_parts version a r), length-append (to_be_bytes w32 a.0) rest, wide32.len a.0)

behind_least : (version : Version) (bytes rest : List ℕ) (least : ℕ) → least < 2 ^ 32 → bytes ≡ to_be_bytes w32 least ++ rest → (a : Lengths) (r : List ℕ) → AreWideLengths version a → bytes ≡ lengths_bytes version a ++ r → rest ≡ most_bytes a.1 ++ (index_bytes version a.2 ++ r)
behind_least version bytes rest least small is a r h e =
    sym (one_number w32 (2 ^ 32) wide32 a.0 least (most_bytes a.1 ++ (index_bytes version a.2 ++ r)) rest h.0 small (sym (lengths_parts version a r) ∙ sym e ∙ is)).1

pub lengths_cut : (version : Version) (why : Unread) (bytes rest : List ℕ) (least : ℕ) → IsBytes bytes → Some (least, rest) ≡ number_at w32 bytes → IsNoneRead why (ReadsNoItem IsMost most_bytes) rest → IsNoneRead why (ReadsNoItem (AreWideLengths version) (lengths_bytes version)) bytes
lengths_cut version why bytes rest least fits is =
    let found = number_takes w32 (2 ^ 32) read32 bytes least rest fits is in
    unread_so why (ReadsNoItem IsMost most_bytes) (ReadsNoItem (AreWideLengths version) (lengths_bytes version)) rest bytes
    (λ more none a r h e.
    none a.1 (index_bytes version a.2 ++ r) h.1 (behind_least version (bytes ++ more) (rest ++ more) least found.1 (front_more bytes (to_be_bytes w32 least) rest more found.0) a r h e))

pub lengths_end : (version : Version) (bytes rest after : List ℕ) (least : ℕ) (most : Option ℕ) → IsBytes bytes → Some (least, rest) ≡ number_at w32 bytes → ReadsItem IsMost most_bytes most rest after → ReadsNoItem (IsIndex version) (index_bytes version) after
    → ReadsNoItem (AreWideLengths version) (lengths_bytes version) bytes
lengths_end version bytes rest after least most fits is b none = λ a r h e.
    let found = number_takes w32 (2 ^ 32) read32 bytes least rest fits is in
    let f = one_most most a.1 after (index_bytes version a.2 ++ r) b.value h.1 (sym b.parts ∙ behind_least version bytes rest least found.1 found.0 a r h e) in
    none a.2 r h.2 f.1

pub lengths_found : (version : Version) (bytes rest after end : List ℕ) (least : ℕ) (most : Option ℕ) (fixed : ℕ) → IsBytes bytes → Some (least, rest) ≡ number_at w32 bytes → ReadsItem IsMost most_bytes most rest after → ReadsItem (IsIndex version) (index_bytes version) fixed after end
    → ReadsItem (AreWideLengths version) (lengths_bytes version) (least, most, fixed) bytes end
lengths_found version bytes rest after end least most fixed fits is b c =
    let found = number_takes w32 (2 ^ 32) read32 bytes least rest fits is in
    record {
      value = (found.1, b.value, c.value);
      parts = found.0 ∙ ap (λ (t : List ℕ). to_be_bytes w32 least ++ t) (b.parts ∙ ap (λ (t : List ℕ). most_bytes most ++ t) c.parts) ∙ sym (lengths_parts version (least, most, fixed) end);
    }
