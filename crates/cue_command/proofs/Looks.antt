-- What the words of a command line look like.
use Rattle.std.proofs.Common.{◌≡◌, ℕ, suc, Bool, true, false, cond, List, [], ◌∷◌, ◌++◌, Option, Some, None, codes, refl, sym, ap, true≢false, arith, IsUtf8, length, chars, ◌==◌}
use Rattle.std.specs.Prelude.{option_and_then, slice_get}
use Rattle.std.specs.Str.{bytes_eq}
use Rattle.std.specs.Char.{encode_utf8}
use Rattle.std.proofs.lemmas.Bool.{eqb-true}
use Rattle.std.proofs.lemmas.Str.{IsUtf8-past_char, encode_ascii, encodes-chars}
use Rattle.clap.specs.Lexer.{long_of, long_of_rest, name_and_value, short_of, short_of_rest, strip_byte}
use Rattle.clap.specs.Walk.{Text}
use Rattle.cue_command.specs.Words.{is_option}

long_single : (x : ℕ) → long_of (x ∷ []) ≡ None
long_single x = go (x == 45)
  where
    go : (b : Bool) → option_and_then long_of_rest (option_and_then (strip_byte 45) (cond b (Some []) None)) ≡ None
    go true = refl
    go false = refl

short_single : (x : ℕ) → short_of (x ∷ []) ≡ None
short_single x = go (x == 45)
  where
    go : (b : Bool) → option_and_then short_of_rest (cond b (Some []) None) ≡ None
    go true = refl
    go false = refl

-- a plain word is no flag
pub plain_long : (word : Text) → is_option word ≡ false → long_of word ≡ None
plain_long [] e = refl
plain_long (x ∷ []) e = long_single x
plain_long (x ∷ y ∷ more) e = rw e refl

pub plain_short : (word : Text) → is_option word ≡ false → short_of word ≡ None
plain_short [] e = refl
plain_short (x ∷ []) e = short_single x
plain_short (x ∷ y ∷ more) e = rw e refl

-- the word is a long flag, or a bundle of short ones
pub data Flag (word : Text) : Type 0 where
  long : (p : Text × Option Text) → long_of word ≡ Some p → Flag word
  short : (c : ℕ) (rest : Text) → long_of word ≡ None → short_of word ≡ Some (c ∷ rest) → word ≡ 45 ∷ c ∷ rest → Flag word

from_dash : (x y : ℕ) (rest : Text) → (x == 45) ≡ true → x ∷ y ∷ rest ≡ 45 ∷ y ∷ rest
from_dash x y rest e = ap (λ n. n ∷ y ∷ rest) (eqb-true x 45 e)

pub flag_of : (word : Text) → bytes_eq word (codes "--") ≡ false → is_option word ≡ true → Flag word
flag_of [] d o = absurd (true≢false (sym o))
flag_of (x ∷ []) d o = absurd (true≢false (sym o))
flag_of (x ∷ y ∷ []) d o = go (y == 45) refl
  where
    go : (b : Bool) → (y == 45) ≡ b → Flag (x ∷ y ∷ [])
    go true e = absurd (true≢false (rw (o, e) at d))
    go false e = short y [] (rw (o, e) refl) (rw (o, e) refl) (from_dash x y [] o)
flag_of (x ∷ y ∷ z ∷ more) d o = go (y == 45) refl
  where
    go : (b : Bool) → (y == 45) ≡ b → Flag (x ∷ y ∷ z ∷ more)
    go true e = long (name_and_value (z ∷ more)) (rw (o, e) refl)
    go false e = short y (z ∷ more) (rw (o, e) refl) (rw (o, e) refl) (from_dash x y (z ∷ more) o)

-- what follows the hyphen has a character
pub has_char : (c : ℕ) (rest : Text) → IsUtf8 (45 ∷ c ∷ rest) → (x : ℕ) × (slice_get (chars (c ∷ rest)) 0 ≡ Some x)
has_char c rest u = go (chars (c ∷ rest)) (encodes-chars (c ∷ rest) later)
  where
    later : IsUtf8 (c ∷ rest)
    later = IsUtf8-past_char (45 ∷ c ∷ rest) (c ∷ rest) 45 u (sym (ap (λ (e : List ℕ). e ++ c ∷ rest) (encode_ascii 45 (omega arith))))

    go : (cs : List ℕ) → Rattle.std.specs.Prelude.encode_utf8_all cs ≡ c ∷ rest → (x : ℕ) × (slice_get cs 0 ≡ Some x)
    go [] e = let none : 0 ≡ suc (length rest) = ap length e in absurd (omega arith)
    go (x ∷ xs) e = (x, refl)
