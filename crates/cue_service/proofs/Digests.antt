-- The tag of a table is a value of a field: quotes, and between them hexadecimal digits.
use Rattle.std.proofs.Common.{◌≡◌, ◌<◌, ◌/◌, ◌%◌, ◌&&◌, ℕ, zero, suc, Bool, true, List, [], ◌∷◌, ◌++◌, refl, inl, inr, arith}
use Rattle.std.specs.Prelude.{IsTrue, slice_index}
use Rattle.std.specs.Int.{byte_at, bytes_high_first}
use Rattle.std.specs.List.{All, AllByRecursion}
use Rattle.std.proofs.lemmas.Bool.{and_parts, cases_lt}
use Rattle.std.proofs.lemmas.List.Elements.{All-nil, All-cons, All-append}
use Rattle.hex.specs.Hex.{encode_with, encode_lower, lower_digits}
use Rattle.http_header.specs.FieldValue.{IsFieldValue}
use Rattle.http_header.specs.Token.{is_value_byte}
use Rattle.sha2.specs.Sha256.{digest_bytes, sha256}
use Rattle.cue_service.specs.Tags.{quoted_digest}
use Rattle.cue_service.proofs.Alike.{all_append}

abbrev may_stand : ℕ → Type 0
may_stand b = IsTrue (is_value_byte b)

-- the test of the first n digits, which computes
abbrev all_may : ℕ → Bool
all_may zero = true
all_may (suc n) = is_value_byte (slice_index lower_digits n) && all_may n

digit_below : (n k : ℕ) → all_may n ≡ true → k < n → may_stand (slice_index lower_digits k)
digit_below zero k passed below = absurd (omega arith)
digit_below (suc n) k passed below =
    let parts = and_parts (is_value_byte (slice_index lower_digits n)) (all_may n) passed in
    elim (cases_lt k n) [
      | inl lower ↦ digit_below n k parts.1 lower
      | inr top ↦
          let e : k ≡ n = omega arith in
          rw e parts.0
    ]

digit : (k : ℕ) → k < 16 → may_stand (slice_index lower_digits k)
digit k below = digit_below 16 k refl below

-- the digits of bytes
digits : (xs : List ℕ) → AllByRecursion (λ b. b < 256) xs → All may_stand (encode_lower xs)
unfolding encode_with
digits [] bytes = All-nil may_stand
digits (b ∷ rest) bytes =
    let fits : b < 256 = bytes.0 in
    All-cons may_stand (slice_index lower_digits (b / 16)) (slice_index lower_digits (b % 16) ∷ encode_lower rest) (digit (b / 16) (omega arith))
    (All-cons may_stand (slice_index lower_digits (b % 16)) (encode_lower rest) (digit (b % 16) (omega arith)) (digits rest bytes.1))

byte_fits : (k n : ℕ) → byte_at k n < 256
byte_fits zero n = omega arith
byte_fits (suc i) n = omega arith

bytes_fit : (k n : ℕ) → AllByRecursion (λ b. b < 256) (bytes_high_first k n)
bytes_fit zero n = tt
bytes_fit (suc k) n = (byte_fits k n, bytes_fit k n)

digest_fits : (hash : List ℕ) (n : ℕ) → AllByRecursion (λ b. b < 256) (digest_bytes hash n)
unfolding digest_bytes
digest_fits hash zero = tt
digest_fits hash (suc n) = all_append (λ b. b < 256) (digest_bytes hash n) (bytes_high_first 4 (slice_index hash n)) (digest_fits hash n) (bytes_fit 4 (slice_index hash n))

sha_fits : (state : List ℕ) → AllByRecursion (λ b. b < 256) (sha256 state)
unfolding sha256
sha_fits state = digest_fits _ 8

pub tag_may_stand : (state : List ℕ) → IsFieldValue (quoted_digest state)
unfolding quoted_digest
tag_may_stand state =
    All-cons may_stand 34 (encode_lower (sha256 state) ++ 34 ∷ []) refl
    (All-append may_stand (encode_lower (sha256 state)) (34 ∷ []) (digits (sha256 state) (sha_fits state)) (All-cons may_stand 34 [] refl (All-nil may_stand)))
