-- How many rows the head of a state tells.
use Rattle.std.proofs.Common.{◌≡◌, ℕ, zero, suc, ◌+◌, ◌%◌, ◌/◌, ◌<◌, ◌≤◌, ◌^◌, List, [], ◌∷◌, ◌++◌, length, take, drop, get_or, min, arith, refl, sym, ap, ◌∙◌, subst}
use Rattle.std.specs.Int.{w64, to_be_bytes, from_be_bytes}
use Rattle.std.specs.List.{flat_map}
use Rattle.std.proofs.lemmas.List.{append-nil, drop_all}
use Rattle.std.proofs.lemmas.Nat.{be_bytes_8}
use Rattle.cue_codec.proofs.WrittenStates.{parts_of_state}
use Rattle.cue_codec.specs.Entry.{entries_of}
use Rattle.cue_codec.specs.RowBytes.{row_bytes}
use Rattle.cue_codec.specs.Pieces.{IsFilled}
use Rattle.cue_codec.specs.State.{state_mark}
use Rattle.cue_codec.specs.Version.{version_byte, written_version}
use Rattle.cue_replica.specs.Language.{Table, language}
use Rattle.cue_layers_program.specs.Answers.{HasRowCount}

-- the bytes of a number
byte_at : (n i : ℕ) → get_or (to_be_bytes w64 n) i 0 < 256
byte_at n zero = omega arith
byte_at n (suc zero) = omega arith
byte_at n (suc (suc zero)) = omega arith
byte_at n (suc (suc (suc zero))) = omega arith
byte_at n (suc (suc (suc (suc zero)))) = omega arith
byte_at n (suc (suc (suc (suc (suc zero))))) = omega arith
byte_at n (suc (suc (suc (suc (suc (suc zero)))))) = omega arith
byte_at n (suc (suc (suc (suc (suc (suc (suc zero))))))) = omega arith
byte_at n (suc (suc (suc (suc (suc (suc (suc (suc i)))))))) = omega arith

-- a state begins so
abbrev pub head_of : ℕ → List ℕ
head_of n = state_mark ++ (version_byte written_version ∷ to_be_bytes w64 n)

-- a number stands there
pub written_head : (table : Table) → (n : ℕ) × (more : List ℕ) × (language.written table ≡ state_mark ++ (version_byte written_version ∷ (to_be_bytes w64 n ++ more)))
written_head table =
    (length (entries_of written_version table), flat_map (row_bytes written_version) (entries_of written_version table), parts_of_state written_version (entries_of written_version table))

at_least : (n : ℕ) (more : List ℕ) → 13 ≤ length (state_mark ++ (version_byte written_version ∷ (to_be_bytes w64 n ++ more)))
at_least n more = omega arith

pub head_told : (table : Table) (left room head after : List ℕ) (count : ℕ) → left ≡ language.written table → length room ≡ 13 → IsFilled left room count after head
    → (n : ℕ) × (more : List ℕ) × (language.written table ≡ state_mark ++ (version_byte written_version ∷ (to_be_bytes w64 n ++ more))) × (head ≡ head_of n)
head_told table left room head after count is long filled =
    let h = written_head table in
    let e : left ≡ state_mark ++ (version_byte written_version ∷ (to_be_bytes w64 h.0 ++ h.1)) = is ∙ h.2 in
    let all : 13 ≤ length left = subst (λ (bytes : List ℕ). 13 ≤ length bytes) (sym e) (at_least h.0 h.1) in
    let whole : count ≡ 13 = omega (arith, filled.counted, long, all) in
    let none : drop count room ≡ [] = ap (λ (n : ℕ). drop n room) whole ∙ drop_all 13 room (omega (arith, long)) in
    let front : take count left ≡ head_of h.0 = ap (λ (n : ℕ). take n left) whole ∙ ap (λ (bytes : List ℕ). take 13 bytes) e in
    (h.0, h.1, h.2, filled.written ∙ (ap (λ (bytes : List ℕ). take count left ++ bytes) none ∙ (append-nil (take count left) ∙ front)))

-- and tells the number
pub rows_told : (table : Table) (n r : ℕ) (more : List ℕ) → language.written table ≡ state_mark ++ (version_byte written_version ∷ (to_be_bytes w64 n ++ more)) → r ≡ from_be_bytes w64 (to_be_bytes w64 n)
    → HasRowCount table r
rows_told table n r more is told =
    (more, is ∙ ap (λ (bytes : List ℕ). state_mark ++ (version_byte written_version ∷ (bytes ++ more))) (sym (be_bytes_8 (to_be_bytes w64 n) r refl (byte_at n) told)))

-- the number that 8 bytes of the head are
pub counted :
    (room : List ℕ) (n r d : ℕ) → room ≡ head_of n
    → r ≡ from_be_bytes w64 (get_or room 5 d ∷ get_or room 6 d ∷ get_or room 7 d ∷ get_or room 8 d ∷ get_or room 9 d ∷ get_or room 10 d ∷ get_or room 11 d ∷ get_or room 12 d ∷ [])
    → r ≡ from_be_bytes w64 (to_be_bytes w64 n)
counted room n r d is told =
    told ∙ ap (λ (bytes : List ℕ). from_be_bytes w64 (get_or bytes 5 d ∷ get_or bytes 6 d ∷ get_or bytes 7 d ∷ get_or bytes 8 d ∷ get_or bytes 9 d ∷ get_or bytes 10 d ∷ get_or bytes 11 d ∷ get_or bytes 12 d ∷ [])) is
