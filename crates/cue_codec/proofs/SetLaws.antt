-- Sets of integers and of texts: their bytes tell them.
use Rattle.std.proofs.Common.{◌≡◌, ℕ, ℤ, pos, ◌+ℤ◌, ◌≤ℤ◌, int_lt, false, List, [], ◌∷◌, ◌++◌, refl, sym, ap, ◌∙◌, subst, arith}
use Rattle.std.specs.Int.{w64, to_be_bytes, cast_signed, cast_unsigned}
use Rattle.std.specs.List.{flat_map, AllByRecursion}
use Rattle.std.proofs.lemmas.List.{append-nil}
use Rattle.std.proofs.lemmas.List.Concat.{flat_map-cons}
use Rattle.std.proofs.lemmas.Int.{ints}
use Rattle.cue_sets.specs.Pieces.{least, greatest, AscendsFrom, IsCanonical}
use Rattle.cue_codec.specs.Parts.{counted_bytes, piece_bytes}
use Rattle.cue_codec.specs.Reading.{ReadsItem, ReadsNoItem, IsPieceBytes, AreCounted}
use Rattle.cue_codec.specs.Inner.Reading.{AreSo}
use Rattle.cue_codec.specs.StateRow.{IsStateIntegers}
use Rattle.cue_codec.proofs.Codes.{OneItem, one_counted, other_none, counted_found}
use Rattle.cue_codec.proofs.Numbers.{one_piece, same_integer}

pieces_from : (start : ℤ) (ps : List (ℤ × ℤ)) → least ≤ℤ start → AscendsFrom start ps → AllByRecursion IsPieceBytes ps
pieces_from start [] l h = tt
pieces_from start (p ∷ ps) l h =
    let a = h.0 in
    let b = h.1 in
    let c = h.2 in
    (((omega (arith, ints), omega (arith, ints)), (omega (arith, ints), omega (arith, ints))), pieces_from (p.1 +ℤ pos 2) ps (omega (arith, ints)) h.3)

-- pieces in their one form have integers of 64 bits
pub canonical_pieces : (ps : List (ℤ × ℤ)) → IsCanonical ps → AllByRecursion IsPieceBytes ps
canonical_pieces ps h = pieces_from least ps (omega (arith, ints)) h

pub state_pieces : (ps : List (ℤ × ℤ)) → IsStateIntegers ps → AreCounted IsPieceBytes ps
state_pieces ps h = (canonical_pieces ps h.0, h.1)

-- ---- what is read

-- a set of integers in front tells itself and the rest
pub one_integers : OneItem IsStateIntegers (counted_bytes piece_bytes)
one_integers a b r s p q e = one_counted IsPieceBytes piece_bytes one_piece a b r s (state_pieces a p) (state_pieces b q) e

pub integers_none : (bytes : List ℕ) → ReadsNoItem (AreCounted IsPieceBytes) (counted_bytes piece_bytes) bytes → ReadsNoItem IsStateIntegers (counted_bytes piece_bytes) bytes
integers_none bytes none = λ ps s h e. none ps s (state_pieces ps h) e

pub integers_other : (ps : List (ℤ × ℤ)) (bytes rest : List ℕ) → ReadsItem (AreCounted IsPieceBytes) (counted_bytes piece_bytes) ps bytes rest → (IsCanonical ps → ⊥) → ReadsNoItem IsStateIntegers (counted_bytes piece_bytes) bytes
integers_other ps bytes rest b bad =
    other_none (AreCounted IsPieceBytes) IsStateIntegers (counted_bytes piece_bytes) (one_counted IsPieceBytes piece_bytes one_piece) state_pieces ps bytes rest b (λ h. bad h.0)

pub integers_found : (ps set : List (ℤ × ℤ)) (bytes rest : List ℕ) → ReadsItem (AreCounted IsPieceBytes) (counted_bytes piece_bytes) ps bytes rest → set ≡ ps → IsCanonical ps → ReadsItem IsStateIntegers (counted_bytes piece_bytes) set bytes rest
integers_found ps set bytes rest b same h =
    subst (λ (x : List (ℤ × ℤ)). ReadsItem IsStateIntegers (counted_bytes piece_bytes) x bytes rest) (sym same) (record { value = (h, b.value.1); parts = b.parts })

-- a count of one, and a piece
pub one_piece_alone : (bytes behind rest : List ℕ) (first last : ℤ) (set : List (ℤ × ℤ)) → bytes ≡ to_be_bytes w64 1 ++ behind → ReadsItem IsPieceBytes piece_bytes (first, last) behind rest
    → set ≡ (cast_signed w64 (cast_unsigned w64 first), cast_signed w64 (cast_unsigned w64 last)) ∷ [] → IsCanonical set → ReadsItem IsStateIntegers (counted_bytes piece_bytes) set bytes rest
one_piece_alone bytes behind rest first last set is b made h =
    let piece : ℤ × ℤ = (first, last) in
    let items : ReadsItem (AreSo IsPieceBytes 1) (flat_map piece_bytes) (piece ∷ []) behind rest = record {
      value = (refl, (b.value, tt));
      parts = b.parts ∙ ap (λ (t : List ℕ). t ++ rest) (sym (flat_map-cons piece_bytes piece [] ∙ append-nil (piece_bytes piece)));
    } in
    let counted = counted_found IsPieceBytes piece_bytes 1 (piece ∷ []) bytes behind rest (omega arith) is items in
    let one = same_integer first b.value.0 in
    let two = same_integer last b.value.1 in
    let same : set ≡ piece ∷ [] = made ∙ (λ i. (one i, two i) ∷ []) in
    integers_found (piece ∷ []) set bytes rest counted same (subst IsCanonical same h)

-- a piece of integers in order is a set in its one form, however its ends are kept
pub canonical_piece : (first last : ℤ) → IsPieceBytes (first, last) → cast_signed w64 (cast_unsigned w64 first) ≤ℤ cast_signed w64 (cast_unsigned w64 last)
    → IsCanonical ((cast_signed w64 (cast_unsigned w64 first), cast_signed w64 (cast_unsigned w64 last)) ∷ [])
canonical_piece first last p order =
    let one = same_integer first p.0 in
    let two = same_integer last p.1 in
    (subst (λ (n : ℤ). least ≤ℤ n) (sym one) p.0.0, order, subst (λ (n : ℤ). n ≤ℤ greatest) (sym two) p.1.1, tt)

-- the ends of such a set are integers
pub same_piece : (first last : ℤ) → IsCanonical ((first, last) ∷ []) → ◌≡◌ {A = ℤ × ℤ} (first, last) (cast_signed w64 (cast_unsigned w64 first), cast_signed w64 (cast_unsigned w64 last))
same_piece first last h =
    let p = (canonical_pieces ((first, last) ∷ []) h).0 in
    λ i. (sym (same_integer first p.0) i, sym (same_integer last p.1) i)

pub not_less : (m n : ℤ) → int_lt n m ≡ false → m ≤ℤ n
not_less m n e = omega (arith, ints)
