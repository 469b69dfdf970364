-- The bytes of the parts of a row, in a version. What takes no version is the same in each. Numbers
-- are written from the highest byte to the lowest, integers in two's complement.
use Rattle.std.specs.Prelude.{ℕ, ◌+◌, ◌*◌, ℤ, Bool, true, false, List, [], ◌∷◌, ◌++◌, length}
use Rattle.std.specs.Prelude.{Option, Some, None}
use Rattle.std.specs.List.{flat_map}
use Rattle.std.specs.Int.{w16, w32, w64, to_be_bytes, cast_unsigned}
use Rattle.cue_lattice.specs.Path.{label, index}
use Rattle.cue_scalars.specs.declared.scalar_set.ScalarSet.{ScalarSet}
use Rattle.cue_codec.specs.declared.version.Version.{Version}
use Rattle.cue_codec.specs.declared.version.Version.TheVariants as versions
use Rattle.cue_codec.specs.Entry.{StateStep, at, to_rest, StatePath}

-- an integer in 8 bytes
unfoldable pub integer_bytes : ℤ → List ℕ
integer_bytes n = to_be_bytes w64 (cast_unsigned w64 n)

-- how many there are, in 8 bytes, and each of them
unfoldable pub counted_bytes : {X : Type 0} → (X → List ℕ) → List X → List ℕ
counted_bytes code items = to_be_bytes w64 (length items) ++ flat_map code items

-- the first and the last integer of a piece
unfoldable pub piece_bytes : ℤ × ℤ → List ℕ
piece_bytes piece = integer_bytes piece.0 ++ integer_bytes piece.1

-- the length of a text in 2 bytes, and the text
unfoldable pub text_bytes : List ℕ → List ℕ
text_bytes text = to_be_bytes w16 (length text) ++ text

-- 0 or 1
abbrev pub bit : Bool → ℕ
bit false = 0
bit true = 1

-- 1 for null, 2 for false and 4 for true, added
abbrev pub flags : Bool → Bool → Bool → ℕ
flags has_null has_false has_true = bit has_null + 2 * bit has_false + 4 * bit has_true

-- whether a set has all texts but the listed ones, and these
unfoldable pub text_set_bytes : Bool × List (List ℕ) → List ℕ
text_set_bytes set = bit set.0 ∷ counted_bytes text_bytes set.1

-- null and the truth values, the pieces of integers, the texts
unfoldable pub set_bytes : ScalarSet → List ℕ
set_bytes set =
    flags set.null set.no set.yes ∷ (counted_bytes piece_bytes set.ints ++ text_set_bytes set.texts)

-- all labels, or the listed ones
unfoldable pub labels_bytes : Option (List (List ℕ)) → List ℕ
labels_bytes None = 0 ∷ []
labels_bytes (Some labels) = 1 ∷ counted_bytes text_bytes labels

-- no greatest length, or this one in 4 bytes
unfoldable pub most_bytes : Option ℕ → List ℕ
most_bytes None = 0 ∷ []
most_bytes (Some most) = 1 ∷ to_be_bytes w32 most

-- the least and the greatest length of a list, and from which index on its elements are alike
abbrev pub Lengths : Type 0
Lengths = ℕ × Option ℕ × ℕ

-- such an index in 4 bytes; the first version tells nothing of it
unfoldable pub index_bytes : Version → ℕ → List ℕ
index_bytes versions.First fixed = []
index_bytes versions.Second fixed = to_be_bytes w32 fixed

-- the least length in 4 bytes, the greatest, and the index
unfoldable pub lengths_bytes : Version → Lengths → List ℕ
lengths_bytes version lengths =
    to_be_bytes w32 lengths.0 ++ (most_bytes lengths.1 ++ index_bytes version lengths.2)

-- a label, an index in 4 bytes, or the rest of a list
unfoldable pub step_bytes : Version → StateStep → List ℕ
step_bytes version (at (label text)) = 0 ∷ text_bytes text
step_bytes version (at (index number)) = 1 ∷ to_be_bytes w32 number
step_bytes version to_rest = 2 ∷ []

-- how many steps there are, in 1 byte, and each of them
unfoldable pub path_bytes : Version → StatePath → List ℕ
path_bytes version path = length path ∷ flat_map (step_bytes version) path
