-- What lies where, and what is read of a name; and what becomes of the files when bytes are put at
-- a name.
use Rattle.std.specs.Prelude.{◌≡◌, ◌≢◌, ◌<◌, ◌^◌, ℕ, List, Option, Some, None, Bool, false}
use Rattle.std.specs.Prelude.{IfSome, length, map}
use Rattle.std.specs.Borrow.{Bor}

-- A name leads to a place, which is another one where the name is a link's. At a place lies a
-- file with its bytes and its mode, or none; or something special, as a device or a pipe.
pub record Holdings : Type 0 where
  pub place_of : List ℕ → List ℕ
  pub bytes_at : List ℕ → Option (List ℕ)
  pub mode_at : List ℕ → ℕ
  pub is_special : List ℕ → Bool

-- the bytes under a name, where they are known
abbrev pub known_at : Option Holdings → List ℕ → Option (List ℕ)
known_at None name = None
known_at (Some held) name = held.bytes_at (held.place_of name)

-- the bytes of borrowed words
abbrev pub texts_of_files : List (Bor (List ℕ)) → List (List ℕ)
texts_of_files words = map (λ word. word.now) words

-- these are all the bytes, where they are known
abbrev pub AreAll : Option (List ℕ) → List ℕ → Type 0
AreAll known bytes = IfSome known (λ all. bytes ≡ all)

-- these are all the bytes, where they are known, and no more than a memory can hold
abbrev pub IsWholeFile : Option (List ℕ) → List ℕ → Type 0
IsWholeFile known bytes = AreAll known bytes × (length bytes < 2 ^ 64)

-- an opened file has the bytes that lie under its name still to give
abbrev pub IsOpened : Option Holdings → List ℕ → Option (List ℕ) → Type 0
IsOpened held name rest = IfSome (known_at held name) (λ all. rest ≡ Some all)

-- names lead where they did, and what is special stays so
pub record IsSameTree (old new : Holdings) : Type 0 where
  pub places : (name : List ℕ) → new.place_of name ≡ old.place_of name
  pub special : (place : List ℕ) → new.is_special place ≡ old.is_special place

-- at the place lies what lay there, be it nothing
pub record IsSameAt (place : List ℕ) (old new : Holdings) : Type 0 where
  pub bytes : new.bytes_at place ≡ old.bytes_at place
  pub mode : (had : List ℕ) → old.bytes_at place ≡ Some had
      → new.mode_at place ≡ old.mode_at place

-- nothing changed but what lies at these places
pub record IsElsewhereSame (places : List ℕ → Type 0) (old new : Holdings) : Type 0 where
  pub tree : IsSameTree old new
  pub others : (place : List ℕ) → (places place → ⊥) → IsSameAt place old new

-- The bytes lie under the name, with the mode of the file that lay there, and all other files as
-- before. What was written to something special is not told.
pub record IsFilePut (name bytes : List ℕ) (old new : Holdings) : Type 0 where
  pub put : old.is_special (old.place_of name) ≡ false
      → new.bytes_at (old.place_of name) ≡ Some bytes
  pub mode : (had : List ℕ) → old.is_special (old.place_of name) ≡ false
      → old.bytes_at (old.place_of name) ≡ Some had
      → new.mode_at (old.place_of name) ≡ old.mode_at (old.place_of name)
  pub same : IsElsewhereSame (λ place. place ≡ old.place_of name) old new

-- No file was harmed: where the name is that of a file, or of nothing, the same lies there as
-- before, and so does each other file; where it is that of something special, each other file.
pub record IsUnharmed (name : List ℕ) (old new : Holdings) : Type 0 where
  pub own : old.is_special (old.place_of name) ≡ false → IsSameAt (old.place_of name) old new
  pub others : (place bytes : List ℕ) → place ≢ old.place_of name
      → old.bytes_at place ≡ Some bytes → IsSameAt place old new
