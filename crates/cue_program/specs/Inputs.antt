-- The inputs of a run, the pieces in them, and which of them is refused.
use Rattle.std.specs.Prelude.{◌≡◌, ◌≢◌, ◌⊎◌, ℕ, ◌+◌, ◌-◌, ◌^◌, ◌<◌, ◌≤◌, min, List, [], ◌∷◌, ◌++◌}
use Rattle.std.specs.Prelude.{map}
use Rattle.std.specs.Prelude.{Option, Some, length, slice_get, take}
use Rattle.std.specs.List.{AllByRecursion}
use Rattle.std.specs.Str.{IsUtf8, IsValidUpTo}
use Rattle.cue_codec.specs.Pieces.{IsIntake}
use Rattle.cue_lattice.specs.World.{Piece, text, state, AllAlong}
use Rattle.cue_replica.specs.Accepted.{text_limit, refusal_at, memory, IsAcceptable, IsOfPieces}
use Rattle.cue_replica.specs.Language.{Table, language}
use Rattle.cue_replica.specs.declared.Kind.TheVariants as kinds
use Rattle.cue_replica.specs.declared.Refusal.{Refusal}
use Rattle.cue_program.specs.Files.{AreAll, Holdings, known_at}
use Rattle.cue_program.specs.Parts.{lines_of, ArePartsOfText}
use Rattle.cue_program.specs.Stops.{IsRefusedAs, IsUnreadable}
use Rattle.cue_program.specs.declared.input_reader.Enough.{Enough}
use Rattle.cue_program.specs.declared.input_reader.Input.{Input}
use Rattle.cue_program.specs.declared.input_reader.Input.TheVariants as read
use Rattle.cue_program.specs.declared.stop.RunError.{RunError}

-- The inputs, in their order: files; or, where none is named, what a reader gives. Of each this is
-- what it holds, where that is known.
pub data Inputs : Type 0 where
  files : List (Option (List ℕ)) → Inputs
  stream : Option (List ℕ) → Inputs

-- the inputs that these names name, where the files lie so and the reader has these bytes
abbrev pub inputs_of : Option Holdings → List (List ℕ) → Option (List ℕ) → Inputs
inputs_of held [] known = stream known
inputs_of held (name ∷ names) known = files (map (known_at held) (name ∷ names))

-- An input with these bytes was read: where the first is FE (hexadecimal), a reader of states has
-- taken them in; and otherwise so much of them is kept.
abbrev pub IsInputRead : {K : Type 0} → (K → List ℕ → Type 0) → Input K → List ℕ → Type 0
IsInputRead IsKept (read.State reader len) bytes = (slice_get bytes 0 ≡ Some 254) × IsIntake bytes reader
IsInputRead IsKept (read.Text kept) bytes = (slice_get bytes 0 ≢ Some 254) × IsKept kept bytes

-- What is kept of these bytes tells what they are refused for, or is all of them: of a state all
-- bytes are kept, and of any others no more than one beyond those that a text may have.
abbrev pub IsEnoughOf : List ℕ → List ℕ → Type 0
IsEnoughOf bytes kept =
    ((slice_get bytes 0 ≡ Some 254) × (kept ≡ bytes))
    ⊎ ((slice_get bytes 0 ≢ Some 254) × (kept ≡ take (text_limit + 1) bytes))

-- a file with these bytes was read, as many as a memory can hold: enough of a text is kept
abbrev pub IsFileRead : Input Enough → List ℕ → Type 0
IsFileRead file bytes =
    IsInputRead (λ kept all. IsEnoughOf all kept.bytes.items) file bytes × (length bytes < 2 ^ 64)

-- what a file hands in: a state where its first byte is FE (hexadecimal), and otherwise one text
abbrev pub IsFilePiece : List ℕ → Piece → Type 0
IsFilePiece bytes piece =
    ((slice_get bytes 0 ≡ Some 254) × (piece ≡ state bytes))
    ⊎ ((slice_get bytes 0 ≢ Some 254) × (piece ≡ text bytes))

-- what a reader hands in: a state where the first byte is FE (hexadecimal), and otherwise the parts
-- as texts
abbrev pub AreStreamPieces : List ℕ → List Piece → Type 0
AreStreamPieces bytes pieces =
    ((slice_get bytes 0 ≡ Some 254) × (pieces ≡ state bytes ∷ []))
    ⊎ ((slice_get bytes 0 ≢ Some 254)
    × ((parts : List (List ℕ)) × ArePartsOfText (lines_of bytes) parts × (pieces ≡ map text parts)))

-- the file hands in the piece
abbrev pub InputGives : Option (List ℕ) → Piece → Type 0
InputGives known piece = (bytes : List ℕ) × AreAll known bytes × IsFilePiece bytes piece

-- These inputs are these pieces.
abbrev pub AreInputPieces : Inputs → List Piece → Type 0
AreInputPieces (files known) pieces = AllAlong InputGives known pieces
AreInputPieces (stream known) pieces =
    (bytes : List ℕ) × AreAll known bytes × AreStreamPieces bytes pieces

-- the first of these inputs are these pieces
abbrev pub AreFirstInputs : Inputs → List Piece → Type 0
AreFirstInputs (files known) pieces =
    (front back : List (Option (List ℕ))) × (known ≡ front ++ back) × AllAlong InputGives front pieces
AreFirstInputs (stream known) pieces =
    (all more : List Piece) × AreInputPieces (stream known) all × (all ≡ pieces ++ more)

-- the table is valid, and the unification of the inputs, each of them acceptable
abbrev pub IsUnified : Inputs → Table → Type 0
IsUnified inputs table = (pieces : List Piece) × AreInputPieces inputs pieces × IsOfPieces table pieces

-- why bytes are no text: they are too many; or else no UTF-8, at the place where the part that is
-- ends
abbrev pub IsByteFault : List ℕ → Refusal → Type 0
IsByteFault bytes why =
    ((text_limit < length bytes) × (why ≡ refusal_at kinds.TooLong text_limit))
    ⊎ ((length bytes ≤ text_limit) × (IsUtf8 bytes → ⊥) × (why.kind ≡ kinds.BadCharacter)
    × IsValidUpTo bytes why.place)

-- the bytes are a text: they are not too many, and UTF-8
abbrev pub IsTextInput : List ℕ → Type 0
IsTextInput bytes = (length bytes ≤ text_limit) × IsUtf8 bytes

-- Why a text is refused: its bytes are none; or else for a fault of its own, or for want of memory,
-- which hides none that is found with no memory.
abbrev pub IsTextInputRefusal : List ℕ → Refusal → Type 0
IsTextInputRefusal bytes why =
    IsByteFault bytes why
    ⊎ (IsTextInput bytes
    × (((why ≡ memory) × (language.IsTextRefusedAtOnce bytes → ⊥)) ⊎ language.IsTextFault bytes why))

-- why a state is refused
abbrev pub IsStateInputRefusal : List ℕ → Refusal → Type 0
IsStateInputRefusal bytes why =
    ((why ≡ memory) × (language.IsStateRefusedAtOnce bytes → ⊥)) ⊎ language.IsStateFault bytes why

-- why a piece is refused
abbrev pub IsPieceRefusal : Piece → Refusal → Type 0
IsPieceRefusal (text bytes) why = IsTextInputRefusal bytes why
IsPieceRefusal (state bytes) why = IsStateInputRefusal bytes why

-- The first input that is refused for such a reason: those before it are fine, and it is told with
-- its number from 1 (or the greatest number that can be told).
pub record IsFirstRefused (IsFine : Piece → Type 0) (IsReason : Piece → Refusal → Type 0)
    (inputs : Inputs) (stop : RunError) : Type 0 where
  pub before : List Piece
  pub piece : Piece
  pub why : Refusal
  pub begin : AreFirstInputs inputs (before ++ piece ∷ [])
  pub accepted : AllByRecursion IsFine before
  pub refusal : IsReason piece why
  pub told : IsRefusedAs why (min (length before + 1) (2 ^ 64 - 1)) stop

-- The first input that can't be read: of files, those before it are fine.
abbrev pub IsFirstUnread : (Piece → Type 0) → Inputs → RunError → Type 0
IsFirstUnread IsFine (files known) stop =
    (front back : List (Option (List ℕ))) × (next : Option (List ℕ)) × (pieces : List Piece)
    × (known ≡ front ++ next ∷ back) × AllAlong InputGives front pieces
    × AllByRecursion IsFine pieces × IsUnreadable next stop
IsFirstUnread IsFine (stream known) stop = IsUnreadable known stop

-- the first input that a site refuses, and the first that can't be read behind inputs that it
-- accepts
abbrev pub IsInputRefused : Inputs → RunError → Type 0
IsInputRefused inputs stop = IsFirstRefused IsAcceptable IsPieceRefusal inputs stop

abbrev pub IsInputUnread : Inputs → RunError → Type 0
IsInputUnread inputs stop = IsFirstUnread IsAcceptable inputs stop
