-- Requests that hand in single inputs, and the parts of what a reader gives.
use Rattle.std.specs.Prelude.{◌≡◌, ◌⊎◌, ℕ, List, map}
use Rattle.std.specs.List.{AllByRecursion}
use Rattle.cue_lattice.specs.World.{Piece}
use Rattle.cue_replica.specs.declared.Refusal.{Refusal}
use Rattle.cue_wire.specs.declared.request.Request as requests
use Rattle.cue_wire.specs.Clients.{request_of_client}
use Rattle.cue_wire.specs.Requests as asking
use Rattle.cue_program.specs.Inputs.{IsByteFault, IsFilePiece, IsTextInput}
use Rattle.cue_program.specs.Parts.{lines_of, ArePartsOfText}
use Rattle.cue_program.specs.Requests.{CanBeSent, IsRequestFault, request_for}
use Rattle.cue_program.specs.Stops.{IsMemoryStop, IsRefusedAs}
use Rattle.cue_program.specs.declared.stop.RunError.{RunError}
use Rattle.cue_program.specs.inner.Texts.{IsPartRefused}

-- the request hands in the piece of a file with these bytes, which can be sent
abbrev pub IsFileRequest : List ℕ → requests.Request → Type 0
IsFileRequest bytes request =
    (piece : Piece) × IsFilePiece bytes piece × CanBeSent piece
    × (request_of_client request ≡ request_for piece)

-- the piece of a file with these bytes can't be sent
abbrev pub IsFileUnsent : List ℕ → ℕ → RunError → Type 0
IsFileUnsent bytes number stop =
    (piece : Piece) × (why : Refusal) × IsFilePiece bytes piece × IsRequestFault piece why
    × IsRefusedAs why number stop

-- the bytes are no text
abbrev pub IsNoText : List ℕ → ℕ → RunError → Type 0
IsNoText bytes number stop =
    (why : Refusal) × IsRefusedAs why number stop × IsByteFault bytes why

-- the requests hand in the parts of the bytes, each of which is a text
abbrev pub AreTextRequests : List ℕ → List requests.Request → Type 0
AreTextRequests bytes asked =
    (parts : List (List ℕ)) × ArePartsOfText (lines_of bytes) parts × AllByRecursion IsTextInput parts
    × (map request_of_client asked ≡ map asking.text parts)

-- the first part of the bytes that is no text
abbrev pub IsPartUnsent : List ℕ → RunError → Type 0
IsPartUnsent bytes stop = IsPartRefused IsTextInput IsByteFault bytes stop ⊎ IsMemoryStop stop
