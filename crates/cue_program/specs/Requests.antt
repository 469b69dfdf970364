-- What inputs are as requests to a site, and which of them can't be sent.
use Rattle.std.specs.Prelude.{◌≡◌, ◌⊎◌, List, map, ⊤}
use Rattle.std.specs.List.{AllByRecursion}
use Rattle.cue_lattice.specs.World.{Piece, text, state}
use Rattle.cue_replica.specs.declared.Refusal.{Refusal}
use Rattle.cue_wire.specs.declared.request.Request as requests
use Rattle.cue_wire.specs.Clients.{request_of_client}
use Rattle.cue_wire.specs.Requests as asking
use Rattle.cue_program.specs.Inputs.{Inputs, AreInputPieces, IsByteFault, IsTextInput}
use Rattle.cue_program.specs.Inputs.{IsFirstRefused, IsFirstUnread}
use Rattle.cue_program.specs.Stops.{IsMemoryStop}
use Rattle.cue_program.specs.declared.stop.RunError.{RunError}

-- the request that hands a piece in
abbrev pub request_for : Piece → asking.Request
request_for (text bytes) = asking.text bytes
request_for (state bytes) = asking.state bytes

-- a piece can be sent: what is no state is a text; what a site makes of it is not looked at
abbrev pub CanBeSent : Piece → Type 0
CanBeSent (text bytes) = IsTextInput bytes
CanBeSent (state bytes) = ⊤

-- why a piece can't be sent
abbrev pub IsRequestFault : Piece → Refusal → Type 0
IsRequestFault (text bytes) why = IsByteFault bytes why
IsRequestFault (state bytes) why = ⊥

-- The requests hand in these inputs, in their order, each of which can be sent.
abbrev pub AreRequests : Inputs → List requests.Request → Type 0
AreRequests inputs asked =
    (pieces : List Piece) × AreInputPieces inputs pieces × AllByRecursion CanBeSent pieces
    × (map request_of_client asked ≡ map request_for pieces)

-- Why inputs are not sent: the first that can't be, or can't be read; or memory ran out.
abbrev pub IsUnsentOn : Inputs → RunError → Type 0
IsUnsentOn inputs stop =
    IsFirstRefused CanBeSent IsRequestFault inputs stop
    ⊎ IsFirstUnread CanBeSent inputs stop
    ⊎ IsMemoryStop stop
