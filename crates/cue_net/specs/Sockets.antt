-- What the words answer over sockets, of whose bytes nothing is known.
use Rattle.std.specs.Prelude.{◌≡◌, ◌⊎◌, ℕ, List, length, All, Result, Err}
use Rattle.cue_replica.specs.declared.answers.Answer.{Answer}
use Rattle.cue_wire.specs.declared.request.Request as requests
use Rattle.cue_wire.specs.Clients.{IsSendable}
use Rattle.cue_net.specs.declared.halt.NetError.{NetError}
use Rattle.cue_net.specs.Halts.{IsDeviceNetError, IsMemoryNetError, IsTurnsUsedNetError, IsTooLongNetError}
use Rattle.cue_net.specs.Told.{ReportReplies}

-- Why there are no replies to all inputs.
abbrev pub IsSocketUnanswered : List requests.Request → NetError → Type 0
IsSocketUnanswered inputs halt =
    (IsTooLongNetError halt × (All IsSendable inputs → ⊥))
    ⊎ IsTurnsUsedNetError halt ⊎ IsMemoryNetError halt ⊎ IsDeviceNetError halt

-- What is answered: what replies tell, one to each input and the last to the question for the
-- export; or why there are none.
abbrev pub IsTalkAnswer : List requests.Request → Result Answer NetError → Type 0
IsTalkAnswer inputs result =
    ((replies : List (List ℕ)) × (last : List ℕ) × (length replies ≡ length inputs)
    × ReportReplies replies last result)
    ⊎ ((halt : NetError) × (result ≡ Err halt) × IsSocketUnanswered inputs halt)
