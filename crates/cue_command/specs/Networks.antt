-- What the words over a network come to.
use Rattle.std.specs.Prelude.{◌≡◌, ◌⊎◌, ℕ, List, Result, Ok, Err}
use Rattle.cue_net.specs.declared.halt.NetError.{NetError}
use Rattle.cue_net.specs.declared.halt.NetError.TheVariants as halts
use Rattle.cue_net.specs.Doors.{ConversesOver, IsLooping, IsPushing, IsServingAt, ServesOver}
use Rattle.cue_net.specs.Doors.{TalksOver}
use Rattle.cue_wire.specs.Connections.{Moment}
use Rattle.cue_net.specs.Halts.{IsDeviceOrMemory}
use Rattle.cue_net.specs.Printed.{IsServedExport}
use Rattle.cue_net.specs.Sockets.{IsTalkAnswer}
use Rattle.cue_wire.specs.declared.request.Request.{Request}
use Rattle.cue_program.specs.declared.Answer.{Answer}
use Rattle.cue_program.specs.declared.RunError.{RunError}
use Rattle.cue_program.specs.declared.RunError.TheVariants as stops
use Rattle.cue_program.specs.Inputs.{Inputs}
use Rattle.cue_program.specs.Requests.{AreRequests, IsUnsentOn}

-- what stops a run where this ends a word over a network
abbrev pub stop_by : NetError → RunError
stop_by halts.Device = stops.Device
stop_by (halts.Refused kind) = stops.Refused kind
stop_by (halts.RefusedExport kind) = stops.Refused kind
stop_by (halts.RefusedInput why input) = stops.RefusedInput why input

-- it is stopped by one of these
abbrev pub IsNetworkEndedBy : (NetError → Type 0) → RunError → Type 0
IsNetworkEndedBy IsHalt stop = (halt : NetError) × IsHalt halt × (stop ≡ stop_by halt)

-- all inputs were read and checked, and then sent to a site, which came to this
abbrev pub IsTalkOn : (List Request → Result Answer NetError → Type 0) → Inputs → Result Answer NetError
    → Type 0
IsTalkOn Talks inputs result =
    (requests : List Request) × AreRequests inputs requests × Talks requests result

-- Why nothing is printed of a site: an input can't be sent, and then none was; or the talk ended
-- so.
abbrev pub IsTalkStopOn : (List Request → Result Answer NetError → Type 0) → Inputs → RunError → Type 0
IsTalkStopOn Talks inputs stop =
    IsUnsentOn inputs stop ⊎ IsNetworkEndedBy (λ halt. IsTalkOn Talks inputs (Err halt)) stop

-- What serving came to: the export of a new site that has served some requests; or a device failed
-- or memory ran out.
abbrev pub IsServed : Result Answer NetError → Type 0
IsServed (Ok answer) = IsServedExport answer
IsServed (Err halt) = IsDeviceOrMemory halt

-- What the calls of a network came to: those that served so many connections at a port, those that
-- sent requests to a port, and those that sent them to a site within this process.
pub record NetworkReach : Type 1 where
  pub Serves : (port count : ℕ) → Result Answer NetError → Type 0
  pub Pushes : (port : ℕ) → List Request → Result Answer NetError → Type 0
  pub Loops : List Request → Result Answer NetError → Type 0

-- this is what they came to, by what a network and its connections tell
abbrev pub reach_of : {Do I O : Type 0} → (ℕ → Do → Type 0) → (Do → Do → I → O → Type 0)
    → (ℕ → I → O → Type 0) → (I → O → I → O → Type 0) → Type 0 → (I → O → Moment) → NetworkReach
reach_of opens lets_in reaches joins fails at = record {
  Serves = λ port count result. IsServingAt (opens port) lets_in (ServesOver at) fails count result
      × IsServed result;
  Pushes = λ port requests result. IsPushing (reaches port) (TalksOver at requests result) fails
      requests result × IsTalkAnswer requests result;
  Loops = λ requests result. IsLooping joins (ConversesOver at requests result) fails requests
      result × IsTalkAnswer requests result;
}
