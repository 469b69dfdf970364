-- What passes through the network: connections through a door, and connections to a port.
use Rattle.std.specs.Prelude.{◌≡◌, ◌⊎◌, ℕ, zero, suc, List, All, Result, Ok, Err}
use Rattle.cue_lattice.specs.declared.refusal.Kind.{Kind}
use Rattle.cue_lattice.specs.declared.refusal.Kind.TheVariants as kinds
use Rattle.cue_replica.specs.declared.answers.Answer.{Answer}
use Rattle.cue_replica.specs.Language.{Table, empty_site}
use Rattle.cue_wire.specs.declared.connection.Ended.{Ended}
use Rattle.cue_wire.specs.declared.request.Request as requests
use Rattle.cue_wire.specs.Clients.{IsSendable}
use Rattle.cue_wire.specs.Connections.{ServedPassage, PassesBy, ServingEndsAt, Moment}
use Rattle.cue_net.specs.declared.halt.NetError.{NetError}
use Rattle.cue_net.specs.declared.halt.NetError.TheVariants as halts
use Rattle.cue_net.specs.Halts.{IsDeviceNetError, IsMemoryNetError}
use Rattle.cue_net.specs.Loops.{IsAnswerBetween, both_ends}
use Rattle.cue_net.specs.Printed.{IsPrintedExport}
use Rattle.cue_net.specs.Talks.{Talk, IsTalk, IsAnswerInTalk}

-- the most reads and writes of a connection
abbrev pub most_turns : ℕ
most_turns = 100000

-- A connection was served, between two moments of its source and its sink: what was read there
-- turned the one table into the other, and what was written are the replies. What the two tell at a
-- moment is handed in.
abbrev pub ServesOver : {S K : Type 0} → (S → K → Moment) → S → K → S → K → Table → Table → Type 0
ServesOver at source sink source' sink' before after =
    (passage : ServedPassage before after) × (ended : Result Ended Kind)
    × PassesBy passage (at source sink) (at source' sink')
    × ServingEndsAt ended passage most_turns (at source sink) (at source' sink')

-- A door let in so many connections, one after the other, and each was served, from the table that
-- the one before it left.
unfoldable pub ServedInTurn : {D S K : Type 0} → (D → D → S → K → Type 0)
    → (S → K → S → K → Table → Table → Type 0) → ℕ → D → D → Table → Table → Type 0
ServedInTurn LetsIn Serves zero door door' before after = (door' ≡ door) × (after ≡ before)
ServedInTurn {D} {S} {K} LetsIn Serves (suc count) door door' before after =
    (middle : D) × (between : Table) × (source source' : S) × (sink sink' : K)
    × ServedInTurn LetsIn Serves count door middle before between
    × LetsIn middle door' source sink × Serves source sink source' sink' between after

-- What serving so many connections from a new site came to: the site's export; or a door let none
-- in; or all were served, and memory ran out for the export.
abbrev pub IsServing : {D S K : Type 0} → (D → D → S → K → Type 0)
    → (S → K → S → K → Table → Table → Type 0) → Type 0 → ℕ → D → D → Result Answer NetError → Type 0
IsServing LetsIn Serves Fails count door door' (Ok answer) =
    (table : Table) × ServedInTurn LetsIn Serves count door door' empty_site table
    × IsPrintedExport table answer
IsServing LetsIn Serves Fails count door door' (Err halt) =
    (IsDeviceNetError halt × Fails)
    ⊎ (IsMemoryNetError halt × ((table : Table)
    × ServedInTurn LetsIn Serves count door door' empty_site table))

-- so it is at a new door, which is there, or can't be had
abbrev pub IsServingAt : {D S K : Type 0} → (D → Type 0) → (D → D → S → K → Type 0)
    → (S → K → S → K → Table → Table → Type 0) → Type 0 → ℕ → Result Answer NetError → Type 0
IsServingAt {D} Opens LetsIn Serves Fails count result =
    ((result ≡ Err halts.Device) × Fails)
    ⊎ ((door door' : D) × Opens door × IsServing LetsIn Serves Fails count door door' result)

-- A talk with a site came to this, between two moments of its source and its sink.
abbrev pub TalksOver : {S K : Type 0} → (S → K → Moment) → List requests.Request
    → Result Answer NetError → S → K → S → K → Type 0
TalksOver at inputs result source sink source' sink' =
    (talk : Talk) × IsTalk talk (at source sink) (at source' sink')
    × IsAnswerInTalk result inputs talk most_turns (at source sink) (at source' sink')

-- Why nobody is asked: a frame can't hold an input; or there is no connection.
abbrev pub IsUnasked : List requests.Request → Type 0 → Result Answer NetError → Type 0
IsUnasked inputs Fails result =
    ((result ≡ Err (halts.Refused kinds.FrameTooLong)) × (All IsSendable inputs → ⊥))
    ⊎ (All IsSendable inputs × (result ≡ Err halts.Device) × Fails)

-- What pushing inputs came to: what a talk over a new connection did, which is there.
abbrev pub IsPushing : {S K : Type 0} → (S → K → Type 0) → (S → K → S → K → Type 0) → Type 0
    → List requests.Request → Result Answer NetError → Type 0
IsPushing {S} {K} Reaches Talks Fails inputs result =
    IsUnasked inputs Fails result
    ⊎ (All IsSendable inputs × ((source source' : S) × (sink sink' : K)
    × Reaches source sink × Talks source sink source' sink'))

-- A talk between a client and a site came to this, between two moments of both ends.
abbrev pub ConversesOver : {S K : Type 0} → (S → K → Moment) → List requests.Request
    → Result Answer NetError → S → K → S → K → S → K → S → K → Type 0
ConversesOver at inputs result near near_sink near' near_sink' far far_sink far' far_sink' =
    (here there : Talk) × IsTalk here (at near near_sink) (at near' near_sink')
    × IsTalk there (at far far_sink) (at far' far_sink')
    × IsAnswerBetween result inputs here there most_turns (both_ends at near near_sink far far_sink)
    (both_ends at near' near_sink' far' far_sink')

-- What a loop came to: what a talk between both ends of one new connection did, which is there.
abbrev pub IsLooping : {S K : Type 0} → (S → K → S → K → Type 0)
    → (S → K → S → K → S → K → S → K → Type 0) → Type 0 → List requests.Request
    → Result Answer NetError → Type 0
IsLooping {S} {K} Joins Converses Fails inputs result =
    IsUnasked inputs Fails result
    ⊎ (All IsSendable inputs × ((near near' far far' : S) × (near_sink near_sink' : K)
    × (far_sink far_sink' : K) × Joins near near_sink far far_sink
    × Converses near near_sink near' near_sink' far far_sink far' far_sink'))
