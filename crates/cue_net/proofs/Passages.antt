-- Connections that are served behind others.
use Rattle.std.proofs.Common.{◌≡◌, ◌+◌, ℕ, zero, suc, [], ◌++◌, refl, subst, arith, inl, inr, ⊎_elim, Result, Ok, Err, IfOk, IfErr, IsErrAnd}
use Rattle.std.proofs.lemmas.List.Elements.{All-nil, All-append}
use Rattle.cue_replica.specs.declared.answers.Answer.{Answer}
use Rattle.cue_replica.specs.Language.{Table, empty_site}
use Rattle.cue_wire.specs.Connections.{Moment, ServedPassage}
use Rattle.cue_wire.specs.Frames.{IsBody}
use Rattle.cue_wire.specs.Serving.{ServesAll}
use Rattle.cue_wire.proofs.Readings.{are_readings}
use Rattle.cue_net.specs.declared.halt.NetError.{NetError}
use Rattle.cue_net.specs.Halts.{IsDeviceNetError, IsMemoryNetError, IsDeviceOrMemory}
use Rattle.cue_net.specs.Doors.{ServedInTurn, ServesOver, IsServing, IsServingAt}
use Rattle.cue_net.specs.Printed.{ServesSome, IsServedExport}

serves_none : (before after : Table) → after ≡ before → ServesSome before after
unfolding ServesAll
serves_none before after same = ([], [], All-nil IsBody, (same, refl))

serves_on : (before between after : Table) → ServesSome before between → ServesSome between after → ServesSome before after
serves_on before between after one two = (
  one.0 ++ two.0,
  one.1 ++ two.1,
  All-append IsBody one.0 two.0 one.2 two.2,
  are_readings.served one.0 two.0 before between after one.1 two.1 one.3 two.3,
)

-- what a connection served
passed : (before after : Table) → ServedPassage before after → ServesSome before after
passed before after passage =
    (passage.served.bodies, passage.served.replies, passage.served.frames.short, passage.served.tables)

-- no connection was served yet
pub none_served : {D S K : Type 0} (LetsIn : D → D → S → K → Type 0) (Serves : S → K → S → K → Table → Table → Type 0) (door : D) (before after : Table)
    → after ≡ before → ServedInTurn LetsIn Serves 0 door door before after
unfolding ServedInTurn
none_served LetsIn Serves door before after same = (refl, same)

behind : {D S K : Type 0} (LetsIn : D → D → S → K → Type 0) (Serves : S → K → S → K → Table → Table → Type 0) (count : ℕ) (first middle last : D) (before between after : Table)
    (source source' : S) (sink sink' : K) → ServedInTurn LetsIn Serves count first middle before between → LetsIn middle last source sink → Serves source sink source' sink' between after
    → ServedInTurn LetsIn Serves (suc count) first last before after
unfolding ServedInTurn
behind LetsIn Serves count first middle last before between after source source' sink sink' served let_in one =
    (middle, between, source, source', sink, sink', served, let_in, one)

-- one more connection was served
pub one_more : {D S K : Type 0} (LetsIn : D → D → S → K → Type 0) (Serves : S → K → S → K → Table → Table → Type 0) (count : ℕ) (first middle last : D) (before between after : Table)
    (source source' : S) (sink sink' : K) → ServedInTurn LetsIn Serves count first middle before between → LetsIn middle last source sink → Serves source sink source' sink' between after
    → ServedInTurn LetsIn Serves (count + 1) first last before after
one_more LetsIn Serves count first middle last before between after source source' sink sink' served let_in one =
    let next : suc count ≡ count + 1 = omega arith in
    subst (λ n. ServedInTurn LetsIn Serves n first last before after) next
    (behind LetsIn Serves count first middle last before between after source source' sink sink' served let_in one)

-- what so many connections served
pub served_some : {D S K : Type 0} (LetsIn : D → D → S → K → Type 0) (Serves : S → K → S → K → Table → Table → Type 0)
    → ((source source' : S) (sink sink' : K) (before after : Table) → Serves source sink source' sink' before after → ServesSome before after)
    → (count : ℕ) (door door' : D) (before after : Table) → ServedInTurn LetsIn Serves count door door' before after → ServesSome before after
unfolding ServedInTurn
served_some LetsIn Serves some zero door door' before after served = serves_none before after served.1
served_some LetsIn Serves some (suc count) door door' before after (middle, between, source, source', sink, sink', served, let_in, one) =
    serves_on before between after (served_some LetsIn Serves some count door middle before between served) (some source source' sink sink' between after one)

-- an export that is answered is that of a site which has served some requests
pub exports : {D S K : Type 0} (Opens : D → Type 0) (LetsIn : D → D → S → K → Type 0)
    (at : S → K → Moment) (Fails : Type 0) (count : ℕ) (result : Result Answer NetError)
    → IsServingAt Opens LetsIn (ServesOver at) Fails count result → IfOk result IsServedExport
exports Opens LetsIn at Fails count (Err halt) served = tt
exports Opens LetsIn at Fails count (Ok answer) served =
    ⊎_elim (λ none. cc) (λ there. (
      there.3.0,
      served_some LetsIn (ServesOver at)
          (λ source source' sink sink' before after one. passed before after one.0) count there.0 there.1 empty_site there.3.0 there.3.1,
      there.3.2,
    )) served

-- why there is none
pub halts_of : {D S K : Type 0} (Opens : D → Type 0) (LetsIn : D → D → S → K → Type 0) (Serves : S → K → S → K → Table → Table → Type 0)
    (Fails : Type 0) (count : ℕ) (result : Result Answer NetError)
    → IsServingAt Opens LetsIn Serves Fails count result → IfErr result IsDeviceOrMemory
halts_of Opens LetsIn Serves Fails count (Ok answer) served = tt
halts_of Opens LetsIn Serves Fails count (Err halt) served =
    ⊎_elim (λ none. inl cc) (λ there. ⊎_elim (λ device. inl device.0) (λ memory. inr memory.0) there.3) served

-- all were served, and memory ran out for the export
pub starves : {D S K : Type 0} (LetsIn : D → D → S → K → Type 0) (Serves : S → K → S → K → Table → Table → Type 0) (Fails : Type 0) (count : ℕ) (door door' : D) (table : Table)
    (result : Result Answer NetError) → IsErrAnd result IsMemoryNetError → ServedInTurn LetsIn Serves count door door' empty_site table → IsServing LetsIn Serves Fails count door door' result
starves LetsIn Serves Fails count door door' table (Ok answer) memory served = absurd memory
starves LetsIn Serves Fails count door door' table (Err halt) memory served = inr (memory, (table, served))

-- none was let in
pub stops : {D S K : Type 0} (LetsIn : D → D → S → K → Type 0) (Serves : S → K → S → K → Table → Table → Type 0) (Fails : Type 0) (count : ℕ) (door door' : D)
    (result : Result Answer NetError) → IsErrAnd result IsDeviceNetError → Fails → IsServing LetsIn Serves Fails count door door' result
stops LetsIn Serves Fails count door door' (Ok answer) device fails = absurd device
stops LetsIn Serves Fails count door door' (Err halt) device fails = inl (device, fails)

-- the numbers at the end of the loop
pub all_served : {D S K : Type 0} (LetsIn : D → D → S → K → Type 0) (Serves : S → K → S → K → Table → Table → Type 0) (served count : ℕ) (door door' : D) (table : Table)
    → served ≡ count → ServedInTurn LetsIn Serves served door door' empty_site table → ServedInTurn LetsIn Serves count door door' empty_site table
all_served LetsIn Serves served count door door' table same all = subst (λ n. ServedInTurn LetsIn Serves n door door' empty_site table) same all
