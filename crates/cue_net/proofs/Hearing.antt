-- What a client hears piece by piece, and what asking adds to a talk.
use Rattle.std.proofs.Common.{◌≡◌, ◌⊎◌, ℕ, ◌<◌, List, [], ◌++◌, length, ap, sym, ◌∙◌, subst, arith, append_assoc, append-nil, inl, inr, ⊎_elim, Option, Result, Err, IsErrAnd, Vec, Global}
use Rattle.std.proofs.lemmas.List.{length-map}
use Rattle.cue_wire.specs.Clients.{ClientExchange, ClientHasTaken, all_items}
use Rattle.cue_wire.specs.Frames.{HasFault}
use Rattle.cue_net.specs.declared.halt.NetError.{NetError}
use Rattle.cue_net.specs.Halts.{IsDeviceNetError, IsMemoryNetError, IsTurnsUsedNetError}
use Rattle.cue_net.specs.Inner.Turns.{IsReadHalt}
use Rattle.cue_net.specs.Inner.Hearing.{FeedsClient, FindsLongFrame, IsReadError, RepliesRead}
use Rattle.cue_wire.proofs.Connections.{handed_on}

pub hears_nothing : (old : ClientExchange) → FeedsClient old old []
hears_nothing old stream taken = subst (ClientHasTaken old) (sym (append-nil stream)) taken

pub hears_more : (old mid new : ClientExchange) (p q : List ℕ) → FeedsClient old mid p → FeedsClient mid new q → FeedsClient old new (p ++ q)
hears_more old mid new p q one two stream taken = subst (ClientHasTaken new) (append_assoc stream p q) (two (stream ++ p) (one stream taken))

pub balks_later : (old mid : ClientExchange) (p q : List ℕ) → FeedsClient old mid p → FindsLongFrame mid q → FindsLongFrame old (p ++ q)
balks_later old mid p q one two stream taken = subst HasFault (append_assoc stream p q) (two (stream ++ p) (one stream taken))

-- where turns are used, no device failed
pub in_turns : (halt : NetError) (P : Type 0) {Q : Type 0} → (P → Q) → IsTurnsUsedNetError halt → IsDeviceNetError halt ⊎ P → Q
in_turns halt P next used (inl device) = absurd cc
in_turns halt P next used (inr moved) = next moved

-- a read that has no bytes ends hearing
pub stops_reading : (halt : NetError) (old new : ClientExchange) (piece : List ℕ) (count left failed failed' failed'' : ℕ) (to_come : Option (List ℕ))
    → FeedsClient old new piece → length new.replies < count → failed' ≡ failed → IsReadHalt halt left to_come failed' failed''
    → IsReadError halt [] old new piece count to_come left failed failed''
stops_reading halt old new piece count left failed failed' failed'' to_come hears few sound why =
    ⊎_elim (λ used. inl (used.0, used.1, inr (hears, few))) (λ device. inr (inr (device.0, ⊎_elim (λ broke. inl (omega (arith, sound, broke))) (λ ended. inr (inl (ended.0, (hears, few)))) device.1))) why

-- so does a piece that the client refuses
pub stops_taking : (halt : NetError) (old mid new : ClientExchange) (p q : List ℕ) (count left failed failed' : ℕ) (to_come : Option (List ℕ))
    → FeedsClient old mid p → IsMemoryNetError halt ⊎ (IsDeviceNetError halt × FindsLongFrame mid q)
    → IsReadError halt [] old new (p ++ q) count to_come left failed failed'
stops_taking halt old mid new p q count left failed failed' to_come hears why =
    inr (⊎_elim inl (λ device. inr (device.0, inr (inr (balks_later old mid p q hears device.1)))) why)

pub long_as : (vectors : List (Vec ℕ Global)) (replies : List (List ℕ)) → all_items vectors ≡ replies → length vectors ≡ length replies
long_as vectors replies are = sym (length-map vectors (λ (v : Vec ℕ Global). v.items)) ∙ ap length are

-- hearing that stops, handed on
pub heard_on : {result : Result (Unit {0}) NetError} {halt : NetError} {old new : ClientExchange} {count : ℕ} {given given' to_come to_come' : Option (List ℕ)} {left left' failed failed' : ℕ}
    → IsErrAnd result (λ e. e ≡ halt) → RepliesRead (Err halt) old new count given given' to_come to_come' left left' failed failed'
    → RepliesRead result old new count given given' to_come to_come' left left' failed failed'
heard_on {result} {halt} {old} {new} {count} {given} {given'} {to_come} {to_come'} {left} {left'} {failed} {failed'} is heard =
    handed_on (λ r. RepliesRead r old new count given given' to_come to_come' left left' failed failed') result halt is heard
