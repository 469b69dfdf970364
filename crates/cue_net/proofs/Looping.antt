-- What a session and a client make of pieces that are carried to them.
use Rattle.std.proofs.Common.{◌≡◌, ◌⊎◌, ℕ, List, [], ◌++◌, ap, sym, ◌∙◌, subst, arith, append_assoc, append-nil, inl, inr, ⊎_elim, ◌≤◌, ◌+◌, Option, Result, IsErrAnd, OnOk}
use Rattle.cue_replica.specs.Language.{Table}
use Rattle.cue_wire.specs.Frames.{HasFault}
use Rattle.cue_wire.specs.Sessions.{Standing, Served}
use Rattle.cue_wire.proofs.Readings.{are_readings}
use Rattle.cue_wire.proofs.Streams.{served_none}
use Rattle.cue_net.specs.declared.halt.NetError.{NetError}
use Rattle.cue_net.specs.Halts.{IsDeviceNetError, IsMemoryNetError}
use Rattle.cue_net.specs.Inner.Turns.{IsReadHalt, Moves}
use Rattle.cue_wire.proofs.Connections.{handed_on}
use Rattle.cue_net.specs.Inner.Looping.{IsCarryHalt, ServesOnto, Faults}

served_onto : (read kept piece rest : List ℕ) (before between after : Table) (old mid new : List ℕ)
    → Served read kept before between old mid → Served (kept ++ piece) rest between after mid new → Served (read ++ piece) rest before after old new
served_onto read kept piece rest before between after old mid new one two = record {
  bodies = one.bodies ++ two.bodies;
  replies = one.replies ++ two.replies;
  frames = are_readings.pieces read piece one.bodies two.bodies kept rest one.frames two.frames;
  tables = are_readings.served one.bodies two.bodies before between after one.replies two.replies one.tables two.tables;
  added = two.added ∙ ap (λ zs. zs ++ two.replies) one.added ∙ append_assoc old one.replies two.replies;
}

pub serves_nothing : (session : Standing) (table : Table) (out : List ℕ) → ServesOnto session session table table out out []
serves_nothing session table out kept is unfinished =
    (kept, is, unfinished, subst (λ s. Served s kept table table out out) (sym (append-nil kept)) (served_none kept table out))

pub serves_more : (old mid new : Standing) (before between after : Table) (out out' out'' p q : List ℕ)
    → ServesOnto old mid before between out out' p → ServesOnto mid new between after out' out'' q → ServesOnto old new before after out out'' (p ++ q)
serves_more old mid new before between after out out' out'' p q one two kept is unfinished =
    let a = one kept is unfinished in
    let b = two a.0 a.1 a.2 in (
      b.0,
      b.1,
      b.2,
      subst (λ s. Served s b.0 before after out out'') (append_assoc kept p q)
          (served_onto (kept ++ p) a.0 q b.0 before between after out out' out'' a.3 b.3),
    )

pub faults_later : (old mid : Standing) (before between : Table) (out out' p q : List ℕ)
    → ServesOnto old mid before between out out' p → Faults mid q → Faults old (p ++ q)
faults_later old mid before between out out' p q one two kept is unfinished =
    let a = one kept is unfinished in
    let f = two a.0 a.1 a.2 in
    subst HasFault (append_assoc kept p q)
    (a.3.bodies ++ f.0, f.1, are_readings.pieces (kept ++ p) q a.3.bodies f.0 a.0 f.1 a.3.frames f.2, f.3)

-- a read that has no bytes ends carrying
pub reads_nothing : (halt : NetError) (left failed failed' failed'' : ℕ) (to_come : Option (List ℕ)) (Few Balk : Type 0)
    → failed' ≡ failed → Few → IsReadHalt halt left to_come failed' failed'' → IsCarryHalt halt left to_come Few failed failed'' Balk
reads_nothing halt left failed failed' failed'' to_come Few Balk sound few why =
    ⊎_elim (λ used. inl (used.0, used.1)) (λ device. inr (inr (device.0, ⊎_elim (λ broke. inl (omega (arith, sound, broke))) (λ ended. inr (inl (ended.0, few))) device.1))) why

-- so does a piece that is not taken
pub takes_nothing : (halt : NetError) (left failed failed' : ℕ) (to_come : Option (List ℕ)) (Few Balk Balk' : Type 0)
    → (Balk → Balk') → IsMemoryNetError halt ⊎ (IsDeviceNetError halt × Balk) → IsCarryHalt halt left to_come Few failed failed' Balk'
takes_nothing halt left failed failed' to_come Few Balk Balk' later why =
    inr (⊎_elim inl (λ device. inr (device.0, inr (inr (later device.1)))) why)

-- what holds of a halt, handed on
pub none_ok : (result : Result (Unit {0}) NetError) (halt : NetError) (P : Type 0) → IsErrAnd result (λ e. e ≡ halt) → OnOk result P
none_ok result halt P is = handed_on (λ r. OnOk r P) result halt is tt

pub moved_on : (result : Result (Unit {0}) NetError) (halt : NetError) (left left' count : ℕ) → IsErrAnd result (λ e. e ≡ halt) → IsDeviceNetError halt ⊎ (left ≤ left' + count)
    → Moves result left left' count
moved_on result halt left left' count is moved = handed_on (λ r. Moves r left left' count) result halt is moved
