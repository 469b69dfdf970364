-- Requests that are carried from one end to the other, and their replies back.
use Rattle.std.proofs.Common.{◌≡◌, ◌⊎◌, ℕ, ◌+◌, ◌<◌, ◌≤◌, List, [], ◌++◌, length, refl, ap, sym, ◌∙◌, arith, append_assoc, append-nil, inl, inr, ⊎_elim, Option, Result, Ok, Err, IsErrAnd, length-append}
use Rattle.std.proofs.KnownBytes.{Appends-nil, Appends-kept, Consumes-nil}
use Rattle.std.specs.Io.KnownBytes.{Appends, Consumes, Keeps}
use Rattle.cue_replica.specs.Language.{Table}
use Rattle.cue_wire.specs.Clients.{ClientExchange}
use Rattle.cue_wire.specs.Sessions.{Standing}
use Rattle.cue_net.specs.declared.halt.NetError.{NetError}
use Rattle.cue_net.specs.Halts.{IsDeviceNetError, IsMemoryNetError}
use Rattle.cue_net.specs.Inner.Turns.{IsWriteHalt}
use Rattle.cue_net.specs.Talks.{Talk}
use Rattle.cue_net.specs.Inner.Hearing.{FeedsClient}
use Rattle.cue_net.specs.Loops.{bytes_of_loop}
use Rattle.cue_net.specs.Inner.Looping.{IsCarryHalt, CarriedBack, ServesOnto, Faults, ExchangedFrames, ExchangesAt}
use Rattle.cue_wire.proofs.Connections.{handed_on}
use Rattle.cue_net.proofs.Asking.{no_talk, talks_nothing, joined, talks_more, moves_on}
use Rattle.cue_net.proofs.Hearing.{hears_nothing, hears_more, balks_later}
use Rattle.cue_net.proofs.Looping.{serves_nothing, serves_more, faults_later}

-- the replies join those that were written before
shifted : (old new : Standing) (before after : Table) (start out sent unsent piece : List ℕ) (had : List ℕ) → start ≡ [] → out ≡ sent ++ unsent → unsent ≡ []
    → ServesOnto old new before after start out piece → ServesOnto old new before after had (had ++ sent) piece
shifted old new before after start out sent unsent piece had nil is none serves kept e unfinished =
    let x = serves kept e unfinished in
    let all : sent ≡ x.3.replies = sym (is ∙ ap (λ zs. sent ++ zs) none ∙ append-nil sent) ∙ x.3.added ∙ ap (λ zs. zs ++ x.3.replies) nil in
    (x.0, x.1, x.2, record { bodies = x.3.bodies; replies = x.3.replies; frames = x.3.frames; tables = x.3.tables; added = ap (λ zs. had ++ zs) all })

pub ex_nothing : (old : ClientExchange) (session : Standing) (site : Table) (given to_come taken gave coming took : Option (List ℕ)) (left failed : ℕ)
    → ExchangedFrames (Ok tt) [] old old session session site site given given to_come to_come taken taken gave gave coming coming took took left left failed failed
ex_nothing old session site given to_come taken gave coming took left failed = record {
  near = no_talk;
  far = no_talk;
  unsent = [];
  near_passes = talks_nothing given to_come taken;
  far_passes = talks_nothing gave coming took;
  front = refl;
  moves = omega arith;
  ends = (refl, refl, refl, hears_nothing old, serves_nothing session site []);
}

pub ex_none : (halt : NetError) (frames : List ℕ) (old : ClientExchange) (session : Standing) (site : Table) (given to_come taken gave coming took : Option (List ℕ)) (left failed : ℕ)
    → IsMemoryNetError halt → ExchangedFrames (Err halt) frames old old session session site site given given to_come to_come taken taken gave gave coming coming took took left left failed failed
ex_none halt frames old session site given to_come taken gave coming took left failed memory = record {
  near = no_talk;
  far = no_talk;
  unsent = frames;
  near_passes = talks_nothing given to_come taken;
  far_passes = talks_nothing gave coming took;
  front = refl;
  moves = inr (omega arith);
  ends = inr (inl memory);
}

ends_then : (result : Result (Unit {0}) NetError) (unsent : List ℕ) (near far near' far' : Talk) (old mid new : ClientExchange) (s0 s1 s2 : Standing) (t0 t1 t2 : Table)
    (to_come coming : Option (List ℕ)) (left failed failed' failed'' : ℕ)
    → failed' ≡ failed → length far.heard ≡ length near.sent → length near.heard ≡ length far.sent → FeedsClient old mid near.heard → ServesOnto s0 s1 t0 t1 [] far.sent far.heard
    → ExchangesAt result unsent near' far' mid new s1 s2 t1 t2 to_come coming left failed' failed''
    → ExchangesAt result unsent (joined near near') (joined far far') old new s0 s2 t0 t2 to_come coming left failed failed''
ends_then (Ok u) unsent near far near' far' old mid new s0 s1 s2 t0 t1 t2 to_come coming left failed failed' failed'' sound there back hears serves e = (
  e.0,
  omega (arith, there, e.1, length-append far.heard far'.heard, length-append near.sent near'.sent),
  omega (arith, back, e.2, length-append near.heard near'.heard, length-append far.sent far'.sent),
  hears_more old mid new near.heard near'.heard hears e.3,
  serves_more s0 s1 s2 t0 t1 t2 [] far.sent (far.sent ++ far'.sent) far.heard far'.heard serves
      (shifted s1 s2 t1 t2 [] far'.sent far'.sent [] far'.heard far.sent refl (sym (append-nil far'.sent)) refl e.4),
)
ends_then (Err halt) unsent near far near' far' old mid new s0 s1 s2 t0 t1 t2 to_come coming left failed failed' failed'' sound there back hears serves e =
    ⊎_elim inl (λ others. inr (⊎_elim inl (λ device. inr (
      device.0,
      ⊎_elim (λ broke. inl (omega (arith, sound, broke))) (λ a. inr (⊎_elim
          (λ ended. inl (ended.0, omega (arith, back, ended.1, length-append near.heard near'.heard, length-append far.sent far'.sent))) (λ b. inr (⊎_elim
          (λ ended. inl (ended.0, omega (arith, there, ended.1, length-append far.heard far'.heard, length-append near.sent near'.sent))) (λ d. inr (⊎_elim
          (λ balks. inl (balks_later old mid near.heard near'.heard hears balks))
          (λ faults. inr (faults_later s0 s1 t0 t1 [] far.sent far.heard far'.heard serves faults)) d)) b)) a)) device.1,
    )) others)) e

sums : (near near' far far' : Talk) → bytes_of_loop near far + bytes_of_loop near' far' ≤ bytes_of_loop (joined near near') (joined far far')
sums near near' far far' =
    omega (arith, length-append near.sent near'.sent, length-append near.heard near'.heard, length-append far.sent far'.sent, length-append far.heard far'.heard)

-- one exchange after the other
pub ex_then : {u : Unit {0}} {result : Result (Unit {0}) NetError} {one two : List ℕ} {old mid new : ClientExchange} {s0 s1 s2 : Standing} {t0 t1 t2 : Table}
    {given given' given'' to_come to_come' to_come'' taken taken' taken'' gave gave' gave'' coming coming' coming'' took took' took'' : Option (List ℕ)}
    {start left left' failed failed' failed'' : ℕ} → failed' ≡ failed
    → ExchangedFrames (Ok u) one old mid s0 s1 t0 t1 given given' to_come to_come' taken taken' gave gave' coming coming' took took' start left failed failed'
    → ExchangedFrames result two mid new s1 s2 t1 t2 given' given'' to_come' to_come'' taken' taken'' gave' gave'' coming' coming'' took' took'' left left' failed' failed''
    → ExchangedFrames result (one ++ two) old new s0 s2 t0 t2 given given'' to_come to_come'' taken taken'' gave gave'' coming coming'' took took'' start left' failed failed''
ex_then {u} {result} {one} {two} {old} {mid} {new} {s0} {s1} {s2} {t0} {t1} {t2} {given} {given'} {given''} {to_come} {to_come'} {to_come''} {taken} {taken'} {taken''}
    {gave} {gave'} {gave''} {coming} {coming'} {coming''} {took} {took'} {took''} {start} {left} {left'} {failed} {failed'} {failed''} sound a b = record {
      near = joined a.near b.near;
      far = joined a.far b.far;
      unsent = b.unsent;
      near_passes = talks_more a.near b.near given given' given'' to_come to_come' to_come'' taken taken' taken'' a.near_passes b.near_passes;
      far_passes = talks_more a.far b.far gave gave' gave'' coming coming' coming'' took took' took'' a.far_passes b.far_passes;
      front = ap (λ zs. zs ++ two) (a.front ∙ ap (λ zs. a.near.sent ++ zs) a.ends.0 ∙ append-nil a.near.sent)
          ∙ ap (λ zs. a.near.sent ++ zs) b.front ∙ sym (append_assoc a.near.sent b.near.sent b.unsent);
      moves = moves_on result start left left' (bytes_of_loop a.near a.far) (bytes_of_loop b.near b.far) (bytes_of_loop (joined a.near b.near) (joined a.far b.far))
          (sums a.near b.near a.far b.far) a.moves b.moves;
      ends = ends_then result b.unsent a.near a.far b.near b.far old mid new s0 s1 s2 t0 t1 t2 to_come'' coming'' left' failed failed' failed'' sound
          a.ends.1 a.ends.2 a.ends.3 a.ends.4 b.ends;
    }

-- what stops while a part is exchanged
pub ex_part : {halt : NetError} {frames : List ℕ} {old new : ClientExchange} {s0 s1 : Standing} {t0 t1 : Table}
    {given given' to_come to_come' taken taken' gave gave' coming coming' took took' : Option (List ℕ)} {start left failed failed' : ℕ} → (more : List ℕ)
    → ExchangedFrames (Err halt) frames old new s0 s1 t0 t1 given given' to_come to_come' taken taken' gave gave' coming coming' took took' start left failed failed'
    → ExchangedFrames (Err halt) (frames ++ more) old new s0 s1 t0 t1 given given' to_come to_come' taken taken' gave gave' coming coming' took took' start left failed failed'
ex_part {halt} {frames} more a = record {
  near = a.near;
  far = a.far;
  unsent = a.unsent ++ more;
  near_passes = a.near_passes;
  far_passes = a.far_passes;
  front = ap (λ zs. zs ++ more) a.front ∙ append_assoc a.near.sent a.unsent more;
  moves = a.moves;
  ends = a.ends;
}

pub ex_is : {result : Result (Unit {0}) NetError} {frames frames' : List ℕ} {old new : ClientExchange} {s0 s1 : Standing} {t0 t1 : Table}
    {given given' to_come to_come' taken taken' gave gave' coming coming' took took' : Option (List ℕ)} {start left failed failed' : ℕ} → frames' ≡ frames
    → ExchangedFrames result frames old new s0 s1 t0 t1 given given' to_come to_come' taken taken' gave gave' coming coming' took took' start left failed failed'
    → ExchangedFrames result frames' old new s0 s1 t0 t1 given given' to_come to_come' taken taken' gave gave' coming coming' took took' start left failed failed'
ex_is is a = record {
  near = a.near;
  far = a.far;
  unsent = a.unsent;
  near_passes = a.near_passes;
  far_passes = a.far_passes;
  front = is ∙ a.front;
  moves = a.moves;
  ends = a.ends;
}

-- an exchange that stops, handed on
pub ex_on : {result : Result (Unit {0}) NetError} {halt : NetError} {frames : List ℕ} {old new : ClientExchange} {s0 s1 : Standing} {t0 t1 : Table}
    {given given' to_come to_come' taken taken' gave gave' coming coming' took took' : Option (List ℕ)} {start left failed failed' : ℕ} → IsErrAnd result (λ e. e ≡ halt)
    → ExchangedFrames (Err halt) frames old new s0 s1 t0 t1 given given' to_come to_come' taken taken' gave gave' coming coming' took took' start left failed failed'
    → ExchangedFrames result frames old new s0 s1 t0 t1 given given' to_come to_come' taken taken' gave gave' coming coming' took took' start left failed failed'
ex_on {result} {halt} {frames} {old} {new} {s0} {s1} {t0} {t1} {given} {given'} {to_come} {to_come'} {taken} {taken'} {gave} {gave'} {coming} {coming'} {took} {took'}
    {start} {left} {failed} {failed'} is exchanged =
    handed_on (λ r. ExchangedFrames r frames old new s0 s1 t0 t1 given given' to_come to_come' taken taken' gave gave' coming coming' took took' start left failed failed')
    result halt is exchanged

-- a piece is written, served, and its replies are heard
pub piece_exchanged : (piece : List ℕ) (n : ℕ) (old new : ClientExchange) (s0 s1 : Standing) (t0 t1 : Table) (start out bytes read : List ℕ)
    (given given' to_come to_come' taken taken' gave gave' coming coming' took took' : Option (List ℕ)) (turns left left' failed failed' failures failures' : ℕ)
    → length piece ≡ n → turns ≤ left + (n + n) → start ≡ [] → bytes ≡ out → Appends taken taken' piece → Appends gave gave' read → Consumes coming coming' read
    → (length read ≡ n) × ServesOnto s0 s1 t0 t1 start out read → CarriedBack (Ok tt) bytes old new given given' to_come to_come' took took' left left' failed failed'
    → ExchangedFrames (Ok tt) piece old new s0 s1 t0 t1 given given' to_come to_come' taken taken' gave gave' coming coming' took took' turns left' failures failures'
piece_exchanged piece n old new s0 s1 t0 t1 start out bytes read given given' to_come to_come' taken taken' gave gave' coming coming' took took' turns left left' failed failed' failures failures' long moved nil same wrote gives takes r b = record {
  near = record { sent = piece; heard = b.talk.heard };
  far = record { sent = b.talk.sent; heard = read };
  unsent = [];
  near_passes = record { gave = b.passes.gave; took = b.passes.took; wrote = wrote };
  far_passes = record { gave = gives; took = takes; wrote = b.passes.wrote };
  front = sym (append-nil piece);
  moves = omega (arith, long, moved, r.0, b.moves);
  ends = (
    refl,
    omega (arith, r.0, long),
    b.ends.1,
    b.ends.2,
    shifted s0 s1 t0 t1 start out b.talk.sent b.unsent read [] nil (sym same ∙ b.front) b.ends.0 r.1,
  );
}

-- it is not written
pub piece_unwritten : (halt : NetError) (frames : List ℕ) (old : ClientExchange) (s0 : Standing) (t0 : Table) (given to_come taken taken' gave coming took : Option (List ℕ))
    (start left failed failed' failures failures' : ℕ) → (failed < failed' → failures < failures') → Keeps taken taken' → IsDeviceNetError halt ⊎ (left ≡ start) → IsWriteHalt halt left failed failed'
    → ExchangedFrames (Err halt) frames old old s0 s0 t0 t0 given given to_come to_come taken taken' gave gave coming coming took took start left failures failures'
piece_unwritten halt frames old s0 t0 given to_come taken taken' gave coming took start left failed failed' failures failures' more kept idle why = record {
  near = no_talk;
  far = no_talk;
  unsent = frames;
  near_passes = record { gave = Appends-nil given; took = Consumes-nil to_come; wrote = Appends-kept taken taken taken' [] (Appends-nil taken) kept };
  far_passes = talks_nothing gave coming took;
  front = refl;
  moves = ⊎_elim inl (λ same. inr (omega (arith, same))) idle;
  ends = ⊎_elim (λ used. inl (used.0, used.1)) (λ device. inr (inr (device.0, inl (more device.1)))) why;
}

-- it is not served
pub piece_unserved : (halt : NetError) (piece read : List ℕ) (n : ℕ) (old : ClientExchange) (s0 s1 : Standing) (t0 t1 : Table) (given to_come taken taken' gave gave' coming coming' took : Option (List ℕ))
    (start left failed failed' failures failures' : ℕ) → (failed < failed' → failures < failures') → IsDeviceNetError halt ⊎ (start ≤ left + (length piece + length read)) → Appends taken taken' piece → Appends gave gave' read → Consumes coming coming' read
    → length piece ≡ n → IsCarryHalt halt left coming' (length read < n) failed failed' (Faults s0 read)
    → ExchangedFrames (Err halt) piece old old s0 s1 t0 t1 given given to_come to_come taken taken' gave gave' coming coming' took took start left failures failures'
piece_unserved halt piece read n old s0 s1 t0 t1 given to_come taken taken' gave gave' coming coming' took start left failed failed' failures failures' more moved wrote gives takes long why = record {
  near = record { sent = piece; heard = [] };
  far = record { sent = []; heard = read };
  unsent = [];
  near_passes = record { gave = Appends-nil given; took = Consumes-nil to_come; wrote = wrote };
  far_passes = record { gave = gives; took = takes; wrote = Appends-nil took };
  front = sym (append-nil piece);
  moves = ⊎_elim inl (λ some. inr (omega (arith, some))) moved;
  ends = ⊎_elim inl (λ others. inr (⊎_elim inl (λ device. inr (device.0, ⊎_elim (λ broke. inl (more broke)) (λ a. inr (inr (⊎_elim (λ ended. inl (ended.0, omega (arith, ended.1, long))) (λ faults. inr (inr faults)) a))) device.1)) others)) why;
}

-- the replies are not heard
pub piece_unheard : (halt : NetError) (piece out read : List ℕ) (old new : ClientExchange) (s0 s1 : Standing) (t0 t1 : Table)
    (given given' to_come to_come' taken taken' gave gave' coming coming' took took' : Option (List ℕ)) (start left left' failed failed' failures failures' : ℕ)
    → (failed < failed' → failures < failures') → start ≤ left + (length piece + length read) → Appends taken taken' piece → Appends gave gave' read → Consumes coming coming' read
    → CarriedBack (Err halt) out old new given given' to_come to_come' took took' left left' failed failed'
    → ExchangedFrames (Err halt) piece old new s0 s1 t0 t1 given given' to_come to_come' taken taken' gave gave' coming coming' took took' start left' failures failures'
piece_unheard halt piece out read old new s0 s1 t0 t1 given given' to_come to_come' taken taken' gave gave' coming coming' took took' start left left' failed failed' failures failures' more moved wrote gives takes b = record {
  near = record { sent = piece; heard = b.talk.heard };
  far = record { sent = b.talk.sent; heard = read };
  unsent = [];
  near_passes = record { gave = b.passes.gave; took = b.passes.took; wrote = wrote };
  far_passes = record { gave = gives; took = takes; wrote = b.passes.wrote };
  front = sym (append-nil piece);
  moves = ⊎_elim inl (λ some. inr (omega (arith, moved, some))) b.moves;
  ends = ⊎_elim inl (λ others. inr (⊎_elim inl (λ device. inr (device.0, ⊎_elim (λ broke. inl (more broke)) (λ a. inr (⊎_elim inl (λ balks. inr (inr (inl balks))) a)) device.1)) others)) b.ends;
}
