-- Bytes that are written at one end and read at the other.
use Rattle.std.proofs.Common.{◌≡◌, ◌⊎◌, ℕ, ◌+◌, ◌-◌, ◌<◌, ◌≤◌, List, [], ◌++◌, length, take, drop, refl, ap, sym, ◌∙◌, subst, arith, append_assoc, inl, inr, ⊎_elim, Option, Result, Ok, Err, IsErrAnd, length-append, length-drop, take-append-drop}
use Rattle.std.proofs.KnownBytes.{Appends-kept}
use Rattle.std.proofs.lemmas.List.{take_all, take-take, length-take-le}
use Rattle.std.specs.Io.KnownBytes.{Appends, Consumes, Keeps}
use Rattle.cue_wire.specs.Clients.{ClientExchange}
use Rattle.cue_net.specs.declared.halt.NetError.{NetError}
use Rattle.cue_net.specs.Halts.{IsDeviceNetError}
use Rattle.cue_net.specs.Inner.Turns.{IsWriteHalt}
use Rattle.cue_net.specs.Talks.{Talk}
use Rattle.cue_net.specs.Inner.Hearing.{FeedsClient, FindsLongFrame, CarriesTalk}
use Rattle.cue_net.specs.Inner.Looping.{IsCarryHalt, CarriedBack}
use Rattle.cue_wire.proofs.Connections.{handed_on}
use Rattle.cue_net.proofs.Asking.{no_talk, talks_nothing, joined, talks_more}
use Rattle.cue_net.proofs.Hearing.{hears_nothing, hears_more, balks_later}

-- the front of what is left joins what was before it
pub parts_more : (all front rest : List ℕ) (n : ℕ) → all ≡ front ++ rest → all ≡ (front ++ take n rest) ++ take (length rest - n) (drop n rest)
parts_more all front rest n is =
    is ∙ ap (λ zs. front ++ zs) (sym (take-append-drop n rest)) ∙ sym (append_assoc front (take n rest) (drop n rest))
    ∙ ap (λ zs. (front ++ take n rest) ++ zs) (sym (take_all (length rest - n) (drop n rest) (omega (arith, length-drop n rest))))

-- what a device took of a part is the front of the whole
pub front_taken : (taken taken' : Option (List ℕ)) (rest : List ℕ) (n most : ℕ) → n ≤ length (take most rest) → most ≤ length rest
    → Appends taken taken' (take n (take most rest)) → Appends taken taken' (take n rest)
front_taken taken taken' rest n most within few wrote =
    subst (Appends taken taken') (take-take n most rest (omega (arith, within, length-take-le most rest few))) wrote

-- what was brought so far
pub record Bringing (bytes rest : List ℕ) (old new : ClientExchange) (given given' to_come to_come' taken taken' : Option (List ℕ)) (start left : ℕ) : Type 0 where
  pub talk : Talk
  pub passes : CarriesTalk talk given given' to_come to_come' taken taken'
  pub parts : bytes ≡ talk.sent ++ rest
  pub same : length talk.heard ≡ length talk.sent
  pub moves : start ≤ left + (length talk.sent + length talk.heard)
  pub hears : FeedsClient old new talk.heard

pub brings_nothing : (bytes : List ℕ) (old : ClientExchange) (given to_come taken : Option (List ℕ)) (left : ℕ) → Bringing bytes bytes old old given given to_come to_come taken taken left left
brings_nothing bytes old given to_come taken left = record {
  talk = no_talk;
  passes = talks_nothing given to_come taken;
  parts = refl;
  same = refl;
  moves = omega arith;
  hears = hears_nothing old;
}

pub brings_more : (bytes rest : List ℕ) (n : ℕ) (old mid new : ClientExchange) (given given' given'' to_come to_come' to_come'' taken taken' taken'' : Option (List ℕ)) (read : List ℕ) (start left left' : ℕ)
    → n ≤ length rest → left ≤ left' + (n + n) → Bringing bytes rest old mid given given' to_come to_come' taken taken' start left
    → Appends taken' taken'' (take n rest) → Appends given' given'' read → Consumes to_come' to_come'' read → length read ≡ n → FeedsClient mid new read
    → Bringing bytes (take (length rest - n) (drop n rest)) old new given given'' to_come to_come'' taken taken'' start left'
brings_more bytes rest n old mid new given given' given'' to_come to_come' to_come'' taken taken' taken'' read start left left' within moved b wrote gave took long hears = record {
  talk = joined b.talk (record { sent = take n rest; heard = read });
  passes = talks_more b.talk (record { sent = take n rest; heard = read }) given given' given'' to_come to_come' to_come'' taken taken' taken'' b.passes
      (record { gave = gave; took = took; wrote = wrote });
  parts = parts_more bytes b.talk.sent rest n b.parts;
  same = omega (arith, b.same, long, length-append b.talk.heard read, length-append b.talk.sent (take n rest), length-take-le n rest within);
  moves = omega (arith, b.moves, moved, long, length-append b.talk.heard read, length-append b.talk.sent (take n rest), length-take-le n rest within);
  hears = hears_more old mid new b.talk.heard read b.hears hears;
}

-- all is brought
pub brings_all : (bytes rest : List ℕ) (old new : ClientExchange) (given given' to_come to_come' taken taken' : Option (List ℕ)) (start left failed failed' : ℕ)
    → rest ≡ [] → Bringing bytes rest old new given given' to_come to_come' taken taken' start left
    → CarriedBack (Ok tt) bytes old new given given' to_come to_come' taken taken' start left failed failed'
brings_all bytes rest old new given given' to_come to_come' taken taken' start left failed failed' none b = record {
  talk = b.talk;
  unsent = rest;
  passes = b.passes;
  front = b.parts;
  moves = b.moves;
  ends = (none, b.same, b.hears);
}

-- no more is written
pub brings_stopped : (halt : NetError) (bytes rest : List ℕ) (old new : ClientExchange) (given given' to_come to_come' taken taken' taken'' : Option (List ℕ)) (start left left' failed failed' failures failures' : ℕ)
    → (failed < failed' → failures < failures') → Bringing bytes rest old new given given' to_come to_come' taken taken' start left → Keeps taken' taken''
    → IsDeviceNetError halt ⊎ (left' ≡ left) → IsWriteHalt halt left' failed failed' → CarriedBack (Err halt) bytes old new given given' to_come to_come' taken taken'' start left' failures failures'
brings_stopped halt bytes rest old new given given' to_come to_come' taken taken' taken'' start left left' failed failed' failures failures' more b kept idle why = record {
  talk = b.talk;
  unsent = rest;
  passes = record { gave = b.passes.gave; took = b.passes.took; wrote = Appends-kept taken taken' taken'' b.talk.sent b.passes.wrote kept };
  front = b.parts;
  moves = ⊎_elim inl (λ same. inr (omega (arith, b.moves, same))) idle;
  ends = ⊎_elim (λ used. inl (used.0, used.1)) (λ device. inr (inr (device.0, inl (more device.1)))) why;
}

-- what is written is not read, or not taken
pub brings_cut : (halt : NetError) (bytes rest : List ℕ) (n : ℕ) (old mid new : ClientExchange) (given given' given'' to_come to_come' to_come'' taken taken' taken'' : Option (List ℕ)) (read : List ℕ)
    (start left left' failed failed' failures failures' : ℕ) → (failed < failed' → failures < failures') → n ≤ length rest → IsDeviceNetError halt ⊎ (left ≤ left' + (n + length read))
    → Bringing bytes rest old mid given given' to_come to_come' taken taken' start left
    → Appends taken' taken'' (take n rest) → Appends given' given'' read → Consumes to_come' to_come'' read
    → IsCarryHalt halt left' to_come'' (length read < n) failed failed' (FindsLongFrame mid read)
    → CarriedBack (Err halt) bytes old new given given'' to_come to_come'' taken taken'' start left' failures failures'
brings_cut halt bytes rest n old mid new given given' given'' to_come to_come' to_come'' taken taken' taken'' read start left left' failed failed' failures failures' more within moved b wrote gave took why = record {
  talk = joined b.talk (record { sent = take n rest; heard = read });
  unsent = take (length rest - n) (drop n rest);
  passes = talks_more b.talk (record { sent = take n rest; heard = read }) given given' given'' to_come to_come' to_come'' taken taken' taken'' b.passes
      (record { gave = gave; took = took; wrote = wrote });
  front = parts_more bytes b.talk.sent rest n b.parts;
  moves = ⊎_elim inl (λ some. inr (omega (arith, b.moves, some, length-append b.talk.heard read, length-append b.talk.sent (take n rest), length-take-le n rest within))) moved;
  ends = ⊎_elim inl (λ others. inr (⊎_elim inl (λ device. inr (
    device.0,
    ⊎_elim (λ broke. inl (more broke)) (λ a. inr (⊎_elim
        (λ ended. inl (ended.0, omega (arith, b.same, ended.1, length-append b.talk.heard read, length-append b.talk.sent (take n rest), length-take-le n rest within)))
        (λ balks. inr (balks_later old mid b.talk.heard read b.hears balks)) a)) device.1,
  )) others)) why;
}

-- carrying that stops, handed on
pub brought_on : {result : Result (Unit {0}) NetError} {halt : NetError} {bytes : List ℕ} {old new : ClientExchange} {given given' to_come to_come' taken taken' : Option (List ℕ)}
    {left left' failed failed' : ℕ} → IsErrAnd result (λ e. e ≡ halt) → CarriedBack (Err halt) bytes old new given given' to_come to_come' taken taken' left left' failed failed'
    → CarriedBack result bytes old new given given' to_come to_come' taken taken' left left' failed failed'
brought_on {result} {halt} {bytes} {old} {new} {given} {given'} {to_come} {to_come'} {taken} {taken'} {left} {left'} {failed} {failed'} is brought =
    handed_on (λ r. CarriedBack r bytes old new given given' to_come to_come' taken taken' left left' failed failed') result halt is brought
