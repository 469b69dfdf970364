-- Asking for one thing after the other.
use Rattle.std.proofs.Common.{◌≡◌, ◌≢◌, ◌⊎◌, ℕ, ◌+◌, ◌<◌, ◌≤◌, length, length-append, ◌∷◌, List, [], ◌++◌, refl, ap, sym, ◌∙◌, arith, append_assoc, append-nil, inl, inr, ⊎_elim, Option, Result, Ok, Err, IsErrAnd, OnOk}
use Rattle.std.proofs.KnownBytes.{Appends-nil, Appends-trans, Consumes-nil, Consumes-trans}
use Rattle.std.specs.Io.KnownBytes.{Appends}
use Rattle.cue_wire.specs.Clients.{ClientExchange}
use Rattle.cue_net.specs.declared.halt.NetError.{NetError}
use Rattle.cue_net.specs.Halts.{IsDeviceNetError, IsMemoryNetError}
use Rattle.cue_net.specs.Inner.Turns.{IsWriteHalt, Moves}
use Rattle.cue_net.specs.Talks.{Talk}
use Rattle.cue_net.specs.Inner.Hearing.{FeedsClient, Lacks, IsReadError, ReadsReplies, RepliesRead, AllSent, RequestsSent, CarriesTalk}
use Rattle.cue_wire.proofs.Connections.{handed_on}
use Rattle.cue_net.proofs.Hearing.{hears_nothing, hears_more, balks_later}

abbrev pub no_talk : Talk
no_talk = record { sent = []; heard = [] }

pub talks_nothing : (given to_come taken : Option (List ℕ)) → CarriesTalk no_talk given given to_come to_come taken taken
talks_nothing given to_come taken = record { gave = Appends-nil given; took = Consumes-nil to_come; wrote = Appends-nil taken }

abbrev pub joined : Talk → Talk → Talk
joined one two = record { sent = one.sent ++ two.sent; heard = one.heard ++ two.heard }

pub talks_more : (one two : Talk) (given given' given'' to_come to_come' to_come'' taken taken' taken'' : Option (List ℕ))
    → CarriesTalk one given given' to_come to_come' taken taken' → CarriesTalk two given' given'' to_come' to_come'' taken' taken''
    → CarriesTalk (joined one two) given given'' to_come to_come'' taken taken''
talks_more one two given given' given'' to_come to_come' to_come'' taken taken' taken'' first second = record {
  gave = Appends-trans given given' given'' one.heard two.heard first.gave second.gave;
  took = Consumes-trans to_come to_come' to_come'' one.heard two.heard first.took second.took;
  wrote = Appends-trans taken taken' taken'' one.sent two.sent first.wrote second.wrote;
}

-- nothing is asked yet
pub asks_nothing : (u : Unit {0}) (old : ClientExchange) (given to_come taken : Option (List ℕ)) (left failed : ℕ)
    → RequestsSent (Ok u) [] old old 0 given given to_come to_come taken taken left left failed failed
asks_nothing u old given to_come taken left failed = record {
  talk = no_talk;
  unsent = [];
  passes = talks_nothing given to_come taken;
  front = refl;
  all = refl;
  moves = omega arith;
  ends = (hears_nothing old, omega arith);
}

-- hearing that stops behind what was heard before
pub stops_later : (halt : NetError) (unsent unsent' : List ℕ) (old mid new : ClientExchange) (p q : List ℕ) (count count' left failed failed' failed'' : ℕ) (to_come : Option (List ℕ))
    → FeedsClient old mid p → failed' ≡ failed → count ≤ count' → (unsent ≢ [] → unsent' ≢ []) → IsReadError halt unsent mid new q count to_come left failed' failed''
    → IsReadError halt unsent' old new (p ++ q) count' to_come left failed failed''
stops_later halt unsent unsent' old mid new p q count count' left failed failed' failed'' to_come hears sound fewer still why =
    let lacks : Lacks mid new q count → Lacks old new (p ++ q) count' = λ few. (hears_more old mid new p q hears few.0, omega (arith, fewer, few.1)) in
    ⊎_elim (λ used. inl (used.0, used.1, ⊎_elim (λ some. inl (still some)) (λ few. inr (lacks few)) used.2)) (λ others. inr (⊎_elim inl (λ device. inr (
      device.0,
      ⊎_elim (λ broke. inl (omega (arith, sound, broke)))
          (λ rest. inr (⊎_elim (λ ended. inl (ended.0, lacks ended.1)) (λ balks. inr (balks_later old mid p q hears balks)) rest)) device.1,
    )) others)) why

ends_later : (result : Result (Unit {0}) NetError) (unsent : List ℕ) (old mid new : ClientExchange) (p q : List ℕ) (count left failed failed' failed'' : ℕ) (to_come : Option (List ℕ))
    → FeedsClient old mid p → failed' ≡ failed → ReadsReplies result unsent mid new q count to_come left failed' failed''
    → ReadsReplies result unsent old new (p ++ q) count to_come left failed failed''
ends_later (Ok u) unsent old mid new p q count left failed failed' failed'' to_come hears sound ends = (hears_more old mid new p q hears ends.0, ends.1)
ends_later (Err halt) unsent old mid new p q count left failed failed' failed'' to_come hears sound ends =
    stops_later halt unsent unsent old mid new p q count count left failed failed' failed'' to_come hears sound (omega arith) (λ some. some) ends

-- what moves behind what has moved
pub moves_on : (result : Result (Unit {0}) NetError) (start left left' n m all : ℕ) → n + m ≤ all → start ≤ left + n → Moves result left left' m → Moves result start left' all
moves_on (Ok u) start left left' n m all sum before more = omega (arith, sum, before, more)
moves_on (Err halt) start left left' n m all sum before more = ⊎_elim inl (λ moved. inr (omega (arith, sum, before, moved))) more

-- and then more
pub asks_more : (u : Unit {0}) (result : Result (Unit {0}) NetError) (one two : List ℕ) (old mid new : ClientExchange) (count count' : ℕ)
    (given given' given'' to_come to_come' to_come'' taken taken' taken'' : Option (List ℕ)) (start left left' failed failed' failed'' : ℕ)
    → failed' ≡ failed → RequestsSent (Ok u) one old mid count given given' to_come to_come' taken taken' start left failed failed'
    → RequestsSent result two mid new count' given' given'' to_come' to_come'' taken' taken'' left left' failed' failed''
    → RequestsSent result (one ++ two) old new count' given given'' to_come to_come'' taken taken'' start left' failed failed''
asks_more u result one two old mid new count count' given given' given'' to_come to_come' to_come'' taken taken' taken'' start left left' failed failed' failed'' sound first second = record {
  talk = joined first.talk second.talk;
  unsent = second.unsent;
  passes = talks_more first.talk second.talk given given' given'' to_come to_come' to_come'' taken taken' taken'' first.passes second.passes;
  front = ap (λ zs. zs ++ two) (first.front ∙ ap (λ zs. first.talk.sent ++ zs) first.all ∙ append-nil first.talk.sent)
      ∙ ap (λ zs. first.talk.sent ++ zs) second.front ∙ sym (append_assoc first.talk.sent second.talk.sent second.unsent);
  all = second.all;
  moves = moves_on result start left left' (length first.talk.sent + length first.talk.heard) (length second.talk.sent + length second.talk.heard)
      (length (first.talk.sent ++ second.talk.sent) + length (first.talk.heard ++ second.talk.heard))
      (omega (arith, length-append first.talk.sent second.talk.sent, length-append first.talk.heard second.talk.heard)) first.moves second.moves;
  ends = ends_later result second.unsent old mid new first.talk.heard second.talk.heard count' left' failed failed' failed'' to_come'' first.ends.0 sound second.ends;
}

still_some : (unsent more : List ℕ) → unsent ≢ [] → unsent ++ more ≢ []
still_some [] more some = λ none. some refl
still_some (x ∷ unsent) more some = λ none. cc

-- what stops while a part is asked stops what is asked with it
pub asks_part : (halt : NetError) (frames more : List ℕ) (old new : ClientExchange) (count count' : ℕ)
    (given given' to_come to_come' taken taken' : Option (List ℕ)) (start left failed failed' : ℕ)
    → count ≤ count' → RequestsSent (Err halt) frames old new count given given' to_come to_come' taken taken' start left failed failed'
    → RequestsSent (Err halt) (frames ++ more) old new count' given given' to_come to_come' taken taken' start left failed failed'
asks_part halt frames more old new count count' given given' to_come to_come' taken taken' start left failed failed' fewer asked = record {
  talk = asked.talk;
  unsent = asked.unsent ++ more;
  passes = asked.passes;
  front = ap (λ zs. zs ++ more) asked.front ∙ append_assoc asked.talk.sent asked.unsent more;
  all = tt;
  moves = asked.moves;
  ends = stops_later halt asked.unsent (asked.unsent ++ more) old old new [] asked.talk.heard count count' left failed failed failed' to_come' (hears_nothing old) refl fewer
      (still_some asked.unsent more) asked.ends;
}

-- the frames cannot be made, for want of memory
pub asks_none : (halt : NetError) (frames : List ℕ) (old : ClientExchange) (count : ℕ) (given to_come taken : Option (List ℕ)) (left failed : ℕ)
    → IsMemoryNetError halt → RequestsSent (Err halt) frames old old count given given to_come to_come taken taken left left failed failed
asks_none halt frames old count given to_come taken left failed memory = record {
  talk = no_talk;
  unsent = frames;
  passes = talks_nothing given to_come taken;
  front = refl;
  all = tt;
  moves = inr (omega arith);
  ends = inr (inl memory);
}

-- they cannot be written
pub asks_unsent : (halt : NetError) (frames : List ℕ) (old : ClientExchange) (count : ℕ) (given to_come taken taken' : Option (List ℕ)) (start left failed failed' failures failures' : ℕ)
    → (failed < failed' → failures < failures')
    → (front back : List ℕ) × (frames ≡ front ++ back) × Appends taken taken' front × (back ≢ []) × (IsDeviceNetError halt ⊎ (start ≤ left + length front)) → IsWriteHalt halt left failed failed'
    → RequestsSent (Err halt) frames old old count given given to_come to_come taken taken' start left failures failures'
asks_unsent halt frames old count given to_come taken taken' start left failed failed' failures failures' more w why = record {
  talk = record { sent = w.0; heard = [] };
  unsent = w.1;
  passes = record { gave = Appends-nil given; took = Consumes-nil to_come; wrote = w.3 };
  front = w.2;
  all = tt;
  moves = ⊎_elim inl (λ moved. inr (omega (arith, moved))) w.5;
  ends = ⊎_elim (λ used. inl (used.0, used.1, inl w.4)) (λ device. inr (inr (device.0, inl (more device.1)))) why;
}

hears_at : (result : Result (Unit {0}) NetError) (unsent : List ℕ) (old new : ClientExchange) (piece : List ℕ) (count left failed failed' failures failures' : ℕ) (to_come : Option (List ℕ))
    → (failed < failed' → failures < failures') → ReadsReplies result unsent old new piece count to_come left failed failed'
    → ReadsReplies result unsent old new piece count to_come left failures failures'
hears_at (Ok u) unsent old new piece count left failed failed' failures failures' to_come more ends = ends
hears_at (Err halt) unsent old new piece count left failed failed' failures failures' to_come more ends =
    ⊎_elim inl (λ others. inr (⊎_elim inl (λ device. inr (device.0, ⊎_elim (λ broke. inl (more broke)) inr device.1)) others)) ends

all_sent : (result : Result (Unit {0}) NetError) → AllSent result []
all_sent (Ok u) = refl
all_sent (Err halt) = tt

-- all is written, and the replies are heard or not
pub asks_all : (result : Result (Unit {0}) NetError) (frames : List ℕ) (old new : ClientExchange) (count : ℕ) (given given' to_come to_come' taken taken' : Option (List ℕ))
    (start left left' failed failed' failures failures' : ℕ) → (failed < failed' → failures < failures')
    → (front back : List ℕ) × (frames ≡ front ++ back) × Appends taken taken' front × (back ≡ []) × (start ≤ left + length front)
    → RepliesRead result old new count given given' to_come to_come' left left' failed failed'
    → RequestsSent result frames old new count given given' to_come to_come' taken taken' start left' failures failures'
asks_all result frames old new count given given' to_come to_come' taken taken' start left left' failed failed' failures failures' more w heard = record {
  talk = record { sent = w.0; heard = heard.piece };
  unsent = [];
  passes = record { gave = heard.gave; took = heard.took; wrote = w.3 };
  front = w.2 ∙ ap (λ zs. w.0 ++ zs) w.4;
  all = all_sent result;
  moves = moves_on result start left left' (length w.0) (length heard.piece) (length w.0 + length heard.piece) (omega arith) w.5 heard.moves;
  ends = hears_at result [] old new heard.piece count left' failed failed' failures failures' to_come' more heard.ends;
}

pub on_ok : {T E : Type 0} (r : Result T E) (P Q : Type 0) → (P → Q) → OnOk r P → OnOk r Q
on_ok (Ok x) P Q f p = f p
on_ok (Err e) P Q f p = tt

-- asking that stops, handed on
pub asked_on : {result : Result (Unit {0}) NetError} {halt : NetError} {frames : List ℕ} {old new : ClientExchange} {count : ℕ} {given given' to_come to_come' taken taken' : Option (List ℕ)}
    {left left' failed failed' : ℕ} → IsErrAnd result (λ e. e ≡ halt) → RequestsSent (Err halt) frames old new count given given' to_come to_come' taken taken' left left' failed failed'
    → RequestsSent result frames old new count given given' to_come to_come' taken taken' left left' failed failed'
asked_on {result} {halt} {frames} {old} {new} {count} {given} {given'} {to_come} {to_come'} {taken} {taken'} {left} {left'} {failed} {failed'} is asked =
    handed_on (λ r. RequestsSent r frames old new count given given' to_come to_come' taken taken' left left' failed failed') result halt is asked
