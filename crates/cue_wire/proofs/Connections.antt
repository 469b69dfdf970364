-- What a connection has served so far, and how it goes on.
use Rattle.std.proofs.Common.{◌≡◌, ◌≤◌, ◌+◌, ℕ, zero, suc, ◌-◌, List, ◌++◌, length, take, drop, length-take, ap, sym, ◌∙◌, arith, append_assoc, length-drop, take-append-drop, subst, inl, inr, ⊎_elim, Option, Result, Ok, Err, [], ◌∷◌, ◌<◌, ◌⊎◌, false, is_err, OnOk, IfErr, length-append, append-nil, flat_map, refl, Bool, IsTrue, ◌↔◌, IsErrAnd}
use Rattle.std.proofs.lemmas.List.{take_all, take-append-le}
use Rattle.std.proofs.lemmas.Grind.{flat_map-append}
use Rattle.std.proofs.lemmas.List.Elements.{All-append, All-nil}
use Rattle.std.proofs.KnownBytes.{Appends-nil, Appends-trans, Appends-kept, Consumes-nil, Consumes-trans, Consumes-kept}
use Rattle.std.specs.Io.KnownBytes.{Appends, Consumes, Keeps}
use Rattle.cue_lattice.specs.declared.refusal.Kind.{Kind}
use Rattle.cue_lattice.specs.declared.refusal.Kind.TheVariants as kinds
use Rattle.std.specs.Int.{w32, from_be_bytes}
use Rattle.cue_replica.specs.Language.{Table}
use Rattle.cue_wire.specs.Serving.{ServesAll}
use Rattle.cue_wire.specs.Sessions.{Standing, reading, ended, Served, standing_after}
use Rattle.cue_wire.specs.Connections.{IsFault, IsServingStop, ServedPassage, PassesBy, ServingEndsAt, Moment, calls, failures}
use Rattle.cue_wire.specs.Inner.Parts.{IsWriteFault, Moves, RepliesWritten, RepliesAt, IsPartServed, ServesOrStops}
use Rattle.cue_wire.specs.Frames.{frame_of, frame_limit, named_length, IsBody, IsUnfinished, NamesTooMany, StopsAtFrame}

-- the front of what was left is written too
pub written_more : (bytes front rest : List ℕ) (n left left' : ℕ) (a b c : Option (List ℕ)) → bytes ≡ front ++ rest → Appends a b front → Appends b c (take n rest)
    → 0 < n → n ≤ length rest → left ≤ left' + 1 + length front
    → (x : List ℕ) × (bytes ≡ x ++ take (length rest - n) (drop n rest)) × Appends a c x × (left ≤ left' + length x)
written_more bytes front rest n left left' a b c is before more some within moved =
    let all = take_all (length rest - n) (drop n rest) (omega (arith, length-drop n rest)) in (
      front ++ take n rest,
      is ∙ ap (λ zs. front ++ zs) (sym (take-append-drop n rest)) ∙ sym (append_assoc front (take n rest) (drop n rest)) ∙ ap (λ zs. (front ++ take n rest) ++ zs) (sym all),
      Appends-trans a b c front (take n rest) before more,
      omega (arith, some, within, moved, length-append front (take n rest), length-take n rest),
    )

-- a write of some bytes has taken some
pub some_bytes : (rest : List ℕ) (n : ℕ) → 0 < length rest → (n ≡ 0 → rest ≡ []) → 0 < n
some_bytes rest zero some none = omega (arith, some, ap length (none refl))
some_bytes rest (suc n) some none = omega arith

-- what was read has some bytes
pub some_read : (n : ℕ) (into : List ℕ) → n ≤ length into → (n ≡ 0 → ⊥) → 0 < length (take n into)
some_read n into within some = omega (arith, length-take n into, within, some)

-- frames that are served behind others
serves_all : (bodies more : List (List ℕ)) (before between after : Table) (replies others : List ℕ)
    → ServesAll bodies before between replies → ServesAll more between after others → ServesAll (bodies ++ more) before after (replies ++ others)
unfolding ServesAll
serves_all [] more before between after replies others all one =
    subst (λ zs. ServesAll more before after (zs ++ others)) (sym all.1) (subst (λ t. ServesAll more t after others) all.0 one)
serves_all (body ∷ bodies) more before between after replies others all one = (
  all.0,
  all.1,
  all.2 ++ others,
  all.3,
  serves_all bodies more all.0 between after all.2 others all.4 one,
  ap (λ zs. zs ++ others) all.5 ∙ append_assoc all.1 all.2 others,
)

served_on : (read kept piece rest : List ℕ) (before between after : Table) (written more : List ℕ)
    → Served read kept before between [] written → Served (kept ++ piece) rest between after [] more
    → Served (read ++ piece) rest before after [] (written ++ more)
served_on read kept piece rest before between after written more one two = record {
  bodies = one.bodies ++ two.bodies;
  replies = one.replies ++ two.replies;
  frames = record {
    whole = ap (λ zs. zs ++ piece) one.frames.whole ∙ append_assoc (flat_map frame_of one.bodies) kept piece
        ∙ ap (λ zs. flat_map frame_of one.bodies ++ zs) two.frames.whole
        ∙ sym (append_assoc (flat_map frame_of one.bodies) (flat_map frame_of two.bodies) rest)
        ∙ ap (λ zs. zs ++ rest) (sym (flat_map-append frame_of one.bodies two.bodies));
    short = All-append IsBody one.bodies two.bodies one.frames.short two.frames.short;
  };
  tables = serves_all one.bodies two.bodies before between after one.replies two.replies one.tables two.tables;
  added = ap (λ zs. zs ++ more) one.added ∙ ap (λ zs. one.replies ++ zs) two.added;
}

-- ---- a piece in parts

-- before the first part
pub nothing_served : (kept : List ℕ) (session : Standing) (table : Table) (taken : Option (List ℕ)) (left : ℕ) → session ≡ reading kept → IsUnfinished kept
    → IsPartServed kept session table table [] taken taken left left
unfolding ServesAll
nothing_served kept session table taken left is unfinished = record {
  rest = kept;
  written = [];
  keeps = is;
  unfinished = unfinished;
  served = record { bodies = []; replies = []; frames = record { whole = refl; short = All-nil IsBody }; tables = (refl, refl); added = refl };
  wrote = Appends-nil taken;
  moves = omega arith;
}

-- what the session serves with the next part, behind what was served
fed_on : (stream part rest : List ℕ) (session : Standing) (before now after : Table) (pending out : List ℕ) (taken taken' : Option (List ℕ)) (start left : ℕ)
    → (p : IsPartServed stream session before now pending taken taken' start left) → Served (p.rest ++ part) rest now after pending out
    → Served (stream ++ part) rest before after [] (p.written ++ out)
fed_on stream part rest session before now after pending out taken taken' start left p s =
    subst (Served (stream ++ part) rest before after []) (append_assoc p.written pending s.replies ∙ ap (λ zs. p.written ++ zs) (sym s.added))
    (served_on stream p.rest part rest before now after (p.written ++ pending) s.replies p.served
    (record { bodies = s.bodies; replies = s.replies; frames = s.frames; tables = s.tables; added = refl }))

-- what the session makes of a part
abbrev pub IsFed : Result (Unit {0}) Kind → List ℕ → Standing → Table → Table → List ℕ → List ℕ → Type 0
IsFed fed stream session before after old new =
    (rest : List ℕ) × StopsAtFrame fed rest × (session ≡ standing_after fed rest) × Served stream rest before after old new

-- the replies wait
held_back : (fed : Result (Unit {0}) Kind) (u : Unit {0}) (stream part : List ℕ) (session session' : Standing) (before now after : Table) (pending out : List ℕ)
    (taken taken' : Option (List ℕ)) (start left : ℕ) → fed ≡ Ok u
    → (p : IsPartServed stream session before now pending taken taken' start left) → IsFed fed (p.rest ++ part) session' now after pending out
    → IsPartServed (stream ++ part) session' before after out taken taken' start left
held_back fed u stream part session session' before now after pending out taken taken' start left ok p f = record {
  rest = f.0;
  written = p.written;
  keeps = subst (λ e. session' ≡ standing_after e f.0) ok f.2;
  unfinished = subst (λ e. StopsAtFrame e f.0) ok f.1;
  served = fed_on stream part f.0 session before now after pending out taken taken' start left p f.3;
  wrote = p.wrote;
  moves = p.moves;
}

-- where the session goes on, serving does
pub goes_on : (fed : Result (Unit {0}) Kind) (stream part : List ℕ) (session session' : Standing) (before now after : Table) (pending out : List ℕ)
    (taken taken' : Option (List ℕ)) (start left failed failed' : ℕ) → is_err fed ≡ false
    → (p : IsPartServed stream session before now pending taken taken' start left) → IsFed fed (p.rest ++ part) session' now after pending out
    → ServesOrStops fed (stream ++ part) session' before after out taken taken' start left failed failed'
goes_on (Ok u) stream part session session' before now after pending out taken taken' start left failed failed' went p f =
    held_back (Ok u) u stream part session session' before now after pending out taken taken' start left refl p f
goes_on (Err kind) stream part session session' before now after pending out taken taken' start left failed failed' went p f = cc

-- a front of the replies is written, and the rest of them is not
put_out : (stream rest : List ℕ) (before after : Table) (written out front back : List ℕ) → out ≡ front ++ back
    → Served stream rest before after [] (written ++ out) → Served stream rest before after [] ((written ++ front) ++ back)
put_out stream rest before after written out front back is s =
    subst (Served stream rest before after []) (ap (λ zs. written ++ zs) is ∙ sym (append_assoc written front back)) s

-- what was written of some replies, and what was not
abbrev pub IsWritten : List ℕ → Option (List ℕ) → Option (List ℕ) → ℕ → ℕ → ℕ → ℕ → Type 0
IsWritten out taken taken' left left' failed failed' =
    (front back : List ℕ) × (out ≡ front ++ back) × Appends taken taken' front × Moves left left' failed failed' front

abbrev pub IsWrittenOut : List ℕ → Option (List ℕ) → Option (List ℕ) → ℕ → ℕ → ℕ → ℕ → Type 0
IsWrittenOut out taken taken' left left' failed failed' =
    (front back : List ℕ) × (out ≡ front ++ back) × Appends taken taken' front × (back ≡ []) × Moves left left' failed failed' front

-- what moves behind what has moved
moves_on : (start left left' failed failed' : ℕ) (written front : List ℕ) → start ≤ left + length written → Moves left left' failed failed' front
    → Moves start left' failed failed' (written ++ front)
moves_on start left left' failed failed' written front before more = omega (arith, before, more, length-append written front)

-- writing them stops
pub cut_short : (fed : Result (Unit {0}) Kind) (kind : Kind) (stream part : List ℕ) (session session' : Standing) (before now after : Table) (pending out : List ℕ)
    (taken taken' taken'' : Option (List ℕ)) (start left left' failed failed' : ℕ)
    → (p : IsPartServed stream session before now pending taken taken' start left) → IsFed fed (p.rest ++ part) session' now after pending out
    → IsWritten out taken' taken'' left left' failed failed' → IsWriteFault kind left' failed failed'
    → RepliesWritten (Err kind) (stream ++ part) session' before after taken taken'' start left' failed failed'
cut_short fed kind stream part session session' before now after pending out taken taken' taken'' start left left' failed failed' p f w why = record {
  rest = f.0;
  written = p.written ++ w.0;
  unwritten = w.1;
  served = put_out (stream ++ part) f.0 before after p.written out w.0 w.1 w.2 (fed_on stream part f.0 session before now after pending out taken taken' start left p f.3);
  wrote = Appends-trans taken taken' taken'' p.written w.0 p.wrote w.3;
  moves = moves_on start left left' failed failed' p.written w.0 p.moves w.4;
  ends = inr (inr why);
}

fault_of : (kind : Kind) (rest back : List ℕ) (Stops : Type 0) → (kind ≡ kinds.Memory) ⊎ ((kind ≡ kinds.FrameTooLong) × NamesTooMany rest) → back ≡ [] → IsServingStop kind rest back Stops
fault_of kind rest back Stops stops nil = ⊎_elim (λ memory. inr (inl (memory, nil))) (λ long. inl (long.0, long.1, nil)) stops

-- all replies are written, and serving goes on or stops as the session does
pub written_off : (fed : Result (Unit {0}) Kind) (stream part : List ℕ) (session session' : Standing) (before now after : Table) (pending out none : List ℕ)
    (taken taken' taken'' : Option (List ℕ)) (start left left' failed failed' : ℕ) → none ≡ [] → failed' ≡ failed
    → (p : IsPartServed stream session before now pending taken taken' start left) → IsFed fed (p.rest ++ part) session' now after pending out
    → IsWrittenOut out taken' taken'' left left' failed failed'
    → ServesOrStops fed (stream ++ part) session' before after none taken taken'' start left' failed failed'
written_off (Ok u) stream part session session' before now after pending out none taken taken' taken'' start left left' failed failed' nil sound p f w = record {
  rest = f.0;
  written = p.written ++ w.0;
  keeps = f.2;
  unfinished = f.1;
  served = subst (λ zs. Served (stream ++ part) f.0 before after [] ((p.written ++ w.0) ++ zs)) (w.4 ∙ sym nil)
      (put_out (stream ++ part) f.0 before after p.written out w.0 w.1 w.2 (fed_on stream part f.0 session before now after pending out taken taken' start left p f.3));
  wrote = Appends-trans taken taken' taken'' p.written w.0 p.wrote w.3;
  moves = omega (arith, sound, moves_on start left left' failed failed' p.written w.0 p.moves w.5);
}
written_off (Err kind) stream part session session' before now after pending out none taken taken' taken'' start left left' failed failed' nil sound p f w = record {
  rest = f.0;
  written = p.written ++ w.0;
  unwritten = w.1;
  served = put_out (stream ++ part) f.0 before after p.written out w.0 w.1 w.2 (fed_on stream part f.0 session before now after pending out taken taken' start left p f.3);
  wrote = Appends-trans taken taken' taken'' p.written w.0 p.wrote w.3;
  moves = moves_on start left left' failed failed' p.written w.0 p.moves w.5;
  ends = fault_of kind f.0 w.1 (IsWriteFault kind left' failed failed') f.1 w.4;
}

-- a length that no frame has stays one
names_too_many : (rest more : List ℕ) → NamesTooMany rest → NamesTooMany (rest ++ more)
unfolding named_length
names_too_many rest more many = (
  omega (arith, many.0, length-append rest more),
  subst (λ zs. frame_limit < from_be_bytes w32 zs) (sym (take-append-le 4 rest more many.0)) many.1,
)

stop_behind : (kind : Kind) (rest more unwritten : List ℕ) (Stops : Type 0) → IsServingStop kind rest unwritten Stops → IsServingStop kind (rest ++ more) unwritten Stops
stop_behind kind rest more unwritten Stops stop = ⊎_elim (λ long. inl (long.0, names_too_many rest more long.1, long.2)) inr stop

-- serving stops before what comes behind
pub stops_before : (kind : Kind) (stream more whole : List ℕ) (session : Standing) (before after : Table) (taken taken' : Option (List ℕ)) (start left failed failed' : ℕ)
    → whole ≡ stream ++ more → RepliesWritten (Err kind) stream session before after taken taken' start left failed failed'
    → RepliesWritten (Err kind) whole session before after taken taken' start left failed failed'
stops_before kind stream more whole session before after taken taken' start left failed failed' is r = record {
  rest = r.rest ++ more;
  written = r.written;
  unwritten = r.unwritten;
  served = record {
    bodies = r.served.bodies;
    replies = r.served.replies;
    frames = record {
      whole = is ∙ ap (λ zs. zs ++ more) r.served.frames.whole ∙ append_assoc (flat_map frame_of r.served.bodies) r.rest more;
      short = r.served.frames.short;
    };
    tables = r.served.tables;
    added = r.served.added;
  };
  wrote = r.wrote;
  moves = r.moves;
  ends = stop_behind kind r.rest more r.unwritten (IsWriteFault kind left failed failed') r.ends;
}

-- all of a piece is served, and all replies are written
all_written : (u : Unit {0}) (stream : List ℕ) (session : Standing) (before after : Table) (pending : List ℕ) (taken taken' taken'' : Option (List ℕ))
    (start left left' failed failed' : ℕ) → (p : IsPartServed stream session before after pending taken taken' start left)
    → IsWrittenOut pending taken' taken'' left left' failed failed'
    → RepliesWritten (Ok u) stream session before after taken taken'' start left' failed failed'
all_written u stream session before after pending taken taken' taken'' start left left' failed failed' p w = record {
  rest = p.rest;
  written = p.written ++ w.0;
  unwritten = w.1;
  served = put_out stream p.rest before after p.written pending w.0 w.1 w.2 p.served;
  wrote = Appends-trans taken taken' taken'' p.written w.0 p.wrote w.3;
  moves = moves_on start left left' failed failed' p.written w.0 p.moves w.5;
  ends = (p.keeps, p.unfinished, w.4);
}

-- or writing them stops
some_written : (kind : Kind) (stream : List ℕ) (session : Standing) (before after : Table) (pending : List ℕ) (taken taken' taken'' : Option (List ℕ))
    (start left left' failed failed' : ℕ) → (p : IsPartServed stream session before after pending taken taken' start left)
    → IsWritten pending taken' taken'' left left' failed failed' → IsWriteFault kind left' failed failed'
    → RepliesWritten (Err kind) stream session before after taken taken'' start left' failed failed'
some_written kind stream session before after pending taken taken' taken'' start left left' failed failed' p w why = record {
  rest = p.rest;
  written = p.written ++ w.0;
  unwritten = w.1;
  served = put_out stream p.rest before after p.written pending w.0 w.1 w.2 p.served;
  wrote = Appends-trans taken taken' taken'' p.written w.0 p.wrote w.3;
  moves = moves_on start left left' failed failed' p.written w.0 p.moves w.4;
  ends = inr (inr why);
}

-- the pending replies are written, or some of them
pub ends_with : (result : Result (Unit {0}) Kind) (stream : List ℕ) (session : Standing) (before after : Table) (pending : List ℕ) (taken taken' taken'' : Option (List ℕ))
    (start left left' failed failed' : ℕ) → (p : IsPartServed stream session before after pending taken taken' start left)
    → (front back : List ℕ) × (pending ≡ front ++ back) × Appends taken' taken'' front × OnOk result (back ≡ []) × Moves left left' failed failed' front
    → IfErr result (λ kind. IsWriteFault kind left' failed failed')
    → RepliesWritten result stream session before after taken taken'' start left' failed failed'
ends_with (Ok u) stream session before after pending taken taken' taken'' start left left' failed failed' p w why =
    all_written u stream session before after pending taken taken' taken'' start left left' failed failed' p w
ends_with (Err kind) stream session before after pending taken taken' taken'' start left left' failed failed' p w why =
    some_written kind stream session before after pending taken taken' taken'' start left left' failed failed' p (w.0, w.1, w.2, w.3, w.5) why

-- the next part is taken off what is left
pub split_stream : (whole stream rest part behind : List ℕ) (n : ℕ) → whole ≡ stream ++ rest → part ≡ take n rest → behind ≡ drop n rest → whole ≡ (stream ++ part) ++ behind
split_stream whole stream rest part behind n is front back =
    is ∙ ap (λ zs. stream ++ zs) (sym (take-append-drop n rest) ∙ ap (λ zs. zs ++ drop n rest) (sym front) ∙ ap (λ zs. part ++ zs) (sym back))
    ∙ sym (append_assoc stream part behind)

-- all replies to what was read so far are written, and the session keeps what comes behind
pub record SoFar (before now : Table) (session : Standing) (start at : Moment) : Type 0 where
  pub read : List ℕ
  pub kept : List ℕ
  pub written : List ℕ
  pub keeps : session ≡ reading kept
  pub unfinished : IsUnfinished kept
  pub served : Served read kept before now [] written
  pub gave : Appends start.given at.given read
  pub took : Consumes start.to_come at.to_come read
  pub wrote : Appends start.taken at.taken written
  pub pulled : at.reads ≤ start.reads + length read
  pub pushed : at.writes ≤ start.writes + length written

pub begun : (table : Table) (session : Standing) (at : Moment) → session ≡ reading [] → SoFar table table session at at
unfolding ServesAll
begun table session at is = record {
  read = [];
  kept = [];
  written = [];
  keeps = is;
  unfinished = inl (omega arith);
  served = record { bodies = []; replies = []; frames = record { whole = refl; short = All-nil IsBody }; tables = (refl, refl); added = refl };
  gave = Appends-nil at.given;
  took = Consumes-nil at.to_come;
  wrote = Appends-nil at.taken;
  pulled = omega arith;
  pushed = omega arith;
}

-- one piece was read, and the replies to it are written
pub went_on : (before now after : Table) (session session' : Standing) (start at next : Moment) (result : Result (Unit {0}) Kind) (u : Unit {0}) (piece : List ℕ) (left left' failed failed' : ℕ)
    → (s : SoFar before now session start at) → Appends at.given next.given piece → Consumes at.to_come next.to_come piece → result ≡ Ok u → 0 < length piece
    → next.reads ≡ at.reads + 1 → next.writes + left' ≡ at.writes + left → failed' ≡ failed
    → RepliesWritten result (s.kept ++ piece) session' now after at.taken next.taken left left' failed failed'
    → SoFar before after session' start next
went_on before now after session session' start at next result u piece left left' failed failed' s gave took ok some pull push sound r =
    let ends = subst (λ e. RepliesAt e r.rest r.unwritten session' left' failed failed') ok r.ends in
    record {
      read = s.read ++ piece;
      kept = r.rest;
      written = s.written ++ r.written;
      keeps = ends.0;
      unfinished = ends.1;
      served = served_on s.read s.kept piece r.rest before now after s.written r.written s.served
          (subst (Served (s.kept ++ piece) r.rest now after []) (ap (λ zs. r.written ++ zs) ends.2 ∙ append-nil r.written) r.served);
      gave = Appends-trans start.given at.given next.given s.read piece s.gave gave;
      took = Consumes-trans start.to_come at.to_come next.to_come s.read piece s.took took;
      wrote = Appends-trans start.taken at.taken next.taken s.written r.written s.wrote r.wrote;
      pulled = omega (arith, s.pulled, some, pull, length-append s.read piece);
      pushed = omega (arith, s.pushed, r.moves, push, sound, length-append s.written r.written);
    }

stop_for : (kind : Kind) (rest unwritten read written : List ℕ) (left failed failed' turns : ℕ) (start at : Moment)
    → (left ≡ 0 → failed' ≡ failed → (calls at ≡ calls start + turns) × (at.reads ≤ start.reads + length read) × (at.writes ≤ start.writes + length written))
    → (failed < failed' → failures start < failures at) → IsServingStop kind rest unwritten (IsWriteFault kind left failed failed')
    → IsServingStop kind rest unwritten (IsFault kind read written turns start at)
stop_for kind rest unwritten read written left failed failed' turns start at used broke =
    ⊎_elim inl (λ others. inr (⊎_elim inl (λ fault. inr (⊎_elim (λ out. let all = used out.1 out.2 in inl (out.0, all.0, all.1, all.2)) (λ device. inr (device.0, broke device.1)) fault)) others))

-- one piece was read, and then serving stopped
pub stopped : (before now after : Table) (session session' : Standing) (start at next : Moment) (result : Result (Unit {0}) Kind) (kind : Kind) (piece : List ℕ) (turns left left' failed failed' : ℕ)
    → (s : SoFar before now session start at) → Appends at.given next.given piece → Consumes at.to_come next.to_come piece → result ≡ Err kind → 0 < length piece
    → next.reads ≡ at.reads + 1 → next.writes + left' ≡ at.writes + left
    → RepliesWritten result (s.kept ++ piece) session' now after at.taken next.taken left left' failed failed'
    → (left' ≡ 0 → calls next ≡ calls start + turns) → (failed < failed' → failures start < failures next)
    → (passage : ServedPassage before after) × PassesBy passage start next × ServingEndsAt (Err kind) passage turns start next
stopped before now after session session' start at next result kind piece turns left left' failed failed' s gave took err some pull push r used broke =
    let ends = subst (λ e. RepliesAt e r.rest r.unwritten session' left' failed failed') err r.ends in (
      record {
        read = s.read ++ piece;
        rest = r.rest;
        written = s.written ++ r.written;
        unwritten = r.unwritten;
        served = subst (Served (s.read ++ piece) r.rest before after []) (sym (append_assoc s.written r.written r.unwritten))
            (served_on s.read s.kept piece r.rest before now after s.written (r.written ++ r.unwritten) s.served r.served);
      },
      (
        Appends-trans start.given at.given next.given s.read piece s.gave gave,
        Consumes-trans start.to_come at.to_come next.to_come s.read piece s.took took,
        Appends-trans start.taken at.taken next.taken s.written r.written s.wrote r.wrote,
      ),
      (
        stop_for kind r.rest r.unwritten (s.read ++ piece) (s.written ++ r.written) left' failed failed' turns start next
            (λ none sound. (
              used none,
              omega (arith, s.pulled, some, pull, length-append s.read piece),
              omega (arith, sound, s.pushed, r.moves, push, length-append s.written r.written),
            ))
            broke ends,
        λ memory nil. omega (arith, some, ap length nil, length-append s.read piece),
      ),
    )

-- without the counts of calls
abbrev pub uncounted : Moment → Moment
uncounted at = record at { reads = 0; writes = 0 }

-- a read that gave nothing
pub none_read : (before now : Table) (session : Standing) (start at next : Moment) (piece : List ℕ)
    → (s : SoFar before now session start at) → piece ≡ [] → Appends at.given next.given piece → Consumes at.to_come next.to_come piece → next.taken ≡ at.taken
    → SoFar before now session (uncounted start) (uncounted next)
none_read before now session start at next piece s nil gave took same_taken =
    let same = ap (λ zs. s.read ++ zs) nil ∙ append-nil s.read in
    record {
      read = s.read;
      kept = s.kept;
      written = s.written;
      keeps = s.keeps;
      unfinished = s.unfinished;
      served = s.served;
      gave = subst (Appends start.given next.given) same (Appends-trans start.given at.given next.given s.read piece s.gave gave);
      took = subst (Consumes start.to_come next.to_come) same (Consumes-trans start.to_come at.to_come next.to_come s.read piece s.took took);
      wrote = subst (λ t. Appends start.taken t s.written) (sym same_taken) s.wrote;
      pulled = omega arith;
      pushed = omega arith;
    }

-- a read that failed
pub failed_read : (before now : Table) (session : Standing) (start at : Moment) (given to_come : Option (List ℕ))
    → (s : SoFar before now session start at) → Keeps at.given given → Keeps at.to_come to_come
    → SoFar before now session start (record at { given = given; to_come = to_come })
failed_read before now session start at given to_come s gave took = record {
  read = s.read;
  kept = s.kept;
  written = s.written;
  keeps = s.keeps;
  unfinished = s.unfinished;
  served = s.served;
  gave = Appends-kept start.given at.given given s.read s.gave gave;
  took = Consumes-kept start.to_come at.to_come to_come s.read s.took took;
  wrote = s.wrote;
  pulled = s.pulled;
  pushed = s.pushed;
}

-- serving ends where all replies are written
pub halted : (before now : Table) (session : Standing) (start at : Moment) → (s : SoFar before now session start at)
    (Ends : List ℕ → List ℕ → List ℕ → List ℕ → Type 0) → Ends s.kept [] s.read s.written
    → (passage : ServedPassage before now) × PassesBy passage start at × Ends passage.rest passage.unwritten passage.read passage.written
halted before now session start at s Ends ends = (
  record {
    read = s.read;
    rest = s.kept;
    written = s.written;
    unwritten = [];
    served = subst (Served s.read s.kept before now []) (sym (append-nil s.written)) s.served;
  },
  (s.gave, s.took, s.wrote),
  ends,
)

rest_in : Standing → List ℕ
rest_in (reading rest) = rest
rest_in ended = []

-- the session tells whether it keeps nothing
pub between : (session : Standing) (kept : List ℕ) (whole : Bool) → session ≡ reading kept → IsTrue whole ↔ session ≡ reading [] → IsTrue whole ↔ kept ≡ []
unfolding rest_in
between session kept whole keeps is =
    (λ yes. ap rest_in (sym keeps ∙ is.0 yes), λ nil. is.1 (keeps ∙ ap reading nil))

-- what holds of a fault, where `?` hands it on
pub handed_on : {T E : Type 0} (P : Result T E → Type 0) (r : Result T E) (fault : E) → IsErrAnd r (λ e. e ≡ fault) → P (Err fault) → P r
handed_on P (Ok whole) fault is p = absurd is
handed_on P (Err e) fault is p = subst (λ k. P (Err k)) (sym is) p

pub err_on : {T E : Type 0} (r : Result T E) (fault : E) (P : E → Type 0) → IsErrAnd r (λ e. e ≡ fault) → P fault → IfErr r P
err_on r fault P is p = handed_on (λ r. IfErr r P) r fault is p
