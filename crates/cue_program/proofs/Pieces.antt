-- Inputs that are read piece by piece.
use Rattle.std.proofs.Common.{◌≡◌, ◌≢◌, ℕ, ◌+◌, ◌-◌, ◌*◌, ◌^◌, ◌<◌, ◌≤◌, List, [], ◌∷◌, ◌++◌, length, take, drop, Option, Some, None, IfSome, arith, true, inl, refl, sym, ap, ◌∙◌, subst}
use Rattle.std.specs.Prelude.{slice_get}
use Rattle.std.specs.Io.KnownBytes.{Appends, Consumes, IsAtEnd, Keeps}
use Rattle.std.proofs.lemmas.List.{append_assoc, append-nil, length-append, length-take, take-append-drop}
use Rattle.std.proofs.Math.Seq.{take-append_seam}
use Rattle.cue_codec.specs.Pieces as pieces
use Rattle.cue_codec.specs.Pieces.{Intake, IsIntake, IsNotTakenIn, IsTakenIn}
use Rattle.cue_replica.proofs.Reading.{are_read_in_pieces}
use Rattle.cue_program.specs.Files.{AreAll}
use Rattle.cue_program.specs.Stops.{IsLongStop, piece_size, read_limit}
use Rattle.cue_program.specs.Outlets.{AddsBytes, BreaksAfter, HasBegun, IsWriteFailed, Passage, passage_of}
use Rattle.cue_program.specs.Stops.{IsDeviceStop, IsMemoryStop}
use Rattle.cue_program.specs.declared.output.Output.{Output}
use Rattle.cue_program.specs.declared.stop.RunError.{RunError}
use Rattle.cue_program.specs.declared.stop.RunError.TheVariants as stops
use Rattle.cue_replica.specs.declared.Kind.{Kind}
use Rattle.cue_program.specs.inner.Reading.{IsAllRead, IsRestRead}
use Rattle.cue_program.proofs.Devices.{appends_keeps, appends_more, consumed_all, consumes_more, consumes_none}

-- what is put behind some bytes leaves the first of them first
first_stays : (front piece : List ℕ) → 0 < length front → slice_get (front ++ piece) 0 ≡ slice_get front 0
first_stays [] piece some = absurd (omega arith)
first_stays (b ∷ front) piece some = refl

-- a state of which a piece more was taken in
pub state_more :
    (front piece : List ℕ) (old new : Intake) → 0 < length front → (slice_get front 0 ≡ Some 254) × IsIntake front old → IsTakenIn old piece new
    → (slice_get (front ++ piece) 0 ≡ Some 254) × IsIntake (front ++ piece) new
state_more front piece old new some h more =
    (first_stays front piece some ∙ h.0, are_read_in_pieces.more front piece old new h.1 more)

-- any other input of which a piece more is kept
pub text_more :
    {K : Type 0} (IsKept : K → List ℕ → Type 0) (front piece : List ℕ) (new : K) → 0 < length front → slice_get front 0 ≢ Some 254
    → IsKept new (front ++ piece) → (slice_get (front ++ piece) 0 ≢ Some 254) × IsKept new (front ++ piece)
text_more IsKept front piece new some first kept = ((λ e. first (sym (first_stays front piece some) ∙ e)), kept)

-- so many reads gave bytes, which are kept behind any that were kept before
abbrev pub Goes : {K : Type 0} → (K → List ℕ → Type 0) → Option (List ℕ) → Option (List ℕ) → K → K → ℕ → Type 0
Goes IsKept a b old new count =
    (done : List ℕ) × Consumes a b done
    × ((front : List ℕ) → 0 < length front → IsKept old front → IsKept new (front ++ done))
    × (length done ≤ count * piece_size) × (count ≤ length done)

pub goes_none : {K : Type 0} (IsKept : K → List ℕ → Type 0) (a : Option (List ℕ)) (old : K) → Goes IsKept a a old old 0
goes_none IsKept a old =
    ([], consumes_none a, (λ front some kept. subst (IsKept old) (sym (append-nil front)) kept), omega arith, omega arith)

longer : (done bytes : List ℕ) (count : ℕ) → length done ≤ count * piece_size → length bytes ≤ piece_size → length (done ++ bytes) ≤ (count + 1) * piece_size
longer done bytes count h k = omega (arith, h, k, length-append done bytes)

some_append : (front bytes : List ℕ) → 0 < length front → 0 < length (front ++ bytes)
some_append [] bytes some = absurd (omega arith)
some_append (b ∷ front) bytes some = omega arith

pub goes_more :
    {K : Type 0} (IsKept : K → List ℕ → Type 0) (a b c : Option (List ℕ)) (old mid new : K) (count : ℕ) (bytes : List ℕ)
    → Goes IsKept a b old mid count → Consumes b c bytes → length bytes ≤ piece_size → 0 < length bytes
    → ((front : List ℕ) → 0 < length front → IsKept mid front → IsKept new (front ++ bytes)) → Goes IsKept a c old new (count + 1)
goes_more IsKept a b c old mid new count bytes h read small some_bytes kept = (
  h.0 ++ bytes,
  consumes_more a b c h.0 bytes h.1 read,
  (λ front some is. subst (IsKept new) (append_assoc front h.0 bytes) (kept (front ++ h.0) (some_append front h.0 some) (h.2 front some is))),
  longer h.0 bytes count h.3 small,
  omega (arith, h.4, some_bytes, length-append h.0 bytes),
)

-- a piece that is the front of a room
pub goes_further :
    {K : Type 0} (IsKept : K → List ℕ → Type 0) (a b c : Option (List ℕ)) (old mid new : K) (count after n : ℕ) (room : List ℕ)
    → Goes IsKept a b old mid count → Consumes b c (take n room) → length room ≡ piece_size → 0 < n → n ≤ length room → after ≡ count + 1
    → ((front : List ℕ) → 0 < length front → IsKept mid front → IsKept new (front ++ take n room)) → Goes IsKept a c old new after
goes_further IsKept a b c old mid new count after n room h read size some within next kept =
    subst (λ k. Goes IsKept a c old new k) (sym next)
    (goes_more IsKept a b c old mid new count (take n room) h read (omega (arith, length-take n room, size)) (omega (arith, length-take n room, some, within)) kept)

-- a device of which so many bytes were read had as many
pub goes_long : {K : Type 0} (IsKept : K → List ℕ → Type 0) (a b : Option (List ℕ)) (old new : K) (count : ℕ) → Goes IsKept a b old new count → read_limit ≤ count + 1 → IfSome a (λ rest. read_limit ≤ length rest + 1)
goes_long IsKept a b old new count h most = long a b h.0 h.1 (omega (arith, h.4, most))
  where
    long : (a b : Option (List ℕ)) (done : List ℕ) → Consumes a b done → read_limit ≤ length done + 1 → IfSome a (λ rest. read_limit ≤ length rest + 1)
    long None b done read most = tt
    long (Some x) None done read most = absurd read
    long (Some x) (Some y) done read most = omega (arith, most, ap (λ (l : List ℕ). length l) read, length-append done y)

-- and one that had given a byte before
pub long_of_rest : (a b : Option (List ℕ)) (front : List ℕ) → Consumes a b front → 0 < length front → IfSome b (λ rest. read_limit ≤ length rest + 1) → IsLongStop a
long_of_rest None b front read some rest = tt
long_of_rest (Some x) None front read some rest = absurd read
long_of_rest (Some x) (Some y) front read some rest = omega (arith, some, rest, ap (λ (l : List ℕ). length l) read, length-append front y)

nothing : (n : ℕ) (bytes : List ℕ) → n ≡ 0 → take n bytes ≡ []
nothing n bytes is = subst (λ k. take k bytes ≡ []) (sym is) refl

-- at the end what was read is the rest
pub goes_all :
    {K : Type 0} (IsKept : K → List ℕ → Type 0) (a b c : Option (List ℕ)) (old new : K) (count n : ℕ) (bytes front : List ℕ)
    → Goes IsKept a b old new count → Consumes b c (take n bytes) → n ≡ 0 → IsAtEnd c → count ≤ read_limit - 1
    → 0 < length front → IsKept old front → IsRestRead (IsKept new) front a
goes_all IsKept a b c old new count n bytes front h read none end most some is = (
  h.0,
  subst (AreAll a) (ap (λ (more : List ℕ). h.0 ++ more) (nothing n bytes none) ∙ append-nil h.0)
      (consumed_all a c (h.0 ++ take n bytes) (consumes_more a b c h.0 (take n bytes) h.1 read) end),
  h.2 front some is,
  omega (arith, h.3, most),
)

-- a first read that gave nothing
pub all_of_none :
    {K : Type 0} (IsKept : K → List ℕ → Type 0) (a c : Option (List ℕ)) (kept : K) (n : ℕ) (bytes : List ℕ) → Consumes a c (take n bytes) → n ≡ 0
    → IsAtEnd c → IsKept kept (take n bytes) → IsAllRead (IsKept kept) a
all_of_none IsKept a c kept n bytes read none end is =
    (take n bytes, consumed_all a c (take n bytes) read end, is, omega (arith, ap (λ (b : List ℕ). length b) (nothing n bytes none)))

-- the rest behind what a first read gave
pub all_of_rest :
    {K : Type 0} (IsKept : K → List ℕ → Type 0) (a b : Option (List ℕ)) (kept : K) (front : List ℕ) → Consumes a b front → length front ≤ piece_size
    → IsRestRead (IsKept kept) front b → IsAllRead (IsKept kept) a
all_of_rest IsKept a b kept front read small rest =
    (front ++ rest.0, all_behind a b front rest.0 read rest.1, rest.2, omega (arith, small, rest.3, length-append front rest.0))
  where
    all_behind : (a b : Option (List ℕ)) (front rest : List ℕ) → Consumes a b front → AreAll b rest → AreAll a (front ++ rest)
    all_behind None b front rest h k = tt
    all_behind (Some x) None front rest h k = absurd h
    all_behind (Some x) (Some y) front rest h k = sym (h ∙ ap (λ r. front ++ r) (sym k))

-- what so many reads give a memory can hold
pub held_in_memory : (all : List ℕ) → length all ≤ read_limit * piece_size → length all < 2 ^ 64
held_in_memory all most = omega (arith, most)

-- a writer that has nothing left has told all
pub told_all :
    (a b : Option (List ℕ)) (all left : List ℕ) → ((done : List ℕ) × (all ≡ done ++ left) × Appends a b done) → length left ≡ 0 → Appends a b all
told_all a b all [] h none = subst (λ (t : List ℕ). Appends a b t) (sym (h.1 ∙ append-nil h.0)) h.2
told_all a b all (x ∷ left) h none = absurd (omega (arith, none))

-- one piece more was told
pub told_more :
    (a b c : Option (List ℕ)) (all left after : List ℕ) (count : ℕ) → ((done : List ℕ) × (all ≡ done ++ left) × Appends a b done)
    → after ≡ drop count left → Appends b c (take count left) → (done : List ℕ) × (all ≡ done ++ after) × Appends a c done
told_more a b c all left after count h rest told = (
  h.0 ++ take count left,
  h.1 ∙ (ap (λ (t : List ℕ). h.0 ++ t) (sym (take-append-drop count left) ∙ ap (λ (t : List ℕ). take count left ++ t) (sym rest))
      ∙ sym (append_assoc h.0 (take count left) after)),
  appends_more a b c h.0 (take count left) h.2 told,
)

-- the front of a room that was filled is that of what was left
pub filled_front : (left room after : List ℕ) (count : ℕ) → count ≤ length left → after ≡ take count left ++ drop count room → take count after ≡ take count left
filled_front left room after count less is =
    let long : length (take count left) ≡ count = omega (arith, length-take count left, less) in
    ap (λ (t : List ℕ). take count t) is
    ∙ subst (λ k. take k (take count left ++ drop count room) ≡ take count left) long (take-append_seam (take count left) (drop count room))

-- a part of what was left
pub told_some : (p : Passage) (all left : List ℕ) → ((done : List ℕ) × (all ≡ done ++ left) × Appends p.before p.after done) → HasBegun p all
told_some p all left h = (h.0, left, h.1, h.2)

-- bytes that were all handed on, and could not be got out
pub untold_at_flush :
    {W : Type 0} (contents : W → Option (List ℕ)) (old mid new : Output W) (bytes : List ℕ) (stop : RunError) → AddsBytes (passage_of contents old mid) bytes
    → Keeps (contents mid.inner) (contents new.inner) → new.failed ≡ true → IsDeviceStop stop → IsWriteFailed (passage_of contents old new) bytes stop
untold_at_flush contents old mid new bytes stop told kept failed device =
    inl (device, ((bytes, [], sym (append-nil bytes), appends_keeps (contents old.inner) (contents mid.inner) (contents new.inner) bytes told kept), failed))

-- a piece of what was left could not be handed on
pub untold_at_piece :
    {W : Type 0} (contents : W → Option (List ℕ)) (old mid new : Output W) (all left piece : List ℕ) (count : ℕ) (stop : RunError)
    → ((done : List ℕ) × (all ≡ done ++ left) × Appends (contents old.inner) (contents mid.inner) done)
    → BreaksAfter (passage_of contents mid new) (take count piece) → take count piece ≡ take count left → IsDeviceStop stop → IsWriteFailed (passage_of contents old new) all stop
untold_at_piece contents old mid new all left piece count stop h broken same device =
    let front = broken.0.0 in
    let back = broken.0.1 in
    let behind = drop count left in
    let parts : left ≡ (front ++ back) ++ behind = sym (take-append-drop count left) ∙ ap (λ t. t ++ behind) (sym same ∙ broken.0.2) in
    let whole : all ≡ (h.0 ++ front) ++ (back ++ behind) =
    h.1 ∙ ap (λ t. h.0 ++ t) (parts ∙ append_assoc front back behind) ∙ sym (append_assoc h.0 front (back ++ behind)) in
    inl (device, ((h.0 ++ front, back ++ behind, whole, appends_more (contents old.inner) (contents mid.inner) (contents new.inner) h.0 front h.2 broken.0.3), broken.1))

-- a reader that no memory was refused to fails for want of memory alone
pub memory_alone : (bytes : List ℕ) (old new : Intake) (kind : Kind) → IsIntake bytes old → IsNotTakenIn old kind new → IsMemoryStop (stops.Refused kind)
memory_alone bytes (pieces.so_far front) new kind is not = ap (λ (k : Kind). stops.Refused k) not.0
memory_alone bytes pieces.other_version new kind is not = absurd not
memory_alone bytes pieces.no_state new kind is not = absurd not
memory_alone bytes pieces.failed new kind is not = absurd is
