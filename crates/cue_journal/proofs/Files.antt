-- What files of a journal bring, also where a crash has torn a gate or what stands behind one.
use Rattle.std.proofs.Common.{◌≡◌, ℕ, ◌+◌, ◌-◌, ◌<◌, ◌≤◌, ◌^◌, true, false, List, [], ◌∷◌, ◌++◌, length, drop, Option, Some, None, refl, sym, ◌∙◌, ap, subst, inl, inr, arith, append_assoc, length-append, length-drop}
use Rattle.std.proofs.lemmas.List.{append-nil, drop_at, drop_all}
use Rattle.std.proofs.lemmas.Bool.{cases_Bool}
use Rattle.std.proofs.lemmas.Slice.Eq.{bytes_eq-Decides}
use Rattle.std.proofs.lemmas.Nat.{from_be_bytes-to_be_bytes_8}
use Rattle.std.specs.Int.{w64, to_be_bytes}
use Rattle.std.specs.Str.{bytes_eq}
use Rattle.cue_journal.specs.Blocks.{recovered_pieces}
use Rattle.cue_journal.specs.Frames.{file_head, is_open_gate, checksum, next_batch, scan, file_entries, sealed, Bring, IsShut, IsSound, IsScannedTo}
use Rattle.sqlite_disk.specs.Disk.{Holds, Torn, Only}
use Rattle.cue_journal.specs.Settled.{EndsAt, IsJournalSettled, IsBeforeOrAfter, IsKeptOrCleared}
use Rattle.cue_journal.proofs.Torn.{held}
use Rattle.cue_journal.proofs.Scanning.{frame_there, is_frame, bring_frame, bring_more, bring_shut, bring_nothing, scan-next, scan-none, scan-shut, next-gates, length-checksum, none_some, next-shut}

pub length-head : length file_head ≡ 19
unfolding file_head
length-head = refl

behind_head : (frames : List ℕ) → drop 19 (file_head ++ frames) ≡ frames
behind_head frames = drop_at file_head frames 19 length-head

-- a file of at most a gate behind the head brings nothing
no_frame : (frames : List ℕ) → length frames ≤ 1 → (scan frames).0 ≡ []
no_frame [] le = ap (λ (p : List (List ℕ) × List ℕ). p.0) (scan-none [] refl)
no_frame (a ∷ []) le = ap (λ (p : List (List ℕ) × List ℕ). p.0) (scan-none (a ∷ []) refl)
no_frame (a ∷ b ∷ frames) le = absurd (omega arith)

pub short_file : (file : List ℕ) → length file ≤ 20 → file_entries file ≡ []
unfolding file_entries
short_file file le = no_frame (drop 19 file) (omega (arith, length-drop 19 file))

file_is : (file frames : List ℕ) → file ≡ file_head ++ frames → file_entries file ≡ (scan frames).0
unfolding file_entries
file_is file frames is = ap (λ (l : List ℕ). (scan l).0) (ap (drop 19) is ∙ behind_head frames)

pub short_crash : (c seen : List ℕ) → length c ≤ 20 → length seen ≤ 20 → (file_entries c ≡ file_entries seen) × (IsSound seen → IsSound c)
short_crash c seen short was = (short_file c short ∙ sym (short_file seen was), λ sound. inl short)

-- frames, and then a closed gate
pub entries_there : (file frames rest : List ℕ) (ps : List (List ℕ)) (gate : ℕ) → file ≡ (file_head ++ frames) ++ gate ∷ rest → Bring frames ps → is_open_gate gate ≡ false → file_entries file ≡ ps
entries_there file frames rest ps gate is bring shut =
    file_is file (frames ++ gate ∷ rest) (is ∙ append_assoc file_head frames (gate ∷ rest))
    ∙ ap (λ (p : List (List ℕ) × List ℕ). p.0) (bring_shut frames ps gate rest bring shut)

pub sound_there : (file frames rest : List ℕ) (ps : List (List ℕ)) (gate : ℕ) → file ≡ (file_head ++ frames) ++ gate ∷ rest → Bring frames ps → is_open_gate gate ≡ false → IsSound file
sound_there file frames rest ps gate is bring shut =
    inr (frames ++ gate ∷ rest, is ∙ append_assoc file_head frames (gate ∷ rest), subst IsShut (sym (ap (λ (p : List (List ℕ) × List ℕ). p.1) (bring_shut frames ps gate rest bring shut))) shut)

pub ends_sound : (file : List ℕ) (end : ℕ) → EndsAt file end → IsSound file
ends_sound file end e = sound_there file e.frames e.junk (file_entries file) e.gate e.split e.bring e.shut

pub ends_there : (file frames rest : List ℕ) (ps : List (List ℕ)) (gate end : ℕ) → file ≡ (file_head ++ frames) ++ gate ∷ rest → Bring frames ps → is_open_gate gate ≡ false → end ≡ length (file_head ++ frames) → EndsAt file end
ends_there file frames rest ps gate end is bring shut size = record {
  frames = frames;
  gate = gate;
  junk = rest;
  split = is;
  shut = shut;
  size = size;
  bring = subst (Bring frames) (sym (entries_there file frames rest ps gate is bring shut)) bring;
}

pub settled_sound : (seen : List ℕ) (may : List ℕ → Type 0) (end : ℕ) → IsJournalSettled seen may end → (c : List ℕ) → may c → IsSound c
settled_sound seen may end s c left = let there = s.durable c left in sound_there c s.ends.frames there.0 (file_entries seen) s.ends.gate there.1 s.ends.bring s.ends.shut

-- a crash leaves its entries
pub entries_left : (seen : List ℕ) (may : List ℕ → Type 0) (end : ℕ) → IsJournalSettled seen may end → (c : List ℕ) → may c → file_entries c ≡ file_entries seen
entries_left seen may end s c left = let there = s.durable c left in entries_there c s.ends.frames there.0 (file_entries seen) s.ends.gate there.1 s.ends.bring s.ends.shut

-- all of it is on the disk
pub on_disk : (file : List ℕ) (may : List ℕ → Type 0) (end : ℕ) → EndsAt file end → Only file may → IsJournalSettled file may end
on_disk file may end e only = record { ends = e; durable = λ c left. (e.junk, only c left ∙ e.split) }

-- what a crash leaves is settled too
pub settled_left : (seen : List ℕ) (may : List ℕ → Type 0) (end : ℕ) → IsJournalSettled seen may end → (c : List ℕ) → may c → IsJournalSettled c (λ d. d ≡ c) end
settled_left seen may end s c left =
    let there = s.durable c left in
    on_disk c (λ d. d ≡ c) end (ends_there c s.ends.frames there.0 (file_entries seen) s.ends.gate end there.1 s.ends.bring s.ends.shut s.ends.size) (λ d is. is)

same_bytes : (xs : List ℕ) → bytes_eq xs xs ≡ true
same_bytes xs = (bytes_eq-Decides xs xs).1 refl

pub zero_shut : is_open_gate 0 ≡ false
unfolding lib.Count.ones
zero_shut = refl

pub full_open : is_open_gate 255 ≡ true
unfolding lib.Count.ones
full_open = refl

-- a batch behind an open gate
pub opened_bring : (gate : ℕ) (batch : List ℕ) → is_open_gate gate ≡ true → length batch < 2 ^ 64 → Bring (gate ∷ (to_be_bytes w64 (length batch) ++ checksum batch ++ batch)) (recovered_pieces batch)
opened_bring gate batch opened fits rest =
    scan-next ((gate ∷ (to_be_bytes w64 (length batch) ++ checksum batch ++ batch)) ++ rest) (batch, rest) (
    ap (λ (l : List ℕ). next_batch (gate ∷ (to_be_bytes w64 (length batch) ++ l))) (append_assoc (checksum batch) batch rest)
    ∙ frame_there gate _ _ _ _ _ _ _ _ (checksum batch) batch rest opened (length-checksum batch) (from_be_bytes-to_be_bytes_8 (length batch) fits) (same_bytes (checksum batch)))

-- with the frames before it, and the closed gate behind it
pub opened_shape : (front batch junk : List ℕ) (gate : ℕ) → front ++ gate ∷ (sealed batch ++ junk) ≡ (front ++ gate ∷ (to_be_bytes w64 (length batch) ++ checksum batch ++ batch)) ++ 0 ∷ junk
unfolding sealed
opened_shape front batch junk gate =
    let whole : List ℕ = to_be_bytes w64 (length batch) ++ checksum batch ++ batch in
    ap (λ (l : List ℕ). front ++ gate ∷ l) (append_assoc whole (0 ∷ []) junk) ∙ sym (append_assoc front (gate ∷ whole) (0 ∷ junk))

length-opened : (batch : List ℕ) → length (to_be_bytes w64 (length batch) ++ checksum batch ++ batch) ≡ length batch + 16
length-opened batch = omega (arith, length-append (to_be_bytes w64 (length batch) ++ checksum batch) batch, length-append (to_be_bytes w64 (length batch)) (checksum batch), length-checksum batch)

pub length-sealed : (batch : List ℕ) → length (sealed batch) ≡ length batch + 17
unfolding sealed
length-sealed batch = omega (arith, length-append (to_be_bytes w64 (length batch) ++ checksum batch ++ batch) (0 ∷ []), length-opened batch)

-- a file with a batch behind the open gate
pub record IsAdded (file frames batch : List ℕ) (ps : List (List ℕ)) : Type 0 where
  pub more : List ℕ
  pub junk : List ℕ
  pub split : file ≡ (file_head ++ more) ++ 0 ∷ junk
  pub size : length (file_head ++ more) ≡ length (file_head ++ frames) + (length batch + 17)
  pub bring : Bring more (ps ++ recovered_pieces batch)

pub added : (file frames batch junk : List ℕ) (ps : List (List ℕ)) (gate : ℕ) → Bring frames ps → length batch < 2 ^ 64 → is_open_gate gate ≡ true
    → file ≡ (file_head ++ frames) ++ gate ∷ (sealed batch ++ junk) → IsAdded file frames batch ps
added file frames batch junk ps gate bring fits opened is =
    let whole : List ℕ = gate ∷ (to_be_bytes w64 (length batch) ++ checksum batch ++ batch) in
    record {
      more = frames ++ whole;
      junk = junk;
      split = is ∙ opened_shape (file_head ++ frames) batch junk gate ∙ ap (λ (l : List ℕ). l ++ 0 ∷ junk) (append_assoc file_head frames whole);
      size = ap length (sym (append_assoc file_head frames whole)) ∙ length-append (file_head ++ frames) whole ∙ ap (λ n. length (file_head ++ frames) + n) (omega (arith, length-opened batch));
      bring = bring_more frames whole ps (recovered_pieces batch) bring (opened_bring gate batch opened fits);
    }

-- whatever the gate is, the batch counts whole or not at all
pub before_or_after : (file frames batch junk : List ℕ) (ps : List (List ℕ)) (gate : ℕ) → Bring frames ps → length batch < 2 ^ 64
    → file ≡ (file_head ++ frames) ++ gate ∷ (sealed batch ++ junk) → IsBeforeOrAfter ps (recovered_pieces batch) file × IsSound file
before_or_after file frames batch junk ps gate bring fits is = elim (cases_Bool (is_open_gate gate)) [
  | inl opened ↦
      let there = added file frames batch junk ps gate bring fits opened is in (
        inr (entries_there file there.more there.junk (ps ++ recovered_pieces batch) 0 there.split there.bring zero_shut),
        sound_there file there.more there.junk (ps ++ recovered_pieces batch) 0 there.split there.bring zero_shut,
      )
  | inr shut ↦ (
    inl (entries_there file frames (sealed batch ++ junk) ps gate is bring shut),
    sound_there file frames (sealed batch ++ junk) ps gate is bring shut,
  )
]

-- where frames bring something, the first gate is open, and the first frame counts
first_counts : (g gate : ℕ) (tail junk : List ℕ) (ps : List (List ℕ)) → Bring (g ∷ tail) ps → is_open_gate gate ≡ false
    → (o : Option (List ℕ × List ℕ)) → next_batch (g ∷ (tail ++ gate ∷ junk)) ≡ o → (found : List ℕ × List ℕ) × (next_batch (g ∷ (tail ++ gate ∷ junk)) ≡ Some found)
first_counts g gate tail junk ps bring shut (Some found) is = (found, is)
first_counts g gate tail junk ps bring shut None is =
    let left : g ∷ (tail ++ gate ∷ junk) ≡ gate ∷ junk = ap (λ (p : List (List ℕ) × List ℕ). p.1) (sym (scan-none (g ∷ (tail ++ gate ∷ junk)) is) ∙ bring_shut (g ∷ tail) ps gate junk bring shut) in
    absurd (omega (arith, ap length left, length-append tail (gate ∷ junk)))

first_open : (g : ℕ) (rest : List ℕ) (found : List ℕ × List ℕ) → next_batch (g ∷ rest) ≡ Some found → is_open_gate g ≡ true
first_open g rest found is = elim (cases_Bool (is_open_gate g)) [
  | inl opened ↦ opened
  | inr shut ↦ absurd (none_some found (sym (next-shut g rest shut) ∙ is))
]

-- with another gate in front of the first frame all counts, or nothing
pub kept_or_cleared : (file tail junk : List ℕ) (g gate other : ℕ) (ps : List (List ℕ)) → Bring (g ∷ tail) ps → is_open_gate gate ≡ false
    → file ≡ file_head ++ other ∷ (tail ++ gate ∷ junk) → IsKeptOrCleared ps file × IsSound file
kept_or_cleared file tail junk g gate other ps bring shut is = elim (cases_Bool (is_open_gate other)) [
  | inl opened ↦ (inl (file_is file (other ∷ T) is ∙ ap (λ (p : List (List ℕ) × List ℕ). p.0) (whole opened)), inr (other ∷ T, is, subst IsShut (sym (ap (λ (p : List (List ℕ) × List ℕ). p.1) (whole opened))) shut))
  | inr closed ↦
      (inr (file_is file (other ∷ T) is ∙ ap (λ (p : List (List ℕ) × List ℕ). p.0) (scan-shut other T closed)), inr (other ∷ T, is, subst IsShut (sym (ap (λ (p : List (List ℕ) × List ℕ). p.1) (scan-shut other T closed))) closed))
]
  where
    T : List ℕ
    T = tail ++ gate ∷ junk

    first : (found : List ℕ × List ℕ) × (next_batch (g ∷ T) ≡ Some found)
    first = first_counts g gate tail junk ps bring shut (next_batch (g ∷ T)) refl

    whole : is_open_gate other ≡ true → scan (other ∷ T) ≡ (ps, gate ∷ junk)
    whole opened =
        let same : next_batch (other ∷ T) ≡ Some first.0 = next-gates other g T (opened ∙ sym (first_open g T first.0 first.1)) ∙ first.1 in
        scan-next (other ∷ T) first.0 same ∙ sym (scan-next (g ∷ T) first.0 first.1) ∙ bring_shut (g ∷ tail) ps gate junk bring shut

-- what was read of frames, and what is left
pub record IsScanning (frames rest : List ℕ) (entries : List (List ℕ)) : Type 0 where
  pub front : List ℕ
  pub split : frames ≡ front ++ rest
  pub bring : Bring front entries

pub scan_nothing : (frames : List ℕ) → IsScanning frames frames []
scan_nothing frames = record { front = []; split = refl; bring = bring_nothing }

pub scan_more : (frames rest : List ℕ) (entries : List (List ℕ)) (found : List ℕ × List ℕ) → IsScanning frames rest entries → next_batch rest ≡ Some found → IsScanning frames found.1 (entries ++ recovered_pieces found.0)
scan_more frames rest entries found so_far is =
    let there = is_frame rest found is in
    record {
      front = so_far.front ++ there.head;
      split = so_far.split ∙ ap (λ (l : List ℕ). so_far.front ++ l) there.split ∙ sym (append_assoc so_far.front there.head found.1);
      bring = bring_more so_far.front there.head entries (recovered_pieces found.0) so_far.bring (bring_frame rest found there);
    }

scan_is : (frames rest : List ℕ) (entries : List (List ℕ)) → IsScanning frames rest entries → next_batch rest ≡ None → scan frames ≡ (entries, rest)
scan_is frames rest entries so_far none =
    ap scan so_far.split
    ∙ so_far.bring rest
    ∙ ap (λ (p : List (List ℕ) × List ℕ). (entries ++ p.0, p.1)) (scan-none rest none)
    ∙ ap (λ (l : List (List ℕ)). (l, rest)) (append-nil entries)

pub scan_entries : (frames rest : List ℕ) (entries : List (List ℕ)) → IsScanning frames rest entries → next_batch rest ≡ None → entries ≡ (scan frames).0
scan_entries frames rest entries so_far none = sym (ap (λ (p : List (List ℕ) × List ℕ). p.0) (scan_is frames rest entries so_far none))

pub scanned_to : (frames rest : List ℕ) (entries : List (List ℕ)) → IsScanning frames rest entries → next_batch rest ≡ None → IsScannedTo frames rest
scanned_to frames rest entries so_far none = record {
  front = so_far.front;
  split = so_far.split;
  bring = subst (Bring so_far.front) (scan_entries frames rest entries so_far none) so_far.bring;
  left = ap (λ (p : List (List ℕ) × List ℕ). p.1) (scan_is frames rest entries so_far none);
}

read_shape : (file frames rest tail : List ℕ) (gate : ℕ) → file ≡ file_head ++ frames → (there : IsScannedTo frames rest) → rest ≡ gate ∷ tail → file ≡ (file_head ++ there.front) ++ gate ∷ tail
read_shape file frames rest tail gate is there first =
    is ∙ ap (λ (l : List ℕ). file_head ++ l) (there.split ∙ ap (λ (l : List ℕ). there.front ++ l) first) ∙ sym (append_assoc file_head there.front (gate ∷ tail))

-- a file that was read up to a closed gate
pub read_ends : (file frames rest tail : List ℕ) (gate : ℕ) → file ≡ file_head ++ frames → IsScannedTo frames rest → rest ≡ gate ∷ tail → is_open_gate gate ≡ false → EndsAt file (length file - length rest)
read_ends file frames rest tail gate is there first shut =
    let shape = read_shape file frames rest tail gate is there first in
    record {
      frames = there.front;
      gate = gate;
      junk = tail;
      split = shape;
      shut = shut;
      size = omega (arith, ap length shape, length-append (file_head ++ there.front) (gate ∷ tail), ap length first);
      bring = subst (Bring there.front) (sym (file_is file frames is)) there.bring;
    }

pub read_entries : (file frames : List ℕ) → file ≡ file_head ++ frames → (scan frames).0 ≡ file_entries file
read_entries file frames is = sym (file_is file frames is)

pub read_sound : (file frames rest tail : List ℕ) (gate : ℕ) → file ≡ file_head ++ frames → IsScannedTo frames rest → rest ≡ gate ∷ tail → is_open_gate gate ≡ false → IsSound file
read_sound file frames rest tail gate is there first shut = inr (frames, is, subst IsShut (sym (there.left ∙ first)) shut)

-- a file with another head is damaged
pub other_head : (file : List ℕ) → 20 < length file → ((rest : List ℕ) → file ≡ file_head ++ rest → ⊥) → IsSound file → ⊥
other_head file long other (inl le) = omega (arith, long, le)
other_head file long other (inr there) = other there.0 there.1

-- and one that was read up to no closed gate
pub no_gate : (file frames rest : List ℕ) → 20 < length file → file ≡ file_head ++ frames → IsScannedTo frames rest → (IsShut rest → ⊥) → IsSound file → ⊥
no_gate file frames rest long is there none (inl le) = omega (arith, long, le)
no_gate file frames rest long is there none (inr sound) =
    let same : sound.0 ≡ frames = sym (behind_head sound.0) ∙ ap (drop 19) (sym sound.1 ∙ is) ∙ behind_head frames in
    none (subst IsShut (ap (λ (l : List ℕ). (scan l).1) same ∙ there.left) sound.2)

-- a new file
pub created : (seen new first : List ℕ) (after : List ℕ → Type 0) → length seen ≤ 20 → Torn 0 (length first) seen new → Holds new 0 first → Only new after → first ≡ file_head ++ 0 ∷ []
    → IsJournalSettled new after 19 × (file_entries new ≡ [])
created seen new first after short torn holds only is =
    let long : length first ≡ 20 = omega (arith, ap length is, length-append file_head (0 ∷ []), length-head) in
    let none : drop (length first) new ≡ [] = drop_all (length first) new (omega (arith, short, long, torn.no_longer)) in
    let shape : new ≡ (file_head ++ []) ++ 0 ∷ [] =
    held new first 0 holds ∙ ap (λ (l : List ℕ). first ++ l) none ∙ append-nil first ∙ is ∙ ap (λ (l : List ℕ). l ++ 0 ∷ []) (sym (append-nil file_head)) in (
      on_disk new after 19 (ends_there new [] [] [] 0 19 shape bring_nothing zero_shut (sym length-head ∙ ap length (sym (append-nil file_head)))) only,
      entries_there new [] [] [] 0 shape bring_nothing zero_shut,
    )

pub none_shut : (rest : List ℕ) → length rest ≡ 0 → IsShut rest → ⊥
none_shut [] none shut = shut
none_shut (x ∷ rest) none shut = omega (arith, none)

pub open_shut : (rest tail : List ℕ) (gate : ℕ) → rest ≡ gate ∷ tail → is_open_gate gate ≡ true → IsShut rest → ⊥
open_shut rest tail gate is opened shut =
    let closed : is_open_gate gate ≡ false = subst IsShut is shut in
    differ (sym opened ∙ closed)
  where
    differ : true ≡ false → ⊥
    differ e = cc
