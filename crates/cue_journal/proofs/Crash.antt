-- What a crash leaves in each of the two steps of a commit.
use Rattle.std.proofs.Common.{◌≡◌, ℕ, ◌+◌, ◌<◌, ◌^◌, ◌≤◌, List, [], ◌∷◌, ◌++◌, length, drop, get_or, sym, ◌∙◌, ap, subst, arith}
use Rattle.sqlite_disk.specs.Disk.{Holds, Torn, Cut, Follows, Only}
use Rattle.cue_journal.specs.Blocks.{recovered_pieces}
use Rattle.cue_journal.specs.Frames.{file_head, file_entries, sealed, Bring, IsSound}
use Rattle.cue_journal.specs.Settled.{IsJournalSettled, IsStaged, IsBeforeOrAfter}
use Rattle.cue_journal.proofs.Files.{entries_there, sound_there, ends_there, added, before_or_after, zero_shut, full_open, on_disk, settled_left, entries_left}
use Rattle.cue_journal.proofs.Torn.{torn_behind, cut_behind, written_behind, torn_gate}

-- the front of a settled file
abbrev pub front_of : {seen : List ℕ} {may : List ℕ → Type 0} {end : ℕ} → IsJournalSettled seen may end → List ℕ
front_of s = file_head ++ s.ends.frames

moved : (seen : List ℕ) (may : List ℕ → Type 0) (end n : ℕ) (c : List ℕ) → (s : IsJournalSettled seen may end) → Torn (end + 1) n seen c
    → Torn (length (file_head ++ s.ends.frames) + 1) n ((file_head ++ s.ends.frames) ++ s.ends.gate ∷ s.ends.junk) c
moved seen may end n c s torn =
    subst (λ e. Torn (e + 1) n ((file_head ++ s.ends.frames) ++ s.ends.gate ∷ s.ends.junk) c) s.ends.size (subst (λ f. Torn (end + 1) n f c) s.ends.split torn)

-- what stands behind the gate doesn't count
torn_shape : (seen c : List ℕ) (may : List ℕ → Type 0) (end n : ℕ) → (s : IsJournalSettled seen may end) → Torn (end + 1) n seen c
    → c ≡ (file_head ++ s.ends.frames) ++ s.ends.gate ∷ drop (length (file_head ++ s.ends.frames) + 1) c
torn_shape seen c may end n s torn = torn_behind (file_head ++ s.ends.frames) s.ends.junk c s.ends.gate n (moved seen may end n c s torn)

behind_shut : (seen c rest : List ℕ) (may : List ℕ → Type 0) (end : ℕ) → (s : IsJournalSettled seen may end) → c ≡ (file_head ++ s.ends.frames) ++ s.ends.gate ∷ rest
    → (file_entries c ≡ file_entries seen) × IsSound c
behind_shut seen c rest may end s is =
    (entries_there c s.ends.frames rest (file_entries seen) s.ends.gate is s.ends.bring s.ends.shut, sound_there c s.ends.frames rest (file_entries seen) s.ends.gate is s.ends.bring s.ends.shut)

pub stage_crash : (seen : List ℕ) (may after : List ℕ → Type 0) (end n : ℕ) → IsJournalSettled seen may end → Follows (Torn (end + 1) n) may after → (c : List ℕ) → after c
    → (file_entries c ≡ file_entries seen) × IsSound c
stage_crash seen may after end n s follows c left =
    let from = follows c left in
    let there = settled_left seen may end s from.0 from.1 in
    let same = entries_left seen may end s from.0 from.1 in
    let shut = behind_shut from.0 c _ (λ d. d ≡ from.0) end there (torn_shape from.0 c (λ d. d ≡ from.0) end n there from.2) in
    (shut.0 ∙ same, shut.1)

pub stage_ok : (seen new : List ℕ) (may after : List ℕ → Type 0) (end : ℕ) (bytes : List ℕ) → (s : IsJournalSettled seen may end) → Torn (end + 1) (length bytes) seen new → Holds new (end + 1) bytes → Only new after
    → IsStaged new after end (file_head ++ s.ends.frames) bytes
stage_ok seen new may after end bytes s torn holds only =
    let front = file_head ++ s.ends.frames in
    let there : Holds new (length front + 1) bytes = subst (λ e. Holds new (e + 1) bytes) s.ends.size holds in
    record {
      gate = s.ends.gate;
      junk = drop (length bytes) (drop (length front + 1) new);
      file = written_behind front s.ends.junk bytes new s.ends.gate (moved seen may end (length bytes) new s torn) there;
      shut = s.ends.shut;
      size = s.ends.size;
      durable = only;
    }

-- the gate alone may be torn
pub gate_torn : (seen : List ℕ) (may : List ℕ → Type 0) (end : ℕ) (front bytes c : List ℕ) → (s : IsStaged seen may end front bytes) → Torn end 1 seen c → c ≡ front ++ get_or c (length front) 0 ∷ (bytes ++ s.junk)
gate_torn seen may end front bytes c s torn =
    torn_gate front (bytes ++ s.junk) c s.gate (subst (λ e. Torn e 1 (front ++ s.gate ∷ (bytes ++ s.junk)) c) s.size (subst (λ f. Torn end 1 f c) s.file torn))

pub gate_crash : (seen : List ℕ) (may after : List ℕ → Type 0) (end : ℕ) (front bytes : List ℕ) → (s : IsStaged seen may end front bytes) → Follows (Torn end 1) may after → (c : List ℕ) → after c → (gate : ℕ) × (c ≡ front ++ gate ∷ (bytes ++ s.junk))
gate_crash seen may after end front bytes s follows c left =
    let from = follows c left in
    (get_or c (length front) 0, gate_torn seen may end front bytes c s (subst (λ f. Torn end 1 f c) (s.durable from.0 from.1) from.2))

pub gate_ok : (seen new : List ℕ) (may : List ℕ → Type 0) (end : ℕ) (front bytes : List ℕ) → (s : IsStaged seen may end front bytes) → Torn end 1 seen new → Holds new end (255 ∷ []) → new ≡ front ++ 255 ∷ (bytes ++ s.junk)
gate_ok seen new may end front bytes s torn holds =
    let one : get_or new (length front) 0 ≡ 255 = ap (λ i. get_or new i 0) (sym s.size) ∙ ap (λ i. get_or new i 0) (zero_more end) ∙ holds.each 0 (omega arith) in
    gate_torn seen may end front bytes new s torn ∙ ap (λ g. front ++ g ∷ (bytes ++ s.junk)) one
  where
    zero_more : (e : ℕ) → e ≡ e + 0
    zero_more e = omega arith

-- whatever the gate is, the batch counts whole or not at all
pub gate_left : (seen c : List ℕ) (may : List ℕ → Type 0) (end : ℕ) (batch junk : List ℕ) (gate : ℕ) → (s : IsJournalSettled seen may end) → length batch < 2 ^ 64
    → c ≡ (file_head ++ s.ends.frames) ++ gate ∷ (sealed batch ++ junk) → IsBeforeOrAfter (file_entries seen) (recovered_pieces batch) c × IsSound c
gate_left seen c may end batch junk gate s fits is = before_or_after c s.ends.frames batch junk (file_entries seen) gate s.ends.bring fits is

-- the file after a commit
pub committed : (seen new : List ℕ) (may after : List ℕ → Type 0) (batch junk : List ℕ) (end : ℕ) → (s : IsJournalSettled seen may end) → length batch < 2 ^ 64
    → new ≡ (file_head ++ s.ends.frames) ++ 255 ∷ (sealed batch ++ junk) → Only new after
    → IsJournalSettled new after (end + (length batch + 17)) × (file_entries new ≡ file_entries seen ++ recovered_pieces batch)
committed seen new may after batch junk end s fits is only =
    let there = added new s.ends.frames batch junk (file_entries seen) 255 s.ends.bring fits full_open is in (
      on_disk new after (end + (length batch + 17))
          (ends_there new there.more there.junk (file_entries seen ++ recovered_pieces batch) 0 (end + (length batch + 17)) there.split there.bring zero_shut (ap (λ n. n + (length batch + 17)) s.ends.size ∙ sym there.size))
          only,
      entries_there new there.more there.junk (file_entries seen ++ recovered_pieces batch) 0 there.split there.bring zero_shut,
    )

settled_behind : (seen new rest : List ℕ) (may after : List ℕ → Type 0) (end : ℕ) → (s : IsJournalSettled seen may end) → new ≡ (file_head ++ s.ends.frames) ++ s.ends.gate ∷ rest → Only new after
    → IsJournalSettled new after end × (file_entries new ≡ file_entries seen)
settled_behind seen new rest may after end s is only = (
  on_disk new after end (ends_there new s.ends.frames rest (file_entries seen) s.ends.gate end is s.ends.bring s.ends.shut s.ends.size) only,
  (behind_shut seen new rest may end s is).0,
)

cut_shape : (seen mid new : List ℕ) (may : List ℕ → Type 0) (end n : ℕ) → (s : IsJournalSettled seen may end) → Torn (end + 1) n seen mid → Cut (end + 1) mid new
    → new ≡ (file_head ++ s.ends.frames) ++ s.ends.gate ∷ drop (length (file_head ++ s.ends.frames) + 1) new
cut_shape seen mid new may end n s torn cut =
    let front = file_head ++ s.ends.frames in
    let shape = torn_shape seen mid may end n s torn in
    cut_behind front (drop (length front + 1) mid) new s.ends.gate (end + 1) (omega (arith, s.ends.size)) (subst (λ f. Cut (end + 1) f new) shape cut)

-- bytes behind the gate that don't count
pub filled : (seen new : List ℕ) (may after : List ℕ → Type 0) (end n : ℕ) → (s : IsJournalSettled seen may end) → Torn (end + 1) n seen new → Only new after
    → IsJournalSettled new after end × (file_entries new ≡ file_entries seen)
filled seen new may after end n s torn only = settled_behind seen new _ may after end s (torn_shape seen new may end n s torn) only

-- and are cut off again
pub cut_off : (seen mid new : List ℕ) (may after : List ℕ → Type 0) (end n : ℕ) → (s : IsJournalSettled seen may end) → Torn (end + 1) n seen mid → Cut (end + 1) mid new → Only new after
    → IsJournalSettled new after end × (file_entries new ≡ file_entries seen)
cut_off seen mid new may after end n s torn cut only = settled_behind seen new _ may after end s (cut_shape seen mid new may end n s torn cut) only

pub cut_crash : (seen : List ℕ) (may between after : List ℕ → Type 0) (end n : ℕ) → IsJournalSettled seen may end → Follows (Torn (end + 1) n) may between → Follows (Cut (end + 1)) between after
    → (c : List ℕ) → after c → (file_entries c ≡ file_entries seen) × IsSound c
cut_crash seen may between after end n s torn cut c left =
    let from = cut c left in
    let first = torn from.0 from.1 in
    let there = settled_left seen may end s first.0 first.1 in
    let same = entries_left seen may end s first.0 first.1 in
    let shut = behind_shut first.0 c _ (λ d. d ≡ first.0) end there (cut_shape first.0 from.0 c (λ d. d ≡ first.0) end n there first.2 from.2) in
    (shut.0 ∙ same, shut.1)

-- what is written behind the gate, and does not have to reach the disk
pub left_behind : (seen new : List ℕ) (may after : List ℕ → Type 0) (end n : ℕ) → IsJournalSettled seen may end → Torn (end + 1) n seen new → Follows (Torn (end + 1) n) may after
    → IsJournalSettled new after end × (file_entries new ≡ file_entries seen)
left_behind seen new may after end n s torn follows =
    let front = file_head ++ s.ends.frames in
    let shape = torn_shape seen new may end n s torn in
    let same : file_entries new ≡ file_entries seen = (behind_shut seen new _ may end s shape).0 in (
      record {
        ends = record { frames = s.ends.frames; gate = s.ends.gate; junk = drop (length front + 1) new; split = shape; shut = s.ends.shut; size = s.ends.size; bring = subst (Bring s.ends.frames) (sym same) s.ends.bring };
        durable = λ c left.
            let from = follows c left in
            let there = s.durable from.0 from.1 in
            let at : Torn (length front + 1) n (front ++ s.ends.gate ∷ there.0) c = subst (λ e. Torn (e + 1) n (front ++ s.ends.gate ∷ there.0) c) s.ends.size (subst (λ f. Torn (end + 1) n f c) there.1 from.2) in
            (drop (length front + 1) c, torn_behind front there.0 c s.ends.gate n at);
      },
      same,
    )

-- and what is cut behind it
pub left_cut : (seen new : List ℕ) (may after : List ℕ → Type 0) (end n : ℕ) → IsJournalSettled seen may end → end + 1 ≤ n → Cut n seen new → Follows (Cut n) may after
    → IsJournalSettled new after end × (file_entries new ≡ file_entries seen)
left_cut seen new may after end n s le cut follows =
    let front = file_head ++ s.ends.frames in
    let low : length front + 1 ≤ n = omega (arith, s.ends.size, le) in
    let shape = cut_behind front s.ends.junk new s.ends.gate n low (subst (λ f. Cut n f new) s.ends.split cut) in
    let same : file_entries new ≡ file_entries seen = (behind_shut seen new _ may end s shape).0 in (
      record {
        ends = record { frames = s.ends.frames; gate = s.ends.gate; junk = drop (length front + 1) new; split = shape; shut = s.ends.shut; size = s.ends.size; bring = subst (Bring s.ends.frames) (sym same) s.ends.bring };
        durable = λ c left.
            let from = follows c left in
            let there = s.durable from.0 from.1 in
            (drop (length front + 1) c, cut_behind front there.0 c s.ends.gate n low (subst (λ f. Cut n f c) there.1 from.2));
      },
      same,
    )
