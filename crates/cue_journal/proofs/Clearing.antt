-- What a crash leaves of a journal whose first gate is closed.
use Rattle.std.proofs.Common.{◌≡◌, ℕ, ◌<◌, ◌≤◌, List, [], ◌∷◌, ◌++◌, length, get_or, refl, sym, ◌∙◌, ap, subst, arith, length-append, append-nil, append_assoc}
use Rattle.sqlite_disk.specs.Disk.{Holds, Torn, Follows, Only}
use Rattle.cue_journal.specs.Frames.{file_head, file_entries, scan, Bring, IsSound}
use Rattle.cue_journal.specs.Settled.{IsJournalSettled, IsKeptOrCleared}
use Rattle.cue_journal.proofs.Scanning.{bring_nothing, scan-none}
use Rattle.cue_journal.proofs.Files.{length-head, kept_or_cleared, entries_there, ends_there, zero_shut, on_disk, settled_left, entries_left}
use Rattle.cue_journal.proofs.Torn.{torn_gate}

-- a file with frames, of which the first gate alone may be another
regated : (seen : List ℕ) (may : List ℕ → Type 0) (end : ℕ) (c frames : List ℕ) → (s : IsJournalSettled seen may end) → frames ≡ s.ends.frames → 19 < end → Torn 19 1 seen c
    → (gate : ℕ) × (tail : List ℕ) × (frames ≡ gate ∷ tail) × (c ≡ file_head ++ get_or c 19 0 ∷ (tail ++ s.ends.gate ∷ s.ends.junk))
regated seen may end c [] s is some torn = absurd (omega (arith, some, s.ends.size, length-append file_head s.ends.frames, length-head, ap length is))
regated seen may end c (g ∷ tail) s is some torn =
    let behind = tail ++ s.ends.gate ∷ s.ends.junk in
    let shape : seen ≡ file_head ++ g ∷ behind = s.ends.split ∙ ap (λ (l : List ℕ). (file_head ++ l) ++ s.ends.gate ∷ s.ends.junk) (sym is) ∙ append_assoc file_head (g ∷ tail) (s.ends.gate ∷ s.ends.junk) in
    let at : Torn (length file_head) 1 (file_head ++ g ∷ behind) c = subst (λ n. Torn n 1 (file_head ++ g ∷ behind) c) (sym length-head) (subst (λ f. Torn 19 1 f c) shape torn) in
    (g, tail, refl, torn_gate file_head behind c g at ∙ ap (λ n. file_head ++ get_or c n 0 ∷ behind) length-head)

clear_left : (seen : List ℕ) (may : List ℕ → Type 0) (end : ℕ) (c : List ℕ) → IsJournalSettled seen may end → 19 < end → Torn 19 1 seen c → IsKeptOrCleared (file_entries seen) c × IsSound c
clear_left seen may end c s some torn =
    let there = regated seen may end c s.ends.frames s refl some torn in
    kept_or_cleared c there.1 s.ends.junk there.0 s.ends.gate (get_or c 19 0) (file_entries seen) (subst (λ (l : List ℕ). Bring l (file_entries seen)) there.2 s.ends.bring) s.ends.shut there.3

pub clear_crash : (seen : List ℕ) (may after : List ℕ → Type 0) (end : ℕ) → IsJournalSettled seen may end → 19 < end → Follows (Torn 19 1) may after → (c : List ℕ) → after c → IsKeptOrCleared (file_entries seen) c × IsSound c
clear_crash seen may after end s some follows c left =
    let from = follows c left in
    let there = clear_left from.0 (λ d. d ≡ from.0) end c (settled_left seen may end s from.0 from.1) some from.2 in
    (subst (λ (l : List (List ℕ)). IsKeptOrCleared l c) (entries_left seen may end s from.0 from.1) there.0, there.1)

pub clear_ok : (seen new : List ℕ) (may after : List ℕ → Type 0) (end : ℕ) → IsJournalSettled seen may end → 19 < end → Torn 19 1 seen new → Holds new 19 (0 ∷ []) → Only new after → IsJournalSettled new after 19 × (file_entries new ≡ [])
clear_ok seen new may after end s some torn holds only =
    let there = regated seen may end new s.ends.frames s refl some torn in
    let behind = there.1 ++ s.ends.gate ∷ s.ends.junk in
    let zero_first : get_or new 19 0 ≡ 0 = holds.each 0 (omega arith) in
    let is : new ≡ (file_head ++ []) ++ 0 ∷ behind = there.3 ∙ ap (λ n. file_head ++ n ∷ behind) zero_first ∙ ap (λ (l : List ℕ). l ++ 0 ∷ behind) (sym (append-nil file_head)) in (
      on_disk new after 19 (ends_there new [] behind [] 0 19 is bring_nothing zero_shut (sym length-head ∙ ap length (sym (append-nil file_head)))) only,
      entries_there new [] behind [] 0 is bring_nothing zero_shut,
    )

-- a settled file with no frame
pub nothing_counts : (seen : List ℕ) (may : List ℕ → Type 0) (end : ℕ) → IsJournalSettled seen may end → end ≤ 19 → file_entries seen ≡ []
nothing_counts seen may end s le = none s.ends.frames (file_entries seen) (omega (arith, le, s.ends.size, length-append file_head s.ends.frames, length-head)) s.ends.bring
  where
    none : (frames : List ℕ) (ps : List (List ℕ)) → length frames ≡ 0 → Bring frames ps → ps ≡ []
    none [] ps size bring =
        let z : (scan []).0 ≡ [] = ap (λ (p : List (List ℕ) × List ℕ). p.0) (scan-none [] refl) in
        sym (append-nil ps) ∙ ap (λ (l : List (List ℕ)). ps ++ l) (sym z) ∙ sym (ap (λ (p : List (List ℕ) × List ℕ). p.0) (bring [])) ∙ z
    none (x ∷ frames) ps size bring = absurd (omega (arith, size))
