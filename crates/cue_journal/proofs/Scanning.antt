-- What the frames of a file bring.
use Rattle.std.proofs.Common.{◌≡◌, ℕ, zero, suc, ◌<◌, ◌≤◌, Bool, true, false, if◌then◌else◌, List, [], ◌∷◌, ◌++◌, length, take, drop, Option, Some, None, refl, sym, ◌∙◌, ap, subst, inl, inr, arith, append_assoc, length-append}
use Rattle.std.proofs.lemmas.List.{append-nil, length-take-le, take-append-drop}
use Rattle.std.proofs.lemmas.Bool.{cases_lt}
use Rattle.std.specs.Int.{w64, from_be_bytes}
use Rattle.std.specs.Str.{bytes_eq}
use Rattle.sha2.specs.Sha256.{sha256}
use Rattle.sha2.proofs.Facts256.{length-sha256}
use Rattle.cue_journal.specs.Blocks.{recovered_pieces, split_at}
use Rattle.cue_journal.specs.Frames.{is_open_gate, checksum, checked, summed, next_batch, with_batch, scan_up_to, scan, Bring}
use Rattle.cue_journal.proofs.Reading.{split_whole, split_short, split_there}

-- the value of a choice that is there
picked : (b : Bool) (x found : List ℕ × List ℕ) → (if b then Some x else None) ≡ Some found → (b ≡ true) × (x ≡ found)
picked true x found is = (refl, cc)
picked false x found is = absurd cc

chosen : (b : Bool) (o : Option (List ℕ × List ℕ)) (found : List ℕ × List ℕ) → (if b then o else None) ≡ Some found → (b ≡ true) × (o ≡ Some found)
chosen true o found is = (refl, is)
chosen false o found is = absurd cc

when_true : (b : Bool) (o : Option (List ℕ × List ℕ)) → b ≡ true → (if b then o else None) ≡ o
when_true b o is = ap (λ (v : Bool). if v then o else None) is

pub none_some : (found : List ℕ × List ℕ) → None ≡ Some found → ⊥
none_some found e = cc

-- a frame is read as its batch, whatever follows
pub frame_there : (gate a b c d e f g h : ℕ) (sum batch more : List ℕ) → is_open_gate gate ≡ true → length sum ≡ 8
    → from_be_bytes w64 (a ∷ b ∷ c ∷ d ∷ e ∷ f ∷ g ∷ h ∷ []) ≡ length batch → bytes_eq (checksum batch) sum ≡ true
    → next_batch (gate ∷ a ∷ b ∷ c ∷ d ∷ e ∷ f ∷ g ∷ h ∷ (sum ++ (batch ++ more))) ≡ Some (batch, more)
frame_there gate a b c d e f g h sum batch more opened eight size same =
    let n = from_be_bytes w64 (a ∷ b ∷ c ∷ d ∷ e ∷ f ∷ g ∷ h ∷ []) in
    when_true (is_open_gate gate) (summed n (split_at 8 (sum ++ (batch ++ more)))) opened
    ∙ ap (λ k. summed n (split_at k (sum ++ (batch ++ more)))) (sym eight)
    ∙ ap (summed n) (split_there sum (batch ++ more))
    ∙ ap (λ k. checked sum (split_at k (batch ++ more))) size
    ∙ ap (checked sum) (split_there batch more)
    ∙ when_true (bytes_eq (checksum batch) sum) (Some (batch, more)) same

-- the first frame, and what follows it
pub record IsFrame (file : List ℕ) (found : List ℕ × List ℕ) : Type 0 where
  pub head : List ℕ
  pub split : file ≡ head ++ found.1
  pub some : 0 < length head
  pub again : (more : List ℕ) → next_batch (head ++ more) ≡ Some (found.0, more)

pub framed : (gate a b c d e f g h : ℕ) (sum batch after : List ℕ) → is_open_gate gate ≡ true → length sum ≡ 8
    → from_be_bytes w64 (a ∷ b ∷ c ∷ d ∷ e ∷ f ∷ g ∷ h ∷ []) ≡ length batch → bytes_eq (checksum batch) sum ≡ true
    → IsFrame (gate ∷ a ∷ b ∷ c ∷ d ∷ e ∷ f ∷ g ∷ h ∷ (sum ++ (batch ++ after))) (batch, after)
framed gate a b c d e f g h sum batch after opened eight size same = record {
  head = gate ∷ a ∷ b ∷ c ∷ d ∷ e ∷ f ∷ g ∷ h ∷ (sum ++ batch);
  split = ap (λ (l : List ℕ). gate ∷ a ∷ b ∷ c ∷ d ∷ e ∷ f ∷ g ∷ h ∷ l) (sym (append_assoc sum batch after));
  some = omega arith;
  again = λ more.
      ap (λ (l : List ℕ). next_batch (gate ∷ a ∷ b ∷ c ∷ d ∷ e ∷ f ∷ g ∷ h ∷ l)) (append_assoc sum batch more)
      ∙ frame_there gate a b c d e f g h sum batch more opened eight size same;
}

in_checked : (gate a b c d e f g h : ℕ) (sum body : List ℕ) (found : List ℕ × List ℕ) → is_open_gate gate ≡ true → length sum ≡ 8
    → checked sum (split_at (from_be_bytes w64 (a ∷ b ∷ c ∷ d ∷ e ∷ f ∷ g ∷ h ∷ [])) body) ≡ Some found
    → IsFrame (gate ∷ a ∷ b ∷ c ∷ d ∷ e ∷ f ∷ g ∷ h ∷ (sum ++ body)) found
in_checked gate a b c d e f g h sum body found opened eight is = elim (cases_lt (length body) n) [
  | inl lt ↦ absurd (none_some found (ap (checked sum) (sym (split_short n body lt)) ∙ is))
  | inr ge ↦ whole ge (picked _ _ found (ap (checked sum) (sym (split_whole n body ge)) ∙ is))
]
  where
    n : ℕ
    n = from_be_bytes w64 (a ∷ b ∷ c ∷ d ∷ e ∷ f ∷ g ∷ h ∷ [])

    whole : n ≤ length body → (bytes_eq (checksum (take n body)) sum ≡ true) × ((take n body, drop n body) ≡ found) → IsFrame (gate ∷ a ∷ b ∷ c ∷ d ∷ e ∷ f ∷ g ∷ h ∷ (sum ++ body)) found
    whole ge there =
        subst (λ (p : List ℕ × List ℕ). IsFrame (gate ∷ a ∷ b ∷ c ∷ d ∷ e ∷ f ∷ g ∷ h ∷ (sum ++ body)) p) there.1
        (subst (λ (l : List ℕ). IsFrame (gate ∷ a ∷ b ∷ c ∷ d ∷ e ∷ f ∷ g ∷ h ∷ (sum ++ l)) (take n body, drop n body)) (take-append-drop n body)
        (framed gate a b c d e f g h sum (take n body) (drop n body) opened eight (sym (length-take-le n body ge)) there.0))

in_summed : (gate a b c d e f g h : ℕ) (rest : List ℕ) (found : List ℕ × List ℕ) → is_open_gate gate ≡ true
    → summed (from_be_bytes w64 (a ∷ b ∷ c ∷ d ∷ e ∷ f ∷ g ∷ h ∷ [])) (split_at 8 rest) ≡ Some found
    → IsFrame (gate ∷ a ∷ b ∷ c ∷ d ∷ e ∷ f ∷ g ∷ h ∷ rest) found
in_summed gate a b c d e f g h rest found opened is = elim (cases_lt (length rest) 8) [
  | inl lt ↦ absurd (none_some found (ap (summed n) (sym (split_short 8 rest lt)) ∙ is))
  | inr ge ↦
      subst (λ (l : List ℕ). IsFrame (gate ∷ a ∷ b ∷ c ∷ d ∷ e ∷ f ∷ g ∷ h ∷ l) found) (take-append-drop 8 rest)
      (in_checked gate a b c d e f g h (take 8 rest) (drop 8 rest) found opened (length-take-le 8 rest ge) (ap (summed n) (sym (split_whole 8 rest ge)) ∙ is))
]
  where
    n : ℕ
    n = from_be_bytes w64 (a ∷ b ∷ c ∷ d ∷ e ∷ f ∷ g ∷ h ∷ [])

pub is_frame : (file : List ℕ) (found : List ℕ × List ℕ) → next_batch file ≡ Some found → IsFrame file found
is_frame [] found is = absurd (none_some found is)
is_frame (gate ∷ []) found is = absurd (none_some found is)
is_frame (gate ∷ a ∷ []) found is = absurd (none_some found is)
is_frame (gate ∷ a ∷ b ∷ []) found is = absurd (none_some found is)
is_frame (gate ∷ a ∷ b ∷ c ∷ []) found is = absurd (none_some found is)
is_frame (gate ∷ a ∷ b ∷ c ∷ d ∷ []) found is = absurd (none_some found is)
is_frame (gate ∷ a ∷ b ∷ c ∷ d ∷ e ∷ []) found is = absurd (none_some found is)
is_frame (gate ∷ a ∷ b ∷ c ∷ d ∷ e ∷ f ∷ []) found is = absurd (none_some found is)
is_frame (gate ∷ a ∷ b ∷ c ∷ d ∷ e ∷ f ∷ g ∷ []) found is = absurd (none_some found is)
is_frame (gate ∷ a ∷ b ∷ c ∷ d ∷ e ∷ f ∷ g ∷ h ∷ rest) found is =
    let there = chosen (is_open_gate gate) (summed (from_be_bytes w64 (a ∷ b ∷ c ∷ d ∷ e ∷ f ∷ g ∷ h ∷ [])) (split_at 8 rest)) found is in
    in_summed gate a b c d e f g h rest found there.0 there.1

pub frame_shorter : (file : List ℕ) (found : List ℕ × List ℕ) → next_batch file ≡ Some found → length found.1 < length file
frame_shorter file found is =
    let there = is_frame file found is in
    omega (arith, ap length there.split, length-append there.head found.1, there.some)

-- with turns enough, more of them make no difference
batch_same : (f g : List ℕ → List (List ℕ) × List ℕ) (frames : List ℕ) (o : Option (List ℕ × List ℕ)) → ((found : List ℕ × List ℕ) → o ≡ Some found → f found.1 ≡ g found.1) → with_batch f frames o ≡ with_batch g frames o
batch_same f g frames None same = refl
batch_same f g frames (Some found) same = ap (λ (p : List (List ℕ) × List ℕ). (recovered_pieces found.0 ++ p.0, p.1)) (same found refl)

scan_turns : (m n : ℕ) (frames : List ℕ) → length frames ≤ m → length frames ≤ n → scan_up_to m frames ≡ scan_up_to n frames
scan_turns zero zero frames le ge = refl
scan_turns zero (suc n) [] le ge = refl
scan_turns zero (suc n) (x ∷ frames) le ge = absurd (omega arith)
scan_turns (suc m) zero [] le ge = refl
scan_turns (suc m) zero (x ∷ frames) le ge = absurd (omega arith)
scan_turns (suc m) (suc n) frames le ge =
    batch_same (scan_up_to m) (scan_up_to n) frames (next_batch frames)
    (λ found is. scan_turns m n found.1 (omega (arith, frame_shorter frames found is)) (omega (arith, frame_shorter frames found is)))

scan_turn : (frames : List ℕ) → scan frames ≡ with_batch (scan_up_to (length frames)) frames (next_batch frames)
unfolding scan
scan_turn frames = scan_turns (length frames) (suc (length frames)) frames (omega arith) (omega arith)

pub scan-next : (frames : List ℕ) (found : List ℕ × List ℕ) → next_batch frames ≡ Some found → scan frames ≡ (recovered_pieces found.0 ++ (scan found.1).0, (scan found.1).1)
unfolding scan
scan-next frames found is =
    scan_turn frames
    ∙ ap (with_batch (scan_up_to (length frames)) frames) is
    ∙ ap (λ (p : List (List ℕ) × List ℕ). (recovered_pieces found.0 ++ p.0, p.1)) (scan_turns (length frames) (length found.1) found.1 (omega (arith, frame_shorter frames found is)) (omega arith))

pub scan-none : (frames : List ℕ) → next_batch frames ≡ None → scan frames ≡ ([], frames)
unfolding scan
scan-none frames is = scan_turn frames ∙ ap (with_batch (scan_up_to (length frames)) frames) is

pub next-shut : (gate : ℕ) (rest : List ℕ) → is_open_gate gate ≡ false → next_batch (gate ∷ rest) ≡ None
next-shut gate [] shut = refl
next-shut gate (a ∷ []) shut = refl
next-shut gate (a ∷ b ∷ []) shut = refl
next-shut gate (a ∷ b ∷ c ∷ []) shut = refl
next-shut gate (a ∷ b ∷ c ∷ d ∷ []) shut = refl
next-shut gate (a ∷ b ∷ c ∷ d ∷ e ∷ []) shut = refl
next-shut gate (a ∷ b ∷ c ∷ d ∷ e ∷ f ∷ []) shut = refl
next-shut gate (a ∷ b ∷ c ∷ d ∷ e ∷ f ∷ g ∷ []) shut = refl
next-shut gate (a ∷ b ∷ c ∷ d ∷ e ∷ f ∷ g ∷ h ∷ rest) shut =
    ap (λ (v : Bool). if v then summed (from_be_bytes w64 (a ∷ b ∷ c ∷ d ∷ e ∷ f ∷ g ∷ h ∷ [])) (split_at 8 rest) else None) shut

-- an open gate is as good as another
pub next-gates : (gate other : ℕ) (rest : List ℕ) → is_open_gate gate ≡ is_open_gate other → next_batch (gate ∷ rest) ≡ next_batch (other ∷ rest)
next-gates gate other [] same = refl
next-gates gate other (a ∷ []) same = refl
next-gates gate other (a ∷ b ∷ []) same = refl
next-gates gate other (a ∷ b ∷ c ∷ []) same = refl
next-gates gate other (a ∷ b ∷ c ∷ d ∷ []) same = refl
next-gates gate other (a ∷ b ∷ c ∷ d ∷ e ∷ []) same = refl
next-gates gate other (a ∷ b ∷ c ∷ d ∷ e ∷ f ∷ []) same = refl
next-gates gate other (a ∷ b ∷ c ∷ d ∷ e ∷ f ∷ g ∷ []) same = refl
next-gates gate other (a ∷ b ∷ c ∷ d ∷ e ∷ f ∷ g ∷ h ∷ rest) same =
    ap (λ (v : Bool). if v then summed (from_be_bytes w64 (a ∷ b ∷ c ∷ d ∷ e ∷ f ∷ g ∷ h ∷ [])) (split_at 8 rest) else None) same

pub scan-shut : (gate : ℕ) (rest : List ℕ) → is_open_gate gate ≡ false → scan (gate ∷ rest) ≡ ([], gate ∷ rest)
scan-shut gate rest shut = scan-none (gate ∷ rest) (next-shut gate rest shut)

-- bytes that bring entries

pub bring_nothing : Bring [] []
bring_nothing rest = refl

pub bring_more : (x y : List ℕ) (ps qs : List (List ℕ)) → Bring x ps → Bring y qs → Bring (x ++ y) (ps ++ qs)
bring_more x y ps qs first second rest =
    ap scan (append_assoc x y rest)
    ∙ first (y ++ rest)
    ∙ ap (λ (p : List (List ℕ) × List ℕ). (ps ++ p.0, p.1)) (second rest)
    ∙ ap (λ (l : List (List ℕ)). (l, (scan rest).1)) (sym (append_assoc ps qs (scan rest).0))

pub bring_shut : (x : List ℕ) (ps : List (List ℕ)) (gate : ℕ) (rest : List ℕ) → Bring x ps → is_open_gate gate ≡ false → scan (x ++ gate ∷ rest) ≡ (ps, gate ∷ rest)
bring_shut x ps gate rest bring shut =
    bring (gate ∷ rest)
    ∙ ap (λ (p : List (List ℕ) × List ℕ). (ps ++ p.0, p.1)) (scan-shut gate rest shut)
    ∙ ap (λ (l : List (List ℕ)). (l, gate ∷ rest)) (append-nil ps)

pub bring_frame : (file : List ℕ) (found : List ℕ × List ℕ) → (there : IsFrame file found) → Bring there.head (recovered_pieces found.0)
bring_frame file found there rest = scan-next (there.head ++ rest) (found.0, rest) (there.again rest)

pub length-checksum : (batch : List ℕ) → length (checksum batch) ≡ 8
unfolding checksum
length-checksum batch = length-take-le 8 (sha256 batch) (omega (arith, length-sha256 batch))
