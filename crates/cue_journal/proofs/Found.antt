-- Entries of frames, wherever they stand in a file.
use Rattle.std.proofs.Common.{◌≡◌, ℕ, List, [], ◌∷◌, ◌++◌, drop, All, Some, Result, Ok, Err, IfOk, OnOk, refl, sym, ◌∙◌, ap, subst, append_assoc}
use Rattle.std.proofs.lemmas.List.{take-append-drop}
use Rattle.std.proofs.lemmas.List.Elements.{All-append, All-nil, Contains-get_or}
use Rattle.std.specs.Prelude.{take}
use Rattle.cue_journal.specs.Blocks.{recovered_pieces}
use Rattle.cue_journal.specs.Found.{IsInFrame}
use Rattle.cue_journal.specs.Frames.{next_batch, IsScannedTo}
use Rattle.cue_journal.proofs.Scanning.{is_frame}

-- the file up to a place was looked at
pub record IsLooking (file rest : List ℕ) (entries : List (List ℕ)) : Type 0 where
  pub front : List ℕ
  pub split : file ≡ front ++ rest
  pub each : All (IsInFrame file) entries

pub look_nothing : (file : List ℕ) → IsLooking file file []
look_nothing file = record { front = []; split = refl; each = All-nil (IsInFrame file) }

pub nothing_found : (file : List ℕ) (entries : List (List ℕ)) → entries ≡ [] → All (IsInFrame file) entries
nothing_found file entries none = subst (All (IsInFrame file)) (sym none) (All-nil (IsInFrame file))

-- what follows of a fact about a result
pub if_ok_more : {X E : Type 0} {P Q : X → Type 0} (r : Result X E) → IfOk r P → ((x : X) → P x → Q x) → IfOk r Q
if_ok_more (Ok x) p more = more x p
if_ok_more (Err e) p more = tt

pub on_ok_more : {X E P Q : Type 0} (r : Result X E) → OnOk r P → (P → Q) → OnOk r Q
on_ok_more (Ok x) p more = more p
on_ok_more (Err e) p more = tt

in_batch : (file front rest : List ℕ) (found : List ℕ × List ℕ) → file ≡ front ++ rest → next_batch rest ≡ Some found → All (IsInFrame file) (recovered_pieces found.0)
in_batch file front rest found split is = λ k d lt. record {
  front = front;
  rest = rest;
  batch = found.0;
  behind = found.1;
  split = split;
  frame = is;
  has = Contains-get_or (recovered_pieces found.0) k d lt;
}

pub look_frame : (file rest : List ℕ) (entries : List (List ℕ)) (found : List ℕ × List ℕ) → IsLooking file rest entries → next_batch rest ≡ Some found → IsLooking file found.1 (entries ++ recovered_pieces found.0)
look_frame file rest entries found so_far is =
    let there = is_frame rest found is in
    record {
      front = so_far.front ++ there.head;
      split = so_far.split ∙ ap (λ (l : List ℕ). so_far.front ++ l) there.split ∙ sym (append_assoc so_far.front there.head found.1);
      each = All-append (IsInFrame file) entries (recovered_pieces found.0) so_far.each (in_batch file so_far.front rest found so_far.split is);
    }

pub look_on : (file rest next : List ℕ) (first : ℕ) (entries : List (List ℕ)) → IsLooking file rest entries → rest ≡ first ∷ next → IsLooking file next entries
look_on file rest next first entries so_far is = record {
  front = so_far.front ++ first ∷ [];
  split = so_far.split ∙ ap (λ (l : List ℕ). so_far.front ++ l) is ∙ sym (append_assoc so_far.front (first ∷ []) next);
  each = so_far.each;
}

farther : (file frames rest front entry : List ℕ) → file ≡ front ++ rest → IsInFrame rest entry → IsInFrame file entry
farther file frames rest front entry split there = record {
  front = front ++ there.front;
  rest = there.rest;
  batch = there.batch;
  behind = there.behind;
  split = split ∙ ap (λ (l : List ℕ). front ++ l) there.split ∙ sym (append_assoc front there.front there.rest);
  frame = there.frame;
  has = there.has;
}

-- of what stands behind the frames that count
pub in_file : (file frames rest : List ℕ) (entries : List (List ℕ)) → frames ≡ drop 19 file → IsScannedTo frames rest → All (IsInFrame rest) entries → All (IsInFrame file) entries
in_file file frames rest entries is there each =
    let split : file ≡ (take 19 file ++ there.front) ++ rest =
    sym (take-append-drop 19 file) ∙ ap (λ (l : List ℕ). take 19 file ++ l) (sym is ∙ there.split) ∙ sym (append_assoc (take 19 file) there.front rest) in
    λ k d lt. farther file frames rest (take 19 file ++ there.front) _ split (each k d lt)
