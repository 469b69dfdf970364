-- Pieces that are listed.
use Rattle.std.proofs.Common.{◌≡◌, ℕ, zero, suc, ◌+◌, ◌-◌, ◌≤◌, List, [], ◌∷◌, ◌++◌, length, drop, map, refl, sym, ap, ◌∙◌, arith, length-append, length-drop}
use Rattle.std.proofs.lemmas.List.{map_push, drop-append-le, length-map}
use Rattle.cue_lattice.specs.World.{Piece}
use Rattle.cue_journal.specs.Listed.{Listed, GivesUp, KeepsPieces, behind_of}
use Rattle.cue_journal.specs.Lists.{blocks}
use Rattle.cue_journal.specs.Blocks.{recovered_pieces}
use Rattle.cue_service.specs.Entries.{entry_of}
use Rattle.cue_service.specs.Listing.{AreListed, with_entry}

none_dropped : {X : Type 0} (k : ℕ) → drop {A = X} k [] ≡ []
none_dropped zero = refl
none_dropped (suc k) = refl

zero_and : (k : ℕ) → k ≡ 0 + k
zero_and k = omega arith

one_more : (i j : ℕ) → suc (i + j) ≡ suc i + j
one_more i j = omega arith

drop_more : {X : Type 0} (m n : ℕ) (xs : List X) → drop m (drop n xs) ≡ drop (n + m) xs
drop_more m zero xs = ap (λ k. drop k xs) (zero_and m)
drop_more m (suc n) [] = none_dropped m ∙ sym (none_dropped (suc n + m))
drop_more m (suc n) (x ∷ xs) = drop_more m n xs ∙ ap (λ k. drop k (x ∷ xs)) (one_more n m)

-- one piece more, and then some of the oldest are given up
pub listed_more : (old mid new : Listed) (piece : Piece) → mid ≡ with_entry old (entry_of piece) → GivesUp mid new
    → (accepted : List Piece) → AreListed accepted old → AreListed (accepted ++ piece ∷ []) new
listed_more old mid new piece is gives accepted listed =
    let entry = entry_of piece in
    let entries = map entry_of accepted in
    let all : map entry_of (accepted ++ piece ∷ []) ≡ entries ++ entry ∷ [] = map_push entry_of accepted piece in
    let mid_kept : mid.kept ≡ old.kept ++ entry ∷ [] = ap (λ (l : Listed). l.kept) is in
    let mid_count : mid.given_up ≡ old.given_up = ap (λ (l : Listed). l.given_up) is in
    let new_kept : new.kept ≡ drop gives.0 mid.kept = ap (λ (l : Listed). l.kept) gives.2 in
    let new_count : new.given_up ≡ old.given_up + gives.0 = ap (λ (l : Listed). l.given_up) gives.2 ∙ ap (λ n. n + gives.0) mid_count in
    let kept : new.kept ≡ drop new.given_up (entries ++ entry ∷ []) =
    new_kept ∙ ap (drop gives.0) mid_kept ∙ ap (λ (l : List (List ℕ)). drop gives.0 (l ++ entry ∷ [])) listed.kept
    ∙ ap (drop gives.0) (sym (drop-append-le old.given_up entries (entry ∷ []) listed.within))
    ∙ drop_more gives.0 old.given_up (entries ++ entry ∷ []) ∙ ap (λ n. drop n (entries ++ entry ∷ [])) (sym new_count) in
    record {
      within = omega (arith, new_count, gives.1, listed.within, ap length mid_kept, length-append old.kept (entry ∷ []), ap length listed.kept, length-drop old.given_up entries, ap length all, length-append entries (entry ∷ []));
      kept = kept ∙ ap (drop new.given_up) (sym all);
    }

-- some of the oldest are given up
pub listed_less : (old new : Listed) → GivesUp old new → (accepted : List Piece) → AreListed accepted old → AreListed accepted new
listed_less old new gives accepted listed =
    let entries = map entry_of accepted in
    let new_kept : new.kept ≡ drop gives.0 old.kept = ap (λ (l : Listed). l.kept) gives.2 in
    let new_count : new.given_up ≡ old.given_up + gives.0 = ap (λ (l : Listed). l.given_up) gives.2 in
    record {
      within = omega (arith, new_count, gives.1, listed.within, ap length listed.kept, length-drop old.given_up entries);
      kept = new_kept ∙ ap (drop gives.0) listed.kept ∙ drop_more gives.0 old.given_up entries ∙ ap (λ n. drop n entries) (sym new_count);
    }

pub same_run_more : (old mid new : Listed) (entry : List ℕ) → mid ≡ with_entry old entry → GivesUp mid new → new.run ≡ old.run
same_run_more old mid new entry is gives = ap (λ (l : Listed). l.run) gives.2 ∙ ap (λ (l : Listed). l.run) is

-- one that was listed is taken back
pub taken_back : (old mid new : Listed) (entry : List ℕ) → mid ≡ with_entry old entry
    → ((entries : List (List ℕ)) (last : List ℕ) → mid.kept ≡ entries ++ last ∷ [] → new ≡ record { run = mid.run; given_up = mid.given_up; kept = entries }) → new ≡ old
taken_back old mid new entry is back =
    back old.kept entry (ap (λ (l : Listed). l.kept) is)
    ∙ same (ap (λ (l : Listed). l.run) is) (ap (λ (l : Listed). l.given_up) is)
  where
    same : {run given_up : ℕ} → run ≡ old.run → given_up ≡ old.given_up → ◌≡◌ {A = Listed} (record { run = run; given_up = given_up; kept = old.kept }) old
    same a b = rw (a, b) refl

dropped : (n : ℕ) (pieces : List Piece) → drop n (map entry_of pieces) ≡ map entry_of (drop n pieces)
dropped zero pieces = refl
dropped (suc n) [] = refl
dropped (suc n) (piece ∷ pieces) = dropped n pieces

-- what is told are the pieces behind the first so many
pub behind_is : (pieces : Listed) (count : ℕ) (accepted : List Piece) → KeepsPieces pieces pieces.run count → AreListed accepted pieces
    → (count ≤ length accepted) × (behind_of pieces count ≡ map entry_of (drop count accepted))
behind_is pieces count accepted keeps listed =
    let entries = map entry_of accepted in
    let place : pieces.given_up + (count - pieces.given_up) ≡ count = omega (arith, keeps.not_given_up) in (
      omega (arith, keeps.within, listed.within, ap length listed.kept, length-drop pieces.given_up entries, length-map accepted entry_of),
      ap (drop (count - pieces.given_up)) listed.kept ∙ drop_more (count - pieces.given_up) pieces.given_up entries ∙ ap (λ n. drop n entries) place ∙ dropped count accepted,
    )

pub told : (pieces : Listed) (count : ℕ) (body : List ℕ) → KeepsPieces pieces pieces.run count → body ≡ blocks (behind_of pieces count) → recovered_pieces body ≡ behind_of pieces count
    → (accepted : List Piece) → AreListed accepted pieces → (count ≤ length accepted)
    × (body ≡ blocks (map entry_of (drop count accepted))) × (recovered_pieces body ≡ map entry_of (drop count accepted))
told pieces count body keeps written read accepted listed =
    let is = behind_is pieces count accepted keeps listed in
    (is.0, written ∙ ap blocks is.1, read ∙ is.1)
