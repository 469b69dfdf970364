-- What files of blocks stand for.
use Rattle.std.proofs.Common.{◌≡◌, ◌≢◌, ℕ, zero, suc, ◌+◌, ◌-◌, ◌<◌, ◌≤◌, ◌⊎◌, List, [], ◌∷◌, ◌++◌, length, take, drop, Option, Some, None, refl, sym, ◌∙◌, ap, subst, inl, inr, arith, append_assoc, length-append, length-drop}
use Rattle.std.proofs.lemmas.List.{append-nil, take_at, drop_at, length-take-le, take-append-drop}
use Rattle.std.proofs.lemmas.Bool.{cases_eq, cases_lt}
use Rattle.std.proofs.lemmas.Bool.Decides.{nat_tests}
use Rattle.std.proofs.lemmas.Nat.{from_be_bytes-to_be_bytes_4}
use Rattle.std.specs.Int.{w32, to_be_bytes, from_be_bytes}
use Rattle.cue_journal.specs.Blocks.{split_at, next_piece, with_others, recovered_up_to, recovered_pieces, block, FitsInBlock, StandsFor, IsScanned}
use Rattle.cue_journal.specs.Settled.{IsBatch}

pub split_whole : (n : ℕ) (rest : List ℕ) → n ≤ length rest → split_at n rest ≡ Some (take n rest, drop n rest)
split_whole n rest le = grind (arith, nat_tests)

pub split_short : (n : ℕ) (rest : List ℕ) → length rest < n → split_at n rest ≡ None
split_short n rest lt = grind (arith, nat_tests)

-- a piece's bytes and what follows
pub split_there : (piece rest : List ℕ) → split_at (length piece) (piece ++ rest) ≡ Some (piece, rest)
split_there piece rest =
    split_whole _ _ (omega (arith, length-append piece rest))
    ∙ ap (λ (l : List ℕ). Some (l, drop (length piece) (piece ++ rest))) (take_at piece rest _ refl)
    ∙ ap (λ (l : List ℕ). Some (piece, l)) (drop_at piece rest _ refl)

-- the head of a block is read as it was written
pub next-block : (piece rest : List ℕ) → FitsInBlock piece → next_piece (block piece ++ rest) ≡ Some (piece, rest)
next-block piece rest fits =
    ap (λ n. split_at n (piece ++ rest)) (from_be_bytes-to_be_bytes_4 (length piece) fits) ∙ split_there piece rest

-- what follows a piece is shorter
split_shorter : (n : ℕ) (rest : List ℕ) (found : List ℕ × List ℕ) → split_at n rest ≡ Some found → length found.1 ≤ length rest
split_shorter n rest found is = elim (cases_lt (length rest) n) [
  | inl lt ↦ absurd (no (sym (split_short n rest lt) ∙ is))
  | inr ge ↦ omega (arith, length-drop n rest, ap length (same (sym (split_whole n rest ge) ∙ is)))
]
  where
    no : None ≡ Some found → ⊥
    no e = cc

    same : Some (take n rest, drop n rest) ≡ Some found → drop n rest ≡ found.1
    same e = cc

pub next_shorter : (file : List ℕ) (found : List ℕ × List ℕ) → next_piece file ≡ Some found → length found.1 < length file
next_shorter [] found is = absurd cc
next_shorter (g ∷ []) found is = absurd cc
next_shorter (g ∷ a ∷ []) found is = absurd cc
next_shorter (g ∷ a ∷ b ∷ []) found is = absurd cc
next_shorter (g ∷ a ∷ b ∷ c ∷ []) found is = absurd cc
next_shorter (g ∷ a ∷ b ∷ c ∷ d ∷ rest) found is = elim (cases_eq g 1) [
  | inl open_gate ↦ omega (arith, split_shorter _ rest found (opened open_gate))
  | inr shut ↦ absurd (no (sym (closed shut) ∙ is))
]
  where
    n : ℕ
    n = from_be_bytes w32 (a ∷ b ∷ c ∷ d ∷ [])

    opened : g ≡ 1 → split_at n rest ≡ Some found
    opened e = subst (λ v. next_piece (v ∷ a ∷ b ∷ c ∷ d ∷ rest) ≡ Some found) e is

    closed : g ≢ 1 → next_piece (g ∷ a ∷ b ∷ c ∷ d ∷ rest) ≡ None
    closed ne = grind (arith, nat_tests)

    no : None ≡ Some found → ⊥
    no e = cc

-- where no more is found, nothing more is there
others_same : (f g : List ℕ → List (List ℕ)) (o : Option (List ℕ × List ℕ)) → ((found : List ℕ × List ℕ) → o ≡ Some found → f found.1 ≡ g found.1) → with_others f o ≡ with_others g o
others_same f g None same = refl
others_same f g (Some found) same = ap (λ (l : List (List ℕ)). found.0 ∷ l) (same found refl)

-- with turns enough, more of them make no difference
turns : (m n : ℕ) (file : List ℕ) → length file ≤ m → length file ≤ n → recovered_up_to m file ≡ recovered_up_to n file
turns zero zero file le ge = refl
turns zero (suc n) [] le ge = refl
turns zero (suc n) (x ∷ file) le ge = absurd (omega arith)
turns (suc m) zero [] le ge = refl
turns (suc m) zero (x ∷ file) le ge = absurd (omega arith)
turns (suc m) (suc n) file le ge =
    others_same (recovered_up_to m) (recovered_up_to n) (next_piece file)
    (λ found is. turns m n found.1 (omega (arith, next_shorter file found is)) (omega (arith, next_shorter file found is)))

one_turn : (file : List ℕ) → recovered_pieces file ≡ with_others (recovered_up_to (length file)) (next_piece file)
one_turn file = turns (length file) (suc (length file)) file (omega arith) (omega arith)

pub recovered_pieces-next : (file : List ℕ) (found : List ℕ × List ℕ) → next_piece file ≡ Some found → recovered_pieces file ≡ found.0 ∷ recovered_pieces found.1
recovered_pieces-next file found is =
    one_turn file
    ∙ ap (with_others (recovered_up_to (length file))) is
    ∙ ap (λ (l : List (List ℕ)). found.0 ∷ l) (turns (length file) (length found.1) found.1 (omega (arith, next_shorter file found is)) (omega arith))

pub recovered_pieces-none : (file : List ℕ) → next_piece file ≡ None → recovered_pieces file ≡ []
recovered_pieces-none file is = one_turn file ∙ ap (with_others (recovered_up_to (length file))) is

pub next-closed : (gate : ℕ) (rest : List ℕ) → gate ≢ 1 → next_piece (gate ∷ rest) ≡ None
next-closed g [] shut = refl
next-closed g (a ∷ []) shut = refl
next-closed g (a ∷ b ∷ []) shut = refl
next-closed g (a ∷ b ∷ c ∷ []) shut = refl
next-closed g (a ∷ b ∷ c ∷ d ∷ rest) shut = grind (arith, nat_tests)

pub recovered_pieces-closed : (gate : ℕ) (rest : List ℕ) → gate ≢ 1 → recovered_pieces (gate ∷ rest) ≡ []
recovered_pieces-closed gate rest shut = recovered_pieces-none (gate ∷ rest) (next-closed gate rest shut)

-- bytes that stand for pieces

pub stands_nothing : StandsFor [] []
stands_nothing rest = refl

pub stands_more : (x y : List ℕ) (ps qs : List (List ℕ)) → StandsFor x ps → StandsFor y qs → StandsFor (x ++ y) (ps ++ qs)
stands_more x y ps qs first second rest =
    ap recovered_pieces (append_assoc x y rest)
    ∙ first (y ++ rest)
    ∙ ap (λ (l : List (List ℕ)). ps ++ l) (second rest)
    ∙ sym (append_assoc ps qs (recovered_pieces rest))

pub stands_alone : (x : List ℕ) (ps : List (List ℕ)) → StandsFor x ps → recovered_pieces x ≡ ps
stands_alone x ps stands = ap recovered_pieces (sym (append-nil x)) ∙ stands [] ∙ append-nil ps

pub stands_closed : (x : List ℕ) (ps : List (List ℕ)) (gate : ℕ) (rest : List ℕ) → StandsFor x ps → gate ≢ 1 → recovered_pieces (x ++ gate ∷ rest) ≡ ps
stands_closed x ps gate rest stands shut =
    stands (gate ∷ rest) ∙ ap (λ (l : List (List ℕ)). ps ++ l) (recovered_pieces-closed gate rest shut) ∙ append-nil ps

pub stands_block : (piece : List ℕ) → FitsInBlock piece → StandsFor (block piece) (piece ∷ [])
stands_block piece fits rest = recovered_pieces-next (block piece ++ rest) (piece, rest) (next-block piece rest fits)

-- the first block, and what follows it
pub record FirstBlock (file : List ℕ) (found : List ℕ × List ℕ) : Type 0 where
  pub head : List ℕ
  pub split : file ≡ head ++ found.1
  pub stands : StandsFor head (found.0 ∷ [])

pub first_block : (file : List ℕ) (found : List ℕ × List ℕ) → next_piece file ≡ Some found → FirstBlock file found
first_block [] found is = absurd cc
first_block (g ∷ []) found is = absurd cc
first_block (g ∷ a ∷ []) found is = absurd cc
first_block (g ∷ a ∷ b ∷ []) found is = absurd cc
first_block (g ∷ a ∷ b ∷ c ∷ []) found is = absurd cc
first_block (g ∷ a ∷ b ∷ c ∷ d ∷ rest) found is = elim (cases_eq g 1) [
  | inl open_gate ↦ at_open open_gate (cases_lt (length rest) n)
  | inr shut ↦ absurd (no (sym (next-closed g (a ∷ b ∷ c ∷ d ∷ rest) shut) ∙ is))
]
  where
    n : ℕ
    n = from_be_bytes w32 (a ∷ b ∷ c ∷ d ∷ [])

    no : None ≡ Some found → ⊥
    no e = cc

    opened : g ≡ 1 → split_at n rest ≡ Some found
    opened e = subst (λ v. next_piece (v ∷ a ∷ b ∷ c ∷ d ∷ rest) ≡ Some found) e is

    same : (p : List ℕ × List ℕ) → Some p ≡ Some found → p ≡ found
    same p e = cc

    whole : (piece : List ℕ) → length piece ≡ n → StandsFor (1 ∷ a ∷ b ∷ c ∷ d ∷ piece) (piece ∷ [])
    whole piece size more = recovered_pieces-next (1 ∷ a ∷ b ∷ c ∷ d ∷ piece ++ more) (piece, more) (ap (λ m. split_at m (piece ++ more)) (sym size) ∙ split_there piece more)

    at_open : g ≡ 1 → (length rest < n) ⊎ (n ≤ length rest) → FirstBlock (g ∷ a ∷ b ∷ c ∷ d ∷ rest) found
    at_open open_gate (inl lt) = absurd (no (sym (split_short n rest lt) ∙ opened open_gate))
    at_open open_gate (inr ge) =
        let is_found : (take n rest, drop n rest) ≡ found = same _ (sym (split_whole n rest ge) ∙ opened open_gate) in
        subst (λ (f : List ℕ × List ℕ). FirstBlock (g ∷ a ∷ b ∷ c ∷ d ∷ rest) f) is_found (
        record {
          head = 1 ∷ a ∷ b ∷ c ∷ d ∷ take n rest;
          split = ap (λ v. v ∷ a ∷ b ∷ c ∷ d ∷ rest) open_gate ∙ ap (λ (l : List ℕ). 1 ∷ a ∷ b ∷ c ∷ d ∷ l) (sym (take-append-drop n rest));
          stands = whole (take n rest) (length-take-le n rest ge);
        })

-- What was read of a file, and what is left.
pub record IsRead (file rest : List ℕ) (pieces : List (List ℕ)) : Type 0 where
  pub front : List ℕ
  pub split : file ≡ front ++ rest
  pub stands : StandsFor front pieces

pub read_nothing : (file : List ℕ) → IsRead file file []
read_nothing file = record { front = []; split = refl; stands = stands_nothing }

pub read_more : (file rest : List ℕ) (pieces : List (List ℕ)) (found : List ℕ × List ℕ) → IsRead file rest pieces → next_piece rest ≡ Some found → IsRead file found.1 (pieces ++ found.0 ∷ [])
read_more file rest pieces found so_far is =
    let b = first_block rest found is in
    record {
      front = so_far.front ++ b.head;
      split = so_far.split ∙ ap (λ (l : List ℕ). so_far.front ++ l) b.split ∙ sym (append_assoc so_far.front b.head found.1);
      stands = stands_more so_far.front b.head pieces (found.0 ∷ []) so_far.stands b.stands;
    }

pub read_all : (file rest : List ℕ) (pieces : List (List ℕ)) → IsRead file rest pieces → next_piece rest ≡ None → recovered_pieces file ≡ pieces
read_all file rest pieces so_far none =
    ap recovered_pieces so_far.split ∙ so_far.stands rest ∙ ap (λ (l : List (List ℕ)). pieces ++ l) (recovered_pieces-none rest none) ∙ append-nil pieces

pub read_size : (file rest : List ℕ) (pieces : List (List ℕ)) → (so_far : IsRead file rest pieces) → length file ≡ length so_far.front + length rest
read_size file rest pieces so_far = ap length so_far.split ∙ length-append so_far.front rest

pub read_front : (file rest : List ℕ) (pieces : List (List ℕ)) → (so_far : IsRead file rest pieces) → take (length file - length rest) file ≡ so_far.front
read_front file rest pieces so_far =
    ap (take (length file - length rest)) so_far.split ∙ take_at so_far.front rest _ (omega (arith, read_size file rest pieces so_far))

pub read_rest : (file rest : List ℕ) (pieces : List (List ℕ)) → (so_far : IsRead file rest pieces) → drop (length file - length rest) file ≡ rest
read_rest file rest pieces so_far =
    ap (drop (length file - length rest)) so_far.split ∙ drop_at so_far.front rest _ (omega (arith, read_size file rest pieces so_far))

-- a batch with one block more
pub batch_more : (old new piece : List ℕ) → IsBatch old → FitsInBlock piece → new ≡ old ++ block piece → IsBatch new × (recovered_pieces new ≡ recovered_pieces old ++ piece ∷ [])
batch_more old new piece batch fits is =
    let stands : StandsFor (old ++ block piece) (recovered_pieces old ++ piece ∷ []) = stands_more old (block piece) (recovered_pieces old) (piece ∷ []) batch.stands (stands_block piece fits) in
    let pieces : recovered_pieces (old ++ block piece) ≡ recovered_pieces old ++ piece ∷ [] = stands_alone (old ++ block piece) (recovered_pieces old ++ piece ∷ []) stands in
    subst (λ (l : List ℕ). IsBatch l × (recovered_pieces l ≡ recovered_pieces old ++ piece ∷ [])) (sym is) (
      record {
        stands = subst (StandsFor (old ++ block piece)) (sym pieces) stands;
        opens = inr (opens batch.opens);
      },
      pieces,
    )
  where
    opens : (old ≡ []) ⊎ ((rest : List ℕ) × (old ≡ 1 ∷ rest)) → (rest : List ℕ) × (old ++ block piece ≡ 1 ∷ rest)
    opens (inl none) = (to_be_bytes w32 (length piece) ++ piece, ap (λ (l : List ℕ). l ++ block piece) none)
    opens (inr some) = (some.0 ++ block piece, ap (λ (l : List ℕ). l ++ block piece) some.1)

pub scanned : (file rest : List ℕ) (pieces : List (List ℕ)) → IsRead file rest pieces → next_piece rest ≡ None → IsScanned file (length file - length rest)
scanned file rest pieces so_far none = record {
  within = omega arith;
  front = subst (λ (l : List ℕ). StandsFor l (recovered_pieces file)) (sym (read_front file rest pieces so_far)) (subst (StandsFor so_far.front) (sym (read_all file rest pieces so_far none)) so_far.stands);
  none = ap next_piece (read_rest file rest pieces so_far) ∙ none;
}

-- the same, where the head was written with the length of a piece that begins with this byte
pub batch_more_first : (old new : List ℕ) (n first : ℕ) (rest : List ℕ) → n ≡ length (first ∷ rest) → IsBatch old → FitsInBlock (first ∷ rest) → new ≡ old ++ (1 ∷ to_be_bytes w32 n ++ first ∷ rest)
    → IsBatch new × (recovered_pieces new ≡ recovered_pieces old ++ (first ∷ rest) ∷ [])
batch_more_first old new n first rest size batch fits is =
    batch_more old new (first ∷ rest) batch fits (is ∙ ap (λ m. old ++ (1 ∷ to_be_bytes w32 m ++ first ∷ rest)) size)
