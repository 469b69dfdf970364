-- Blocks that are written are read.
use Rattle.std.proofs.Common.{◌≡◌, ℕ, zero, suc, ◌+◌, ◌≤◌, List, [], ◌∷◌, length, take, drop, Option, Some, None, refl, sym, ◌∙◌, ap, subst, inl, inr, arith, length-append, length-drop}
use Rattle.std.proofs.lemmas.List.{length-take-le}
use Rattle.std.proofs.lemmas.Bool.{cases_eq, cases_lt}
use Rattle.std.specs.Int.{w32, from_be_bytes}
use Rattle.std.specs.List.{AllByRecursion}
use Rattle.cue_journal.specs.Blocks.{split_at, next_piece, with_others, recovered_up_to, recovered_pieces, block, FitsInBlock, StandsFor, IsScanned}
use Rattle.cue_journal.proofs.Reading.{split_whole, split_short, next-closed, stands_nothing, stands_more, stands_alone, stands_block}
use Rattle.cue_journal.specs.Lists.{blocks}

blocks_stand : (entries : List (List ℕ)) → AllByRecursion FitsInBlock entries → StandsFor (blocks entries) entries
blocks_stand [] fit = stands_nothing
blocks_stand (entry ∷ entries) fit =
    stands_more (block entry) (blocks entries) (entry ∷ []) entries (stands_block entry fit.0) (blocks_stand entries fit.1)

pub blocks_read : (entries : List (List ℕ)) → AllByRecursion FitsInBlock entries → recovered_pieces (blocks entries) ≡ entries
blocks_read entries fit = stands_alone (blocks entries) entries (blocks_stand entries fit)

split_size : (n : ℕ) (rest : List ℕ) (found : List ℕ × List ℕ) → split_at n rest ≡ Some found → length found.0 + length found.1 ≡ length rest
split_size n rest found is = elim (cases_lt (length rest) n) [
  | inl lt ↦ absurd (no (sym (split_short n rest lt) ∙ is))
  | inr ge ↦ omega (arith, length-take-le n rest ge, length-drop n rest, ap length (first (sym (split_whole n rest ge) ∙ is)), ap length (second (sym (split_whole n rest ge) ∙ is)))
]
  where
    no : None ≡ Some found → ⊥
    no e = cc

    first : Some (take n rest, drop n rest) ≡ Some found → take n rest ≡ found.0
    first e = cc

    second : Some (take n rest, drop n rest) ≡ Some found → drop n rest ≡ found.1
    second e = cc

-- a block has five bytes more than its entry
next_size : (file : List ℕ) (found : List ℕ × List ℕ) → next_piece file ≡ Some found → length found.0 + length found.1 + 5 ≡ length file
next_size [] found is = absurd cc
next_size (g ∷ []) found is = absurd cc
next_size (g ∷ a ∷ []) found is = absurd cc
next_size (g ∷ a ∷ b ∷ []) found is = absurd cc
next_size (g ∷ a ∷ b ∷ c ∷ []) found is = absurd cc
next_size (g ∷ a ∷ b ∷ c ∷ d ∷ rest) found is = elim (cases_eq g 1) [
  | inl open_gate ↦ omega (arith, split_size (from_be_bytes w32 (a ∷ b ∷ c ∷ d ∷ [])) rest found (opened open_gate))
  | inr shut ↦ absurd (no (sym (next-closed g (a ∷ b ∷ c ∷ d ∷ rest) shut) ∙ is))
]
  where
    opened : g ≡ 1 → split_at (from_be_bytes w32 (a ∷ b ∷ c ∷ d ∷ [])) rest ≡ Some found
    opened e = subst (λ v. next_piece (v ∷ a ∷ b ∷ c ∷ d ∷ rest) ≡ Some found) e is

    no : None ≡ Some found → ⊥
    no e = cc

length_block : (entry : List ℕ) → length (block entry) ≡ length entry + 5
length_block entry = omega arith

with_size : (others : List ℕ → List (List ℕ)) (file : List ℕ) (o : Option (List ℕ × List ℕ)) → ((rest : List ℕ) → length (blocks (others rest)) ≤ length rest)
    → next_piece file ≡ o → length (blocks (with_others others o)) ≤ length file
with_size others file None less is = omega arith
with_size others file (Some found) less is =
    omega (arith, next_size file found is, less found.1, length_block found.0, length-append (block found.0) (blocks (others found.1)))

-- what is read of a file is no more than there is
read_size : (n : ℕ) (file : List ℕ) → length (blocks (recovered_up_to n file)) ≤ length file
read_size zero file = omega arith
read_size (suc n) file = with_size (recovered_up_to n) file (next_piece file) (λ rest. read_size n rest) refl

-- written blocks are read to their end
pub read_whole : (entries : List (List ℕ)) (bytes : List ℕ) (end : ℕ) → AllByRecursion FitsInBlock entries → bytes ≡ blocks entries → IsScanned bytes end → length bytes ≤ end
read_whole entries bytes end fit is scanned =
    let front : recovered_pieces (take end bytes) ≡ entries = stands_alone (take end bytes) (recovered_pieces bytes) scanned.front ∙ ap recovered_pieces is ∙ blocks_read entries fit in
    let size : length (blocks entries) ≤ length (take end bytes) = subst (λ (es : List (List ℕ)). length (blocks es) ≤ length (take end bytes)) front (read_size (length (take end bytes)) (take end bytes)) in
    omega (arith, size, ap length is, length-take-le end bytes scanned.within)
