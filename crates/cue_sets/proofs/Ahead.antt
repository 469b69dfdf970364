-- The pieces after the first one, where that one ends right before a number.
use Rattle.std.proofs.Common.{◌≡◌, ◌≤◌, ◌-◌, ◌||◌, List, [], ◌∷◌, length, take, drop, ℤ, pos, ◌+ℤ◌, ◌-ℤ◌, ◌≤ℤ◌, ◌<ℤ◌, slice_index_or, sym, ap, ◌∙◌, subst, arith}
use Rattle.std.proofs.lemmas.List.{take_all}
use Rattle.std.proofs.lemmas.Int.{ints}
use Rattle.cue_sets.specs.Pieces.{is_member, least, IsCanonical, AscendsFrom}
use Rattle.cue_sets.specs.Inner.Sweep.{EndsFrom}
use Rattle.cue_sets.specs.PieceLaws.{is_within-above, AscendsFrom-lower}

ends_later : (from last : ℤ) (pieces : List (ℤ × ℤ)) → (from -ℤ pos 1) ≤ℤ last → AscendsFrom (last +ℤ pos 2) pieces → EndsFrom from pieces
ends_later from last [] e a = tt
ends_later from last (piece ∷ pieces) e a = let first = a.0 in let end = a.1 in omega (arith, ints)

-- they are what is ahead from that number on
pub later_ahead :
    (from : ℤ) (rest : List (ℤ × ℤ)) → 1 ≤ length rest → IsCanonical rest → EndsFrom (from -ℤ pos 1) rest → (slice_index_or rest 0 (pos 0, pos 0)).1 <ℤ from
    → (later : List (ℤ × ℤ)) → later ≡ take (length rest - 1) (drop 1 rest)
    → IsCanonical later × EndsFrom from later × ((n : ℤ) → from ≤ℤ n → is_member later n ≡ is_member rest n)
later_ahead from [] some a e below later is = absurd (omega arith)
later_ahead from (piece ∷ pieces) some a e below later is =
    let first = a.0 in
    let end = a.1 in
    subst (λ xs. IsCanonical xs × EndsFrom from xs × ((n : ℤ) → from ≤ℤ n → is_member xs n ≡ is_member (piece ∷ pieces) n))
    (sym (take_all _ pieces (omega arith)) ∙ sym is) (
      AscendsFrom-lower least (piece.1 +ℤ pos 2) pieces (omega (arith, ints)) a.3,
      ends_later from piece.1 pieces e a.3,
      λ n h. sym (ap (λ b. b || is_member pieces n) (is_within-above piece n (omega (arith, ints)))),
    )
