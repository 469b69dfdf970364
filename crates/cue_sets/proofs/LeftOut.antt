-- The numbers that pieces leave out.
use Rattle.std.proofs.Common.{◌≡◌, ℕ, ◌+◌, ◌<◌, Bool, true, false, not, ◌&&◌, ◌||◌, List, [], ◌∷◌, ◌++◌, length, get_or, ℤ, pos, ◌+ℤ◌, ◌-ℤ◌, ◌≤ℤ◌, ◌<ℤ◌, refl, sym, ap, ◌∙◌, subst, arith, take, All}
use Rattle.std.specs.List.{list_any, list_all}
use Rattle.std.proofs.lemmas.Bool.{false≢true}
use Rattle.std.proofs.lemmas.Int.{ints, by_lt_z}
use Rattle.std.proofs.lemmas.List.Folds.{list_any_more}
use Rattle.cue_sets.specs.Pieces.{is_within, is_member, is_int64, least, greatest, AscendsFrom, IsCanonical}
use Rattle.cue_sets.specs.PieceLaws.{is_within-above, is_within-below, is_within-inside, is_member-append, is_member-above, is_member-below, AscendsFrom-lower}
use Rattle.cue_sets.specs.Inner.Gaps.{pieces_lack}
use Rattle.cue_sets.specs.Inner.Sorted.{IsPiece}

or_assoc : (a b c : Bool) → ((a || b) || c) ≡ (a || (b || c))
or_assoc true b c = refl
or_assoc false b c = refl

or_false : (a : Bool) → (a || false) ≡ a
or_false true = refl
or_false false = refl

and_true : (a : Bool) → (a && true) ≡ a
and_true true = refl
and_true false = refl

-- ---- one piece more, or none
empty_within : (first last n : ℤ) → last <ℤ first → is_within (first, last) n ≡ false
empty_within first last n h =
    by_lt_z n first
    (λ below. is_within-below (first, last) n below)
    (λ from. is_within-above (first, last) n (omega (arith, ints)))

-- with one piece more
pub member_put : (pieces : List (ℤ × ℤ)) (piece : ℤ × ℤ) (n : ℤ) → is_member (pieces ++ piece ∷ []) n ≡ (is_member pieces n || is_within piece n)
member_put pieces piece n = is_member-append pieces (piece ∷ []) n ∙ ap (λ b. is_member pieces n || b) (or_false (is_within piece n))

-- a piece of these ends
pub member_put_ends : (pieces : List (ℤ × ℤ)) (first last from end n : ℤ) → first ≡ from → last ≡ end → is_member (pieces ++ (first, last) ∷ []) n ≡ (is_member pieces n || is_within (from, end) n)
member_put_ends pieces first last from end n f l = member_put pieces (first, last) n ∙ (λ i. is_member pieces n || is_within (f i, l i) n)

-- ---- the walk over the pieces
-- whether n is left out, from a number on
abbrev pub lacks_from : ℤ → List (ℤ × ℤ) → ℤ → Bool
lacks_from from pieces n = is_within (from, greatest) n && not (is_member pieces n)

-- The gaps so far and what is left out from here on are what was there before and all that is left out.
pub record AreGaps (gaps : List (ℤ × ℤ)) (from : ℤ) (rest old all : List (ℤ × ℤ)) : Type 0 where
  pub pieces : All IsPiece gaps
  pub low : least ≤ℤ from
  pub high : from ≤ℤ greatest
  pub ascending : AscendsFrom from rest
  pub members : (n : ℤ) → (is_member gaps n || lacks_from from rest n) ≡ (is_member old n || pieces_lack all n)

-- what is left out before the first piece, and behind it
gap_here : (from : ℤ) (piece : ℤ × ℤ) (later : List (ℤ × ℤ)) (next n : ℤ) → from ≤ℤ piece.0 → piece.0 ≤ℤ piece.1 → piece.1 ≤ℤ greatest → AscendsFrom (piece.1 +ℤ pos 2) later → next ≡ piece.1 +ℤ pos 1 → (is_within (from, piece.0 -ℤ pos 1) n || lacks_from next later n) ≡ lacks_from from (piece ∷ later) n
gap_here from piece later next n low some high ascending is =
    by_lt_z n from
    (λ below. rw (is_within-below (from, piece.0 -ℤ pos 1) n below, is_within-below (next, greatest) n (omega (arith, ints)), is_within-below (from, greatest) n below) refl)
    (λ from_here. by_lt_z n piece.0
    (λ before. rw (is_within-inside (from, piece.0 -ℤ pos 1) n from_here (omega (arith, ints)), is_within-inside (from, greatest) n from_here (omega (arith, ints)), is_within-below piece n before, is_member-below (piece.1 +ℤ pos 2) later n ascending (omega (arith, ints))) refl)
    (λ from_piece. by_lt_z piece.1 n
    (λ behind. by_lt_z greatest n
    (λ above. rw (is_within-above (from, piece.0 -ℤ pos 1) n (omega (arith, ints)), is_within-above (next, greatest) n above, is_within-above (from, greatest) n above) refl)
    (λ up. rw (is_within-above (from, piece.0 -ℤ pos 1) n (omega (arith, ints)), is_within-inside (next, greatest) n (omega (arith, ints)) up, is_within-inside (from, greatest) n from_here up, is_within-above piece n behind) refl))
    (λ inside. rw (is_within-above (from, piece.0 -ℤ pos 1) n (omega (arith, ints)), is_within-below (next, greatest) n (omega (arith, ints)), is_within-inside (from, greatest) n from_here (omega (arith, ints)), is_within-inside piece n from_piece inside) refl)))

members_more :
    (gaps put : List (ℤ × ℤ)) (from first next : ℤ) (piece : ℤ × ℤ) (rest later old all : List (ℤ × ℤ)) → rest ≡ piece ∷ later → AreGaps gaps from rest old all
    → first ≡ piece.0 → ((n : ℤ) → is_member put n ≡ (is_member gaps n || is_within (from, first -ℤ pos 1) n)) → next ≡ piece.1 +ℤ pos 1
    → (n : ℤ) → (is_member put n || lacks_from next later n) ≡ (is_member old n || pieces_lack all n)
members_more gaps put from first next piece rest later old all is g first_is same next_is n =
    let a : AscendsFrom from (piece ∷ later) = subst (AscendsFrom from) is g.ascending in
    ap (λ b. b || lacks_from next later n) (same n ∙ ap (λ m. is_member gaps n || is_within (from, m -ℤ pos 1) n) first_is)
    ∙ or_assoc (is_member gaps n) (is_within (from, piece.0 -ℤ pos 1) n) (lacks_from next later n)
    ∙ ap (λ b. is_member gaps n || b) (gap_here from piece later next n a.0 a.1 a.2 a.3 next_is)
    ∙ ap (λ pieces. is_member gaps n || lacks_from from pieces n) (sym is)
    ∙ g.members n

-- behind one piece
pub AreGaps-more :
    (gaps put : List (ℤ × ℤ)) (from first next : ℤ) (piece : ℤ × ℤ) (rest later old all : List (ℤ × ℤ)) → rest ≡ piece ∷ later → AreGaps gaps from rest old all
    → All IsPiece put → first ≡ piece.0 → ((n : ℤ) → is_member put n ≡ (is_member gaps n || is_within (from, first -ℤ pos 1) n)) → next ≡ piece.1 +ℤ pos 1 → next ≤ℤ greatest
    → AreGaps put next later old all
AreGaps-more gaps put from first next piece rest later old all is g pieces first_is same next_is high =
    let a : AscendsFrom from (piece ∷ later) = subst (AscendsFrom from) is g.ascending in
    let low = g.low in let begins = a.0 in let some = a.1 in
    record {
      pieces = pieces;
      low = omega (arith, ints);
      high = high;
      ascending = AscendsFrom-lower next (piece.1 +ℤ pos 2) later (omega (arith, ints)) a.3;
      members = members_more gaps put from first next piece rest later old all is g first_is same next_is;
    }

-- behind a piece that ends with the greatest integer
pub AreGaps-last :
    (gaps put : List (ℤ × ℤ)) (from first : ℤ) (piece : ℤ × ℤ) (rest later old all : List (ℤ × ℤ)) → rest ≡ piece ∷ later → AreGaps gaps from rest old all
    → first ≡ piece.0 → ((n : ℤ) → is_member put n ≡ (is_member gaps n || is_within (from, first -ℤ pos 1) n)) → greatest ≤ℤ piece.1
    → (n : ℤ) → is_member put n ≡ (is_member old n || pieces_lack all n)
AreGaps-last gaps put from first piece rest later old all is g first_is same last n =
    let next = piece.1 +ℤ pos 1 in
    sym (ap (λ b. is_member put n || (b && not (is_member later n))) (empty_within next greatest n (omega (arith, ints))) ∙ or_false (is_member put n))
    ∙ members_more gaps put from first next piece rest later old all is g first_is same refl n

-- behind the last piece
pub AreGaps-all : (gaps : List (ℤ × ℤ)) (from : ℤ) (rest old all : List (ℤ × ℤ)) → length rest ≡ 0 → AreGaps gaps from rest old all → (n : ℤ) → is_member (gaps ++ (from, greatest) ∷ []) n ≡ (is_member old n || pieces_lack all n)
AreGaps-all gaps from (piece ∷ rest) old all none g n = absurd (omega arith)
AreGaps-all gaps from [] old all none g n =
    member_put gaps (from, greatest) n ∙ ap (λ b. is_member gaps n || b) (sym (and_true (is_within (from, greatest) n))) ∙ g.members n

-- ---- the gaps of several sets
-- those of one more set
pub gaps_more :
    (put gaps set : List (ℤ × ℤ)) (sets : List (List (ℤ × ℤ))) (i : ℕ) (n : ℤ) → i < length sets → set ≡ get_or sets i set
    → is_member put n ≡ (is_member gaps n || pieces_lack set n) → is_member gaps n ≡ list_any (λ set. pieces_lack set n) (take i sets)
    → is_member put n ≡ list_any (λ set. pieces_lack set n) (take (i + 1) sets)
gaps_more put gaps set sets i n l is same e =
    same
    ∙ ap (λ b. b || pieces_lack set n) e
    ∙ ap (λ xs. list_any (λ set. pieces_lack set n) (take i sets) || pieces_lack xs n) is
    ∙ sym (list_any_more (λ set. pieces_lack set n) sets i set l)

-- a member is an integer of 64 bits
member_int64 : (pieces : List (ℤ × ℤ)) (n : ℤ) → IsCanonical pieces → is_member pieces n ≡ true → is_int64 n ≡ true
member_int64 pieces n canonical m =
    by_lt_z n least
    (λ below. absurd (false≢true (sym (is_member-below least pieces n canonical below) ∙ m)))
    (λ low. by_lt_z greatest n
    (λ above. absurd (false≢true (sym (is_member-above least pieces n canonical above) ∙ m)))
    (λ high. is_within-inside (least, greatest) n low high))

-- what none of several sets lacks is a member of all
none_lacks : (sets : List (List (ℤ × ℤ))) (n : ℤ) → is_int64 n ≡ true → not (list_any (λ set. pieces_lack set n) sets) ≡ list_all (λ set. is_member set n) sets
none_lacks [] n e = refl
none_lacks (set ∷ sets) n e =
    ap (λ b. not ((b && not (is_member set n)) || list_any (λ set. pieces_lack set n) sets)) e
    ∙ moved (is_member set n) (list_any (λ set. pieces_lack set n) sets)
    ∙ ap (λ b. is_member set n && b) (none_lacks sets n e) where
      moved : (a b : Bool) → not (not a || b) ≡ (a && not b)
      moved true b = refl
      moved false b = refl

-- what the first set has and none of the others lacks
pub first_but_lacked : (first : List (ℤ × ℤ)) (others : List (List (ℤ × ℤ))) (n : ℤ) → IsCanonical first → (is_member first n && not (list_any (λ set. pieces_lack set n) others)) ≡ list_all (λ set. is_member set n) (first ∷ others)
first_but_lacked first others n canonical = cases (is_member first n) refl where
  cases : (b : Bool) → is_member first n ≡ b → (b && not (list_any (λ set. pieces_lack set n) others)) ≡ (b && list_all (λ set. is_member set n) others)
  cases false e = refl
  cases true e = none_lacks others n (member_int64 first n canonical e)
