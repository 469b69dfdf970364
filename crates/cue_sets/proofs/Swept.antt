-- A sweep over the numbers from the least integer upwards, which makes the pieces of the numbers that are wanted.
use Rattle.std.proofs.Common.{◌≡◌, Bool, true, false, ◌&&◌, ◌||◌, List, [], ◌∷◌, ◌++◌, ℤ, pos, ◌+ℤ◌, ◌-ℤ◌, ◌≤ℤ◌, ◌<ℤ◌, Option, Some, None, unwrap_or, refl, sym, ap, ◌∙◌, subst, arith, append_assoc}
use Rattle.std.specs.Prelude.{int_le, int_lt, IfSome}
use Rattle.std.proofs.lemmas.List.{append-nil}
use Rattle.std.proofs.lemmas.Bool.{and_left, and_right}
use Rattle.std.proofs.lemmas.Int.{ints, by_lt_z}
use Rattle.cue_sets.specs.Pieces.{is_member, least, greatest, AscendsFrom, IsCanonical}
use Rattle.cue_sets.specs.Inner.Combination.{combination_keeps}
use Rattle.cue_sets.specs.Inner.Sweep.{EndsFrom, open_piece, close_piece}
use Rattle.cue_sets.specs.declared.combination.Combination.{Combination}
use Rattle.cue_sets.specs.declared.combination.Combination.TheVariants.{Meet, Union, Without}
use Rattle.cue_sets.proofs.Steps.{IsStep, to_greatest, le_le}
use Rattle.cue_sets.specs.PieceLaws.{lt_true, lt_false, le_true, le_false, is_member-append, AscendsFrom-lower, is_member-below, is_member-above}

-- whether the piece that is being made has n
abbrev pub is_begun : Option ℤ → ℤ → ℤ → Bool
is_begun None from n = false
is_begun (Some first) from n = int_le first n && int_lt n from

-- The pieces that are made, with the one that is being made, have the wanted numbers below `from`.
pub record IsSwept (made : List (ℤ × ℤ)) (begun : Option ℤ) (from : ℤ) (wanted : ℤ → Bool) : Type 0 where
  pub ascending : (later : List (ℤ × ℤ)) → AscendsFrom (unwrap_or begun from) later → IsCanonical (made ++ later)
  pub members : (n : ℤ) → (is_member made n || is_begun begun from n) ≡ (int_lt n from && wanted n)
  pub before : IfSome begun (λ first. first <ℤ from)

or_false : (a : Bool) → (a || false) ≡ a
or_false true = refl
or_false false = refl

or_true : (a : Bool) → (a || true) ≡ true
or_true true = refl
or_true false = refl

-- n lies below the numbers from `from` to `last`, among them or above them
pub by_place : (P : Type 0) (from last n : ℤ) → (n <ℤ from → P) → (from ≤ℤ n → n ≤ℤ last → P) → (last <ℤ n → P) → P
by_place P from last n below among above =
    by_lt_z n from below (λ h. by_lt_z last n above (λ k. among h k))

members_kept : (made : List (ℤ × ℤ)) (begun : Option ℤ) (from last : ℤ) (wanted : ℤ → Bool) → from ≤ℤ last → IsSwept made begun from wanted → ((n : ℤ) → from ≤ℤ n → n ≤ℤ last → wanted n ≡ true) → (n : ℤ) → (is_member made n || is_begun (Some (unwrap_or begun from)) (last +ℤ pos 1) n) ≡ (int_lt n (last +ℤ pos 1) && wanted n)
members_kept made None from last wanted h s w n =
    by_place _ from last n
    (λ below. rw (lt_true n (last +ℤ pos 1) (omega (arith, ints)), le_false from n below) (s.members n ∙ rw (lt_true n from below) refl))
    (λ low high. rw (lt_true n (last +ℤ pos 1) (omega (arith, ints)), le_true from n low, w n low high) (or_true _))
    (λ above. rw (lt_false n (last +ℤ pos 1) (omega (arith, ints))) (rw (and_right (int_le from n) false refl) (s.members n ∙ rw (lt_false n from (omega (arith, ints))) refl)))
members_kept made (Some first) from last wanted h s w n =
    let before : first <ℤ from = s.before in
    by_place _ from last n
    (λ below. rw (lt_true n (last +ℤ pos 1) (omega (arith, ints))) (subst (λ b. (is_member made n || (int_le first n && b)) ≡ (b && wanted n)) (lt_true n from below) (s.members n)))
    (λ low high. rw (lt_true n (last +ℤ pos 1) (omega (arith, ints)), le_true first n (omega (arith, ints)), w n low high) (or_true _))
    (λ above. rw (lt_false n (last +ℤ pos 1) (omega (arith, ints))) (subst (λ b. (is_member made n || (int_le first n && b)) ≡ (b && wanted n)) (lt_false n from (omega (arith, ints))) (s.members n)))

-- what is wanted below `from` is what is wanted up to `last`, where nothing between is wanted
wanted_left_out : (from last : ℤ) (wanted : ℤ → Bool) → from ≤ℤ last → ((n : ℤ) → from ≤ℤ n → n ≤ℤ last → wanted n ≡ false) → (n : ℤ) → (int_lt n from && wanted n) ≡ (int_lt n (last +ℤ pos 1) && wanted n)
wanted_left_out from last wanted h w n =
    by_place _ from last n
    (λ below. rw (lt_true n (last +ℤ pos 1) (omega (arith, ints)), lt_true n from below) refl)
    (λ low high. and_right _ _ (w n low high) ∙ sym (and_right _ _ (w n low high)))
    (λ above. rw (lt_false n (last +ℤ pos 1) (omega (arith, ints)), lt_false n from (omega (arith, ints))) refl)

le_before : (from n : ℤ) → int_le n (from -ℤ pos 1) ≡ int_lt n from
le_before from n = by_lt_z n from (λ h. le_true n (from -ℤ pos 1) (omega (arith, ints)) ∙ sym (lt_true n from h)) (λ h. le_false n (from -ℤ pos 1) (omega (arith, ints)) ∙ sym (lt_false n from h))

members_left_out : (made : List (ℤ × ℤ)) (begun : Option ℤ) (from : ℤ) (n : ℤ) → (is_member (made ++ close_piece begun from false) n || false) ≡ (is_member made n || is_begun begun from n)
members_left_out made None from n = rw (append-nil made) refl
members_left_out made (Some first) from n =
    or_false _ ∙ is_member-append made _ n ∙ ap (λ b. is_member made n || b) (or_false _ ∙ ap (λ b. int_le first n && b) (le_before from n))

ascending_left_out : (made : List (ℤ × ℤ)) (begun : Option ℤ) (from last : ℤ) (wanted : ℤ → Bool) → from ≤ℤ last → last ≤ℤ greatest → IsSwept made begun from wanted → (later : List (ℤ × ℤ)) → AscendsFrom (last +ℤ pos 1) later → IsCanonical ((made ++ close_piece begun from false) ++ later)
ascending_left_out made None from last wanted h top s later a =
    subst (λ xs. IsCanonical (xs ++ later)) (sym (append-nil made)) (s.ascending later (AscendsFrom-lower from (last +ℤ pos 1) later (omega (arith, ints)) a))
ascending_left_out made (Some first) from last wanted h top s later a =
    let before : first <ℤ from = s.before in
    subst IsCanonical (sym (append_assoc made ((first, from -ℤ pos 1) ∷ []) later))
    (s.ascending ((first, from -ℤ pos 1) ∷ later) (omega (arith, ints), omega (arith, ints), omega (arith, ints), AscendsFrom-lower ((from -ℤ pos 1) +ℤ pos 2) (last +ℤ pos 1) later (omega (arith, ints)) a))

-- one step of the sweep: the numbers from `from` to `last` are all wanted or all left out
pub IsSwept-more : (made : List (ℤ × ℤ)) (begun : Option ℤ) (from last : ℤ) (kept : Bool) (wanted : ℤ → Bool) → from ≤ℤ last → last ≤ℤ greatest → IsSwept made begun from wanted → ((n : ℤ) → from ≤ℤ n → n ≤ℤ last → wanted n ≡ kept) → IsSwept (made ++ close_piece begun from kept) (open_piece begun from kept) (last +ℤ pos 1) wanted
IsSwept-more made begun from last true wanted h top s w = record {
  ascending = λ later a. subst (λ xs. IsCanonical (xs ++ later)) (sym (append-nil made)) (s.ascending later a);
  members = λ n. subst (λ xs. (is_member xs n || is_begun (Some (unwrap_or begun from)) (last +ℤ pos 1) n) ≡ (int_lt n (last +ℤ pos 1) && wanted n)) (sym (append-nil made)) (members_kept made begun from last wanted h s w n);
  before = before_kept begun from last h s.before;
} where
  before_kept : (begun : Option ℤ) (from last : ℤ) → from ≤ℤ last → IfSome begun (λ first. first <ℤ from) → unwrap_or begun from <ℤ (last +ℤ pos 1)
  before_kept None from last h b = omega (arith, ints)
  before_kept (Some first) from last h b = omega (arith, ints)
IsSwept-more made begun from last false wanted h top s w = record {
  ascending = ascending_left_out made begun from last wanted h top s;
  members = λ n. members_left_out made begun from n ∙ s.members n ∙ wanted_left_out from last wanted h w n;
  before = tt;
}

-- nothing is swept yet
pub IsSwept-none : (wanted : ℤ → Bool) → ((n : ℤ) → n <ℤ least → wanted n ≡ false) → IsSwept [] None least wanted
IsSwept-none wanted w = record {
  ascending = λ later a. a;
  members = λ n. by_lt_z n least (λ h. sym (and_right _ _ (w n h))) (λ h. sym (and_left _ _ (lt_false n least h)));
  before = tt;
}

-- all is swept: the piece that is being made ends at the greatest integer
pub IsSwept-all : (made : List (ℤ × ℤ)) (begun : Option ℤ) (wanted : ℤ → Bool) → ((n : ℤ) → greatest <ℤ n → wanted n ≡ false) → IsSwept made begun (greatest +ℤ pos 1) wanted → IsCanonical (made ++ close_piece begun (greatest +ℤ pos 1) false) × ((n : ℤ) → is_member (made ++ close_piece begun (greatest +ℤ pos 1) false) n ≡ wanted n)
IsSwept-all made begun wanted w s = (
  s.ascending (close_piece begun (greatest +ℤ pos 1) false) (ascends begun s.before),
  λ n. sym (or_false _) ∙ members_left_out made begun (greatest +ℤ pos 1) n ∙ s.members n ∙ by_lt_z greatest n (λ h. and_right _ _ (w n h) ∙ sym (w n h)) (λ h. ap (λ b. b && wanted n) (lt_true n (greatest +ℤ pos 1) (omega (arith, ints)))),
)
  where
    ascends : (begun : Option ℤ) → IfSome begun (λ first. first <ℤ (greatest +ℤ pos 1)) → AscendsFrom (unwrap_or begun (greatest +ℤ pos 1)) (close_piece begun (greatest +ℤ pos 1) false)
    ascends None b = tt
    ascends (Some first) b = (omega (arith, ints), omega (arith, ints), omega (arith, ints), tt)

-- the rest of a list of pieces, from the first that ends at `from` or later
pub record IsAhead (from : ℤ) (pieces rest : List (ℤ × ℤ)) : Type 0 where
  pub ascending : IsCanonical rest
  pub ends : EndsFrom from rest
  pub members : (n : ℤ) → from ≤ℤ n → is_member rest n ≡ is_member pieces n

-- whether a number is a member of a combination of two sets
abbrev pub wanted_of : Combination → List (ℤ × ℤ) → List (ℤ × ℤ) → ℤ → Bool
wanted_of how left right n = combination_keeps how (is_member left n) (is_member right n)

-- a combination of two sets, swept up to `from`
pub record IsCombined (how : Combination) (left right made : List (ℤ × ℤ)) (begun : Option ℤ) (from : ℤ) (on_left on_right : List (ℤ × ℤ)) : Type 0 where
  pub swept : IsSwept made begun from (wanted_of how left right)
  pub ahead_left : IsAhead from left on_left
  pub ahead_right : IsAhead from right on_right

keeps_none : (how : Combination) → combination_keeps how false false ≡ false
keeps_none Meet = refl
keeps_none Union = refl
keeps_none Without = refl

wanted-outside : (how : Combination) (left right : List (ℤ × ℤ)) (n : ℤ) → is_member left n ≡ false → is_member right n ≡ false → wanted_of how left right n ≡ false
wanted-outside how left right n l r = rw (l, r) (keeps_none how)

-- at the start all pieces are ahead
pub IsAhead-none : (pieces : List (ℤ × ℤ)) → IsCanonical pieces → IsAhead least pieces pieces
IsAhead-none pieces a = record { ascending = a; ends = ends pieces a; members = λ n h. refl } where
  ends : (pieces : List (ℤ × ℤ)) → IsCanonical pieces → EndsFrom least pieces
  ends [] a = tt
  ends (piece ∷ pieces) a = let b = a.0 in let d = a.1 in omega (arith, ints)

-- before the first number nothing is made, and all pieces are ahead
pub IsCombined-none : (how : Combination) (left right : List (ℤ × ℤ)) → IsCanonical left → IsCanonical right → IsCombined how left right [] None least left right
IsCombined-none how left right l r = record {
  swept = IsSwept-none (wanted_of how left right) (λ n h. wanted-outside how left right n (is_member-below least left n l h) (is_member-below least right n r h));
  ahead_left = IsAhead-none left l;
  ahead_right = IsAhead-none right r;
}

-- one step: up to `last` both sets go on as they are at `from`
pub IsSwept-both :
    (how : Combination) (left right made : List (ℤ × ℤ)) (begun : Option ℤ) (from : ℤ) (on_left on_right : List (ℤ × ℤ)) (left_last right_last last : ℤ)
    (in_left in_right kept : Bool) (made' : List (ℤ × ℤ)) (begun' : Option ℤ) (next : ℤ)
    → IsCombined how left right made begun from on_left on_right → IsStep from left_last right_last last
    → ((n : ℤ) → from ≤ℤ n → n ≤ℤ left_last → is_member on_left n ≡ in_left)
    → ((n : ℤ) → from ≤ℤ n → n ≤ℤ right_last → is_member on_right n ≡ in_right)
    → kept ≡ combination_keeps how in_left in_right → begun' ≡ open_piece begun from kept → made' ≡ made ++ close_piece begun from kept → next ≡ last +ℤ pos 1
    → IsSwept made' begun' next (wanted_of how left right)
IsSwept-both how left right made begun from on_left on_right left_last right_last last in_left in_right kept made' begun' next s step l r k b m e =
    rw (m, b, e) (IsSwept-more made begun from last kept (wanted_of how left right) step.forward (to_greatest last step.fits) s.swept
    (λ n low high. rw (← s.ahead_left.members n low, ← s.ahead_right.members n low, l n low (le_le n last left_last high step.to_left), r n low (le_le n last right_last high step.to_right)) (sym k)))

-- pieces that have from a later number on what those ahead have are ahead from there
pub IsAhead-more : (from next : ℤ) (pieces rest later : List (ℤ × ℤ)) → from ≤ℤ next → IsAhead from pieces rest → IsCanonical later → EndsFrom next later → ((n : ℤ) → next ≤ℤ n → is_member later n ≡ is_member rest n) → IsAhead next pieces later
IsAhead-more from next pieces rest later h a c e m = record { ascending = c; ends = e; members = λ n k. m n k ∙ a.members n (omega (arith, ints)) }

-- the piece that is being made, ended by the greatest integer
abbrev pub ending : Option ℤ → List (ℤ × ℤ)
ending None = []
ending (Some first) = (first, greatest) ∷ []

close_piece-ending : (begun : Option ℤ) → close_piece begun (greatest +ℤ pos 1) false ≡ ending begun
close_piece-ending None = refl
close_piece-ending (Some first) = refl

-- after the last number the pieces that were made have the members of the combination
pub IsCombined-all : (how : Combination) (left right made : List (ℤ × ℤ)) (begun : Option ℤ) (final : List (ℤ × ℤ)) → IsCanonical left → IsCanonical right → IsSwept made begun (greatest +ℤ pos 1) (wanted_of how left right) → final ≡ made ++ ending begun → IsCanonical final × ((n : ℤ) → is_member final n ≡ wanted_of how left right n)
IsCombined-all how left right made begun final l r s e =
    subst (λ pieces. IsCanonical pieces × ((n : ℤ) → is_member pieces n ≡ wanted_of how left right n)) (ap (λ later. made ++ later) (close_piece-ending begun) ∙ sym e)
    (IsSwept-all made begun (wanted_of how left right) (λ n h. wanted-outside how left right n (is_member-above least left n l h) (is_member-above least right n r h)) s)

-- what ends at a number or later ends at each lower number or later
pub EndsFrom-lower : (s t : ℤ) (pieces : List (ℤ × ℤ)) → EndsFrom t pieces → s ≤ℤ t → EndsFrom s pieces
EndsFrom-lower s t [] e h = tt
EndsFrom-lower s t (piece ∷ pieces) e h = omega (arith, ints)
