-- Sets of integers in one piece.
use Rattle.std.proofs.Common.{◌≡◌, Bool, true, false, ◌&&◌, ◌||◌, List, [], ◌∷◌, ℤ, pos, ◌+ℤ◌, ◌-ℤ◌, ◌≤ℤ◌, ◌<ℤ◌, refl, sym, ap, ◌∙◌, arith}
use Rattle.std.specs.Prelude.{int_le, int_lt}
use Rattle.std.specs.Ordering.{int_eq}
use Rattle.std.proofs.lemmas.Bool.{false≢true}
use Rattle.std.proofs.lemmas.Bool.Decides.{Decides-int_eq}
use Rattle.std.proofs.lemmas.Int.{ints}
use Rattle.cue_sets.specs.Pieces.{is_member, is_int64, least, greatest}
use Rattle.cue_sets.specs.PieceLaws.{le_true}

le_from : (a b : ℤ) → int_le a b ≡ true → a ≤ℤ b
le_from a b e = grind (arith, ints)

pub lt_from : (a b : ℤ) → int_lt a b ≡ true → a <ℤ b
lt_from a b e = grind (arith, ints)

lt_true : (a b : ℤ) → a <ℤ b → int_lt a b ≡ true
lt_true a b h = grind (arith, ints)

same_test : (a b : Bool) → (a ≡ true → b ≡ true) → (b ≡ true → a ≡ true) → a ≡ b
same_test true b h k = sym (h refl)
same_test false true h k = k refl
same_test false false h k = refl

both_true : (a b : Bool) → (a && b) ≡ true → (a ≡ true) × (b ≡ true)
both_true true b e = (refl, e)
both_true false b e = absurd (false≢true e)

true_both : (a b : Bool) → a ≡ true → b ≡ true → (a && b) ≡ true
true_both a b p q = ap (λ c. c && b) p ∙ q

pub or_none : (a : Bool) → (a || false) ≡ a
or_none true = refl
or_none false = refl

-- a piece has the integers of the language for which a test holds
pub one_piece : (low high n : ℤ) (test : Bool) → least ≤ℤ low → high ≤ℤ greatest
    → (least ≤ℤ n → n ≤ℤ greatest → test ≡ true → (low ≤ℤ n) × (n ≤ℤ high))
    → (low ≤ℤ n → n ≤ℤ high → test ≡ true)
    → is_member ((low, high) ∷ []) n ≡ (is_int64 n && test)
one_piece low high n test from to in_piece passes =
    or_none (int_le low n && int_le n high)
    ∙ same_test (int_le low n && int_le n high) (is_int64 n && test)
    (λ e.
    let parts = both_true (int_le low n) (int_le n high) e in
    let above : low ≤ℤ n = le_from low n parts.0 in
    let below : n ≤ℤ high = le_from n high parts.1 in
    true_both (is_int64 n) test (true_both (int_le least n) (int_le n greatest) (le_true least n (omega (arith, ints))) (le_true n greatest (omega (arith, ints)))) (passes above below))
    (λ e.
    let parts = both_true (is_int64 n) test e in
    let range = both_true (int_le least n) (int_le n greatest) parts.0 in
    let inside = in_piece (le_from least n range.0) (le_from n greatest range.1) parts.1 in
    true_both (int_le low n) (int_le n high) (le_true low n inside.0) (le_true n high inside.1))

-- no integer of the language passes
pub no_piece : (n : ℤ) (test : Bool) → (least ≤ℤ n → n ≤ℤ greatest → test ≡ true → ⊥) → is_member [] n ≡ (is_int64 n && test)
no_piece n test none =
    same_test false (is_int64 n && test) (λ e. absurd (false≢true e))
    (λ e.
    let parts = both_true (is_int64 n) test e in
    let range = both_true (int_le least n) (int_le n greatest) parts.0 in
    absurd (none (le_from least n range.0) (le_from n greatest range.1) parts.1))

pub from_below : (a n : ℤ) → least ≤ℤ a → is_member ((a, greatest) ∷ []) n ≡ (is_int64 n && int_le a n)
from_below a n h =
    one_piece a greatest n (int_le a n) h (omega (arith, ints))
    (λ low high e. let above : a ≤ℤ n = le_from a n e in (above, high))
    (λ low high. le_true a n low)

pub up_to : (a n : ℤ) → a ≤ℤ greatest → is_member ((least, a) ∷ []) n ≡ (is_int64 n && int_le n a)
up_to a n h =
    one_piece least a n (int_le n a) (omega (arith, ints)) h
    (λ low high e. (low, le_from n a e))
    (λ low high. le_true n a high)

pub above_all : (a b n : ℤ) → least ≤ℤ a → b ≡ a +ℤ pos 1 → is_member ((b, greatest) ∷ []) n ≡ (is_int64 n && int_lt a n)
above_all a b n h e =
    one_piece b greatest n (int_lt a n) (omega (arith, ints)) (omega (arith, ints))
    (λ low high t. let above : a <ℤ n = lt_from a n t in (omega (arith, ints), high))
    (λ low high. lt_true a n (omega (arith, ints)))

pub below_all : (a b n : ℤ) → a ≤ℤ greatest → b ≡ a -ℤ pos 1 → is_member ((least, b) ∷ []) n ≡ (is_int64 n && int_lt n a)
below_all a b n h e =
    one_piece least b n (int_lt n a) (omega (arith, ints)) (omega (arith, ints))
    (λ low high t. let below : n <ℤ a = lt_from n a t in (low, omega (arith, ints)))
    (λ low high. lt_true n a (omega (arith, ints)))

pub alone : (a n : ℤ) → least ≤ℤ a → a ≤ℤ greatest → is_member ((a, a) ∷ []) n ≡ (is_int64 n && int_eq n a)
alone a n h k =
    one_piece a a n (int_eq n a) h k
    (λ low high t. let same : n ≡ a = (Decides-int_eq n a).0 t in (omega (arith, ints), omega (arith, ints)))
    (λ low high. (Decides-int_eq n a).1 (omega (arith, ints)))

pub all_integers : (n : ℤ) → is_member ((least, greatest) ∷ []) n ≡ (is_int64 n && true)
all_integers n = one_piece least greatest n true (omega (arith, ints)) (omega (arith, ints)) (λ low high t. (low, high)) (λ low high. refl)

pub none_above : (n : ℤ) → is_member [] n ≡ (is_int64 n && int_lt greatest n)
none_above n = no_piece n (int_lt greatest n) (λ low high t. let above : greatest <ℤ n = lt_from greatest n t in omega (arith, ints))

pub none_below : (n : ℤ) → is_member [] n ≡ (is_int64 n && int_lt n least)
none_below n = no_piece n (int_lt n least) (λ low high t. let below : n <ℤ least = lt_from n least t in omega (arith, ints))

both_bounds : (a b c : Bool) → ((a && b) && (a && c)) ≡ (a && (b && c))
both_bounds true b c = refl
both_bounds false b c = refl

-- the integers that two bounds leave
pub between_bounds : (low high n : ℤ) (met : List (ℤ × ℤ)) → least ≤ℤ low → high ≤ℤ greatest
    → is_member met n ≡ (is_member ((low, greatest) ∷ []) n && is_member ((least, high) ∷ []) n)
    → is_member met n ≡ (is_int64 n && (int_le low n && int_le n high))
between_bounds low high n met h k e =
    e
    ∙ ap (λ b. b && is_member ((least, high) ∷ []) n) (from_below low n h)
    ∙ ap (λ b. (is_int64 n && int_le low n) && b) (up_to high n k)
    ∙ both_bounds (is_int64 n) (int_le low n) (int_le n high)
