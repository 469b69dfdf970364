-- Texts of up to 22 bytes, compared by words of eight bytes.
use Rattle.std.proofs.Common.{◌≡◌, ℕ, zero, suc, ◌+◌, ◌-◌, ◌*◌, ◌^◌, ◌<◌, ◌≤◌, List, [], ◌∷◌, ◌++◌, length, take, drop, replicate, get_or, Bool, true, false, refl, sym, ap, ◌∙◌, subst, arith, Ordering, Less, Equal, Greater}
use Rattle.std.specs.Ordering.{ordering_then, nat_cmp, MatchOrdering}
use Rattle.std.specs.Cmp.{nat_cmp_is, ranked}
use Rattle.std.specs.Cmp.Lexicographic.{slice_cmp}
use Rattle.std.specs.Int.{w64, from_be_bytes}
use Rattle.std.proofs.lemmas.List.{length-replicate, length-take, length-drop, take-append-drop, drop-append-le, take_all}
use Rattle.std.proofs.lemmas.Map.Lookups.{exact_bytes}
use Rattle.std.proofs.Math.Seq.{drop-append-add}
use Rattle.cue_lattice.specs.Kept.{IsPadded}
use Rattle.std.proofs.lemmas.Bool.{false≢true}
use Rattle.std.proofs.Math.Nat.{mul-le-mul_right, pow-suc}

abbrev pub order : List ℕ → List ℕ → Ordering
order = slice_cmp nat_cmp

-- bytes as a number, the first of which counts most
abbrev worth : List ℕ → ℕ
worth [] = 0
worth (x ∷ xs) = x * 256 ^ length xs + worth xs

abbrev pub AreSmall : List ℕ → Type 0
AreSmall [] = Unit {0}
AreSmall (x ∷ xs) = (x < 256) × AreSmall xs

pub small_from : (xs : List ℕ) → ((i : ℕ) → get_or xs i 0 < 256) → AreSmall xs
small_from [] s = tt
small_from (x ∷ xs) s = (s 0, small_from xs (λ i. s (suc i)))

worth_below : (xs : List ℕ) → AreSmall xs → worth xs < 256 ^ length xs
worth_below [] s = omega arith
worth_below (x ∷ xs) s =
    let le : x ≤ 255 = omega (arith, s.0) in
    omega (arith, mul-le-mul_right (256 ^ length xs) le, worth_below xs s.1, pow-suc 256 (length xs))

step :
    (x y a b P : ℕ) (o r : Ordering) → r ≡ nat_cmp x y → a < P → b < P → MatchOrdering o (a < b) (a ≡ b) (b < a)
    → MatchOrdering (ordering_then r o) (x * P + a < y * P + b) (x * P + a ≡ y * P + b) (y * P + b < x * P + a)
step x y a b P o Less e la lb m =
    let less : suc x ≤ y = omega (arith, ranked x y Less e) in
    omega (arith, mul-le-mul_right P less, la)
step x y a b P Less Equal e la lb m = omega (arith, ap (λ (n : ℕ). n * P) (ranked x y Equal e), m)
step x y a b P Equal Equal e la lb m = omega (arith, ap (λ (n : ℕ). n * P) (ranked x y Equal e), m)
step x y a b P Greater Equal e la lb m = omega (arith, ap (λ (n : ℕ). n * P) (ranked x y Equal e), m)
step x y a b P o Greater e la lb m =
    let less : suc y ≤ x = omega (arith, ranked x y Greater e) in
    omega (arith, mul-le-mul_right P less, lb)

worth_ranks : (xs ys : List ℕ) → length xs ≡ length ys → AreSmall xs → AreSmall ys → MatchOrdering (order xs ys) (worth xs < worth ys) (worth xs ≡ worth ys) (worth ys < worth xs)
worth_ranks [] [] e s t = refl
worth_ranks [] (y ∷ ys) e s t = absurd (omega (arith, e))
worth_ranks (x ∷ xs) [] e s t = absurd (omega (arith, e))
worth_ranks (x ∷ xs) (y ∷ ys) e s t =
    let same : length xs ≡ length ys = omega (arith, e) in
    let below : worth ys < 256 ^ length xs = subst (λ (n : ℕ). worth ys < 256 ^ n) (sym same) (worth_below ys t.1) in
    subst
    (λ (n : ℕ). MatchOrdering (order (x ∷ xs) (y ∷ ys)) (worth (x ∷ xs) < y * 256 ^ n + worth ys) (worth (x ∷ xs) ≡ y * 256 ^ n + worth ys) (y * 256 ^ n + worth ys < worth (x ∷ xs)))
    same (step x y (worth xs) (worth ys) (256 ^ length xs) (order xs ys) (nat_cmp x y) refl (worth_below xs s.1) below (worth_ranks xs ys same s.1 t.1))

eight_worth : (a b c d e f g h : ℕ) → from_be_bytes w64 (a ∷ b ∷ c ∷ d ∷ e ∷ f ∷ g ∷ h ∷ []) ≡ worth (a ∷ b ∷ c ∷ d ∷ e ∷ f ∷ g ∷ h ∷ [])
eight_worth a b c d e f g h = omega arith

be_worth : (bs : List ℕ) → length bs ≡ 8 → from_be_bytes w64 bs ≡ worth bs
be_worth [] l = absurd (omega (arith, l))
be_worth (a ∷ []) l = absurd (omega (arith, l))
be_worth (a ∷ b ∷ []) l = absurd (omega (arith, l))
be_worth (a ∷ b ∷ c ∷ []) l = absurd (omega (arith, l))
be_worth (a ∷ b ∷ c ∷ d ∷ []) l = absurd (omega (arith, l))
be_worth (a ∷ b ∷ c ∷ d ∷ e ∷ []) l = absurd (omega (arith, l))
be_worth (a ∷ b ∷ c ∷ d ∷ e ∷ f ∷ []) l = absurd (omega (arith, l))
be_worth (a ∷ b ∷ c ∷ d ∷ e ∷ f ∷ g ∷ []) l = absurd (omega (arith, l))
be_worth (a ∷ b ∷ c ∷ d ∷ e ∷ f ∷ g ∷ h ∷ []) l = eight_worth a b c d e f g h
be_worth (a ∷ b ∷ c ∷ d ∷ e ∷ f ∷ g ∷ h ∷ i ∷ rest) l = absurd (omega (arith, l))

-- words of eight bytes compare as their bytes do
pub words_order : (xs ys : List ℕ) → length xs ≡ 8 → length ys ≡ 8 → AreSmall xs → AreSmall ys → nat_cmp (from_be_bytes w64 xs) (from_be_bytes w64 ys) ≡ order xs ys
words_order xs ys l m s t =
    ap (λ (n : ℕ). nat_cmp n (from_be_bytes w64 ys)) (be_worth xs l) ∙ ap (nat_cmp (worth xs)) (be_worth ys m)
    ∙ sym (nat_cmp_is (worth xs) (worth ys) (order xs ys) (worth_ranks xs ys (l ∙ sym m) s t))

then_assoc : (p q r : Ordering) → ordering_then p (ordering_then q r) ≡ ordering_then (ordering_then p q) r
then_assoc Less q r = refl
then_assoc Equal q r = refl
then_assoc Greater q r = refl

-- lists cut alike
pub order_cut : (a b c d : List ℕ) → length a ≡ length b → order (a ++ c) (b ++ d) ≡ ordering_then (order a b) (order c d)
order_cut [] [] c d e = refl
order_cut [] (y ∷ b) c d e = absurd (omega (arith, e))
order_cut (x ∷ a) [] c d e = absurd (omega (arith, e))
order_cut (x ∷ a) (y ∷ b) c d e = ap (ordering_then (nat_cmp x y)) (order_cut a b c d (omega (arith, e))) ∙ then_assoc (nat_cmp x y) (order a b) (order c d)

order_self : (a : List ℕ) → order a a ≡ Equal
order_self [] = refl
order_self (x ∷ a) = ap (λ (o : Ordering). ordering_then o (order a a)) (sym (nat_cmp_is x x Equal refl)) ∙ order_self a

abbrev is_greater : Ordering → Bool
is_greater Less = false
is_greater Equal = false
is_greater Greater = true

abbrev is_less : Ordering → Bool
is_less Less = true
is_less Equal = false
is_less Greater = false

-- zeros are no greater than any bytes, and no bytes less than zeros
zeros_least : (p : ℕ) (b : List ℕ) → length b ≡ p → order (replicate p 0) b ≡ Greater → ⊥
zeros_least zero [] e g = false≢true (ap is_greater g)
zeros_least zero (y ∷ b) e g = absurd (omega (arith, e))
zeros_least (suc p) [] e g = absurd (omega (arith, e))
zeros_least (suc p) (y ∷ b) e g = by (nat_cmp 0 y) refl (zeros_least p b (omega (arith, e))) g
  where
    by : (r : Ordering) → r ≡ nat_cmp 0 y → (order (replicate p 0) b ≡ Greater → ⊥) → ordering_then r (order (replicate p 0) b) ≡ Greater → ⊥
    by Less r below g = false≢true (ap is_greater g)
    by Equal r below g = below g
    by Greater r below g = absurd (omega (arith, ranked 0 y Greater r))

zeros_last : (p : ℕ) (a : List ℕ) → length a ≡ p → order a (replicate p 0) ≡ Less → ⊥
zeros_last zero [] e g = false≢true (ap is_less g)
zeros_last zero (y ∷ a) e g = absurd (omega (arith, e))
zeros_last (suc p) [] e g = absurd (omega (arith, e))
zeros_last (suc p) (y ∷ a) e g = by (nat_cmp y 0) refl (zeros_last p a (omega (arith, e))) g
  where
    by : (r : Ordering) → r ≡ nat_cmp y 0 → (order a (replicate p 0) ≡ Less → ⊥) → ordering_then r (order a (replicate p 0)) ≡ Less → ⊥
    by Less r below g = absurd (omega (arith, ranked y 0 Less r))
    by Equal r below g = below g
    by Greater r below g = false≢true (ap is_less g)

then_less : (o : Ordering) → (o ≡ Greater → ⊥) → ordering_then o Less ≡ Less
then_less Less n = refl
then_less Equal n = refl
then_less Greater n = absurd (n refl)

then_greater : (o : Ordering) → (o ≡ Less → ⊥) → ordering_then o Greater ≡ Greater
then_greater Less n = absurd (n refl)
then_greater Equal n = refl
then_greater Greater n = refl

cmp_suc : (m n : ℕ) → nat_cmp m n ≡ nat_cmp (suc m) (suc n)
cmp_suc m n = by (nat_cmp m n) refl
  where
    by : (r : Ordering) → r ≡ nat_cmp m n → r ≡ nat_cmp (suc m) (suc n)
    by Less e = nat_cmp_is (suc m) (suc n) Less (omega (arith, ranked m n Less e))
    by Equal e = nat_cmp_is (suc m) (suc n) Equal (ap suc (ranked m n Equal e))
    by Greater e = nat_cmp_is (suc m) (suc n) Greater (omega (arith, ranked m n Greater e))

-- Texts compare as the bytes with zeros behind them do, and then by their lengths.
pub order_padded :
    (m n p q : ℕ) (a b : List ℕ) → length a ≡ length b → m ≤ length a → n ≤ length b → drop m a ≡ replicate p 0 → drop n b ≡ replicate q 0
    → order (take m a) (take n b) ≡ ordering_then (order a b) (nat_cmp m n)
order_padded zero zero p q a b e m n x y =
    let one : p ≡ q = omega (arith, e, ap length x, ap length y, length-replicate {A = ℕ} p 0, length-replicate {A = ℕ} q 0) in
    let same : a ≡ b = x ∙ ap (λ (k : ℕ). replicate k 0) one ∙ sym y in
    ap (λ (o : Ordering). ordering_then o Equal) (sym (order_self a) ∙ ap (order a) same)
order_padded zero (suc n) p q a [] e le lt x y = absurd (omega (arith, lt))
order_padded zero (suc n) p q a (z ∷ b) e le lt x y =
    let len : length (z ∷ b) ≡ p = omega (arith, e, ap length x, length-replicate {A = ℕ} p 0) in
    let none : order a (z ∷ b) ≡ Greater → ⊥ = λ g. zeros_least p (z ∷ b) len (subst (λ (l : List ℕ). order l (z ∷ b) ≡ Greater) x g) in
    sym (then_less (order a (z ∷ b)) none) ∙ ap (ordering_then (order a (z ∷ b))) (nat_cmp_is 0 (suc n) Less (omega arith))
order_padded (suc m) zero p q [] b e le lt x y = absurd (omega (arith, le))
order_padded (suc m) zero p q (z ∷ a) b e le lt x y =
    let len : length (z ∷ a) ≡ q = omega (arith, e, ap length y, length-replicate {A = ℕ} q 0) in
    let none : order (z ∷ a) b ≡ Less → ⊥ = λ g. zeros_last q (z ∷ a) len (subst (λ (l : List ℕ). order (z ∷ a) l ≡ Less) y g) in
    sym (then_greater (order (z ∷ a) b) none) ∙ ap (ordering_then (order (z ∷ a) b)) (nat_cmp_is (suc m) 0 Greater (omega arith))
order_padded (suc m) (suc n) p q [] b e le lt x y = absurd (omega (arith, le))
order_padded (suc m) (suc n) p q (z ∷ a) [] e le lt x y = absurd (omega (arith, lt))
order_padded (suc m) (suc n) p q (z ∷ a) (w ∷ b) e le lt x y =
    ap (ordering_then (nat_cmp z w)) (order_padded m n p q a b (omega (arith, e)) (omega (arith, le)) (omega (arith, lt)) x y ∙ ap (ordering_then (order a b)) (cmp_suc m n))
    ∙ then_assoc (nat_cmp z w) (order a b) (nat_cmp (suc m) (suc n))

small_drop : (n : ℕ) (xs : List ℕ) → AreSmall xs → AreSmall (drop n xs)
small_drop zero xs s = s
small_drop (suc n) [] s = tt
small_drop (suc n) (x ∷ xs) s = small_drop n xs s.1

small_take : (n : ℕ) (xs : List ℕ) → AreSmall xs → AreSmall (take n xs)
small_take zero xs s = tt
small_take (suc n) [] s = tt
small_take (suc n) (x ∷ xs) s = (s.0, small_take n xs s.1)

-- two words at one place
pub word_compared :
    (a b : List ℕ) (at x y : ℕ) (r : Ordering) → length a ≡ 22 → length b ≡ 22 → at + 8 ≤ 22 → AreSmall a → AreSmall b → x ≡ from_be_bytes w64 (take 8 (drop at a)) → y ≡ from_be_bytes w64 (take 8 (drop at b)) → r ≡ nat_cmp x y
    → r ≡ order (take 8 (drop at a)) (take 8 (drop at b))
word_compared a b at x y r l m fits s t ex ey e =
    let one : length (take 8 (drop at a)) ≡ 8 = omega (arith, l, fits, length-take 8 (drop at a), length-drop at a) in
    let two : length (take 8 (drop at b)) ≡ 8 = omega (arith, m, fits, length-take 8 (drop at b), length-drop at b) in
    e ∙ ap (λ (k : ℕ). nat_cmp k y) ex ∙ ap (nat_cmp (from_be_bytes w64 (take 8 (drop at a)))) ey
    ∙ words_order (take 8 (drop at a)) (take 8 (drop at b)) one two (small_take 8 (drop at a) (small_drop at a s)) (small_take 8 (drop at b) (small_drop at b t))

-- the room as its first words and the bytes behind them
parted : (a : List ℕ) → take 8 a ++ (take 8 (drop 8 a) ++ drop 8 (drop 8 a)) ≡ a
parted a = ap (λ (t : List ℕ). take 8 a ++ t) (take-append-drop 8 (drop 8 a)) ∙ take-append-drop 8 a

-- the last word has the end of the one before it in front
pub overlapped : (a : List ℕ) → length a ≡ 22 → take 8 (drop 14 a) ≡ drop 6 (take 8 (drop 8 a)) ++ drop 8 (drop 8 a)
overlapped a l =
    let w = take 8 a in
    let u = take 8 (drop 8 a) in
    let rest = drop 8 (drop 8 a) in
    let len : length w ≡ 8 = omega (arith, l, length-take 8 a) in
    let more : length u ≡ 8 = omega (arith, l, length-take 8 (drop 8 a), length-drop 8 a) in
    let behind : drop 14 a ≡ drop 6 (u ++ rest) =
    ap (drop 14) (sym (parted a)) ∙ subst (λ (n : ℕ). drop (n + 6) (w ++ (u ++ rest)) ≡ drop 6 (u ++ rest)) len (drop-append-add w (u ++ rest) 6) in
    let cut : drop 6 (u ++ rest) ≡ drop 6 u ++ rest = drop-append-le 6 u rest (omega (arith, more)) in
    let all : take 8 (drop 14 a) ≡ drop 14 a = take_all 8 (drop 14 a) (omega (arith, l, length-drop 14 a)) in
    all ∙ behind ∙ cut

pub compared :
    (m n : ℕ) (a b : List ℕ) → length a ≡ 22 → length b ≡ 22 → IsPadded m a → IsPadded n b
    → order (take m a) (take n b)
    ≡ ordering_then (ordering_then (order (take 8 a) (take 8 b)) (ordering_then (order (take 8 (drop 8 a)) (take 8 (drop 8 b))) (order (drop 8 (drop 8 a)) (drop 8 (drop 8 b))))) (nat_cmp m n)
compared m n a b l k p q =
    let first : length (take 8 a) ≡ length (take 8 b) = omega (arith, l, k, length-take 8 a, length-take 8 b) in
    let second : length (take 8 (drop 8 a)) ≡ length (take 8 (drop 8 b)) = omega (arith, l, k, length-take 8 (drop 8 a), length-take 8 (drop 8 b), length-drop 8 a, length-drop 8 b) in
    let whole : order a b ≡ ordering_then (order (take 8 a) (take 8 b)) (ordering_then (order (take 8 (drop 8 a)) (take 8 (drop 8 b))) (order (drop 8 (drop 8 a)) (drop 8 (drop 8 b)))) =
    ap (λ (t : List ℕ). order t b) (sym (parted a)) ∙ ap (order (take 8 a ++ (take 8 (drop 8 a) ++ drop 8 (drop 8 a)))) (sym (parted b))
    ∙ order_cut (take 8 a) (take 8 b) (take 8 (drop 8 a) ++ drop 8 (drop 8 a)) (take 8 (drop 8 b) ++ drop 8 (drop 8 b)) first
    ∙ ap (ordering_then (order (take 8 a) (take 8 b))) (order_cut (take 8 (drop 8 a)) (take 8 (drop 8 b)) (drop 8 (drop 8 a)) (drop 8 (drop 8 b)) second) in
    order_padded m n (22 - m) (22 - n) a b (l ∙ sym k) (omega (arith, l, p.0)) (omega (arith, k, q.0)) p.1 q.1
    ∙ ap (λ (o : Ordering). ordering_then o (nat_cmp m n)) whole

-- the first of some answers that is not `Equal`
pub by_first : (o x y : Ordering) → (o ≡ Equal → ⊥) → o ≡ ordering_then (ordering_then o x) y
by_first Less x y n = refl
by_first Equal x y n = absurd (n refl)
by_first Greater x y n = refl

pub by_second : (o p x y : Ordering) → o ≡ Equal → (p ≡ Equal → ⊥) → p ≡ ordering_then (ordering_then o (ordering_then p x)) y
by_second o p x y e n = by_first p x y n ∙ ap (λ (k : Ordering). ordering_then (ordering_then k (ordering_then p x)) y) (sym e)

pub by_third : (o p q y : Ordering) → o ≡ Equal → p ≡ Equal → ordering_then q y ≡ ordering_then (ordering_then o (ordering_then p q)) y
by_third o p q y e f = ap (λ (k : Ordering). ordering_then (ordering_then k (ordering_then Equal q)) y) (sym e) ∙ ap (λ (k : Ordering). ordering_then (ordering_then o (ordering_then k q)) y) (sym f)

-- where the words before are the same, the last ones compare as the bytes behind those do
pub last_word : (a b : List ℕ) → length a ≡ 22 → length b ≡ 22 → order (take 8 (drop 8 a)) (take 8 (drop 8 b)) ≡ Equal → order (take 8 (drop 14 a)) (take 8 (drop 14 b)) ≡ order (drop 8 (drop 8 a)) (drop 8 (drop 8 b))
last_word a b l k e =
    let u = take 8 (drop 8 a) in
    let v = take 8 (drop 8 b) in
    let same : u ≡ v = exact_bytes u v e in
    let ends : drop 6 u ≡ drop 6 v = ap (drop 6) same in
    ap (λ (t : List ℕ). order t (take 8 (drop 14 b))) (overlapped a l) ∙ ap (order (drop 6 u ++ drop 8 (drop 8 a))) (overlapped b k)
    ∙ order_cut (drop 6 u) (drop 6 v) (drop 8 (drop 8 a)) (drop 8 (drop 8 b)) (ap length ends)
    ∙ ap (λ (o : Ordering). ordering_then o (order (drop 8 (drop 8 a)) (drop 8 (drop 8 b)))) (ap (λ (t : List ℕ). order t (drop 6 v)) ends ∙ order_self (drop 6 v))

then_keeps : (q y : Ordering) → (q ≡ Equal → ⊥) → q ≡ ordering_then q y
then_keeps Less y n = refl
then_keeps Equal y n = absurd (n refl)
then_keeps Greater y n = refl

-- ---- the four ends of the comparison: what the three words say, and then the lengths

abbrev pub Compared : ℕ → ℕ → Ordering → Ordering → Ordering → Ordering
Compared m n o p q = ordering_then (ordering_then o (ordering_then p q)) (nat_cmp m n)

pub ends_first : (m n : ℕ) (o p q : Ordering) → (o ≡ Equal → ⊥) → o ≡ Compared m n o p q
ends_first m n o p q differs = by_first o (ordering_then p q) (nat_cmp m n) differs

pub ends_second : (m n : ℕ) (o p q : Ordering) → o ≡ Equal → (p ≡ Equal → ⊥) → p ≡ Compared m n o p q
ends_second m n o p q e differs = by_second o p q (nat_cmp m n) e differs

pub ends_third : (m n : ℕ) (o p q : Ordering) → o ≡ Equal → p ≡ Equal → (q ≡ Equal → ⊥) → q ≡ Compared m n o p q
ends_third m n o p q e f differs = then_keeps q (nat_cmp m n) differs ∙ by_third o p q (nat_cmp m n) e f

pub ends_last : (m n : ℕ) (o p q r : Ordering) → o ≡ Equal → p ≡ Equal → q ≡ Equal → r ≡ nat_cmp m n → r ≡ Compared m n o p q
ends_last m n o p q r e f g is = is ∙ ap (λ (k : Ordering). ordering_then k (nat_cmp m n)) (sym g) ∙ by_third o p q (nat_cmp m n) e f

abbrev pub second_words : List ℕ → List ℕ → Ordering
second_words a b = order (take 8 (drop 8 a)) (take 8 (drop 8 b))

abbrev pub last_bytes : List ℕ → List ℕ → Ordering
last_bytes a b = order (drop 8 (drop 8 a)) (drop 8 (drop 8 b))

-- from the words of the code to the bytes
pub ends :
    (m n : ℕ) (a b : List ℕ) (o p q r : Ordering) → length a ≡ 22 → length b ≡ 22 → IsPadded m a → IsPadded n b → o ≡ order (take 8 a) (take 8 b) → p ≡ order (take 8 (drop 8 a)) (take 8 (drop 8 b))
    → q ≡ order (drop 8 (drop 8 a)) (drop 8 (drop 8 b)) → r ≡ Compared m n o p q → r ≡ order (take m a) (take n b)
ends m n a b o p q r l k x y eo ep eq e =
    e ∙ (λ i. Compared m n (eo i) (ep i) (eq i)) ∙ sym (compared m n a b l k x y)
