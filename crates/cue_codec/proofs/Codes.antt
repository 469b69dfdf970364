-- Bytes that tell what they stand for, whatever stands after them.
use Rattle.std.proofs.Common.{◌≡◌, ℕ, ◌^◌, ◌<◌, List, [], ◌∷◌, ◌++◌, length, take, drop, refl, sym, ap, subst, ◌∙◌, append_assoc, arith, inl, inr}
use Rattle.std.specs.Int.{Width, w16, w32, w64, byte_len, from_be_bytes, to_be_bytes}
use Rattle.std.specs.List.{flat_map, AllByRecursion}
use Rattle.std.proofs.lemmas.List.{take_at, drop_at, length-append, append-nil}
use Rattle.std.proofs.lemmas.List.Concat.{flat_map-append, flat_map-cons}
use Rattle.std.proofs.lemmas.Nat.{from_be_bytes-to_be_bytes_2, from_be_bytes-to_be_bytes_4, from_be_bytes-to_be_bytes_8}
use Rattle.cue_codec.specs.Parts.{counted_bytes}
use Rattle.cue_codec.specs.Reading.{ReadsItem, ReadsNoItem, IsReadRefused, AreCounted}
use Rattle.cue_codec.specs.Inner.Reading.{AreSo, IsNoneRead}
use Rattle.cue_codec.specs.declared.unread.Unread.{Unread}
use Rattle.cue_codec.specs.declared.unread.Unread.TheVariants.{Memory, Cut, Wrong}
use Rattle.cue_lattice.specs.declared.refusal.Kind.{Kind}

-- the bytes in front tell the item and the rest
abbrev pub OneItem : {X : Type 0} → (X → Type 0) → (X → List ℕ) → Type 0
OneItem {X} is_item code = (x y : X) (r s : List ℕ) → is_item x → is_item y → code x ++ r ≡ code y ++ s → (x ≡ y) × (r ≡ s)

-- fronts of one length are split at one place
pub same_fronts : (a b r s : List ℕ) → length a ≡ length b → a ++ r ≡ b ++ s → (a ≡ b) × (r ≡ s)
same_fronts a b r s len e = (
  sym (take_at a r (length a) refl) ∙ ap (λ (t : List ℕ). take (length a) t) e ∙ take_at b s (length a) (sym len),
  sym (drop_at a r (length a) refl) ∙ ap (λ (t : List ℕ). drop (length a) t) e ∙ drop_at b s (length a) (sym len),
)

pub record IsWide (w : Width) (limit : ℕ) : Type 0 where
  pub len : (n : ℕ) → length (to_be_bytes w n) ≡ byte_len w
  pub again : (n : ℕ) → n < limit → from_be_bytes w (to_be_bytes w n) ≡ n

pub wide16 : IsWide w16 (2 ^ 16)
wide16 = record { len = λ n. refl; again = λ n lt. from_be_bytes-to_be_bytes_2 n lt }

pub wide32 : IsWide w32 (2 ^ 32)
wide32 = record { len = λ n. refl; again = λ n lt. from_be_bytes-to_be_bytes_4 n lt }

pub wide64 : IsWide w64 (2 ^ 64)
wide64 = record { len = λ n. refl; again = λ n lt. from_be_bytes-to_be_bytes_8 n lt }

-- a number in front tells itself and the rest
pub one_number : (w : Width) (limit : ℕ) (wide : IsWide w limit) (m n : ℕ) (r s : List ℕ) → m < limit → n < limit → to_be_bytes w m ++ r ≡ to_be_bytes w n ++ s → (m ≡ n) × (r ≡ s)
one_number w limit wide m n r s lm ln e =
    let f = same_fronts (to_be_bytes w m) (to_be_bytes w n) r s (wide.len m ∙ sym (wide.len n)) e in
    (sym (wide.again m lm) ∙ ap (from_be_bytes w) f.0 ∙ wide.again n ln, f.1)

-- ---- as many items

pub list_step : {X : Type 0} (code : X → List ℕ) (x : X) (xs : List X) (r : List ℕ) → flat_map code (x ∷ xs) ++ r ≡ code x ++ (flat_map code xs ++ r)
list_step code x xs r = ap (λ (t : List ℕ). t ++ r) (flat_map-cons code x xs) ∙ append_assoc (code x) (flat_map code xs) r

pub one_list : {X : Type 0} (v : X → Type 0) (code : X → List ℕ) → OneItem v code → (xs ys : List X) (r s : List ℕ) → AllByRecursion v xs → AllByRecursion v ys → length xs ≡ length ys
    → flat_map code xs ++ r ≡ flat_map code ys ++ s → (xs ≡ ys) × (r ≡ s)
one_list v code one [] [] r s p q n e = (refl, e)
one_list v code one [] (y ∷ ys) r s p q n e = absurd (omega (arith, n))
one_list v code one (x ∷ xs) [] r s p q n e = absurd (omega (arith, n))
one_list v code one (x ∷ xs) (y ∷ ys) r s p q n e =
    let first = one x y (flat_map code xs ++ r) (flat_map code ys ++ s) p.0 q.0 (sym (list_step code x xs r) ∙ e ∙ list_step code y ys s) in
    let others = one_list v code one xs ys r s p.1 q.1 (omega (arith, n)) first.1 in
    (λ i. first.0 i ∷ others.0 i, others.1)

-- one more item was read
pub items_more : {X : Type 0} (code : X → List ℕ) (xs : List X) (x : X) (bytes rest after : List ℕ) → bytes ≡ flat_map code xs ++ rest → rest ≡ code x ++ after → bytes ≡ flat_map code (xs ++ x ∷ []) ++ after
items_more code xs x bytes rest after e r =
    let pushed : flat_map code (xs ++ x ∷ []) ≡ flat_map code xs ++ code x = flat_map-append code xs (x ∷ []) ∙ ap (λ (t : List ℕ). flat_map code xs ++ t) (flat_map-cons code x [] ∙ append-nil (code x)) in
    e ∙ ap (λ (t : List ℕ). flat_map code xs ++ t) r ∙ sym (append_assoc (flat_map code xs) (code x) after) ∙ ap (λ (t : List ℕ). t ++ after) (sym pushed)

pub all_more : {X : Type 0} (v : X → Type 0) (xs : List X) (x : X) → AllByRecursion v xs → v x → AllByRecursion v (xs ++ x ∷ [])
all_more v [] x p q = (q, tt)
all_more v (y ∷ ys) x p q = (p.0, all_more v ys x p.1 q)

no_more : {X : Type 0} (v : X → Type 0) (code : X → List ℕ) → OneItem v code → (xs ys : List X) (rest s : List ℕ) → AllByRecursion v xs → AllByRecursion v ys → length xs < length ys
    → flat_map code xs ++ rest ≡ flat_map code ys ++ s → ReadsNoItem v code rest → ⊥
no_more v code one [] [] rest s p q n e none = omega (arith, n)
no_more v code one [] (y ∷ ys) rest s p q n e none = none y (flat_map code ys ++ s) q.0 (e ∙ list_step code y ys s)
no_more v code one (x ∷ xs) [] rest s p q n e none = omega (arith, n)
no_more v code one (x ∷ xs) (y ∷ ys) rest s p q n e none =
    let first = one x y (flat_map code xs ++ rest) (flat_map code ys ++ s) p.0 q.0 (sym (list_step code x xs rest) ∙ e ∙ list_step code y ys s) in
    no_more v code one xs ys rest s p.1 q.1 (omega (arith, n)) first.1 none

-- where an item is missing, so many items do not stand
pub items_none : {X : Type 0} (v : X → Type 0) (code : X → List ℕ) → OneItem v code → (count : ℕ) (xs : List X) (bytes rest : List ℕ) → AllByRecursion v xs → length xs < count
    → bytes ≡ flat_map code xs ++ rest → ReadsNoItem v code rest → ReadsNoItem (AreSo v count) (flat_map code) bytes
items_none v code one count xs bytes rest p n e none = λ ys s q is.
    no_more v code one xs ys rest s p q.1 (omega (arith, n, q.0)) (sym e ∙ is) none

-- ---- a count, and as many items

counted_parts : {X : Type 0} (code : X → List ℕ) (xs : List X) (r : List ℕ) → counted_bytes code xs ++ r ≡ to_be_bytes w64 (length xs) ++ (flat_map code xs ++ r)
unfolding counted_bytes
counted_parts code xs r = append_assoc (to_be_bytes w64 (length xs)) (flat_map code xs) r

-- counted items in front tell themselves and the rest
pub one_counted : {X : Type 0} (v : X → Type 0) (code : X → List ℕ) → OneItem v code → OneItem (AreCounted v) (counted_bytes code)
one_counted v code one xs ys r s p q e =
    let first = one_number w64 (2 ^ 64) wide64 (length xs) (length ys) (flat_map code xs ++ r) (flat_map code ys ++ s) p.1 q.1 (sym (counted_parts code xs r) ∙ e ∙ counted_parts code ys s) in
    one_list v code one xs ys r s p.0 q.0 first.0 first.1

-- a count and the items after it were read
pub counted_found : {X : Type 0} (v : X → Type 0) (code : X → List ℕ) (count : ℕ) (xs : List X) (bytes items rest : List ℕ) → count < 2 ^ 64 → bytes ≡ to_be_bytes w64 count ++ items
    → ReadsItem (AreSo v count) (flat_map code) xs items rest → ReadsItem (AreCounted v) (counted_bytes code) xs bytes rest
counted_found v code count xs bytes items rest lt e b = record {
  value = (b.value.1, omega (arith, lt, b.value.0));
  parts = e ∙ ap (λ (t : List ℕ). to_be_bytes w64 count ++ t) b.parts ∙ ap (λ (n : ℕ). to_be_bytes w64 n ++ (flat_map code xs ++ rest)) (sym b.value.0) ∙ sym (counted_parts code xs rest);
}

pub counted_none : {X : Type 0} (v : X → Type 0) (code : X → List ℕ) (count : ℕ) (bytes items : List ℕ) → count < 2 ^ 64 → bytes ≡ to_be_bytes w64 count ++ items → ReadsNoItem (AreSo v count) (flat_map code) items
    → ReadsNoItem (AreCounted v) (counted_bytes code) bytes
counted_none v code count bytes items lt e none = λ xs s p is.
    let first = one_number w64 (2 ^ 64) wide64 (length xs) count (flat_map code xs ++ s) items p.1 lt (sym (counted_parts code xs s) ∙ sym is ∙ e) in
    none xs s (first.0, p.0) (sym first.1)

-- too few bytes for a count
pub counted_short : {X : Type 0} (v : X → Type 0) (code : X → List ℕ) (bytes : List ℕ) → length bytes < 8 → ReadsNoItem (AreCounted v) (counted_bytes code) bytes
counted_short v code bytes lt = λ xs s p is.
    omega (arith, lt, ap length (is ∙ counted_parts code xs s), length-append (to_be_bytes w64 (length xs)) (flat_map code xs ++ s), wide64.len (length xs))

-- ---- one part after another

-- where the first part does not stand, the whole doesn't
pub first_none : {A X : Type 0} (va : A → Type 0) (ca : A → List ℕ) (v : X → Type 0) (code : X → List ℕ) (bytes : List ℕ) → ((x : X) (s : List ℕ) → v x → (a : A) × (r : List ℕ) × va a × (code x ++ s ≡ ca a ++ r)) → ReadsNoItem va ca bytes → ReadsNoItem v code bytes
first_none va ca v code bytes split none = λ x s h e.
    let parts = split x s h in none parts.0 parts.1 parts.2 (e ∙ parts.3)

-- where the second does not stand after the first, the whole doesn't
pub second_none : {A B X : Type 0} (va : A → Type 0) (ca : A → List ℕ) → OneItem va ca → (vb : B → Type 0) (cb : B → List ℕ) (v : X → Type 0) (code : X → List ℕ) (a : A) (bytes rest : List ℕ)
    → ((x : X) (s : List ℕ) → v x → (b : A) × (c : B) × (r : List ℕ) × va b × vb c × (code x ++ s ≡ ca b ++ (cb c ++ r))) → ReadsItem va ca a bytes rest → ReadsNoItem vb cb rest → ReadsNoItem v code bytes
second_none va ca one vb cb v code a bytes rest split begins none = λ x s h e.
    let parts = split x s h in
    let same = one a parts.0 rest (cb parts.1 ++ parts.2) begins.value parts.3 (sym begins.parts ∙ e ∙ parts.5) in
    none parts.1 parts.2 parts.4 same.1

-- where what was found is no such value, none stands
pub other_none : {A : Type 0} (va v : A → Type 0) (code : A → List ℕ) → OneItem va code → ((x : A) → v x → va x) → (a : A) (bytes rest : List ℕ) → ReadsItem va code a bytes rest → (v a → ⊥) → ReadsNoItem v code bytes
other_none va v code one weaker a bytes rest begins bad = λ x s h e.
    bad (subst v (sym (one a x rest s begins.value (weaker x h) (sym begins.parts ∙ e)).0) h)

-- ---- refusals

-- why one thing is refused is why another is
pub refused_so : (kind : Kind) (A B : Type 0) → (A → B) → IsReadRefused kind A → IsReadRefused kind B
refused_so kind A B f refused = elim refused [ inl memory ↦ inl memory | inr reason ↦ inr (reason.0, f reason.1) ]

-- ---- bytes that go on

-- a byte in front stays there
pub tag_more : (bytes rest : List ℕ) (tag : ℕ) (more : List ℕ) → bytes ≡ tag ∷ rest → bytes ++ more ≡ tag ∷ (rest ++ more)
tag_more bytes rest tag more e = ap (λ (t : List ℕ). t ++ more) e

-- and so does a front
pub front_more : (bytes front rest more : List ℕ) → bytes ≡ front ++ rest → bytes ++ more ≡ front ++ (rest ++ more)
front_more bytes front rest more e = ap (λ (t : List ℕ). t ++ more) e ∙ append_assoc front rest more

pub begins_more : {X : Type 0} (v : X → Type 0) (code : X → List ℕ) (x : X) (bytes rest more : List ℕ) → ReadsItem v code x bytes rest → ReadsItem v code x (bytes ++ more) (rest ++ more)
begins_more v code x bytes rest more b = record { value = b.value; parts = front_more bytes (code x) rest more b.parts }

-- where one thing is missing whatever follows, so is another, which has it
pub unread_so : (why : Unread) (P Q : List ℕ → Type 0) (a b : List ℕ) → ((more : List ℕ) → P (a ++ more) → Q (b ++ more)) → IsNoneRead why P a → IsNoneRead why Q b
unread_so Memory P Q a b f h = tt
unread_so Cut P Q a b f h = subst Q (append-nil b) (f [] (subst P (sym (append-nil a)) h))
unread_so Wrong P Q a b f h = λ more. f more (h more)

pub items_unread : {X : Type 0} (why : Unread) (v : X → Type 0) (code : X → List ℕ) → OneItem v code → (count : ℕ) (xs : List X) (bytes rest : List ℕ) → AllByRecursion v xs → length xs < count
    → bytes ≡ flat_map code xs ++ rest → IsNoneRead why (ReadsNoItem v code) rest → IsNoneRead why (ReadsNoItem (AreSo v count) (flat_map code)) bytes
items_unread why v code one count xs bytes rest p n e =
    unread_so why (ReadsNoItem v code) (ReadsNoItem (AreSo v count) (flat_map code)) rest bytes
    (λ more. items_none v code one count xs (bytes ++ more) (rest ++ more) p n (front_more bytes (flat_map code xs) rest more e))
