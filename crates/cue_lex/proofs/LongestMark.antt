-- The mark that is taken is the longest one at the front.
use Rattle.std.proofs.Common.{◌≡◌, inl, inr, ℕ, ◌≤◌, Bool, true, false, List, [], ◌∷◌, ◌++◌, map, length, refl, sym, arith, rules, codes}
use Rattle.std.specs.Prelude.{Option, Some, None, MatchOption, nat_eq, if◌then◌else◌}
use Rattle.std.specs.List.{starts_with, AllByRecursion}
use Rattle.std.specs.Option.{option_map}
use Rattle.std.proofs.lemmas.Bool.{eqb-true, eq-eqb}
use Rattle.cue_lattice.specs.OneOf.{OneOf}
use Rattle.cue_lex.specs.declared.punctuation.Punctuation.{Punctuation}
use Rattle.cue_lex.specs.declared.punctuation.Punctuation.TheVariants as points
use Rattle.cue_lex.specs.Marks.{single_marks, longer_marks, marks, first_mark_of, single_mark, first_mark, mark_in_front, IsLongest, BeginsWithNone, TakesTheLongest}

abbrev as_row : ℕ × Punctuation → List ℕ × Punctuation
as_row m = (m.0 ∷ [], m.1)

false_true : {b : Bool} → b ≡ false → b ≡ true → ⊥
false_true is_no is_yes = search rules

turned : (a b : ℕ) (equal : Bool) → nat_eq b a ≡ equal → nat_eq a b ≡ false → nat_eq b a ≡ false
turned a b true is other = absurd (false_true other (eq-eqb a b (sym (eqb-true b a is))))
turned a b false is other = is

-- a text begins with its first byte, and with no other
single_starts : (b : ℕ) (bs : List ℕ) (x : ℕ) (equal : Bool) → nat_eq b x ≡ equal → starts_with nat_eq (b ∷ bs) (x ∷ []) ≡ equal
single_starts b bs x true is = rw (eq-eqb x b (sym (eqb-true b x is))) refl
single_starts b bs x false is = rw (turned b x (nat_eq x b) refl is) refl

-- no single mark is longer than one byte
single_longest : (bytes : List ℕ) (n : ℕ) → 1 ≤ n → (ms : List (ℕ × Punctuation))
    → AllByRecursion (λ m. starts_with nat_eq bytes m.0 ≡ true → length m.0 ≤ n) (map as_row ms)
single_longest bytes n some [] = tt
single_longest bytes n some (m ∷ ms) = ((λ _. some), single_longest bytes n some ms)

some_same : {a b : Punctuation} → Some a ≡ Some b → a ≡ b
some_same same = search rules

-- a mark found is one of the list, and its byte is the first
first_step : (b : ℕ) (m : ℕ × Punctuation) (ms : List (ℕ × Punctuation)) (kind : Punctuation) (equal : Bool) → nat_eq b m.0 ≡ equal
    → (first_mark_of b ms ≡ Some kind → OneOf (λ m. m ≡ (b ∷ [], kind)) (map as_row ms))
    → (if equal then Some m.1 else first_mark_of b ms) ≡ Some kind → OneOf (λ m. m ≡ (b ∷ [], kind)) (map as_row (m ∷ ms))
first_step b m ms kind true is more found = inl (rw (eqb-true b m.0 is, some_same found) refl)
first_step b m ms kind false is more found = inr (more found)

first_some : (b : ℕ) (ms : List (ℕ × Punctuation)) (kind : Punctuation) → first_mark_of b ms ≡ Some kind → OneOf (λ m. m ≡ (b ∷ [], kind)) (map as_row ms)
first_some b [] kind found = search rules
first_some b (m ∷ ms) kind found = first_step b m ms kind (nat_eq b m.0) refl (first_some b ms kind) found

-- where none is found, the text begins with none
none_step : (b : ℕ) (bs : List ℕ) (m : ℕ × Punctuation) (ms : List (ℕ × Punctuation)) (equal : Bool) → nat_eq b m.0 ≡ equal
    → (first_mark_of b ms ≡ None → AllByRecursion (λ m. starts_with nat_eq (b ∷ bs) m.0 ≡ false) (map as_row ms))
    → (if equal then Some m.1 else first_mark_of b ms) ≡ None → AllByRecursion (λ m. starts_with nat_eq (b ∷ bs) m.0 ≡ false) (map as_row (m ∷ ms))
none_step b bs m ms true is more found = search rules
none_step b bs m ms false is more found = (single_starts b bs m.0 false is, more found)

first_none : (b : ℕ) (bs : List ℕ) (ms : List (ℕ × Punctuation)) → first_mark_of b ms ≡ None → AllByRecursion (λ m. starts_with nat_eq (b ∷ bs) m.0 ≡ false) (map as_row ms)
first_none b bs [] found = tt
first_none b bs (m ∷ ms) found = none_step b bs m ms (nat_eq b m.0) refl (first_none b bs ms) found

-- a list that holds one of a list holds one of a longer list
later : {X : Type 0} (P : X → Type 0) (front xs : List X) → OneOf P xs → OneOf P (front ++ xs)
later P [] xs one = one
later P (x ∷ front) xs one = inr (later P front xs one)

-- after the longer marks, none of which stands at the front
single_case : (b : ℕ) (bs : List ℕ) → (found : Option Punctuation) → first_mark_of b single_marks ≡ found
    → starts_with nat_eq (b ∷ bs) (codes "...") ≡ false → starts_with nat_eq (b ∷ bs) (codes "<=") ≡ false
    → starts_with nat_eq (b ∷ bs) (codes ">=") ≡ false → starts_with nat_eq (b ∷ bs) (codes "!=") ≡ false
    → MatchOption (option_map (λ kind. (kind, 1)) found) (BeginsWithNone (b ∷ bs)) (IsLongest (b ∷ bs))
single_case b bs None is no3 less greater other = (no3, (less, (greater, (other, first_none b bs single_marks is))))
single_case b bs (Some kind) is no3 less greater other = record {
  spelled = b ∷ [];
  is = later (λ m. m ≡ (b ∷ [], kind)) longer_marks (map as_row single_marks) (first_some b single_marks kind is);
  size = refl;
  begins = single_starts b bs b true (eq-eqb b b refl);
  longest = ((λ w. absurd (false_true no3 w)), ((λ w. absurd (false_true less w)), ((λ w. absurd (false_true greater w)), ((λ w. absurd (false_true other w)), single_longest (b ∷ bs) 1 (omega arith) single_marks))));
}

-- a mark of more than one byte
longer_case : (bytes spelled : List ℕ) (kind : Punctuation) → OneOf (λ m. m ≡ (spelled, kind)) marks → starts_with nat_eq bytes spelled ≡ true
    → 1 ≤ length spelled
    → (starts_with nat_eq bytes (codes "...") ≡ true → 3 ≤ length spelled)
    → (starts_with nat_eq bytes (codes "<=") ≡ true → 2 ≤ length spelled)
    → (starts_with nat_eq bytes (codes ">=") ≡ true → 2 ≤ length spelled)
    → (starts_with nat_eq bytes (codes "!=") ≡ true → 2 ≤ length spelled)
    → IsLongest bytes (kind, length spelled)
longer_case bytes spelled kind row begins some no3 less greater other = record {
  spelled = spelled;
  is = row;
  size = refl;
  begins = begins;
  longest = (no3, (less, (greater, (other, single_longest bytes (length spelled) some single_marks))));
}

found_case : (bytes : List ℕ) (three less greater other : Bool)
    → starts_with nat_eq bytes (codes "...") ≡ three → starts_with nat_eq bytes (codes "<=") ≡ less
    → starts_with nat_eq bytes (codes ">=") ≡ greater → starts_with nat_eq bytes (codes "!=") ≡ other
    → MatchOption
    (if three then Some (points.Ellipsis, 3)
    else (if less then Some (points.AtMost, 2)
    else (if greater then Some (points.AtLeast, 2)
    else (if other then Some (points.NotEqual, 2)
    else first_mark bytes))))
    (BeginsWithNone bytes) (IsLongest bytes)
unfolding single_mark
found_case bytes true less greater other i3 il ig io = longer_case bytes (codes "...") points.Ellipsis (inl refl) i3 (omega arith) (λ _. omega arith) (λ _. omega arith) (λ _. omega arith) (λ _. omega arith)
found_case bytes false true greater other i3 il ig io = longer_case bytes (codes "<=") points.AtMost (inr (inl refl)) il (omega arith) (λ w. absurd (false_true i3 w)) (λ _. omega arith) (λ _. omega arith) (λ _. omega arith)
found_case bytes false false true other i3 il ig io = longer_case bytes (codes ">=") points.AtLeast (inr (inr (inl refl))) ig (omega arith) (λ w. absurd (false_true i3 w)) (λ _. omega arith) (λ _. omega arith) (λ _. omega arith)
found_case bytes false false false true i3 il ig io = longer_case bytes (codes "!=") points.NotEqual (inr (inr (inr (inl refl)))) io (omega arith) (λ w. absurd (false_true i3 w)) (λ _. omega arith) (λ _. omega arith) (λ _. omega arith)
found_case [] false false false false i3 il ig io = search rules
found_case (b ∷ bs) false false false false i3 il ig io = single_case b bs (first_mark_of b single_marks) refl i3 il ig io

-- the longest mark is taken
pub takes_the_longest : TakesTheLongest
unfolding mark_in_front
takes_the_longest bytes = found_case bytes (starts_with nat_eq bytes (codes "...")) (starts_with nat_eq bytes (codes "<=")) (starts_with nat_eq bytes (codes ">=")) (starts_with nat_eq bytes (codes "!=")) refl refl refl refl
