-- The indexes at which other elements begin.
use Rattle.std.proofs.Common.{◌≡◌, ◌↔◌, ◌⊎◌, inl, inr, ⊎_elim, ℕ, zero, suc, ◌+◌, ◌≤◌, ◌<◌, ◌^◌, true, false, List, [], ◌∷◌, ◌++◌, All, Option, Some, None, refl, sym, ap, subst, ◌∙◌, arith}
use Rattle.std.specs.List.{Contains}
use Rattle.std.specs.List.Sorted.{IsPermutation}
use Rattle.std.specs.BinaryHeap.{IsUpperBound}
use Rattle.std.specs.Ordering.{nat_cmp, is_lt}
use Rattle.std.proofs.lemmas.Bool.{cases_lt}
use Rattle.std.proofs.lemmas.List.Elements.{All-contains, All-contains_itself, Contains-append_right, All-weaker, All-cons, All-from_recursion, All-push}
use Rattle.std.proofs.lemmas.List.Sorted.{All-permutation, IsPermutation-sym, Contains-permutation}
use Rattle.cue_lattice.specs.Path.{Path, index}
use Rattle.cue_lattice.specs.Question.{Question}
use Rattle.cue_row.specs.Questions.{question_of}
use Rattle.cue_row.specs.Row.{RefusesAsked}
use Rattle.cue_row.specs.declared.question.Question as program
use Rattle.cue_row.specs.declared.parts.RowParts.{RowParts as Row}
use Rattle.cue_table.specs.Form.{IsTree, AreWithinDepth}
use Rattle.cue_table.specs.Refuses.{TableRefuses}
use Rattle.cue_table.specs.Spans.{Span, field, elements, alike_elements, branches_of_span, branches_of_spans}
use Rattle.cue_table.specs.Tree.{Tree, node, Children, none, child, no_rest, onward, below, behind_last, find, find_with, step_into, fixed_of}
use Rattle.cue_table.proofs.Branches.{find_before, find_rest, find_fixed}
use Rattle.cue_table.proofs.Exact.{within_last}
use Rattle.cue_table.proofs.Joined.{alike_find, alike_past, less_number}
use Rattle.cue_eval.specs.Inner.Adding.{ClosingAddsAt, AreStretches, row_below, NoneBetween, AreBounds, AreBoundsOf, AreBoundsBelow, AreFew, AreKept, HasBoundsOf, IsSpanWithin}
use Rattle.cue_eval.specs.declared.left_out.ClosingPlace.{ClosingPlace}
use Rattle.cue_eval.proofs.AddedBelow.{last_stretch, next_stretch}
use Rattle.cue_eval.proofs.LabelTables.{adds_further, adds_nowhere, same_adds}

-- ---- numbers that are kept
pub all_kept : (P : ℕ → Type 0) (old new : List ℕ) → AreKept old new → All P new → All P old
all_kept P old new kept all = All-weaker (Contains old) P (λ n there. All-contains P new n all (kept n there)) old (All-contains_itself old)

pub kept_itself : (bounds : List ℕ) → AreKept bounds bounds
kept_itself bounds n there = there

pub kept_on : (a b c : List ℕ) → AreKept a b → AreKept b c → AreKept a c
kept_on a b c one two n there = two n (one n there)

pub pushed_kept : (bound : ℕ) (old new : List ℕ) → IsPermutation (bound ∷ old) new → AreKept old new
pushed_kept bound old new moved n there = Contains-permutation (bound ∷ old) new n moved (Contains-append_right (bound ∷ []) old n there)

pub pushed_there : (bound : ℕ) (old new : List ℕ) → IsPermutation (bound ∷ old) new → Contains new bound
pushed_there bound old new moved = Contains-permutation (bound ∷ old) new bound moved (0, omega arith, refl)

-- ---- one more behind others
pub pushed_all : {X : Type 0} (P : X → Type 0) (old new : List X) (one : X) → new ≡ old ++ one ∷ [] → All P old → P one → All P new
pushed_all P old new one e all here = subst (All P) (sym e) (All-push P old one all here)

-- ---- numbers that are at most 2 ^ 32
pub pushed_few : (bound : ℕ) (old new : List ℕ) → bound ≤ 2 ^ 32 → AreFew old → IsPermutation (bound ∷ old) new → AreFew new
pushed_few bound old new few all moved = All-permutation (λ b. b ≤ 2 ^ 32) (bound ∷ old) new moved (All-cons (λ b. b ≤ 2 ^ 32) bound old few all)

pub popped_few : (bound : ℕ) (old left : List ℕ) → AreFew old → IsPermutation old (bound ∷ left) → (bound ≤ 2 ^ 32) × AreFew left
popped_few bound old left all moved =
    let both = All-permutation (λ b. b ≤ 2 ^ 32) old (bound ∷ left) moved all in
    (All-contains (λ b. b ≤ 2 ^ 32) (bound ∷ left) bound both (0, omega arith, refl), all_kept (λ b. b ≤ 2 ^ 32) left (bound ∷ left) (λ n there. Contains-append_right (bound ∷ []) left n there) both)

-- ---- where the elements of a tree stand
module _ {R : Type 0} where
  alike_ends : (n i m : ℕ) (tree : Tree R) (others : Children R) → AreWithinDepth n (alike_elements i m tree others) → (i + m < n) × AreWithinDepth n others
  alike_ends n i zero tree others h = (omega (arith, h.0), h.1)
  alike_ends n i (suc m) tree others h = let more = alike_ends n (suc i) m tree others h.1 in (omega (arith, more.0), more.1)

  -- a span and what is behind it stand where both do
  pub span_within : (n : ℕ) (span : Span) (tree : Tree R) (left : Children R) → AreWithinDepth n (branches_of_span span tree left) → IsSpanWithin n span × AreWithinDepth n left
  span_within n (field text) tree left h = (tt, h)
  span_within n (elements i more) tree left h = alike_ends n i more tree left h

  -- the elements of a tree in form stand before those that are all alike
  pub own_within : (P : R → Type 0) (tree : Tree R) → IsTree P tree → AreWithinDepth (fixed_of tree) (below tree)
  own_within P (node row children no_rest) h = within_last (behind_last children) children (omega arith)
  own_within P (node row children (onward n tree)) h = h.2.0

pub span_before : (n m : ℕ) (span : Span) → n ≤ m → IsSpanWithin n span → IsSpanWithin m span
span_before n m (field text) le h = tt
span_before n m (elements i more) le h = omega (arith, le, h)

-- ---- elements that stand next to one another
module _ {R : Type 0} where
  lower : (f i : ℕ) (tree : Tree R) (others : Children R) → i < f → find (index i) (child (index f) tree others) ≡ find (index i) others
  lower f i tree others low = find_before (index i) (index f) tree others (less_number i f low)

  alike_before : (f m i : ℕ) (tree : Tree R) (others : Children R) → i < f → find (index i) (alike_elements f m tree others) ≡ find (index i) others
  alike_before f zero i tree others low = lower f i tree others low
  alike_before f (suc m) i tree others low = lower f i tree (alike_elements (suc f) m tree others) low ∙ alike_before (suc f) m i tree others (omega (arith, low))

  -- in a span, or beside it
  pub alike_same : (f m i j : ℕ) (tree : Tree R) (others : Children R) → i ≤ j → (f ≤ i) ⊎ (j < f) → (f + m + 1 ≤ i) ⊎ (j < f + m + 1) → find (index i) others ≡ find (index j) others
      → find (index i) (alike_elements f m tree others) ≡ find (index j) (alike_elements f m tree others)
  alike_same f m i j tree others le (inr low) end same =
      alike_before f m i tree others (omega (arith, le, low)) ∙ same ∙ sym (alike_before f m j tree others low)
  alike_same f m i j tree others le (inl high) (inl past) same =
      alike_past f m i tree others (omega (arith, past)) ∙ same ∙ sym (alike_past f m j tree others (omega (arith, past, le)))
  alike_same f m i j tree others le (inl high) (inr near) same =
      alike_find f m i tree others high (omega (arith, le, near)) ∙ sym (alike_find f m j tree others (omega (arith, le, high)) (omega (arith, near)))

  rest_same : (n i j : ℕ) (tree : Tree R) (children : Children R) → i ≤ j → (n ≤ i) ⊎ (j < n) → find (index i) children ≡ find (index j) children
      → find_with (onward n tree) (index i) children ≡ find_with (onward n tree) (index j) children
  rest_same n i j tree children le (inl high) same = find_rest n tree children i high ∙ sym (find_rest n tree children j (omega (arith, high, le)))
  rest_same n i j tree children le (inr low) same = find_fixed n tree children i (omega (arith, le, low)) ∙ same ∙ sym (find_fixed n tree children j low)

  -- where the branches between two indexes are alike, so are the elements
  pub into_same : (tree : Tree R) (i j : ℕ) → i ≤ j → (fixed_of tree ≤ i) ⊎ (j < fixed_of tree) → find (index i) (below tree) ≡ find (index j) (below tree) → step_into tree (index i) ≡ step_into tree (index j)
  into_same (node row children no_rest) i j le end same = same
  into_same (node row children (onward n tree)) i j le end same = rest_same n i j tree children le end same

  -- the branches that are left tell of all
  abbrev pub AreLeft : Children R → Children R → List ℕ → Type 0
  AreLeft all left bounds = (i j : ℕ) → i ≤ j → NoneBetween i j bounds → find (index i) left ≡ find (index j) left → find (index i) all ≡ find (index j) all

  pub left_all : (all : Children R) (left : List (Span × Tree R)) (bounds : List ℕ) → branches_of_spans left ≡ all → AreLeft all (branches_of_spans left) bounds
  left_all all left bounds is i j le apart same = subst (λ cs. find (index i) cs ≡ find (index j) cs) is same

  left_elements : (all : Children R) (f m : ℕ) (tree : Tree R) (left : Children R) (old new : List ℕ) → AreLeft all (alike_elements f m tree left) old → AreKept old new → Contains new f → Contains new (f + m + 1) → AreLeft all left new
  left_elements all f m tree left old new are kept first last i j le apart same =
      are i j le (all_kept (λ bound. (bound ≤ i) ⊎ (j < bound)) old new kept apart)
      (alike_same f m i j tree left le (All-contains (λ bound. (bound ≤ i) ⊎ (j < bound)) new f apart first) (All-contains (λ bound. (bound ≤ i) ⊎ (j < bound)) new (f + m + 1) apart last) same)

  pub left_span : (all : Children R) (span : Span) (tree : Tree R) (left : Children R) (old new : List ℕ) → AreLeft all (branches_of_span span tree left) old → AreKept old new → HasBoundsOf span new → AreLeft all left new
  left_span all (field text) tree left old new are kept there i j le apart same = are i j le (all_kept (λ bound. (bound ≤ i) ⊎ (j < bound)) old new kept apart) same
  left_span all (elements f m) tree left old new are kept there i j le apart same = left_elements all f m tree left old new are kept there.0 there.1 i j le apart same

  pub all_left : (tree : Tree R) (old new : List ℕ) → AreLeft (below tree) none old → AreKept old new → Contains new (fixed_of tree) → AreBoundsOf tree new
  all_left tree old new are kept last i j le apart =
      into_same tree i j le (All-contains (λ bound. (bound ≤ i) ⊎ (j < bound)) new (fixed_of tree) apart last) (are i j le (all_kept (λ bound. (bound ≤ i) ⊎ (j < bound)) old new kept apart) refl)

-- ---- what closing adds between bounds
pub bounded : (place : ClosingPlace) (bounds : List ℕ) → AreBoundsBelow (Some place.own) bounds → AreBoundsBelow place.dots bounds → AreBoundsBelow place.rows bounds → AreBounds place bounds
bounded place bounds own dots rows i j le apart path question =
    let one = adds_further place (index i) path question in
    let other = adds_further place (index j) path question in
    let same = same_adds _ _ _ _ _ _ (ap (λ t. row_below t path) (own i j le apart)) (ap (λ t. row_below t path) (dots i j le apart)) (ap (λ t. row_below t path) (rows i j le apart)) question in
    (λ h. other.1 (same.0 (one.0 h)), λ h. one.1 (same.1 (other.0 h)))

pub nowhere_bounded : (place : ClosingPlace) (bounds : List ℕ) → ((i : ℕ) → step_into place.own (index i) ≡ None) → AreBounds place bounds
nowhere_bounded place bounds free i j le apart path question =
    (λ h. absurd (adds_nowhere place (index i) (free i) path question h), λ h. absurd (adds_nowhere place (index j) (free j) path question h))

pub kept_below : {R : Type 0} (branch : Option (Tree R)) (old new : List ℕ) → AreKept old new → AreBoundsBelow branch old → AreBoundsBelow branch new
kept_below branch old new kept are i j le apart = are i j le (all_kept (λ bound. (bound ≤ i) ⊎ (j < bound)) old new kept apart)

-- ---- the way from bound to bound, the greatest first
pub record IsUnderway (place : ClosingPlace) (from : ℕ) (given : List (ℕ × Tree Row)) (bounds : List ℕ) : Type 0 where
  pub stretches : AreStretches place from given
  pub alike : (i j : ℕ) → i ≤ j → j < from → NoneBetween i j bounds → (path : Path) (question : Question)
      → ClosingAddsAt place (index i ∷ path) question ↔ ClosingAddsAt place (index j ∷ path) question
  pub end : All (λ bound. 0 < bound) bounds → from ≡ 0

-- the greatest bound is below none of the others
below_greatest : (x : ℕ) (xs : List ℕ) → IsUpperBound nat_cmp x xs → All (λ y. y ≤ x) xs
below_greatest x xs h = All-weaker (λ y. is_lt (nat_cmp x y) ≡ false) (λ y. y ≤ x) (λ y e. at y e) xs (All-from_recursion (λ y. is_lt (nat_cmp x y) ≡ false) xs h) where
  at : (y : ℕ) → is_lt (nat_cmp x y) ≡ false → y ≤ x
  at y e = ⊎_elim (λ (low : x < y). let is : is_lt (nat_cmp x y) ≡ true = ap is_lt (less_number x y low) in let no : true ≡ false = sym is ∙ e in cc (no)) (λ h. h) (cases_lt x y)

back : (P : ℕ → Type 0) (all left : List ℕ) (x : ℕ) → IsPermutation all (x ∷ left) → P x → All P left → All P all
back P all left x moved here others = All-permutation P (x ∷ left) all (IsPermutation-sym all (x ∷ left) moved) (All-cons P x left here others)

-- from the greatest bound on all elements are alike
pub underway : (place : ClosingPlace) (given : List (ℕ × Tree Row)) (sets : Tree Row) (all left : List ℕ) (last : ℕ) → given ≡ (last, sets) ∷ []
    → ((path : Path) (question : program.Question) → TableRefuses RefusesAsked sets path question ↔ ClosingAddsAt place (index last ∷ path) (question_of question))
    → AreBounds place all → Contains all 0 → IsPermutation all (last ∷ left) → IsUpperBound nat_cmp last left → IsUnderway place last given left
underway place given sets all left last e says bounds there moved greatest = record {
  stretches = last_stretch place last sets given e (λ i path question far.
      let same = last_alike i far path (question_of question) in
      (λ h. same.0 ((says path question).0 h), λ h. (says path question).1 (same.1 h)));
  alike = λ i j le low apart. bounds i j le (back (λ bound. (bound ≤ i) ⊎ (j < bound)) all left last moved (inr low) apart);
  end = λ positive. elim (cases_lt 0 last) [
    | inl more ↦ let no : 0 < 0 = All-contains (λ bound. 0 < bound) all 0 (back (λ bound. 0 < bound) all left last moved more positive) there in absurd (omega (arith, no))
    | inr least ↦ omega (arith, least)
  ];
} where
  last_alike : (i : ℕ) → last ≤ i → (path : Path) (question : Question) → ClosingAddsAt place (index last ∷ path) question ↔ ClosingAddsAt place (index i ∷ path) question
  last_alike i far = bounds last i far (back (λ bound. (bound ≤ last) ⊎ (i < bound)) all left last moved (inl (omega arith)) (All-weaker (λ y. y ≤ last) (λ bound. (bound ≤ last) ⊎ (i < bound)) (λ y h. inl h) left (below_greatest last left greatest)))

-- a stretch up to the last one: in all its elements the same is added
pub underway_on : (place : ClosingPlace) (from first : ℕ) (old new : List (ℕ × Tree Row)) (sets : Tree Row) (all left : List ℕ) → IsUnderway place from old all → IsPermutation all (first ∷ left) → IsUpperBound nat_cmp first left → first < from
    → ((path : Path) (question : program.Question) → TableRefuses RefusesAsked sets path question ↔ ClosingAddsAt place (index first ∷ path) (question_of question))
    → new ≡ old ++ (first, sets) ∷ [] → IsUnderway place first new left
underway_on place from first old new sets all left is moved greatest low says e = record {
  stretches = next_stretch place from first sets old new e low is.stretches (λ i path question high before.
      let same = first_alike i high before path (question_of question) in
      (λ h. same.0 ((says path question).0 h), λ h. (says path question).1 (same.1 h)));
  alike = λ i j le before apart. is.alike i j le (omega (arith, before, low)) (back (λ bound. (bound ≤ i) ⊎ (j < bound)) all left first moved (inr before) apart);
  end = λ positive. elim (cases_lt 0 first) [
    | inl more ↦ let no = is.end (back (λ bound. 0 < bound) all left first moved more positive) in absurd (omega (arith, no, low))
    | inr least ↦ omega (arith, least)
  ];
} where
  first_alike : (i : ℕ) → first ≤ i → i < from → (path : Path) (question : Question) → ClosingAddsAt place (index first ∷ path) question ↔ ClosingAddsAt place (index i ∷ path) question
  first_alike i high before = is.alike first i high before
      (back (λ bound. (bound ≤ first) ⊎ (i < bound)) all left first moved (inl (omega arith)) (All-weaker (λ y. y ≤ first) (λ bound. (bound ≤ first) ⊎ (i < bound)) (λ y h. inl h) left (below_greatest first left greatest)))

-- a bound that is told twice
pub underway_again : (place : ClosingPlace) (from first : ℕ) (given : List (ℕ × Tree Row)) (all left : List ℕ) → IsUnderway place from given all → IsPermutation all (first ∷ left) → from ≤ first → IsUnderway place from given left
underway_again place from first given all left is moved far = record {
  stretches = is.stretches;
  alike = λ i j le before apart. is.alike i j le before (back (λ bound. (bound ≤ i) ⊎ (j < bound)) all left first moved (inr (omega (arith, before, far))) apart);
  end = λ positive. elim (cases_lt 0 first) [
    | inl more ↦ is.end (back (λ bound. 0 < bound) all left first moved more positive)
    | inr least ↦ omega (arith, far, least)
  ];
}
