-- Elements that no list at their place writes one by one are alike.
use Rattle.std.proofs.Common.{◌≡◌, inl, inr, Bool, true, false, ℕ, zero, suc, ◌<◌, ◌≤◌, ⊎_elim, cond, List, [], ◌∷◌, ◌++◌, refl, ap, subst, ◌∙◌, arith}
use Rattle.std.specs.Str.{bytes_eq}
use Rattle.std.proofs.lemmas.Bool.{cases_lt}
use Rattle.cue_lattice.specs.Path.{Path, label, index}
use Rattle.cue_lattice.specs.Question.{Question, length_at_most}
use Rattle.cue_scope.specs.Core.{Core, top, conjunction, struct, close, list, closed, Cores, no_cores, core, Members, no_members, member, dots, Elements, ends, goes_on, each, element}
use Rattle.cue_eval.specs.Literals.{literals, literals_of_parts, literals_of_field, literals_of_element}
use Rattle.cue_eval.specs.Places.{ClosingRefuses}
use Rattle.cue_eval.specs.Refuses.{Refuses, PartsRefuse, FieldRefuses, ElementRefuses, count_of_elements}
use Rattle.cue_eval.specs.Origins.{FurtherElementsAreAlike}
use Rattle.std.proofs.lemmas.Slice.Eq.{bytes_eq-Decides}

-- behind the elements that are written one by one
further_literals : (es : Elements) (i j : ℕ) (path : Path) → count_of_elements es ≤ i → count_of_elements es ≤ j → literals_of_element es i path ≡ literals_of_element es j path
further_literals ends i j path h k = refl
further_literals goes_on i j path h k = refl
further_literals (each c) i j path h k = refl
further_literals (element c es) zero j path h k = absurd (omega arith)
further_literals (element c es) (suc i) zero path h k = absurd (omega arith)
further_literals (element c es) (suc i) (suc j) path h k = further_literals es i j path (omega arith) (omega arith)

further_refuse : (es : Elements) (i j : ℕ) (path : Path) (question : Question) → count_of_elements es ≤ i → count_of_elements es ≤ j → ElementRefuses es i path question → ElementRefuses es j path question
further_refuse ends i j path question h k r = r
further_refuse goes_on i j path question h k r = r
further_refuse (each c) i j path question h k r = r
further_refuse (element c es) zero j path question h k r = absurd (omega arith)
further_refuse (element c es) (suc i) zero path question h k r = absurd (omega arith)
further_refuse (element c es) (suc i) (suc j) path question h k r = further_refuse es i j path question (omega arith) (omega arith) r

no_less : (m n : ℕ) → ¬ (n < m) → m ≤ n
no_less m n h = ⊎_elim (λ l. absurd (h l)) (λ (g : m ≤ n). g) (cases_lt n m)

-- in the literals of a declaration that may have another label
same_if : (k l : List ℕ) (xs ys : List Members) → (k ≡ l → xs ≡ ys) → cond (bytes_eq k l) xs [] ≡ cond (bytes_eq k l) ys []
same_if k l xs ys h = by (bytes_eq k l) refl where
  by : (b : Bool) → bytes_eq k l ≡ b → cond b xs [] ≡ cond b ys []
  by true e = h ((bytes_eq-Decides k l).0 e)
  by false e = refl

mutual
  pub alike_literals : (c : Core) (path : Path) (i j : ℕ) (rest : Path) → ¬ Refuses c path (length_at_most i) → ¬ Refuses c path (length_at_most j) → literals c (path ++ index i ∷ rest) ≡ literals c (path ++ index j ∷ rest)
  alike_literals (conjunction cs) path i j rest h k = literals_by_parts cs path i j rest h k
  alike_literals (struct ms) [] i j rest h k = refl
  alike_literals (struct ms) (label m ∷ path) i j rest h k = literals_in_field ms m path i j rest h k
  alike_literals (struct ms) (index n ∷ path) i j rest h k = refl
  alike_literals (close ms) [] i j rest h k = refl
  alike_literals (close ms) (label m ∷ path) i j rest h k = literals_in_field ms m path i j rest (λ r. h (inl r)) (λ r. k (inl r))
  alike_literals (close ms) (index n ∷ path) i j rest h k = refl
  alike_literals (list es) [] i j rest h k = further_literals es i j rest (no_less (count_of_elements es) i h) (no_less (count_of_elements es) j k)
  alike_literals (list es) (label m ∷ path) i j rest h k = refl
  alike_literals (list es) (index n ∷ path) i j rest h k = literals_in_element es n path i j rest h k
  alike_literals (closed c) path i j rest h k = alike_literals c path i j rest (λ r. h (inl r)) (λ r. k (inl r))
  alike_literals _ path i j rest h k = refl

  literals_by_parts : (cs : Cores) (path : Path) (i j : ℕ) (rest : Path) → ¬ PartsRefuse cs path (length_at_most i) → ¬ PartsRefuse cs path (length_at_most j) → literals_of_parts cs (path ++ index i ∷ rest) ≡ literals_of_parts cs (path ++ index j ∷ rest)
  literals_by_parts no_cores path i j rest h k = refl
  literals_by_parts (core c cs) path i j rest h k =
      ap (λ xs. xs ++ literals_of_parts cs (path ++ index i ∷ rest)) (alike_literals c path i j rest (λ r. h (inl r)) (λ r. k (inl r)))
      ∙ ap (λ xs. literals c (path ++ index j ∷ rest) ++ xs) (literals_by_parts cs path i j rest (λ r. h (inr r)) (λ r. k (inr r)))

  literals_in_field : (ms : Members) (m : List ℕ) (path : Path) (i j : ℕ) (rest : Path) → ¬ FieldRefuses ms m path (length_at_most i) → ¬ FieldRefuses ms m path (length_at_most j) → literals_of_field ms m (path ++ index i ∷ rest) ≡ literals_of_field ms m (path ++ index j ∷ rest)
  literals_in_field no_members m path i j rest h k = refl
  literals_in_field (dots ms) m path i j rest h k = literals_in_field ms m path i j rest h k
  literals_in_field (member l mark c ms) m path i j rest h k =
      ap (λ xs. xs ++ literals_of_field ms m (path ++ index i ∷ rest)) (same_if l m (literals c (path ++ index i ∷ rest)) (literals c (path ++ index j ∷ rest)) (λ e. alike_literals c path i j rest (λ r. h (inl (e, inr r))) (λ r. k (inl (e, inr r)))))
      ∙ ap (λ xs. cond (bytes_eq l m) (literals c (path ++ index j ∷ rest)) [] ++ xs) (literals_in_field ms m path i j rest (λ r. h (inr r)) (λ r. k (inr r)))

  literals_in_element : (es : Elements) (n : ℕ) (path : Path) (i j : ℕ) (rest : Path) → ¬ ElementRefuses es n path (length_at_most i) → ¬ ElementRefuses es n path (length_at_most j) → literals_of_element es n (path ++ index i ∷ rest) ≡ literals_of_element es n (path ++ index j ∷ rest)
  literals_in_element ends n path i j rest h k = refl
  literals_in_element goes_on n path i j rest h k = refl
  literals_in_element (each c) n path i j rest h k = alike_literals c path i j rest h k
  literals_in_element (element c es) zero path i j rest h k = alike_literals c path i j rest h k
  literals_in_element (element c es) (suc n) path i j rest h k = literals_in_element es n path i j rest h k

mutual
  pub further_are_alike : FurtherElementsAreAlike
  further_are_alike (conjunction cs) path i j rest question h k r = alike_by_parts cs path i j rest question h k r
  further_are_alike (struct ms) [] i j rest question h k r = absurd r
  further_are_alike (struct ms) (label m ∷ path) i j rest question h k r = alike_in_field ms m path i j rest question h k r
  further_are_alike (struct ms) (index n ∷ path) i j rest question h k r = absurd r
  further_are_alike (close ms) [] i j rest question h k (inl r) = absurd r
  further_are_alike (close ms) [] i j rest question h k (inr r) = absurd r
  further_are_alike (close ms) (label m ∷ path) i j rest question h k (inl r) = inl (alike_in_field ms m path i j rest question (λ g. h (inl g)) (λ g. k (inl g)) r)
  further_are_alike (close ms) (label m ∷ path) i j rest question h k (inr r) = absurd r
  further_are_alike (close ms) (index n ∷ path) i j rest question h k (inl r) = absurd r
  further_are_alike (close ms) (index n ∷ path) i j rest question h k (inr r) = absurd r
  further_are_alike (list es) [] i j rest question h k r = further_refuse es i j rest question (no_less (count_of_elements es) i h) (no_less (count_of_elements es) j k) r
  further_are_alike (list es) (label m ∷ path) i j rest question h k r = absurd r
  further_are_alike (list es) (index n ∷ path) i j rest question h k r = alike_in_element es n path i j rest question h k r
  further_are_alike (closed c) path i j rest question h k (inl r) = inl (further_are_alike c path i j rest question (λ g. h (inl g)) (λ g. k (inl g)) r)
  further_are_alike (closed c) path i j rest question h k (inr r) =
      inr (subst (λ written. ClosingRefuses written question) (alike_literals c path i j rest (λ g. h (inl g)) (λ g. k (inl g))) r)
  further_are_alike top path i j rest question h k r = absurd r
  further_are_alike _ [] i j rest question h k r = absurd r
  further_are_alike _ (step ∷ path) i j rest question h k r = absurd r

  alike_by_parts : (cs : Cores) (path : Path) (i j : ℕ) (rest : Path) (question : Question) → ¬ PartsRefuse cs path (length_at_most i) → ¬ PartsRefuse cs path (length_at_most j) → PartsRefuse cs (path ++ index i ∷ rest) question → PartsRefuse cs (path ++ index j ∷ rest) question
  alike_by_parts no_cores path i j rest question h k r = absurd r
  alike_by_parts (core c cs) path i j rest question h k (inl r) = inl (further_are_alike c path i j rest question (λ g. h (inl g)) (λ g. k (inl g)) r)
  alike_by_parts (core c cs) path i j rest question h k (inr r) = inr (alike_by_parts cs path i j rest question (λ g. h (inr g)) (λ g. k (inr g)) r)

  alike_in_field : (ms : Members) (m : List ℕ) (path : Path) (i j : ℕ) (rest : Path) (question : Question) → ¬ FieldRefuses ms m path (length_at_most i) → ¬ FieldRefuses ms m path (length_at_most j) → FieldRefuses ms m (path ++ index i ∷ rest) question → FieldRefuses ms m (path ++ index j ∷ rest) question
  alike_in_field no_members m path i j rest question h k r = absurd r
  alike_in_field (dots ms) m path i j rest question h k r = alike_in_field ms m path i j rest question h k r
  alike_in_field (member l mark c ms) m [] i j rest question h k (inl (e, inl r)) = absurd r
  alike_in_field (member l mark c ms) m (step ∷ path) i j rest question h k (inl (e, inl r)) = absurd r
  alike_in_field (member l mark c ms) m path i j rest question h k (inl (e, inr r)) = inl (e, inr (further_are_alike c path i j rest question (λ g. h (inl (e, inr g))) (λ g. k (inl (e, inr g))) r))
  alike_in_field (member l mark c ms) m path i j rest question h k (inr r) = inr (alike_in_field ms m path i j rest question (λ g. h (inr g)) (λ g. k (inr g)) r)

  alike_in_element : (es : Elements) (n : ℕ) (path : Path) (i j : ℕ) (rest : Path) (question : Question) → ¬ ElementRefuses es n path (length_at_most i) → ¬ ElementRefuses es n path (length_at_most j) → ElementRefuses es n (path ++ index i ∷ rest) question → ElementRefuses es n (path ++ index j ∷ rest) question
  alike_in_element ends n path i j rest question h k r = absurd r
  alike_in_element goes_on n path i j rest question h k r = absurd r
  alike_in_element (each c) n path i j rest question h k r = further_are_alike c path i j rest question h k r
  alike_in_element (element c es) zero path i j rest question h k r = further_are_alike c path i j rest question h k r
  alike_in_element (element c es) (suc n) path i j rest question h k r = alike_in_element es n path i j rest question h k r
