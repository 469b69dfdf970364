-- Labels that an expression writes, and labels that it doesn't write.
use Rattle.std.proofs.Common.{◌≡◌, inl, inr, ℕ, zero, suc, Bool, true, false, ◌||◌, cond, List, [], ◌∷◌, ◌++◌, refl, ap, subst, ◌∙◌}
use Rattle.std.specs.List.{list_any, AllByRecursion}
use Rattle.std.specs.Str.{bytes_eq}
use Rattle.std.proofs.lemmas.List.Folds.{list_any-append}
use Rattle.cue_lattice.specs.Path.{Path, label, index}
use Rattle.cue_lattice.specs.Question as questions
use Rattle.cue_lattice.specs.Question.{Question, allows}
use Rattle.cue_sets.specs.Texts.{is_listed}
use Rattle.cue_row.specs.ValidRow.{IsWord, AreWords, IsWordStep}
use Rattle.cue_scope.specs.Core.{Core, top, conjunction, struct, close, list, closed, Cores, no_cores, core, Members, no_members, member, dots, Elements, ends, goes_on, each, element}
use Rattle.cue_eval.specs.Literals.{literals, literals_of_parts, literals_of_field, literals_of_element, has_declaration, LeaveOut}
use Rattle.cue_eval.specs.Refuses.{PartsRefuse, FieldRefuses, ElementRefuses}
use Rattle.cue_eval.specs.Words.{words, words_of_cores, words_of_members, words_of_elements}
use Rattle.cue_eval.specs.Validity.{PathsAreWritten, UnwrittenLabelsAreAlike}
use Rattle.cue_eval.proofs.ByPair.{both_false}
use Rattle.cue_eval.proofs.Places.{closed_below}
use Rattle.cue_eval.proofs.Written.{mark_refuses_no_label}

either_false : (a b : Bool) → a ≡ false → b ≡ false → (a || b) ≡ false
either_false a b e f = ap (λ x. x || b) e ∙ f

-- a text that isn't in two lists is in none of both
pub in_neither : (xs ys : List (List ℕ)) (t : List ℕ) → is_listed (xs ++ ys) t ≡ false → (is_listed xs t ≡ false) × (is_listed ys t ≡ false)
in_neither [] ys t h = (refl, h)
in_neither (x ∷ xs) ys t h =
    let parts = both_false (bytes_eq x t) (is_listed (xs ++ ys) t) h in
    let rest = in_neither xs ys t parts.1 in
    (either_false (bytes_eq x t) (is_listed xs t) parts.0 rest.0, rest.1)

words_of_both : (xs ys : List (List ℕ)) → AreWords (xs ++ ys) → AreWords xs × AreWords ys
words_of_both [] ys h = (tt, h)
words_of_both (x ∷ xs) ys h = let rest = words_of_both xs ys h.1 in ((h.0, rest.0), rest.1)

-- ---- what is refused stands below labels that are written
mutual
  pub paths_are_written : PathsAreWritten
  paths_are_written (conjunction cs) w path question h = parts_are_written cs w path question h
  paths_are_written (struct ms) w [] question h = tt
  paths_are_written (struct ms) w (label l ∷ path) question h = field_is_written ms w l path question h
  paths_are_written (struct ms) w (index i ∷ path) question h = absurd h
  paths_are_written (close ms) w [] question h = tt
  paths_are_written (close ms) w (label l ∷ path) question (inl h) = field_is_written ms w l path question h
  paths_are_written (close ms) w (label l ∷ path) question (inr h) = absurd h
  paths_are_written (close ms) w (index i ∷ path) question (inl h) = absurd h
  paths_are_written (close ms) w (index i ∷ path) question (inr h) = absurd h
  paths_are_written (list es) w [] question h = tt
  paths_are_written (list es) w (label l ∷ path) question h = absurd h
  paths_are_written (list es) w (index i ∷ path) question h = (tt, element_is_written es w i path question h)
  paths_are_written (closed c) w path question (inl h) = paths_are_written c w path question h
  paths_are_written (closed c) w path question (inr h) = paths_are_written c w path questions.list (closed_below c path question h)
  paths_are_written top w path question h = absurd h
  paths_are_written _ w [] question h = tt
  paths_are_written _ w (step ∷ path) question h = absurd h

  parts_are_written : (cs : Cores) → AreWords (words_of_cores cs) → (path : Path) (question : Question) → PartsRefuse cs path question → AllByRecursion IsWordStep path
  parts_are_written no_cores w path question h = absurd h
  parts_are_written (core c cs) w path question (inl h) = paths_are_written c (words_of_both (words c) (words_of_cores cs) w).0 path question h
  parts_are_written (core c cs) w path question (inr h) = parts_are_written cs (words_of_both (words c) (words_of_cores cs) w).1 path question h

  field_is_written : (ms : Members) → AreWords (words_of_members ms) → (l : List ℕ) (path : Path) (question : Question) → FieldRefuses ms l path question → AllByRecursion IsWordStep (label l ∷ path)
  field_is_written no_members w l path question h = absurd h
  field_is_written (dots ms) w l path question h = field_is_written ms w l path question h
  field_is_written (member k mark c ms) w l [] question (inl (e, h)) = (subst IsWord e w.0, tt)
  field_is_written (member k mark c ms) w l (step ∷ path) question (inl (e, inl h)) = absurd h
  field_is_written (member k mark c ms) w l (step ∷ path) question (inl (e, inr h)) =
      (subst IsWord e w.0, paths_are_written c (words_of_both (words c) (words_of_members ms) w.1).0 (step ∷ path) question h)
  field_is_written (member k mark c ms) w l path question (inr h) = field_is_written ms (words_of_both (words c) (words_of_members ms) w.1).1 l path question h

  element_is_written : (es : Elements) → AreWords (words_of_elements es) → (i : ℕ) (path : Path) (question : Question) → ElementRefuses es i path question → AllByRecursion IsWordStep path
  element_is_written ends w i path question h = absurd h
  element_is_written goes_on w i path question h = absurd h
  element_is_written (each c) w i path question h = paths_are_written c w path question h
  element_is_written (element c es) w zero path question h = paths_are_written c (words_of_both (words c) (words_of_elements es) w).0 path question h
  element_is_written (element c es) w (suc i) path question h = element_is_written es (words_of_both (words c) (words_of_elements es) w).1 i path question h

-- ---- a label that isn't written is declared by no struct literal
undeclared_here : (ms : Members) (l : List ℕ) → is_listed (words_of_members ms) l ≡ false → has_declaration l ms ≡ false
undeclared_here no_members l h = refl
undeclared_here (dots ms) l h = undeclared_here ms l h
undeclared_here (member k mark c ms) l h =
    let parts = both_false (bytes_eq k l) (is_listed (words c ++ words_of_members ms) l) h in
    either_false (bytes_eq k l) (has_declaration l ms) parts.0 (undeclared_here ms l (in_neither (words c) (words_of_members ms) l parts.1).1)

undeclared_by_both : (xs ys : List Members) (l : List ℕ) → list_any (has_declaration l) xs ≡ false → list_any (has_declaration l) ys ≡ false → list_any (has_declaration l) (xs ++ ys) ≡ false
undeclared_by_both xs ys l e f = list_any-append (has_declaration l) xs ys ∙ either_false (list_any (has_declaration l) xs) (list_any (has_declaration l) ys) e f

undeclared_if : (b : Bool) (xs : List Members) (l : List ℕ) → list_any (has_declaration l) xs ≡ false → list_any (has_declaration l) (cond b xs []) ≡ false
undeclared_if true xs l e = e
undeclared_if false xs l e = refl

mutual
  undeclared : (c : Core) (path : Path) (l : List ℕ) → is_listed (words c) l ≡ false → list_any (has_declaration l) (literals c path) ≡ false
  undeclared (conjunction cs) path l h = undeclared_by_parts cs path l h
  undeclared (struct ms) [] l h = either_false (has_declaration l ms) false (undeclared_here ms l h) refl
  undeclared (struct ms) (label m ∷ path) l h = undeclared_in_field ms m path l h
  undeclared (struct ms) (index i ∷ path) l h = refl
  undeclared (close ms) [] l h = either_false (has_declaration l ms) false (undeclared_here ms l h) refl
  undeclared (close ms) (label m ∷ path) l h = undeclared_in_field ms m path l h
  undeclared (close ms) (index i ∷ path) l h = refl
  undeclared (list es) [] l h = refl
  undeclared (list es) (label m ∷ path) l h = refl
  undeclared (list es) (index i ∷ path) l h = undeclared_in_element es i path l h
  undeclared (closed c) path l h = undeclared c path l h
  undeclared _ path l h = refl

  undeclared_by_parts : (cs : Cores) (path : Path) (l : List ℕ) → is_listed (words_of_cores cs) l ≡ false → list_any (has_declaration l) (literals_of_parts cs path) ≡ false
  undeclared_by_parts no_cores path l h = refl
  undeclared_by_parts (core c cs) path l h =
      let parts = in_neither (words c) (words_of_cores cs) l h in
      undeclared_by_both (literals c path) (literals_of_parts cs path) l (undeclared c path l parts.0) (undeclared_by_parts cs path l parts.1)

  undeclared_in_field : (ms : Members) (m : List ℕ) (path : Path) (l : List ℕ) → is_listed (words_of_members ms) l ≡ false → list_any (has_declaration l) (literals_of_field ms m path) ≡ false
  undeclared_in_field no_members m path l h = refl
  undeclared_in_field (dots ms) m path l h = undeclared_in_field ms m path l h
  undeclared_in_field (member k mark c ms) m path l h =
      let parts = in_neither (words c) (words_of_members ms) l (both_false (bytes_eq k l) (is_listed (words c ++ words_of_members ms) l) h).1 in
      undeclared_by_both (cond (bytes_eq k m) (literals c path) []) (literals_of_field ms m path) l
      (undeclared_if (bytes_eq k m) (literals c path) l (undeclared c path l parts.0)) (undeclared_in_field ms m path l parts.1)

  undeclared_in_element : (es : Elements) (i : ℕ) (path : Path) (l : List ℕ) → is_listed (words_of_elements es) l ≡ false → list_any (has_declaration l) (literals_of_element es i path) ≡ false
  undeclared_in_element ends i path l h = refl
  undeclared_in_element goes_on i path l h = refl
  undeclared_in_element (each c) i path l h = undeclared c path l h
  undeclared_in_element (element c es) zero path l h = undeclared c path l (in_neither (words c) (words_of_elements es) l h).0
  undeclared_in_element (element c es) (suc i) path l h = undeclared_in_element es i path l (in_neither (words c) (words_of_elements es) l h).1

left_out : (written : List Members) (k l : List ℕ) → LeaveOut written k → list_any (has_declaration l) written ≡ false → LeaveOut written l
left_out written k l h e = record { some = h.some; without_dots = h.without_dots; undeclared = e }

-- ---- a place that leaves out a label leaves out each one that isn't written
mutual
  pub unwritten_labels : UnwrittenLabelsAreAlike
  unwritten_labels (conjunction cs) path k l un h = unwritten_by_parts cs path k l un h
  unwritten_labels (struct ms) [] k l un h = absurd h
  unwritten_labels (struct ms) (label m ∷ path) k l un h = unwritten_in_field ms m path k l un h
  unwritten_labels (struct ms) (index i ∷ path) k l un h = absurd h
  unwritten_labels (close ms) [] k l un (inl h) = absurd h
  unwritten_labels (close ms) [] k l un (inr h) = inr (left_out (ms ∷ []) k l h (undeclared (close ms) [] l un))
  unwritten_labels (close ms) (label m ∷ path) k l un (inl h) = inl (unwritten_in_field ms m path k l un h)
  unwritten_labels (close ms) (label m ∷ path) k l un (inr h) = absurd h
  unwritten_labels (close ms) (index i ∷ path) k l un (inl h) = absurd h
  unwritten_labels (close ms) (index i ∷ path) k l un (inr h) = absurd h
  unwritten_labels (list es) [] k l un h = absurd h
  unwritten_labels (list es) (label m ∷ path) k l un h = absurd h
  unwritten_labels (list es) (index i ∷ path) k l un h = unwritten_in_element es i path k l un h
  unwritten_labels (closed c) path k l un (inl h) = inl (unwritten_labels c path k l un h)
  unwritten_labels (closed c) path k l un (inr h) = inr (left_out (literals c path) k l h (undeclared c path l un))
  unwritten_labels top path k l un h = absurd h
  unwritten_labels _ [] k l un h = absurd h
  unwritten_labels _ (step ∷ path) k l un h = absurd h

  unwritten_by_parts : (cs : Cores) (path : Path) (k l : List ℕ) → is_listed (words_of_cores cs) l ≡ false → PartsRefuse cs path (allows k) → PartsRefuse cs path (allows l)
  unwritten_by_parts no_cores path k l un h = absurd h
  unwritten_by_parts (core c cs) path k l un (inl h) = inl (unwritten_labels c path k l (in_neither (words c) (words_of_cores cs) l un).0 h)
  unwritten_by_parts (core c cs) path k l un (inr h) = inr (unwritten_by_parts cs path k l (in_neither (words c) (words_of_cores cs) l un).1 h)

  unwritten_in_field : (ms : Members) (m : List ℕ) (path : Path) (k l : List ℕ) → is_listed (words_of_members ms) l ≡ false → FieldRefuses ms m path (allows k) → FieldRefuses ms m path (allows l)
  unwritten_in_field no_members m path k l un h = absurd h
  unwritten_in_field (dots ms) m path k l un h = unwritten_in_field ms m path k l un h
  unwritten_in_field (member j mark c ms) m path k l un (inl (e, inl h)) = absurd (mark_refuses_no_label mark path k h)
  unwritten_in_field (member j mark c ms) m path k l un (inl (e, inr h)) =
      let parts = in_neither (words c) (words_of_members ms) l (both_false (bytes_eq j l) (is_listed (words c ++ words_of_members ms) l) un).1 in
      inl (e, inr (unwritten_labels c path k l parts.0 h))
  unwritten_in_field (member j mark c ms) m path k l un (inr h) =
      let parts = in_neither (words c) (words_of_members ms) l (both_false (bytes_eq j l) (is_listed (words c ++ words_of_members ms) l) un).1 in
      inr (unwritten_in_field ms m path k l parts.1 h)

  unwritten_in_element : (es : Elements) (i : ℕ) (path : Path) (k l : List ℕ) → is_listed (words_of_elements es) l ≡ false → ElementRefuses es i path (allows k) → ElementRefuses es i path (allows l)
  unwritten_in_element ends i path k l un h = absurd h
  unwritten_in_element goes_on i path k l un h = absurd h
  unwritten_in_element (each c) i path k l un h = unwritten_labels c path k l un h
  unwritten_in_element (element c es) zero path k l un h = unwritten_labels c path k l (in_neither (words c) (words_of_elements es) l un).0 h
  unwritten_in_element (element c es) (suc i) path k l un h = unwritten_in_element es i path k l (in_neither (words c) (words_of_elements es) l un).1 h
