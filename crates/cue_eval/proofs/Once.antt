-- A place where labels are left out already is changed by no closing around it.
use Rattle.std.proofs.Common.{◌≢◌, inl, inr, ⊎_elim, ℕ, zero, suc, cond, List, [], ◌∷◌, ◌++◌, sym, subst}
use Rattle.std.specs.Str.{bytes_eq}
use Rattle.cue_lattice.specs.Path.{Path, label, index}
use Rattle.cue_lattice.specs.Question.{allows}
use Rattle.cue_scope.specs.Core.{Core, top, conjunction, struct, close, list, closed, Cores, no_cores, core, Members, no_members, member, dots, Elements, ends, goes_on, each, element}
use Rattle.cue_eval.specs.Literals.{literals, literals_of_parts, literals_of_field, literals_of_element, LeaveOut}
use Rattle.cue_eval.specs.Refuses.{Refuses, PartsRefuse, FieldRefuses, ElementRefuses}
use Rattle.cue_eval.proofs.Written.{some_left, some_right, left_out_left, left_out_right, mark_refuses_no_label, same_label}

-- where a label is refused, a struct literal is written
mutual
  pub written : (c : Core) (path : Path) (k : List ℕ) → Refuses c path (allows k) → literals c path ≢ []
  written (conjunction cs) path k h = written_by_parts cs path k h
  written (struct ms) [] k h = absurd h
  written (struct ms) (label l ∷ path) k h = written_in_field ms l path k h
  written (struct ms) (index i ∷ path) k h = absurd h
  written (close ms) [] k h = λ e. cc
  written (close ms) (label l ∷ path) k (inl h) = written_in_field ms l path k h
  written (close ms) (label l ∷ path) k (inr h) = absurd h
  written (close ms) (index i ∷ path) k (inl h) = absurd h
  written (close ms) (index i ∷ path) k (inr h) = absurd h
  written (list es) [] k h = absurd h
  written (list es) (label l ∷ path) k h = absurd h
  written (list es) (index i ∷ path) k h = written_in_element es i path k h
  written (closed c) path k (inl h) = written c path k h
  written (closed c) path k (inr h) = h.some
  written top path k h = absurd h
  written _ [] k h = absurd h
  written _ (step ∷ path) k h = absurd h

  written_by_parts : (cs : Cores) (path : Path) (k : List ℕ) → PartsRefuse cs path (allows k) → literals_of_parts cs path ≢ []
  written_by_parts no_cores path k h = absurd h
  written_by_parts (core c cs) path k (inl h) = some_left (literals c path) (literals_of_parts cs path) (written c path k h)
  written_by_parts (core c cs) path k (inr h) = some_right (literals c path) (literals_of_parts cs path) (written_by_parts cs path k h)

  written_in_field : (ms : Members) (l : List ℕ) (path : Path) (k : List ℕ) → FieldRefuses ms l path (allows k) → literals_of_field ms l path ≢ []
  written_in_field no_members l path k h = absurd h
  written_in_field (dots ms) l path k h = written_in_field ms l path k h
  written_in_field (member j mark c ms) l path k (inr h) =
      some_right (cond (bytes_eq j l) (literals c path) []) (literals_of_field ms l path) (written_in_field ms l path k h)
  written_in_field (member j mark c ms) l path k (inl h) =
      let some : cond (bytes_eq j l) (literals c path) [] ≢ [] = subst (λ xs. xs ≢ []) (sym (same_label j l (literals c path) h.0)) (⊎_elim (λ m. absurd (mark_refuses_no_label mark path k m)) (λ g. written c path k g) h.1) in
      some_left (cond (bytes_eq j l) (literals c path) []) (literals_of_field ms l path) some

  written_in_element : (es : Elements) (i : ℕ) (path : Path) (k : List ℕ) → ElementRefuses es i path (allows k) → literals_of_element es i path ≢ []
  written_in_element ends i path k h = absurd h
  written_in_element goes_on i path k h = absurd h
  written_in_element (each c) i path k h = written c path k h
  written_in_element (element c es) zero path k h = written c path k h
  written_in_element (element c es) (suc i) path k h = written_in_element es i path k h

-- the labels that are left out by all literals at a place, are left out by some that are closed there already
mutual
  pub closed_once : (c : Core) (path : Path) (k l : List ℕ) → Refuses c path (allows k) → LeaveOut (literals c path) l → Refuses c path (allows l)
  closed_once (conjunction cs) path k l h out = once_by_parts cs path k l h out
  closed_once (struct ms) [] k l h out = absurd h
  closed_once (struct ms) (label m ∷ path) k l h out = once_in_field ms m path k l h out
  closed_once (struct ms) (index i ∷ path) k l h out = absurd h
  closed_once (close ms) [] k l h out = inr out
  closed_once (close ms) (label m ∷ path) k l (inl h) out = inl (once_in_field ms m path k l h out)
  closed_once (close ms) (label m ∷ path) k l (inr h) out = absurd h
  closed_once (close ms) (index i ∷ path) k l (inl h) out = absurd h
  closed_once (close ms) (index i ∷ path) k l (inr h) out = absurd h
  closed_once (list es) [] k l h out = absurd h
  closed_once (list es) (label m ∷ path) k l h out = absurd h
  closed_once (list es) (index i ∷ path) k l h out = once_in_element es i path k l h out
  closed_once (closed c) path k l h out = inr out
  closed_once top path k l h out = absurd h
  closed_once _ [] k l h out = absurd h
  closed_once _ (step ∷ path) k l h out = absurd h

  once_by_parts : (cs : Cores) (path : Path) (k l : List ℕ) → PartsRefuse cs path (allows k) → LeaveOut (literals_of_parts cs path) l → PartsRefuse cs path (allows l)
  once_by_parts no_cores path k l h out = absurd h
  once_by_parts (core c cs) path k l (inl h) out =
      inl (closed_once c path k l h (left_out_left (literals c path) (literals_of_parts cs path) l (written c path k h) out))
  once_by_parts (core c cs) path k l (inr h) out =
      inr (once_by_parts cs path k l h (left_out_right (literals c path) (literals_of_parts cs path) l (written_by_parts cs path k h) out))

  once_in_field : (ms : Members) (m : List ℕ) (path : Path) (k l : List ℕ) → FieldRefuses ms m path (allows k) → LeaveOut (literals_of_field ms m path) l → FieldRefuses ms m path (allows l)
  once_in_field no_members m path k l h out = absurd h
  once_in_field (dots ms) m path k l h out = once_in_field ms m path k l h out
  once_in_field (member j mark c ms) m path k l (inr h) out =
      inr (once_in_field ms m path k l h (left_out_right (cond (bytes_eq j m) (literals c path) []) (literals_of_field ms m path) l (written_in_field ms m path k h) out))
  once_in_field (member j mark c ms) m path k l (inl h) out =
      let refused : Refuses c path (allows k) = ⊎_elim (λ e. absurd (mark_refuses_no_label mark path k e)) (λ g. g) h.1 in
      let here : LeaveOut (literals c path ++ literals_of_field ms m path) l =
      subst (λ xs. LeaveOut (xs ++ literals_of_field ms m path) l) (same_label j m (literals c path) h.0) out in
      inl (h.0, inr (closed_once c path k l refused (left_out_left (literals c path) (literals_of_field ms m path) l (written c path k refused) here)))

  once_in_element : (es : Elements) (i : ℕ) (path : Path) (k l : List ℕ) → ElementRefuses es i path (allows k) → LeaveOut (literals_of_element es i path) l → ElementRefuses es i path (allows l)
  once_in_element ends i path k l h out = absurd h
  once_in_element goes_on i path k l h out = absurd h
  once_in_element (each c) i path k l h out = closed_once c path k l h out
  once_in_element (element c es) zero path k l h out = closed_once c path k l h out
  once_in_element (element c es) (suc i) path k l h out = once_in_element es i path k l h out
