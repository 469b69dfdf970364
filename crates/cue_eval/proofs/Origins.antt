-- Each answer comes from something that is written at the place.
use Rattle.std.proofs.Common.{◌≡◌, ◌≢◌, ◌⊎◌, inl, inr, ⊎_elim, ℕ, zero, suc, Bool, true, false, cond, List, [], ◌∷◌, ◌++◌, refl}
use Rattle.std.specs.Str.{bytes_eq}
use Rattle.std.proofs.lemmas.Slice.Eq.{bytes_eq-Decides}
use Rattle.cue_lattice.specs.Path.{Path, label, index}
use Rattle.cue_lattice.specs.Question.{Question, allows}
use Rattle.cue_scope.specs.Core.{Core, top, conjunction, struct, close, list, closed, Cores, no_cores, core, Members, no_members, member, dots, Elements, ends, goes_on, each, element}
use Rattle.cue_eval.specs.Literals.{literals, literals_of_parts, literals_of_field, literals_of_element}
use Rattle.cue_eval.specs.Places.{ClosingRefuses}
use Rattle.cue_eval.specs.Refuses.{Refuses, PartsRefuse, FieldRefuses, ElementRefuses, count_of_elements, is_open_list}
use Rattle.cue_eval.specs.Origins.{scalar, a_struct, a_list, mark, closing, HasOrigin, ComesFromSources, IsStruct}

-- what refuses more has the same sources
wider : (less more : Question → Type 0) (question : Question) → HasOrigin less question → ((other : Question) → less other → more other) → HasOrigin more question
wider less more question origin all = record {
  source = origin.source;
  asked = origin.asked;
  all = λ other h. all other (origin.all other h);
}

one_of : (xs ys : List Members) → xs ++ ys ≢ [] → (xs ≢ []) ⊎ (ys ≢ [])
one_of [] ys h = inr h
one_of (x ∷ xs) ys h = inl (λ e. cc)

if_some : (b : Bool) (xs : List Members) → cond b xs [] ≢ [] → (b ≡ true) × (xs ≢ [])
if_some true xs h = (refl, h)
if_some false xs h = absurd (h refl)

-- where a struct literal is written, nothing but a struct may stand
mutual
  pub struct_written : (c : Core) (path : Path) → literals c path ≢ [] → IsStruct (Refuses c path)
  struct_written (conjunction cs) path some question h = struct_by_parts cs path some question h
  struct_written (struct ms) [] some question h = h
  struct_written (struct ms) (label l ∷ path) some question h = struct_in_field ms l path some question h
  struct_written (struct ms) (index i ∷ path) some question h = absurd (some refl)
  struct_written (close ms) [] some question h = inl h
  struct_written (close ms) (label l ∷ path) some question h = inl (struct_in_field ms l path some question h)
  struct_written (close ms) (index i ∷ path) some question h = absurd (some refl)
  struct_written (list es) [] some question h = absurd (some refl)
  struct_written (list es) (label l ∷ path) some question h = absurd (some refl)
  struct_written (list es) (index i ∷ path) some question h = struct_in_element es i path some question h
  struct_written (closed c) path some question h = inl (struct_written c path some question h)
  struct_written _ path some question h = absurd (some refl)

  struct_by_parts : (cs : Cores) (path : Path) → literals_of_parts cs path ≢ [] → IsStruct (PartsRefuse cs path)
  struct_by_parts no_cores path some question h = absurd (some refl)
  struct_by_parts (core c cs) path some question h =
      ⊎_elim (λ e. inl (struct_written c path e question h)) (λ e. inr (struct_by_parts cs path e question h))
      (one_of (literals c path) (literals_of_parts cs path) some)

  struct_in_field : (ms : Members) (l : List ℕ) (path : Path) → literals_of_field ms l path ≢ [] → IsStruct (FieldRefuses ms l path)
  struct_in_field no_members l path some question h = absurd (some refl)
  struct_in_field (dots ms) l path some question h = struct_in_field ms l path some question h
  struct_in_field (member k m c ms) l path some question h =
      ⊎_elim
      (λ e.
      let here = if_some (bytes_eq k l) (literals c path) e in
      inl ((bytes_eq-Decides k l).0 here.0, inr (struct_written c path here.1 question h)))
      (λ e. inr (struct_in_field ms l path e question h))
      (one_of (cond (bytes_eq k l) (literals c path) []) (literals_of_field ms l path) some)

  struct_in_element : (es : Elements) (i : ℕ) (path : Path) → literals_of_element es i path ≢ [] → IsStruct (ElementRefuses es i path)
  struct_in_element ends i path some question h = absurd (some refl)
  struct_in_element goes_on i path some question h = absurd (some refl)
  struct_in_element (each c) i path some question h = struct_written c path some question h
  struct_in_element (element c es) zero path some question h = struct_written c path some question h
  struct_in_element (element c es) (suc i) path some question h = struct_in_element es i path some question h

-- what closing refuses, comes from it
closing_origin : (c : Core) (written : List Members) (refuses : Question → Type 0) (question : Question) →
    (written ≢ [] → IsStruct refuses) → ((other : Question) → ClosingRefuses written other → refuses other) → ClosingRefuses written question → HasOrigin refuses question
closing_origin c written refuses (allows l) wide all out = record {
  source = closing written;
  asked = inl out;
  all = λ other h. ⊎_elim (all other) (wide out.some other) h;
}
closing_origin c written refuses _ wide all out = absurd out

mutual
  pub comes_from : ComesFromSources
  comes_from (conjunction cs) path question h = parts_come_from cs path question h
  comes_from (struct ms) [] question h = record { source = a_struct; asked = h; all = λ other g. g }
  comes_from (struct ms) (label l ∷ path) question h = field_comes_from ms l path question h
  comes_from (struct ms) (index i ∷ path) question h = absurd h
  comes_from (close ms) [] question (inl h) = record { source = a_struct; asked = h; all = λ other g. inl g }
  comes_from (close ms) [] question (inr h) =
      closing_origin (close ms) (ms ∷ []) (Refuses (close ms) []) question (λ some other g. inl g) (λ other g. inr g) h
  comes_from (close ms) (label l ∷ path) question (inl h) =
      wider (FieldRefuses ms l path) (Refuses (close ms) (label l ∷ path)) question (field_comes_from ms l path question h) (λ other g. inl g)
  comes_from (close ms) (label l ∷ path) question (inr h) = absurd h
  comes_from (close ms) (index i ∷ path) question (inl h) = absurd h
  comes_from (close ms) (index i ∷ path) question (inr h) = absurd h
  comes_from (list es) [] question h = record { source = a_list (count_of_elements es) (is_open_list es); asked = h; all = λ other g. g }
  comes_from (list es) (label l ∷ path) question h = absurd h
  comes_from (list es) (index i ∷ path) question h = element_comes_from es i path question h
  comes_from (closed c) path question (inl h) =
      wider (Refuses c path) (Refuses (closed c) path) question (comes_from c path question h) (λ other g. inl g)
  comes_from (closed c) path question (inr h) =
      closing_origin c (literals c path) (Refuses (closed c) path) question (λ some other g. inl (struct_written c path some other g)) (λ other g. inr g) h
  comes_from top path question h = absurd h
  comes_from c [] question h = record { source = scalar c; asked = h; all = λ other g. g }
  comes_from _ (step ∷ path) question h = absurd h

  parts_come_from : (cs : Cores) (path : Path) (question : Question) → PartsRefuse cs path question → HasOrigin (PartsRefuse cs path) question
  parts_come_from no_cores path question h = absurd h
  parts_come_from (core c cs) path question (inl h) =
      wider (Refuses c path) (PartsRefuse (core c cs) path) question (comes_from c path question h) (λ other g. inl g)
  parts_come_from (core c cs) path question (inr h) =
      wider (PartsRefuse cs path) (PartsRefuse (core c cs) path) question (parts_come_from cs path question h) (λ other g. inr g)

  field_comes_from : (ms : Members) (l : List ℕ) (path : Path) (question : Question) → FieldRefuses ms l path question → HasOrigin (FieldRefuses ms l path) question
  field_comes_from no_members l path question h = absurd h
  field_comes_from (dots ms) l path question h = field_comes_from ms l path question h
  field_comes_from (member k m c ms) l [] question (inl (e, inl h)) = record { source = mark m; asked = h; all = λ other g. inl (e, inl g) }
  field_comes_from (member k m c ms) l (step ∷ path) question (inl (e, inl h)) = absurd h
  field_comes_from (member k m c ms) l path question (inl (e, inr h)) =
      wider (Refuses c path) (FieldRefuses (member k m c ms) l path) question (comes_from c path question h) (λ other g. inl (e, inr g))
  field_comes_from (member k m c ms) l path question (inr h) =
      wider (FieldRefuses ms l path) (FieldRefuses (member k m c ms) l path) question (field_comes_from ms l path question h) (λ other g. inr g)

  element_comes_from : (es : Elements) (i : ℕ) (path : Path) (question : Question) → ElementRefuses es i path question → HasOrigin (ElementRefuses es i path) question
  element_comes_from ends i path question h = absurd h
  element_comes_from goes_on i path question h = absurd h
  element_comes_from (each c) i path question h = comes_from c path question h
  element_comes_from (element c es) zero path question h = comes_from c path question h
  element_comes_from (element c es) (suc i) path question h = element_comes_from es i path question h
