-- Places are of one kind.
use Rattle.std.proofs.Common.{◌≡◌, ◌⊎◌, refl, ⊎_elim, inl, inr, ℕ, zero, suc, ◌<◌, Bool, true, false, List, [], ◌∷◌, ◌++◌, arith}
use Rattle.cue_lattice.specs.Path.{Path, Step, label, index}
use Rattle.cue_lattice.specs.Question as questions
use Rattle.cue_lattice.specs.Question.{Question, allows, length_at_most, length_at_least, level_at_most}
use Rattle.cue_syntax.specs.declared.tree.Mark.{Mark}
use Rattle.cue_syntax.specs.declared.tree.Mark.TheVariants.{Regular, Optional, Required}
use Rattle.cue_scope.specs.Core.{Core, top, conjunction, struct, close, list, closed, Cores, no_cores, core, Members, no_members, member, dots, Elements, ends, goes_on, each, element}
use Rattle.cue_eval.specs.Literals.{literals}
use Rattle.cue_eval.specs.Places.{ClosingRefuses, level_of_mark}
use Rattle.cue_eval.specs.Refuses.{Refuses, PartsRefuse, FieldRefuses, ElementRefuses, count_of_elements, is_open_list}
use Rattle.cue_eval.specs.Origins.{LiteralSource, scalar, a_struct, a_list, mark, closing, SourceRefuses, IsStruct, IsListOrigin, LabelsAreOfStructs, LengthsAreOfLists, FieldsAreOfStructs, ElementsAreOfLists, EndsInLabel, LevelsAreOfFields}
use Rattle.cue_eval.proofs.Origins.{comes_from, struct_written}

-- a list that a source wants, which has the property
abbrev ListOf : (ℕ → Type 0) → (Question → Type 0) → Type 0
ListOf P refuses = (n : ℕ) × (more : Bool) × P n × IsListOrigin refuses n more

label_source : (s : LiteralSource) (l : List ℕ) → SourceRefuses s (allows l) → IsStruct (SourceRefuses s)
label_source (scalar c) l h = absurd h
label_source a_struct l h = absurd h
label_source (a_list n more) l h = absurd h
label_source (mark m) l h = absurd h
label_source (closing written) l h = λ question g. inr g

pub labels_of_structs : LabelsAreOfStructs
labels_of_structs c path l h =
    let o = comes_from c path (allows l) h in
    λ question g. o.all question (label_source o.source l o.asked question g)

least_source : (s : LiteralSource) (k : ℕ) → SourceRefuses s (length_at_most k) → ListOf (λ n. k < n) (SourceRefuses s)
least_source (scalar c) k h = absurd h
least_source a_struct k h = absurd h
least_source (a_list n more) k h = (n, more, h, λ question g. g)
least_source (mark m) k h = absurd h
least_source (closing written) k (inl h) = absurd h
least_source (closing written) k (inr h) = absurd h

greatest_source : (s : LiteralSource) (k : ℕ) → SourceRefuses s (length_at_least k) → (n : ℕ) × (n < k) × IsListOrigin (SourceRefuses s) n false
greatest_source (scalar c) k h = absurd h
greatest_source a_struct k h = absurd h
greatest_source (a_list n false) k h = (n, h, λ question g. g)
greatest_source (a_list n true) k h = absurd h
greatest_source (mark m) k h = absurd h
greatest_source (closing written) k (inl h) = absurd h
greatest_source (closing written) k (inr h) = absurd h

pub lengths_of_lists : LengthsAreOfLists
lengths_of_lists = (
  λ c path k h.
      let o = comes_from c path (length_at_most k) h in
      let found = least_source o.source k o.asked in
      (found.0, found.1, found.2, λ question g. o.all question (found.3 question g)),
  λ c path k h.
      let o = comes_from c path (length_at_least k) h in
      let found = greatest_source o.source k o.asked in
      (found.0, found.1, λ question g. o.all question (found.2 question g)),
)

level_of_mark-small : (m : Mark) (k : ℕ) → k < level_of_mark m → k < 2
level_of_mark-small Optional k h = omega arith
level_of_mark-small Required k h = omega arith
level_of_mark-small Regular k h = h

level_source : (s : LiteralSource) (k : ℕ) → SourceRefuses s (level_at_most k) → k < 2
level_source (scalar c) k h = absurd h
level_source a_struct k h = absurd h
level_source (a_list n more) k h = absurd h
level_source (mark m) k h = level_of_mark-small m k h
level_source (closing written) k (inl h) = absurd h
level_source (closing written) k (inr h) = absurd h

ends_further : (step : Step) (path : Path) → EndsInLabel path → EndsInLabel (step ∷ path)
ends_further step [] h = absurd h
ends_further (label l) (next ∷ path) h = h
ends_further (index i) (next ∷ path) h = h

-- only a field has a level
mutual
  ends_in_label : (c : Core) (path : Path) (k : ℕ) → Refuses c path (level_at_most k) → EndsInLabel path
  ends_in_label (conjunction cs) path k h = part_ends_in_label cs path k h
  ends_in_label (struct ms) [] k h = absurd h
  ends_in_label (struct ms) (label l ∷ path) k h = field_ends_in_label ms l path k h
  ends_in_label (struct ms) (index i ∷ path) k h = absurd h
  ends_in_label (close ms) [] k (inl h) = absurd h
  ends_in_label (close ms) [] k (inr h) = absurd h
  ends_in_label (close ms) (label l ∷ path) k (inl h) = field_ends_in_label ms l path k h
  ends_in_label (close ms) (label l ∷ path) k (inr h) = absurd h
  ends_in_label (close ms) (index i ∷ path) k (inl h) = absurd h
  ends_in_label (close ms) (index i ∷ path) k (inr h) = absurd h
  ends_in_label (list es) [] k h = absurd h
  ends_in_label (list es) (label l ∷ path) k h = absurd h
  ends_in_label (list es) (index i ∷ path) k h = ends_further (index i) path (element_ends_in_label es i path k h)
  ends_in_label (closed c) path k (inl h) = ends_in_label c path k h
  ends_in_label (closed c) path k (inr h) = absurd h
  ends_in_label top path k h = absurd h
  ends_in_label _ [] k h = absurd h
  ends_in_label _ (step ∷ path) k h = absurd h

  part_ends_in_label : (cs : Cores) (path : Path) (k : ℕ) → PartsRefuse cs path (level_at_most k) → EndsInLabel path
  part_ends_in_label no_cores path k h = absurd h
  part_ends_in_label (core c cs) path k (inl h) = ends_in_label c path k h
  part_ends_in_label (core c cs) path k (inr h) = part_ends_in_label cs path k h

  field_ends_in_label : (ms : Members) (l : List ℕ) (path : Path) (k : ℕ) → FieldRefuses ms l path (level_at_most k) → EndsInLabel (label l ∷ path)
  field_ends_in_label no_members l path k h = absurd h
  field_ends_in_label (dots ms) l path k h = field_ends_in_label ms l path k h
  field_ends_in_label (member j m c ms) l [] k h = tt
  field_ends_in_label (member j m c ms) l (step ∷ path) k (inl (e, inl h)) = absurd h
  field_ends_in_label (member j m c ms) l (step ∷ path) k (inl (e, inr h)) = ends_further (label l) (step ∷ path) (ends_in_label c (step ∷ path) k h)
  field_ends_in_label (member j m c ms) l (step ∷ path) k (inr h) = field_ends_in_label ms l (step ∷ path) k h

  element_ends_in_label : (es : Elements) (i : ℕ) (path : Path) (k : ℕ) → ElementRefuses es i path (level_at_most k) → EndsInLabel path
  element_ends_in_label ends i path k h = absurd h
  element_ends_in_label goes_on i path k h = absurd h
  element_ends_in_label (each c) i path k h = ends_in_label c path k h
  element_ends_in_label (element c es) zero path k h = ends_in_label c path k h
  element_ends_in_label (element c es) (suc i) path k h = element_ends_in_label es i path k h

pub levels_of_fields : LevelsAreOfFields
levels_of_fields c path k h =
    let o = comes_from c path (level_at_most k) h in
    (ends_in_label c path k h, level_source o.source k o.asked)

-- what is refused further down by closing is at a struct
pub closed_below : (c : Core) (path : Path) (question : Question) → ClosingRefuses (literals c path) question → Refuses c path questions.list
closed_below c path (allows l) out = struct_written c path out.some questions.list tt
closed_below c path _ out = absurd out

-- fields stand below structs
mutual
  pub fields_of_structs : FieldsAreOfStructs
  fields_of_structs (conjunction cs) path l rest question h = fields_by_parts cs path l rest question h
  fields_of_structs (struct ms) [] l rest question h = λ other g. g
  fields_of_structs (struct ms) (label m ∷ path) l rest question h = fields_in_field ms m path l rest question h
  fields_of_structs (struct ms) (index i ∷ path) l rest question h = absurd h
  fields_of_structs (close ms) [] l rest question h = λ other g. inl g
  fields_of_structs (close ms) (label m ∷ path) l rest question (inl h) = λ other g. inl (fields_in_field ms m path l rest question h other g)
  fields_of_structs (close ms) (label m ∷ path) l rest question (inr h) = absurd h
  fields_of_structs (close ms) (index i ∷ path) l rest question (inl h) = absurd h
  fields_of_structs (close ms) (index i ∷ path) l rest question (inr h) = absurd h
  fields_of_structs (list es) [] l rest question h = absurd h
  fields_of_structs (list es) (label m ∷ path) l rest question h = absurd h
  fields_of_structs (list es) (index i ∷ path) l rest question h = fields_in_element es i path l rest question h
  fields_of_structs (closed c) path l rest question (inl h) = λ other g. inl (fields_of_structs c path l rest question h other g)
  fields_of_structs (closed c) path l rest question (inr h) =
      λ other g. inl (fields_of_structs c path l rest questions.list (closed_below c (path ++ label l ∷ rest) question h) other g)
  fields_of_structs top path l rest question h = absurd h
  fields_of_structs _ [] l rest question h = absurd h
  fields_of_structs _ (step ∷ path) l rest question h = absurd h

  fields_by_parts : (cs : Cores) (path : Path) (l : List ℕ) (rest : Path) (question : Question) → PartsRefuse cs (path ++ label l ∷ rest) question → IsStruct (PartsRefuse cs path)
  fields_by_parts no_cores path l rest question h = absurd h
  fields_by_parts (core c cs) path l rest question (inl h) = λ other g. inl (fields_of_structs c path l rest question h other g)
  fields_by_parts (core c cs) path l rest question (inr h) = λ other g. inr (fields_by_parts cs path l rest question h other g)

  fields_in_field : (ms : Members) (m : List ℕ) (path : Path) (l : List ℕ) (rest : Path) (question : Question) → FieldRefuses ms m (path ++ label l ∷ rest) question → IsStruct (FieldRefuses ms m path)
  fields_in_field no_members m path l rest question h = absurd h
  fields_in_field (dots ms) m path l rest question h = fields_in_field ms m path l rest question h
  fields_in_field (member j k c ms) m [] l rest question (inl (e, inl h)) = absurd h
  fields_in_field (member j k c ms) m (step ∷ path) l rest question (inl (e, inl h)) = absurd h
  fields_in_field (member j k c ms) m path l rest question (inl (e, inr h)) = λ other g. inl (e, inr (fields_of_structs c path l rest question h other g))
  fields_in_field (member j k c ms) m path l rest question (inr h) = λ other g. inr (fields_in_field ms m path l rest question h other g)

  fields_in_element : (es : Elements) (i : ℕ) (path : Path) (l : List ℕ) (rest : Path) (question : Question) → ElementRefuses es i (path ++ label l ∷ rest) question → IsStruct (ElementRefuses es i path)
  fields_in_element ends i path l rest question h = absurd h
  fields_in_element goes_on i path l rest question h = absurd h
  fields_in_element (each c) i path l rest question h = fields_of_structs c path l rest question h
  fields_in_element (element c es) zero path l rest question h = fields_of_structs c path l rest question h
  fields_in_element (element c es) (suc i) path l rest question h = fields_in_element es i path l rest question h

-- an index at which something is refused is below the number of elements, or the list goes on
MayBeElement : ℕ → ℕ → Bool → Type 0
MayBeElement i n more = (i < n) ⊎ (more ≡ true)

is_element : (es : Elements) (i : ℕ) (rest : Path) (question : Question) → ElementRefuses es i rest question → MayBeElement i (count_of_elements es) (is_open_list es)
unfolding MayBeElement
is_element ends i rest question h = absurd h
is_element goes_on i rest question h = absurd h
is_element (each c) i rest question h = inr refl
is_element (element c es) zero rest question h = inl (omega arith)
is_element (element c es) (suc i) rest question h = ⊎_elim (λ (below : i < count_of_elements es). inl (omega arith)) (λ further. inr further) (is_element es i rest question h)

abbrev ListWith : ℕ → (Question → Type 0) → Type 0
ListWith i refuses = (n : ℕ) × (more : Bool) × MayBeElement i n more × IsListOrigin refuses n more

more_refuse : (less more : Question → Type 0) (i : ℕ) → ListWith i less → ((other : Question) → less other → more other) → ListWith i more
more_refuse less more i found all = (found.0, found.1, found.2, λ other g. all other (found.3 other g))

-- and elements below lists that have so many
mutual
  below_lists : (c : Core) (path : Path) (i : ℕ) (rest : Path) (question : Question) → Refuses c (path ++ index i ∷ rest) question → ListWith i (Refuses c path)
  below_lists (conjunction cs) path i rest question h = elements_by_parts cs path i rest question h
  below_lists (struct ms) [] i rest question h = absurd h
  below_lists (struct ms) (label m ∷ path) i rest question h = elements_in_field ms m path i rest question h
  below_lists (struct ms) (index j ∷ path) i rest question h = absurd h
  below_lists (close ms) [] i rest question (inl h) = absurd h
  below_lists (close ms) [] i rest question (inr h) = absurd h
  below_lists (close ms) (label m ∷ path) i rest question (inl h) =
      more_refuse (FieldRefuses ms m path) (Refuses (close ms) (label m ∷ path)) i (elements_in_field ms m path i rest question h) (λ other g. inl g)
  below_lists (close ms) (label m ∷ path) i rest question (inr h) = absurd h
  below_lists (close ms) (index j ∷ path) i rest question (inl h) = absurd h
  below_lists (close ms) (index j ∷ path) i rest question (inr h) = absurd h
  below_lists (list es) [] i rest question h = (count_of_elements es, is_open_list es, is_element es i rest question h, λ other g. g)
  below_lists (list es) (label m ∷ path) i rest question h = absurd h
  below_lists (list es) (index j ∷ path) i rest question h = elements_in_element es j path i rest question h
  below_lists (closed c) path i rest question (inl h) =
      more_refuse (Refuses c path) (Refuses (closed c) path) i (below_lists c path i rest question h) (λ other g. inl g)
  below_lists (closed c) path i rest question (inr h) =
      more_refuse (Refuses c path) (Refuses (closed c) path) i
      (below_lists c path i rest questions.list (closed_below c (path ++ index i ∷ rest) question h)) (λ other g. inl g)
  below_lists top path i rest question h = absurd h
  below_lists _ [] i rest question h = absurd h
  below_lists _ (step ∷ path) i rest question h = absurd h

  elements_by_parts : (cs : Cores) (path : Path) (i : ℕ) (rest : Path) (question : Question) → PartsRefuse cs (path ++ index i ∷ rest) question → ListWith i (PartsRefuse cs path)
  elements_by_parts no_cores path i rest question h = absurd h
  elements_by_parts (core c cs) path i rest question (inl h) =
      more_refuse (Refuses c path) (PartsRefuse (core c cs) path) i (below_lists c path i rest question h) (λ other g. inl g)
  elements_by_parts (core c cs) path i rest question (inr h) =
      more_refuse (PartsRefuse cs path) (PartsRefuse (core c cs) path) i (elements_by_parts cs path i rest question h) (λ other g. inr g)

  elements_in_field : (ms : Members) (m : List ℕ) (path : Path) (i : ℕ) (rest : Path) (question : Question) → FieldRefuses ms m (path ++ index i ∷ rest) question → ListWith i (FieldRefuses ms m path)
  elements_in_field no_members m path i rest question h = absurd h
  elements_in_field (dots ms) m path i rest question h = elements_in_field ms m path i rest question h
  elements_in_field (member j k c ms) m [] i rest question (inl (e, inl h)) = absurd h
  elements_in_field (member j k c ms) m (step ∷ path) i rest question (inl (e, inl h)) = absurd h
  elements_in_field (member j k c ms) m path i rest question (inl (e, inr h)) =
      more_refuse (Refuses c path) (FieldRefuses (member j k c ms) m path) i (below_lists c path i rest question h) (λ other g. inl (e, inr g))
  elements_in_field (member j k c ms) m path i rest question (inr h) =
      more_refuse (FieldRefuses ms m path) (FieldRefuses (member j k c ms) m path) i (elements_in_field ms m path i rest question h) (λ other g. inr g)

  elements_in_element : (es : Elements) (j : ℕ) (path : Path) (i : ℕ) (rest : Path) (question : Question) → ElementRefuses es j (path ++ index i ∷ rest) question → ListWith i (ElementRefuses es j path)
  elements_in_element ends j path i rest question h = absurd h
  elements_in_element goes_on j path i rest question h = absurd h
  elements_in_element (each c) j path i rest question h = below_lists c path i rest question h
  elements_in_element (element c es) zero path i rest question h = below_lists c path i rest question h
  elements_in_element (element c es) (suc j) path i rest question h = elements_in_element es j path i rest question h

pub elements_of_lists : ElementsAreOfLists
unfolding MayBeElement
elements_of_lists c path i rest question h = below_lists c path i rest question h
