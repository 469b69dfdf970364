-- What a printed tree of rows means, by induction on the tree.
use Rattle.std.proofs.Common.{◌≡◌, ◌↔◌, ◌⊎◌, inl, inr, ⊎_elim, ℕ, ◌<◌, ◌≤◌, ◌==◌, nat_lt, Bool, true, false, List, [], ◌∷◌, Option, None, Some, refl, sym, ap, subst, if◌then◌else◌, arith}
use Rattle.std.specs.declared.cmp.Ordering.{Ordering}
use Rattle.std.specs.declared.cmp.Ordering.TheVariants.{Less, Equal, Greater}
use Rattle.std.proofs.lemmas.Bool.{eqb-true, eqb-false, le-ltb}
use Rattle.cue_lattice.specs.Path.{Step, label, index, step_cmp, Path}
use Rattle.cue_lattice.specs.Question.{Question, may_be, usual, struct, list, allows, level_at_most, length_at_most, length_at_least}
use Rattle.cue_row.specs.declared.level.Level.{Level}
use Rattle.cue_row.specs.declared.level.Level.TheVariants.{Optional, Required, Given}
use Rattle.cue_row.specs.declared.parts.RowParts.{RowParts as Row}
use Rattle.cue_row.specs.Kinds.{IsRowKind}
use Rattle.cue_row.specs.Levels.{level_of}
use Rattle.cue_row.specs.Row.{RowRefusesQuestion, RefusesAsked, IsRow}
use Rattle.cue_row.specs.declared.kind.RowKind.TheVariants as kinds
use Rattle.cue_scope.specs.Core.{Core}
use Rattle.cue_scope.specs.Definitions.{Definition}
use Rattle.cue_table.specs.Form.{IsStepBelowAll, IsTree, AreBranches, IsRestOf, IsRowKept}
use Rattle.cue_table.specs.Inner.ValidWalk.{HasChild, HasElement, IsSound, AreSound, IsRestSound}
use Rattle.cue_table.specs.Tree.{Tree, node, Children, none, child, Rest, no_rest, onward, row_of, if_equal, find, find_with, behind_last, fixed_with}
use Rattle.cue_table.specs.Valid.{MayHold}
use Rattle.cue_table.proofs.Branches as branches
use Rattle.cue_table.proofs.Branches.{find_first, found_refuses}
use Rattle.cue_table.proofs.Finding.{same_step}
use Rattle.cue_table.proofs.Order.{equal_steps}
use Rattle.cue_eval.specs.Places.{MarkRefuses}
use Rattle.cue_print.specs.Expressions.{Value, top}
use Rattle.cue_print.specs.Printed.{level_at, value_of, fields_below, element_below, element_at, rest_value}
use Rattle.print_laws.specs.PrintedTree.{label_mark}
use Rattle.print_laws.specs.Inner.Meanings.{ValueRefuses, FieldsRefuse, AreFurther, OneFieldRefuses, IsNewLabel, AreDistinct, PlaceRefuses, RowAndBelow, FitKinds}
use Rattle.print_laws.proofs.MeantFields.{top_silent, first_field, no_field_silent, new_silent}
use Rattle.print_laws.proofs.MeantRows.{row_means}

abbrev pub Kept : Row → Type 0
Kept = IsRowKept RefusesAsked IsRow

-- what is refused at a path of the branch that is found, if one is
abbrev pub FoundRefuses : Option (Tree Row) → Path → Question → Type 0
FoundRefuses = branches.FoundRefuses RowRefusesQuestion

-- what is refused at the label of a branch of its own, and at an index
abbrev pub AtLabel : Children Row → List ℕ → Path → Question → Type 0
AtLabel children l = FoundRefuses (find (label l) children)

abbrev pub AtIndex : Children Row → ℕ → Path → Question → Type 0
AtIndex children n = FoundRefuses (find (index n) children)

-- what is refused one step below a place
abbrev pub AtStep : Children Row → Rest Row → Step → Path → Question → Type 0
AtStep children rest step = FoundRefuses (find_with rest step children)

-- what a tree refuses but for the level at its root
abbrev pub TreeRefuses : Tree Row → Path → Question → Type 0
TreeRefuses (node None children rest) path question = ⊥
TreeRefuses (node (Some row) children rest) path question = RowAndBelow row (λ l. AtStep children rest (label l)) (λ n. AtStep children rest (index n)) path question

-- ---- levels
level_marked : (level : Level) (k : ℕ) → MarkRefuses (label_mark level) (level_at_most k) ↔ (k < level_of level)
level_marked Optional k = (λ h. h, λ h. h)
level_marked Required k = (λ h. h, λ h. h)
level_marked Given k = (λ h. h, λ h. h)

or_nothing : {A : Type 0} → (⊥ ⊎ A) ↔ A
or_nothing = (λ h. ⊎_elim (λ g. absurd g) (λ g. g) h, inr)

-- a row refuses what its mark refuses and what it does at its place
pub marked_row : (row : Row) (question : Question) → (MarkRefuses (label_mark row.level) question ⊎ PlaceRefuses row question) ↔ RowRefusesQuestion row question
marked_row row (level_at_most k) =
    let level = level_marked row.level k in
    (λ h. ⊎_elim level.0 (λ g. absurd g) h, λ h. inl (level.1 h))
marked_row row (may_be scalar) = or_nothing
marked_row row (usual scalar) = or_nothing
marked_row row struct = or_nothing
marked_row row list = or_nothing
marked_row row (allows l) = or_nothing
marked_row row (length_at_most n) = or_nothing
marked_row row (length_at_least n) = or_nothing

-- a level of 0 refuses nothing
pub optional_row : (row : Row) (question : Question) → row.level ≡ Optional → PlaceRefuses row question ↔ RowRefusesQuestion row question
optional_row row (level_at_most k) e = (λ h. absurd h, λ h. let low : k < 0 = subst (λ (level : Level). k < level_of level) e h in absurd (omega arith))
optional_row row (may_be scalar) e = (λ h. h, λ h. h)
optional_row row (usual scalar) e = (λ h. h, λ h. h)
optional_row row struct e = (λ h. h, λ h. h)
optional_row row list e = (λ h. h, λ h. h)
optional_row row (allows l) e = (λ h. h, λ h. h)
optional_row row (length_at_most n) e = (λ h. h, λ h. h)
optional_row row (length_at_least n) e = (λ h. h, λ h. h)

-- ---- what stands below
pub stands : (parent : Row) (step : Step) (row : Option Row) → HasChild parent step row → MayHold parent step
stands parent step None h = absurd h
stands parent step (Some row) h = h.holds

rest_stands : (parent : Row) (row : Option Row) → HasElement parent row → IsRowKind parent kinds.List ⊎ IsRowKind parent kinds.Nothing
rest_stands parent None h = absurd h
rest_stands parent (Some row) h = h.holds

-- there is a row, and its level is 0
IsElementRow : Option Row → Type 0
IsElementRow None = ⊥
IsElementRow (Some row) = row.level ≡ Optional

child_element : (parent : Row) (n : ℕ) (row : Option Row) → HasChild parent (index n) row → IsElementRow row
unfolding IsElementRow
child_element parent n None h = h
child_element parent n (Some row) h = h.level

rest_element : (parent : Row) (row : Option Row) → HasElement parent row → IsElementRow row
unfolding IsElementRow
rest_element parent None h = h
rest_element parent (Some row) h = h.level

-- behind the last element nothing is said
other_at : (b : Bool) (n i : ℕ) (value other : Value) → (n == i) ≡ b → n < i → other ≡ top → (if b then value else other) ≡ top
other_at true n i value other e low free = let is = eqb-true n i e in absurd (omega arith)
other_at false n i value other e low free = free

none_behind : (children : Children Row) (i : ℕ) → behind_last children ≤ i → element_below children i ≡ top
unfolding value_of
none_behind none i h = refl
none_behind (child (label l) tree children) i h = none_behind children i h
none_behind (child (index n) tree children) i h =
    other_at (n == i) n i (value_of tree) (element_below children i) refl (omega arith) (none_behind children i (omega arith))

-- from the least length on each element is the rest
alike_below : (rest : Rest Row) (children : Children Row) (least : ℕ) → fixed_with rest children ≤ least → AreFurther least (element_at rest (element_below children)) (rest_value rest)
unfolding value_of
alike_below no_rest children least h i l = none_behind children i (omega arith)
alike_below (onward n tree) children least h i l =
    let far : n ≤ i = omega arith in
    ap (λ b. if b then element_below children i else value_of tree) (le-ltb i n far)

-- at a label the rest does not matter
pub label_with : (rest : Rest Row) (l : List ℕ) (children : Children Row) → find_with rest (label l) children ≡ find (label l) children
label_with no_rest l children = refl
label_with (onward n tree) l children = refl

new_below : (l : List ℕ) (children : Children Row) → IsStepBelowAll (label l) children → IsNewLabel l (fields_below children)
unfolding value_of
new_below l none h = tt
new_below l (child (label k) tree children) h = (
  λ e. let less : step_cmp (label l) (label l) ≡ Less = subst (λ (m : List ℕ). step_cmp (label l) (label m) ≡ Less) e h.0 in let equal = same_step (label l) in cc,
  new_below l children h.1,
)
new_below l (child (index n) tree children) h = new_below l children h.1

pub distinct_below : (children : Children Row) → AreBranches Kept children → AreDistinct (fields_below children)
unfolding value_of
distinct_below none are = tt
distinct_below (child (label l) tree children) are = (new_below l children are.0, distinct_below children are.3)
distinct_below (child (index n) tree children) are = distinct_below children are.3

-- a branch at another step is passed
passed : (x y : Step) (tree : Tree Row) (other : Option (Tree Row)) (o : Ordering) → step_cmp x y ≡ o → (x ≡ y → ⊥) → if_equal o tree other ≡ other
passed x y tree other Less e apart = refl
passed x y tree other Equal e apart = absurd (apart (equal_steps x y e))
passed x y tree other Greater e apart = refl

pub same_found : (a b : Option (Tree Row)) (path : Path) (question : Question) → a ≡ b → FoundRefuses a path question ↔ FoundRefuses b path question
same_found a b path question e = (found_refuses RowRefusesQuestion a b e path question, found_refuses RowRefusesQuestion b a (sym e) path question)

-- the field of a label in front of others, and the branch of this label
label_by : {A B : Type 0} (l k : List ℕ) (tree : Tree Row) (other : Option (Tree Row)) (path : Path) (question : Question) → A ↔ FoundRefuses (Some tree) path question → B ↔ FoundRefuses other path question → (k ≡ l → B → ⊥)
    → (o : Ordering) → step_cmp (label l) (label k) ≡ o → (((k ≡ l) × A) ⊎ B) ↔ FoundRefuses (if_equal o tree other) path question
label_by l k tree other path question here more new Equal e =
    let steps = equal_steps (label l) (label k) e in
    let is : k ≡ l = cc in
    (λ h. ⊎_elim (λ g. here.0 g.1) (λ g. absurd (new is g)) h, λ h. inl (is, here.1 h))
label_by l k tree other path question here more new Less e =
    let apart : k ≡ l → ⊥ = λ is. let equal = same_step (label l) in let less : step_cmp (label l) (label l) ≡ Less = subst (λ (m : List ℕ). step_cmp (label l) (label m) ≡ Less) is e in cc in
    (λ h. ⊎_elim (λ g. absurd (apart g.0)) more.0 h, λ h. inr (more.1 h))
label_by l k tree other path question here more new Greater e =
    let apart : k ≡ l → ⊥ = λ is. let equal = same_step (label l) in let greater : step_cmp (label l) (label l) ≡ Greater = subst (λ (m : List ℕ). step_cmp (label l) (label m) ≡ Greater) is e in cc in
    (λ h. ⊎_elim (λ g. absurd (apart g.0)) more.0 h, λ h. inr (more.1 h))

module _ (ds : List Definition) (meaning : ℕ → Core) where
  -- ---- what stands below fits
  fields_fit : (parent : Row) (children : Children Row) → AreSound parent children → (l : List ℕ) (path : Path) (question : Question) → FieldsRefuse ds meaning (fields_below children) l path question → IsRowKind parent kinds.Struct ⊎ IsRowKind parent kinds.Nothing
  unfolding value_of
  fields_fit parent none sound l path question h = absurd (no_field_silent ds meaning l path question h)
  fields_fit parent (child (label k) tree children) sound l path question h = stands parent (label k) (row_of tree) sound.0
  fields_fit parent (child (index n) tree children) sound l path question h = fields_fit parent children sound.2 l path question h

  elements_fit : (parent : Row) (children : Children Row) → AreSound parent children → (n : ℕ) (path : Path) (question : Question) → ValueRefuses ds meaning (element_below children n) path question → IsRowKind parent kinds.List ⊎ IsRowKind parent kinds.Nothing
  unfolding value_of
  elements_fit parent none sound n path question h = absurd (top_silent ds meaning path question h)
  elements_fit parent (child (label k) tree children) sound n path question h = elements_fit parent children sound.2 n path question h
  elements_fit parent (child (index m) tree children) sound n path question h = stands parent (index m) (row_of tree) sound.0

  either_fits : (C : Type 0) (b : Bool) (own other : Value) (path : Path) (question : Question) → (ValueRefuses ds meaning own path question → C) → (ValueRefuses ds meaning other path question → C)
      → ValueRefuses ds meaning (if b then own else other) path question → C
  either_fits C true own other path question f g h = f h
  either_fits C false own other path question f g h = g h

  at_fit : (parent : Row) (children : Children Row) (rest : Rest Row) → AreSound parent children → IsRestSound parent rest → (n : ℕ) (path : Path) (question : Question)
      → ValueRefuses ds meaning (element_at rest (element_below children) n) path question → IsRowKind parent kinds.List ⊎ IsRowKind parent kinds.Nothing
  unfolding value_of
  at_fit parent children no_rest sound last n path question h = elements_fit parent children sound n path question h
  at_fit parent children (onward m tree) sound last n path question h =
      either_fits (IsRowKind parent kinds.List ⊎ IsRowKind parent kinds.Nothing) (nat_lt n m) (element_below children n) (value_of tree) path question
      (λ g. elements_fit parent children sound n path question g) (λ g. rest_stands parent (row_of tree) last.0) h

  pub fit_below : (parent : Row) (children : Children Row) (rest : Rest Row) → AreSound parent children → IsRestSound parent rest
      → FitKinds parent (FieldsRefuse ds meaning (fields_below children)) (λ n. ValueRefuses ds meaning (element_at rest (element_below children) n))
  fit_below parent children rest sound last = record { fields = fields_fit parent children sound; elements = at_fit parent children rest sound last }

  -- ---- one branch
  abbrev TreeMeans : Tree Row → Type 0
  TreeMeans tree = (path : Path) (question : Question) → ValueRefuses ds meaning (value_of tree) path question ↔ TreeRefuses tree path question

  one_field : (tree : Tree Row) → IsSound tree → TreeMeans tree → (path : Path) (question : Question) → OneFieldRefuses ds meaning (level_at (row_of tree)) (value_of tree) path question ↔ FoundRefuses (Some tree) path question
  one_field (node None children rest) sound means path question = absurd sound
  one_field (node (Some row) children rest) sound means [] question =
      let here = means [] question in
      let row_says = marked_row row question in
      (λ h. row_says.0 (⊎_elim inl (λ g. inr (here.0 g)) h), λ h. ⊎_elim inl (λ g. inr (here.1 g)) (row_says.1 h))
  one_field (node (Some row) children rest) sound means (label l ∷ path) question =
      let here = means (label l ∷ path) question in (λ h. ⊎_elim (λ g. absurd g) here.0 h, λ h. inr (here.1 h))
  one_field (node (Some row) children rest) sound means (index n ∷ path) question =
      let here = means (index n ∷ path) question in (λ h. ⊎_elim (λ g. absurd g) here.0 h, λ h. inr (here.1 h))

  one_element : (tree : Tree Row) → IsSound tree → IsElementRow (row_of tree) → TreeMeans tree → (path : Path) (question : Question) → ValueRefuses ds meaning (value_of tree) path question ↔ FoundRefuses (Some tree) path question
  unfolding IsElementRow
  one_element (node None children rest) sound level means path question = absurd sound
  one_element (node (Some row) children rest) sound level means [] question =
      let here = means [] question in
      let row_says = optional_row row question level in
      (λ h. row_says.0 (here.0 h), λ h. here.1 (row_says.1 h))
  one_element (node (Some row) children rest) sound level means (label l ∷ path) question = means (label l ∷ path) question
  one_element (node (Some row) children rest) sound level means (index m ∷ path) question = means (index m ∷ path) question

  -- the element of a number, and the branch of this index
  index_by : (b : Bool) (m n : ℕ) (tree : Tree Row) (children : Children Row) (other : Value) (path : Path) (question : Question) → (m == n) ≡ b
      → ValueRefuses ds meaning (value_of tree) path question ↔ FoundRefuses (Some tree) path question
      → ValueRefuses ds meaning other path question ↔ AtIndex children n path question
      → ValueRefuses ds meaning (if b then value_of tree else other) path question ↔ AtIndex (child (index m) tree children) n path question
  index_by true m n tree children other path question e here more =
      let found = subst (λ k. find (index k) (child (index m) tree children) ≡ Some tree) (eqb-true m n e) (find_first (index m) tree children) in
      let same = same_found (find (index n) (child (index m) tree children)) (Some tree) path question found in
      (λ h. same.1 (here.0 h), λ h. here.1 (same.0 h))
  index_by false m n tree children other path question e here more =
      let found = passed (index n) (index m) tree (find (index n) children) (step_cmp (index n) (index m)) refl (λ s. eqb-false m n e (cc)) in
      let same = same_found (find (index n) (child (index m) tree children)) (find (index n) children) path question found in
      (λ h. same.1 (more.0 h), λ h. more.1 (same.0 h))

  -- ---- one place, by what is printed below it
  here_means : (row : Row) (children : Children Row) (rest : Rest Row) → IsRow row → AreBranches Kept children → IsSound (node (Some row) children rest) → (path : Path) (question : Question)
      → ValueRefuses ds meaning (value_of (node (Some row) children rest)) path question
      ↔ RowAndBelow row (FieldsRefuse ds meaning (fields_below children)) (λ n. ValueRefuses ds meaning (element_at rest (element_below children) n)) path question
  unfolding value_of
  here_means row children rest is are sound path question =
      row_means ds meaning row (fields_below children) (element_at rest (element_below children)) (rest_value rest) is sound.0 (distinct_below children are)
      (alike_below rest children row.least sound.1) (fit_below row children rest sound.2 sound.3) path question

  -- an element of its own, or the rest
  either_means : (b : Bool) (own : Value) (found : Option (Tree Row)) (tree : Tree Row) (path : Path) (question : Question)
      → ValueRefuses ds meaning own path question ↔ FoundRefuses found path question
      → ValueRefuses ds meaning (value_of tree) path question ↔ FoundRefuses (Some tree) path question
      → ValueRefuses ds meaning (if b then own else value_of tree) path question ↔ FoundRefuses (if b then found else Some tree) path question
  either_means true own found tree path question first second = first
  either_means false own found tree path question first second = second

  abbrev pub ElementsMean : Children Row → Type 0
  ElementsMean children = (n : ℕ) (path : Path) (question : Question) → ValueRefuses ds meaning (element_below children n) path question ↔ AtIndex children n path question

  -- ---- all branches
  mutual
    unfolding value_of

    pub tree_means : (tree : Tree Row) → IsTree Kept tree → IsSound tree → TreeMeans tree
    tree_means (node None children rest) is sound path question = absurd sound
    tree_means (node (Some row) children rest) is sound [] question = here_means row children rest is.0.0 is.1 sound [] question
    tree_means (node (Some row) children rest) is sound (label l ∷ path) question =
        let here = here_means row children rest is.0.0 is.1 sound (label l ∷ path) question in
        let below = fields_mean row children is.1 sound.2 l path question in
        let same = same_found (find_with rest (label l) children) (find (label l) children) path question (label_with rest l children) in
        (λ h. same.1 (below.0 (here.0 h)), λ h. here.1 (below.1 (same.0 h)))
    tree_means (node (Some row) children rest) is sound (index n ∷ path) question =
        let here = here_means row children rest is.0.0 is.1 sound (index n ∷ path) question in
        let below = rest_means rest row children is.2 sound.3 (elements_mean row children is.1 sound.2) n path question in
        (λ h. below.0 (here.0 h), λ h. here.1 (below.1 h))

    -- at each index
    pub rest_means : (rest : Rest Row) (parent : Row) (children : Children Row) → IsRestOf Kept children rest → IsRestSound parent rest → ElementsMean children
        → (n : ℕ) (path : Path) (question : Question) → ValueRefuses ds meaning (element_at rest (element_below children) n) path question ↔ AtStep children rest (index n) path question
    rest_means no_rest parent children is sound own n path question = own n path question
    rest_means (onward m tree) parent children is sound own n path question =
        either_means (nat_lt n m) (element_below children n) (find (index n) children) tree path question (own n path question)
        (one_element tree sound.1 (rest_element parent (row_of tree) sound.0) (tree_means tree is.3 sound.1) path question)

    pub fields_mean : (parent : Row) (children : Children Row) → AreBranches Kept children → AreSound parent children → (l : List ℕ) (path : Path) (question : Question) → FieldsRefuse ds meaning (fields_below children) l path question ↔ AtLabel children l path question
    fields_mean parent none are sound l path question = (λ h. absurd (no_field_silent ds meaning l path question h), λ h. absurd h)
    fields_mean parent (child (label k) tree children) are sound l path question =
        let one = first_field ds meaning k l (level_at (row_of tree)) (value_of tree) (fields_below children) path question in
        let both = label_by l k tree (find (label l) children) path question (one_field tree sound.1 (tree_means tree are.2 sound.1) path question) (fields_mean parent children are.3 sound.2 l path question)
        (λ e h. new_silent ds meaning k (fields_below children) path question (new_below k children are.0) (subst (λ (m : List ℕ). FieldsRefuse ds meaning (fields_below children) m path question) (sym e) h))
        (step_cmp (label l) (label k)) refl in
        (λ h. both.0 (one.0 h), λ h. one.1 (both.1 h))
    fields_mean parent (child (index n) tree children) are sound l path question = fields_mean parent children are.3 sound.2 l path question

    pub elements_mean : (parent : Row) (children : Children Row) → AreBranches Kept children → AreSound parent children → (n : ℕ) (path : Path) (question : Question) → ValueRefuses ds meaning (element_below children n) path question ↔ AtIndex children n path question
    elements_mean parent none are sound n path question = (λ h. absurd (top_silent ds meaning path question h), λ h. absurd h)
    elements_mean parent (child (label k) tree children) are sound n path question = elements_mean parent children are.3 sound.2 n path question
    elements_mean parent (child (index m) tree children) are sound n path question =
        index_by (m == n) m n tree children (element_below children n) path question refl
        (one_element tree sound.1 (child_element parent m (row_of tree) sound.0) (tree_means tree are.2 sound.1) path question) (elements_mean parent children are.3 sound.2 n path question)
