-- The branches at the labels and at the indexes of a place, and what tables that are made of branches refuse.
use Rattle.std.proofs.Common.{◌≡◌, ◌↔◌, ◌⊎◌, inl, inr, ⊎_elim, ◌≤◌, ℕ, List, [], ◌∷◌, Option, Some, None, refl, sym, ap, subst, ◌∙◌}
use Rattle.std.specs.declared.cmp.Ordering.{Ordering}
use Rattle.std.specs.declared.cmp.Ordering.TheVariants.{Less, Equal, Greater}
use Rattle.std.proofs.lemmas.Bool.{cases_lt}
use Rattle.cue_lattice.specs.OneOf.{OneOf}
use Rattle.cue_lattice.specs.Path as paths
use Rattle.cue_lattice.specs.Path.{label, index, step_cmp, Path}
use Rattle.cue_lattice.specs.Question.{Question}
use Rattle.cue_row.specs.Row as rows
use Rattle.cue_row.specs.Row.{RefusesAsked, IsRow}
use Rattle.cue_row.specs.Questions.{asked_by_question}
use Rattle.cue_row.specs.Steps.{step_of}
use Rattle.cue_row.specs.declared.step.Step.{Step}
use Rattle.cue_row.specs.declared.parts.RowParts.{RowParts as Row}
use Rattle.cue_table.specs.Form.{AreBranches, IsRowKept, IsTable}
use Rattle.cue_table.specs.Many.{IsOfBranches}
use Rattle.cue_table.specs.Meet.{IsAdded, IsRestAdded}
use Rattle.cue_table.specs.Refuses.{RowRefuses}
use Rattle.cue_table.specs.Tree.{Tree, node, Children, none, child, no_rest, onward, below, rest_below, rest_at, fixed_of, find, find_with, step_into, if_equal, labels_of, items_of}
use Rattle.cue_table.proofs.Branches.{find_first, find_rest, find_fixed, find_own}
use Rattle.cue_table.proofs.Depth.{found_row, found_later}
use Rattle.cue_table.proofs.Order.{equal_steps}
use Rattle.cue_policies.specs.Inner.Answers.{PolicyTreeRefusals}
use Rattle.cue_policies.proofs.Asking.{asks, asked, one_as}

-- ---- labels
module _ {R : Type 0} where
  abbrev Found : Option (Tree R) → Type 0
  Found found = (tree : Tree R) × (found ≡ Some tree)

  found_either : (o : Ordering) (tree : Tree R) (other : Option (Tree R)) → Found other → Found (if_equal o tree other)
  found_either Less tree other h = h
  found_either Equal tree other h = (tree, refl)
  found_either Greater tree other h = h

  listed_found : (l : List ℕ) (children : Children R) → OneOf (λ one. one.0 ≡ l) (labels_of children) → Found (find (label l) children)
  listed_found l none h = absurd h
  listed_found l (child (index n) tree children) h = found_either (step_cmp (label l) (index n)) tree (find (label l) children) (listed_found l children h)
  listed_found l (child (label m) tree children) h = ⊎_elim
      (λ e. (tree, ap (λ k. find (label k) (child (label m) tree children)) (sym e) ∙ find_first (label m) tree children))
      (λ r. found_either (step_cmp (label l) (label m)) tree (find (label l) children) (listed_found l children r))
      h

  found_listed : (l : List ℕ) (children : Children R) (tree : Tree R) → find (label l) children ≡ Some tree → OneOf (λ one. one.0 ≡ l) (labels_of children)
  found_listed l none tree e = cc
  found_listed l (child (index n) here children) tree e = found_listed l children tree e
  found_listed l (child (label m) here children) tree e = by (step_cmp (label l) (label m)) refl (found_listed l children tree)
    where
      by : (o : Ordering) → step_cmp (label l) (label m) ≡ o → (find (label l) children ≡ Some tree → OneOf (λ one. one.0 ≡ l) (labels_of children)) → OneOf (λ one. one.0 ≡ l) (labels_of (child (label m) here children))
      by Less f k = inr (k (sym (ap (λ o. if_equal o here (find (label l) children)) f) ∙ e))
      by Greater f k = inr (k (sym (ap (λ o. if_equal o here (find (label l) children)) f) ∙ e))
      by Equal f k = let steps : label l ≡ label m = equal_steps (label l) (label m) f in let same : l ≡ m = cc in inl (sym same)

  -- the labels of a place are those at which a branch is found
  pub label_listed : (l : List ℕ) (tree : Tree R) → OneOf (λ one. one.0 ≡ l) (labels_of (below tree)) ↔ ((branch : Tree R) × (step_into tree (label l) ≡ Some branch))
  label_listed l (node row children no_rest) = (listed_found l children, λ h. found_listed l children h.0 h.1)
  label_listed l (node row children (onward n rest)) = (listed_found l children, λ h. found_listed l children h.0 h.1)

-- ---- indexes
abbrev Kept : Row → Type 0
Kept = IsRowKept RefusesAsked IsRow

abbrev pub ItemRefuses : ℕ → Path → Question → ℕ × Tree Row → Type 0
ItemRefuses i path question one = (one.0 ≡ i) × PolicyTreeRefusals one.1 path question

refusing : (found : Option (Tree Row)) (path : Path) (question : Question) → RowRefuses rows.RowRefusesQuestion (found_row found path) question → (tree : Tree Row) × (found ≡ Some tree) × PolicyTreeRefusals tree path question
refusing None path question h = absurd h
refusing (Some tree) path question h = (tree, refl, h)

refused : (found : Option (Tree Row)) (tree : Tree Row) (path : Path) (question : Question) → found ≡ Some tree → PolicyTreeRefusals tree path question → RowRefuses rows.RowRefusesQuestion (found_row found path) question
refused found tree path question e h = subst (λ f. RowRefuses rows.RowRefusesQuestion (found_row f path) question) (sym e) h

item_found : (i : ℕ) (path : Path) (question : Question) (children : Children Row) → AreBranches Kept children → OneOf (ItemRefuses i path question) (items_of children) → RowRefuses rows.RowRefusesQuestion (found_row (find (index i) children) path) question
item_found i path question none form h = absurd h
item_found i path question (child (label m) tree children) form h = item_found i path question children form.3 h
item_found i path question (child (index n) tree children) form h = ⊎_elim
    (λ one. refused (find (index i) (child (index n) tree children)) tree path question (ap (λ k. find (index k) (child (index n) tree children)) (sym one.0) ∙ find_first (index n) tree children) one.1)
    (λ r.
    let more = refusing (find (index i) children) path question (item_found i path question children form.3 r) in
    refused (find (index i) (child (index n) tree children)) more.0 path question (found_later (index n) tree children form.0 (index i) more.0 more.1 (step_cmp (index i) (index n)) refl) more.2)
    h

found_item : (i : ℕ) (path : Path) (question : Question) (children : Children Row) → RowRefuses rows.RowRefusesQuestion (found_row (find (index i) children) path) question → OneOf (ItemRefuses i path question) (items_of children)
found_item i path question none h = absurd h
found_item i path question (child (label m) tree children) h = found_item i path question children h
found_item i path question (child (index n) tree children) h = by (step_cmp (index i) (index n)) refl (found_item i path question children)
  where
    into : (o : Ordering) → step_cmp (index i) (index n) ≡ o → RowRefuses rows.RowRefusesQuestion (found_row (if_equal o tree (find (index i) children)) path) question
    into o f = subst (λ o. RowRefuses rows.RowRefusesQuestion (found_row (if_equal o tree (find (index i) children)) path) question) f h

    by : (o : Ordering) → step_cmp (index i) (index n) ≡ o → (RowRefuses rows.RowRefusesQuestion (found_row (find (index i) children) path) question → OneOf (ItemRefuses i path question) (items_of children))
        → OneOf (ItemRefuses i path question) (items_of (child (index n) tree children))
    by Less f k = inr (k (into Less f))
    by Greater f k = inr (k (into Greater f))
    by Equal f k = let steps : index i ≡ index n = equal_steps (index i) (index n) f in let same : i ≡ n = cc in inl (sym same, into Equal f)

-- what the elements of a place that stand by themselves, and its rest, refuse
abbrev pub OwnRefuses : Tree Row → ℕ → Path → Question → Type 0
OwnRefuses tree i path question = OneOf (ItemRefuses i path question) (items_of (below tree))

abbrev pub RestAt : Tree Row → ℕ → Path → Question → Type 0
RestAt tree i path question = (rest : Tree Row) × (rest_at (rest_below tree) ≡ Some rest) × (fixed_of tree ≤ i) × PolicyTreeRefusals rest path question

pub elements_apart : (tree : Tree Row) → IsTable RefusesAsked IsRow tree → (i : ℕ) (path : Path) (question : Question)
    → PolicyTreeRefusals tree (index i ∷ path) question ↔ (OwnRefuses tree i path question ⊎ RestAt tree i path question)
elements_apart (node row children no_rest) form i path question = (
  λ h. inl (found_item i path question children h),
  λ h. ⊎_elim (λ own. item_found i path question children form.1 own) (λ rest. let non = rest.1 in absurd (cc)) h,
)
elements_apart (node row children (onward n tree)) form i path question = (
  λ h. ⊎_elim
      (λ less. inl (found_item i path question children (subst (λ f. RowRefuses rows.RowRefusesQuestion (found_row f path) question) (find_fixed n tree children i less) h)))
      (λ more. inr (tree, refl, more, subst (λ f. RowRefuses rows.RowRefusesQuestion (found_row f path) question) (find_rest n tree children i more) h))
      (cases_lt i n),
  λ h. ⊎_elim
      (λ own.
      let here = refusing (find (index i) children) path question (item_found i path question children form.1 own) in
      refused (find_with (onward n tree) (index i) children) here.0 path question (find_own Kept (onward n tree) (index i) here.0 children form.2 here.1) here.2)
      (λ rest.
      let same : tree ≡ rest.0 = cc in
      refused (find_with (onward n tree) (index i) children) rest.0 path question (find_rest n tree children i rest.2 ∙ ap Some same) rest.3)
      h,
)

-- ---- tables that are made of branches, and to which a row or a rest is added, whatever is asked
abbrev pub AtStep : paths.Step → Path → Question → Step × Tree Row → Type 0
AtStep step path question one = (step_of one.0 ≡ step) × PolicyTreeRefusals one.1 path question

pub branches_answer : (given : List (Step × Tree Row)) (table : Tree Row) → IsOfBranches RefusesAsked given table → (step : paths.Step) (path : Path) (question : Question)
    → PolicyTreeRefusals table (step ∷ path) question ↔ OneOf (AtStep step path question) given
branches_answer given table is step path question =
    let here = is.below step path (asked_by_question question) in (
      λ h. one_as (λ one p. (p.0, (asked one.1 path question).0 p.1)) given (here.0 ((asked table (step ∷ path) question).1 h)),
      λ h. (asked table (step ∷ path) question).0 (here.1 (one_as (λ one p. (p.0, (asked one.1 path question).1 p.1)) given h)),
    )

pub branches_no_root : (given : List (Step × Tree Row)) (table : Tree Row) → IsOfBranches RefusesAsked given table → (question : Question) → ¬ PolicyTreeRefusals table [] question
branches_no_root given table is question h = is.root (asked_by_question question) ((asked table [] question).1 h)

pub added_answer : (old new : Tree Row) (row : Row) → IsAdded RefusesAsked old [] row new → (at : Path) (question : Question)
    → PolicyTreeRefusals new at question ↔ (PolicyTreeRefusals old at question ⊎ ((at ≡ []) × rows.RowRefusesQuestion row question))
added_answer old new row is at question =
    let here = is at (asked_by_question question) in
    let back = λ (r : RefusesAsked row (asked_by_question question)). subst (rows.RowRefusesQuestion row) (asks question) r in
    let into = λ (r : rows.RowRefusesQuestion row question). subst (rows.RowRefusesQuestion row) (sym (asks question)) r in (
      λ h. ⊎_elim (λ p. inl ((asked old at question).0 p)) (λ p. inr (p.0, back p.1)) (here.0 ((asked new at question).1 h)),
      λ h. (asked new at question).0 (here.1 (⊎_elim (λ p. inl ((asked old at question).1 p)) (λ p. inr (p.0, into p.1)) h)),
    )

abbrev pub RestAnswers : ℕ → Tree Row → Path → Question → Type 0
RestAnswers first rest at question = (i : ℕ) × (path : Path) × (at ≡ index i ∷ path) × (first ≤ i) × PolicyTreeRefusals rest path question

pub rest_answer : (old new rest : Tree Row) (first : ℕ) → IsRestAdded RefusesAsked old [] first rest new → (at : Path) (question : Question)
    → PolicyTreeRefusals new at question ↔ (PolicyTreeRefusals old at question ⊎ RestAnswers first rest at question)
rest_answer old new rest first is at question =
    let here = is at (asked_by_question question) in (
      λ h. ⊎_elim (λ p. inl ((asked old at question).0 p)) (λ p. inr (p.0, p.1, p.2, p.3, (asked rest p.1 question).0 p.4)) (here.0 ((asked new at question).1 h)),
      λ h. (asked new at question).0 (here.1 (⊎_elim (λ p. inl ((asked old at question).1 p)) (λ p. inr (p.0, p.1, p.2, p.3, (asked rest p.1 question).1 p.4)) h)),
    )
