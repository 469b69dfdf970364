-- The labels that closing leaves out, as tables.
use Rattle.std.proofs.Common.{◌≡◌, ◌↔◌, ◌⊎◌, inl, inr, ⊎_elim, ℕ, ◌+◌, ◌≤◌, ◌<◌, Bool, true, false, nat_lt, if◌then◌else◌, max, List, [], ◌∷◌, ◌++◌, All, length, Option, Some, None, refl, sym, ap, subst, ◌∙◌, arith}
use Rattle.std.specs.Option.{is_some, option_and_then}
use Rattle.std.proofs.lemmas.List.Elements.{All-push, All-nil}
use Rattle.cue_lattice.proofs.OneOf.{one_of-push}
use Rattle.std.specs.declared.cmp.Ordering.{Ordering}
use Rattle.std.specs.declared.cmp.Ordering.TheVariants.{Less, Equal, Greater}
use Rattle.cue_lattice.specs.Limits.{step_limit}
use Rattle.cue_lattice.specs.OneOf.{OneOf}
use Rattle.cue_lattice.specs.Path as paths
use Rattle.cue_lattice.specs.Path.{Path, label, index}
use Rattle.cue_lattice.specs.Question.{Question, may_be, usual, struct, list, allows, level_at_most, length_at_most, length_at_least}
use Rattle.cue_row.specs.LabelSets.{RefusesLabel}
use Rattle.cue_row.specs.Questions.{question_of}
use Rattle.cue_row.specs.Row.{RefusesAsked, IsRow}
use Rattle.cue_row.specs.declared.question.Question as program
use Rattle.cue_row.specs.declared.parts.RowParts.{RowParts as Row}
use Rattle.cue_row.specs.declared.step.Step.{Step}
use Rattle.cue_row.specs.Steps.{step_of}
use Rattle.cue_sets.specs.Texts.{is_text_member}
use Rattle.cue_table.specs.Depth.{tree_depth, children_depth}
use Rattle.cue_table.specs.Form.{IsTable}
use Rattle.cue_table.specs.Meet.{IsAdded}
use Rattle.cue_table.specs.Refuses.{RowRefuses, TableRefuses}
use Rattle.cue_table.specs.Tree.{Tree, node, Children, none, child, no_rest, onward, row_of, row_at, branch_at, step_into, below, rest_below, rest_at, find, if_equal, fixed_of, labels_of}
use Rattle.cue_table.proofs.Branches.{find_rest}
use Rattle.cue_table.proofs.Depth.{refusals_depth, row_depth}
use Rattle.cue_table.proofs.Finding.{found_here}
use Rattle.cue_table.proofs.Exact.{none_within, within_last}
use Rattle.cue_table.proofs.Order.{equal_steps}
use Rattle.cue_eval.specs.Inner.Adding.{OnlyLabels, LeftOut, ClosingAdds, ClosingAddsHere, ClosingAddsAt, AllowsAll, root_row, row_below, step_below, IsStepInto, IsAmong, AreAddedAt, IsAllBelow}
use Rattle.cue_eval.specs.Telling.{DeclaredRefuses}
use Rattle.cue_eval.specs.declared.declared.DeclaredQuestion.TheVariants.{Stands}
use Rattle.cue_eval.specs.declared.left_out.ClosingPlace.{ClosingPlace}
use Rattle.cue_eval.specs.declared.declared.Declared.{Declared}

-- ---- the labels that are left out at one place
itself : (a : Type 0) → a ↔ a
itself a = (λ h. h, λ h. h)

pub only_left_out : (here : Declared) (labels : Option (List (List ℕ))) → here.stands ≡ true → here.undeclared.0 ≡ true → ((l : List ℕ) → RefusesLabel labels l ↔ (is_text_member here.undeclared l ≡ true))
    → (question : Question) → OnlyLabels labels question ↔ LeftOut here question
only_left_out here labels stands but same (allows l) = (λ h. (stands, but, (same l).0 h), λ h. (same l).1 h.2)
only_left_out here labels stands but same (may_be x) = itself _
only_left_out here labels stands but same (usual x) = itself _
only_left_out here labels stands but same struct = itself _
only_left_out here labels stands but same list = itself _
only_left_out here labels stands but same (level_at_most k) = itself _
only_left_out here labels stands but same (length_at_most n) = itself _
only_left_out here labels stands but same (length_at_least n) = itself _

pub only_added : (place : ClosingPlace) (here : Declared) (labels : Option (List (List ℕ))) → row_of place.own ≡ Some here → here.stands ≡ true → ¬ RowRefuses DeclaredRefuses (root_row place.dots) Stands
    → AllowsAll (root_row place.rows) → here.undeclared.0 ≡ true → ((l : List ℕ) → RefusesLabel labels l ↔ (is_text_member here.undeclared l ≡ true))
    → (question : Question) → OnlyLabels labels question ↔ ClosingAddsHere place question
only_added place here labels own stands no_dots all but same question =
    let left = only_left_out here labels stands but same question in
    subst (λ row. OnlyLabels labels question ↔ ClosingAdds row (root_row place.dots) (root_row place.rows) question) (sym own)
    (λ h. (no_dots, all, left.0 h), λ h. left.1 h.2)

pub none_left_out : (here : Declared) → (here.stands ≡ true → here.undeclared.0 ≡ true → ⊥) → (question : Question) → ¬ LeftOut here question
none_left_out here never (allows l) h = never h.0 h.1
none_left_out here never (may_be x) h = h
none_left_out here never (usual x) h = h
none_left_out here never struct h = h
none_left_out here never list h = h
none_left_out here never (level_at_most k) h = h
none_left_out here never (length_at_most n) h = h
none_left_out here never (length_at_least n) h = h

-- ---- one step further
module _ {R : Type 0} where
  pub row_further : (tree : Tree R) (step : paths.Step) (path : Path) → row_at tree (step ∷ path) ≡ row_below (step_into tree step) path
  row_further tree step path = by (step_into tree step) where
    by : (found : Option (Tree R)) → option_and_then row_of (option_and_then (λ b. branch_at b path) found) ≡ row_below found path
    by None = refl
    by (Some branch) = refl

  pub row_below_further : (branch : Option (Tree R)) (step : paths.Step) (path : Path) → row_below branch (step ∷ path) ≡ row_below (step_below branch step) path
  row_below_further None step path = refl
  row_below_further (Some tree) step path = row_further tree step path

-- what closing adds below places that may be there
abbrev pub AddsBelow : Option (Tree Declared) → Option (Tree Declared) → Option (Tree Row) → Path → Question → Type 0
AddsBelow own dots rows path question = ClosingAdds (row_below own path) (row_below dots path) (row_below rows path) question

pub same_adds : (a b : Option Declared) (c d : Option Declared) (e f : Option Row) → a ≡ b → c ≡ d → e ≡ f → (question : Question) → ClosingAdds a c e question ↔ ClosingAdds b d f question
same_adds a b c d e f p q r question =
    let all : ClosingAdds a c e question ≡ ClosingAdds b d f question = λ i. ClosingAdds (p i) (q i) (r i) question in
    (λ h. subst (λ t. t) all h, λ h. subst (λ t. t) (sym all) h)

pub adds_further : (place : ClosingPlace) (step : paths.Step) (path : Path) (question : Question)
    → ClosingAddsAt place (step ∷ path) question ↔ AddsBelow (step_into place.own step) (step_below place.dots step) (step_below place.rows step) path question
adds_further place step path question =
    same_adds _ _ _ _ _ _ (row_further place.own step path) (row_below_further place.dots step path) (row_below_further place.rows step path) question

-- where a place is one step below another, the same is added there
pub adds_into : (place : ClosingPlace) (step : paths.Step) (below : ClosingPlace) → IsStepInto place step below → (path : Path) (question : Question) → ClosingAddsAt below path question ↔ ClosingAddsAt place (step ∷ path) question
adds_into place step below into path question =
    let further = adds_further place step path question in
    let same = same_adds (row_below (Some below.own) path) (row_below (step_into place.own step) path) _ _ _ _
    (ap (λ t. row_below t path) (sym into.own)) (ap (λ t. row_below t path) into.dots) (ap (λ t. row_below t path) into.rows) question in
    (λ h. further.1 (same.0 h), λ h. same.1 (further.0 h))

-- and where none is, nothing
pub adds_nowhere : (place : ClosingPlace) (step : paths.Step) → step_into place.own step ≡ None → (path : Path) (question : Question) → ¬ ClosingAddsAt place (step ∷ path) question
adds_nowhere place step is path question h =
    subst (λ t. AddsBelow t (step_below place.dots step) (step_below place.rows step) path question) is ((adds_further place step path question).0 h)

-- what is added below a step, tells a branch there
pub adds_branch : (place : ClosingPlace) (step : paths.Step) (path : Path) (question : Question) → ClosingAddsAt place (step ∷ path) question → (branch : Tree Declared) × (step_into place.own step ≡ Some branch)
adds_branch place step path question h = by (step_into place.own step) refl where
  by : (found : Option (Tree Declared)) → step_into place.own step ≡ found → (branch : Tree Declared) × (step_into place.own step ≡ Some branch)
  by None e = absurd (adds_nowhere place step e path question h)
  by (Some branch) e = (branch, e)

-- ---- elements that are alike
pub alike_into : {R : Type 0} (tree : Tree R) (i : ℕ) → fixed_of tree ≤ i → step_into tree (index i) ≡ rest_at (rest_below tree)
alike_into (node row children no_rest) i h = none_within i i children (within_last i children h) (omega arith)
alike_into (node row children (onward n tree)) i h = find_rest n tree children i h

pub none_if : {X : Type 0} (o : Option X) → is_some o ≡ false → o ≡ None
none_if None e = refl
none_if (Some x) e = cc

-- ---- the labels of branches
abbrev pub IsLabelOf : List (List ℕ × Tree Declared) → paths.Step → Type 0
IsLabelOf labels step = OneOf (λ item. label item.0 ≡ step) labels

found_label : (text : List ℕ) (children : Children Declared) (branch : Tree Declared) → find (label text) children ≡ Some branch → IsLabelOf (labels_of children) (label text)
found_label text none branch e = cc
found_label text (child (label l) tree children) branch e = by (paths.step_cmp (label text) (label l)) refl e (λ f. found_label text children branch f) where
  by : (o : Ordering) → paths.step_cmp (label text) (label l) ≡ o → if_equal o tree (find (label text) children) ≡ Some branch → (find (label text) children ≡ Some branch → IsLabelOf (labels_of children) (label text)) → IsLabelOf (labels_of (child (label l) tree children)) (label text)
  by Less c f more = inr (more f)
  by Greater c f more = inr (more f)
  by Equal c f more = inl (sym (equal_steps (label text) (label l) c))
found_label text (child (index i) tree children) branch e = found_label text children branch e

-- each label at which a branch stands is that of a branch of its own
pub own_label : (own : Tree Declared) (text : List ℕ) (branch : Tree Declared) → step_into own (label text) ≡ Some branch → IsLabelOf (labels_of (below own)) (label text)
own_label (node row children no_rest) text branch e = found_label text children branch e
own_label (node row children (onward n tree)) text branch e = found_label text children branch e

-- ---- the table of what is added
own_row : (at : Option Declared) (dots : Option Declared) (row : Option Row) (question : Question) → ClosingAdds at dots row question → (here : Declared) × (at ≡ Some here)
own_row None dots row question h = absurd h
own_row (Some here) dots row question h = (here, refl)

-- what is added stands where the body's own literals are
pub adds_within : (place : ClosingPlace) (path : Path) (question : Question) → ClosingAddsAt place path question → length path ≤ tree_depth place.own
adds_within place path question h = let here = own_row (row_at place.own path) _ _ question h in row_depth place.own path here.0 here.1

pub added_depth : (place : ClosingPlace) (sets : Tree Row) → IsTable RefusesAsked IsRow sets → ((path : Path) (question : program.Question) → TableRefuses RefusesAsked sets path question ↔ ClosingAddsAt place path (question_of question))
    → tree_depth sets ≤ tree_depth place.own
added_depth place sets form same = refusals_depth RefusesAsked IsRow sets (tree_depth place.own) form (λ path question r. adds_within place path (question_of question) ((same path question).0 r))

-- a branch one step below is less deep
found_depth : (step : paths.Step) (children : Children Declared) (tree : Tree Declared) → find step children ≡ Some tree → tree_depth tree < children_depth children
found_depth step none tree e = cc
found_depth step (child next here children) tree e =
    found_here (λ t. tree_depth t < children_depth (child next here children)) _ here (find step children) tree (omega arith) (λ f. let h = found_depth step children tree f in omega arith) e

depth_else : (b : Bool) (own : Option (Tree Declared)) (rest tree : Tree Declared) (n : ℕ) → (own ≡ Some tree → tree_depth tree < n) → tree_depth rest < n → (if b then own else Some rest) ≡ Some tree → tree_depth tree < n
depth_else true own rest tree n f h e = f e
depth_else false own rest tree n f h e = let same : rest ≡ tree = cc in subst (λ t. tree_depth t < n) same h

pub into_depth : (step : paths.Step) (tree branch : Tree Declared) → step_into tree step ≡ Some branch → tree_depth branch < tree_depth tree
into_depth step (node row children no_rest) branch e = let h = found_depth step children branch e in omega arith
into_depth (label text) (node row children (onward n other)) branch e = let h = found_depth (label text) children branch e in omega arith
into_depth (index i) (node row children (onward n other)) branch e =
    depth_else (nat_lt i n) (find (index i) children) other branch (max (children_depth children) (tree_depth other + 1)) (λ f. let h = found_depth (index i) children branch f in omega arith) (omega arith) e

-- what is added below and at the place is all that is added
pub all_added : (place : ClosingPlace) (sets all : Tree Row) → IsAllBelow place sets
    → ((path : Path) (question : program.Question) → TableRefuses RefusesAsked all path question ↔ (TableRefuses RefusesAsked sets path question ⊎ ((path ≡ []) × ClosingAddsHere place (question_of question))))
    → (path : Path) (question : program.Question) → TableRefuses RefusesAsked all path question ↔ ClosingAddsAt place path (question_of question)
all_added place sets all is here [] question =
    let h = here [] question in (
      λ r. ⊎_elim (λ g. absurd (is.root question g)) (λ g. g.1) (h.0 r),
      λ a. h.1 (inr (refl, a)),
    )
all_added place sets all is here (step ∷ path) question =
    let h = here (step ∷ path) question in
    let b = is.below step path question in (
      λ r. ⊎_elim b.0 (λ g. let no : ⊥ = cc (g.0) in absurd no) (h.0 r),
      λ a. h.1 (inl (b.1 a)),
    )

-- ---- the loop over steps
pub record Adding (place : ClosingPlace) (branches : List (Step × Tree Row)) (all left : List Step) : Type 0 where
  pub refused : (step : paths.Step) (path : Path) (question : program.Question)
      → (IsAmong all step × ClosingAddsAt place (step ∷ path) (question_of question))
      ↔ (OneOf (λ (one : Step × Tree Row). (step_of one.0 ≡ step) × TableRefuses RefusesAsked one.1 path question) branches ⊎ (IsAmong left step × ClosingAddsAt place (step ∷ path) (question_of question)))
  pub deep : All (λ (one : Step × Tree Row). tree_depth one.1 < step_limit) branches

pub adding_none : (place : ClosingPlace) (all : List Step) → Adding place [] all all
adding_none place all = record { refused = λ step path question. (λ h. inr h, ⊎_elim (λ n. absurd n) (λ h. h)); deep = All-nil (λ (one : Step × Tree Row). tree_depth one.1 < step_limit) }

pub adding_all : (place : ClosingPlace) (branches : List (Step × Tree Row)) (all : List Step) → Adding place branches all [] → AreAddedAt place all branches
adding_all place branches all w = record {
  refused = λ step path question. let r = w.refused step path question in (λ h. r.1 (inl h), λ h. ⊎_elim (λ g. g) (λ g. absurd g.0) (r.0 h));
  deep = w.deep;
}

-- a step at which nothing of the body's own stands
pub adding_past : (place : ClosingPlace) (branches : List (Step × Tree Row)) (all rest : List Step) (here : Step) → Adding place branches all (here ∷ rest) → step_into place.own (step_of here) ≡ None → Adding place branches all rest
adding_past place branches all rest here w free = record {
  refused = λ step path question. let r = w.refused step path question in (
    λ h. ⊎_elim (λ g. inl g) (λ g. ⊎_elim (λ (e : step_of here ≡ step). absurd (adds_nowhere place step (ap (step_into place.own) (sym e) ∙ free) path (question_of question) g.1)) (λ k. inr (k, g.1)) g.0) (r.0 h),
    λ h. r.1 (⊎_elim (λ g. inl g) (λ g. inr (inr g.0, g.1)) h),
  );
  deep = w.deep;
}

-- one at which something does
pub adding_more : (place : ClosingPlace) (branches : List (Step × Tree Row)) (all rest : List Step) (here copy : Step) (below : ClosingPlace) (sets : Tree Row) → Adding place branches all (here ∷ rest) → copy ≡ here → IsStepInto place (step_of here) below
    → tree_depth place.own ≤ step_limit → IsTable RefusesAsked IsRow sets → ((path : Path) (question : program.Question) → TableRefuses RefusesAsked sets path question ↔ ClosingAddsAt below path (question_of question)) → Adding place (branches ++ (copy, sets) ∷ []) all rest
adding_more place branches all rest here copy below sets w same into flat form says = record {
  refused = λ step path question.
      let r = w.refused step path question in
      let push = one_of-push (λ (one : Step × Tree Row). (step_of one.0 ≡ step) × TableRefuses RefusesAsked one.1 path question) branches (copy, sets) in (
        λ h. ⊎_elim (λ g. inl (push.1 (inl g))) (λ g. ⊎_elim (λ e. inl (push.1 (inr (ap step_of same ∙ e, (says path question).1 (into_below step e path question g.1))))) (λ k. inr (k, g.1)) g.0) (r.0 h),
        λ h. r.1 (⊎_elim (λ g. ⊎_elim (λ k. inl k) (λ k. let e = ap step_of (sym same) ∙ k.0 in inr (inl e, out_of step e path question ((says path question).0 k.1))) (push.0 g)) (λ g. inr (inr g.0, g.1)) h),
      );
  deep = All-push (λ (one : Step × Tree Row). tree_depth one.1 < step_limit) branches (copy, sets) w.deep (
      let shallow = added_depth below sets form says in
      let less = into_depth (step_of here) place.own below.own into.own in
      omega (arith, shallow, less, flat));
} where
  into_below : (step : paths.Step) → step_of here ≡ step → (path : Path) (question : program.Question) → ClosingAddsAt place (step ∷ path) (question_of question) → ClosingAddsAt below path (question_of question)
  into_below step e path question adds = (adds_into place (step_of here) below into path (question_of question)).1 (subst (λ s. ClosingAddsAt place (s ∷ path) (question_of question)) (sym e) adds)

  out_of : (step : paths.Step) → step_of here ≡ step → (path : Path) (question : program.Question) → ClosingAddsAt below path (question_of question) → ClosingAddsAt place (step ∷ path) (question_of question)
  out_of step e path question adds = subst (λ s. ClosingAddsAt place (s ∷ path) (question_of question)) e ((adds_into place (step_of here) below into path (question_of question)).0 adds)

-- the row at the place is met with the table
pub here_added : (place : ClosingPlace) (sets : Tree Row) (row : Row) (all : Tree Row) → ((question : program.Question) → RefusesAsked row question ↔ ClosingAddsHere place (question_of question)) → IsAdded RefusesAsked sets [] row all
    → (path : Path) (question : program.Question) → TableRefuses RefusesAsked all path question ↔ (TableRefuses RefusesAsked sets path question ⊎ ((path ≡ []) × ClosingAddsHere place (question_of question)))
here_added place sets row all says added path question =
    let a = added path question in (
      λ h. ⊎_elim (λ g. inl g) (λ g. inr (g.0, (says question).0 g.1)) (a.0 h),
      λ h. a.1 (⊎_elim (λ g. inl g) (λ g. inr (g.0, (says question).1 g.1)) h),
    )

-- a step that is put behind others is among them
pub among_old : (steps : List Step) (new : Step) (step : paths.Step) → IsAmong steps step → IsAmong (steps ++ new ∷ []) step
among_old steps new step h = (one_of-push (λ one. step_of one ≡ step) steps new).1 (inl h)

pub among_new : (steps : List Step) (new : Step) (step : paths.Step) → step_of new ≡ step → IsAmong (steps ++ new ∷ []) step
among_new steps new step e = (one_of-push (λ one. step_of one ≡ step) steps new).1 (inr e)

-- the labels of branches, one after another
pub next_label : (own left rest : List (List ℕ × Tree Declared)) (steps : List Step) (new : Step) (text : List ℕ) (tree : Tree Declared) → ((step : paths.Step) → IsLabelOf own step → IsAmong steps step ⊎ IsLabelOf left step)
    → left ≡ (text, tree) ∷ rest → step_of new ≡ label text → (step : paths.Step) → IsLabelOf own step → IsAmong (steps ++ new ∷ []) step ⊎ IsLabelOf rest step
next_label own left rest steps new text tree w e same step h =
    ⊎_elim (λ g. inl (among_old steps new step g))
    (λ g. ⊎_elim (λ f. inl (among_new steps new step (same ∙ f))) (λ f. inr f) (subst (λ xs. IsLabelOf xs step) e g)) (w step h)

pub no_index : (steps : List Step) (new : Step) (text : List ℕ) → step_of new ≡ label text → ((i : ℕ) → ¬ IsAmong steps (index i)) → (i : ℕ) → ¬ IsAmong (steps ++ new ∷ []) (index i)
no_index steps new text same free i h =
    ⊎_elim (λ g. free i g) (λ g. let no : label text ≡ index i = sym same ∙ g in cc (no)) ((one_of-push (λ one. step_of one ≡ index i) steps new).0 h)
