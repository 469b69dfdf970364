-- A walk that looks for a pattern that may not be there.
use Rattle.std.proofs.Common.{◌≡◌, inl, inr, ⊎_elim, ◌<◌, ◌+◌, ℕ, zero, suc, Bool, true, false, ◌||◌, List, [], ◌∷◌, ◌++◌, length, get_or, reverse, Option, Some, None, IfSome, IfNone, refl, sym, ap, subst, ◌∙◌, arith}
use Rattle.std.specs.Option.{option_and_then}
use Rattle.std.specs.Str.{bytes_eq}
use Rattle.std.proofs.lemmas.Bool.{false≢true}
use Rattle.std.proofs.lemmas.List.{reverse-append, map-append}
use Rattle.std.proofs.lemmas.Slice.Eq.{bytes_eq-Decides}
use Rattle.cue_lattice.specs.Path.{Step, Path, label, index, step_cmp}
use Rattle.cue_lattice.specs.Question.{Question, allows}
use Rattle.cue_row.specs.LabelSets.{RefusesLabel}
use Rattle.cue_row.specs.Questions.{question_of}
use Rattle.cue_row.specs.Row as rows
use Rattle.cue_row.specs.Row.{RefusesAsked, IsRow}
use Rattle.cue_row.specs.declared.parts.RowParts.{RowParts as Row}
use Rattle.cue_sets.specs.Texts.{is_listed}
use Rattle.cue_sets.specs.TextLaws.{greatest_length, zeros, is_listed-zeros}
use Rattle.cue_table.specs.Form.{IsTreeTaken, IsTree, AreBranches, IsRowKept, IsTable}
use Rattle.cue_table.specs.Refuses.{RowRefuses}
use Rattle.cue_table.specs.Size.{children_size}
use Rattle.cue_table.specs.Spans.{Span, field, elements, first_of_span, alike_elements, branches_of_span, branches_of_spans}
use Rattle.cue_table.specs.Tree.{Tree, node, Children, no_rest, onward, row_of, below, rest_below, rest_at, fixed_of, find, branch_at, row_at, step_into}
use Rattle.cue_table.specs.SlotsOfCode.{slot_of}
use Rattle.cue_table.specs.declared.slot.Slot as code
use Rattle.cue_policies.specs.Misplaced.{first_of_slot, first_steps, IsMisplaced}
use Rattle.cue_table.proofs.Branches.{find_first, find_rest, find_own}
use Rattle.cue_table.proofs.Depth.{found_later, kept_at, taken_row}
use Rattle.cue_table.proofs.Spanned.{left_size}
use Rattle.cue_policies.specs.Patterns.{IsPattern}
use Rattle.cue_policies.specs.Inner.Answers.{PolicyTreeRefusals}
use Rattle.cue_policies.specs.Inner.Forms.{MayStep, below_step, IsForm, AreForms}
use Rattle.cue_policies.specs.Inner.Misplaced.{HasPatternFrom, IsBarred, IsMisplacedFrom, IsMisplacedUp, IsOneOf, IsListedAt, IsLeft}
use Rattle.cue_policies.proofs.FormWalks.{forms_more}

abbrev Kept : Row → Type 0
Kept = IsRowKept RefusesAsked IsRow

-- ---- what an answer says, by its case
pub some_is : {X : Type 0} (o : Option X) (x : X) (P : X → Type 0) → o ≡ Some x → IfSome o P → P x
some_is o x P e h = subst (λ found. IfSome found P) e h

pub none_is : {X : Type 0} (o : Option X) (P : Type 0) → o ≡ None → IfNone o P → P
none_is o P e h = subst (λ found. IfNone found P) e h

-- ---- what a branch refuses, the table refuses below its step
further : (b : Bool) (step : Step) (path : Path) → HasPatternFrom (below_step b step) path → HasPatternFrom b (step ∷ path)
further true (label l) path h = inr h
further false (label l) path h = h
further true (index n) path h = h
further false (index n) path h = h

abbrev FoundRefusals : Option (Tree Row) → Path → Question → Type 0
FoundRefusals found path question = RowRefuses rows.RowRefusesQuestion (option_and_then row_of (option_and_then (λ branch. branch_at branch path) found)) question

module _ (tree found : Tree Row) (step : Step) (at : step_into tree step ≡ Some found) (path : Path) (question : Question) where
  lift : PolicyTreeRefusals found path question → PolicyTreeRefusals tree (step ∷ path) question
  lift r = subst (λ f. FoundRefusals f path question) (sym at) r

  lower : PolicyTreeRefusals tree (step ∷ path) question → PolicyTreeRefusals found path question
  lower r = subst (λ f. FoundRefusals f path question) at r

misplaced_below : (b : Bool) (tree found : Tree Row) (step : Step) (path : Path) → step_into tree step ≡ Some found → IsMisplacedFrom (below_step b step) found path → IsMisplacedFrom b tree (step ∷ path)
misplaced_below b tree found step path at h = (
  step ∷ h.0,
  h.1,
  ap (λ p. step ∷ p) h.2,
  h.3,
  ⊎_elim
      (λ list. inl (further b step path list.0, λ silent. list.1 (λ under question r. silent under question (lift tree found step at (path ++ under) question r))))
      (λ set. inr (set.0, lift tree found step at h.0 (allows set.0) set.1, λ r. set.2 (lower tree found step at h.0 (allows h.1) r)))
      h.4,
)

one_more : (up longer : Path) (step : Step) → longer ≡ up ++ step ∷ [] → step ∷ reverse up ≡ reverse longer
one_more up longer step e = sym (ap reverse e ∙ reverse-append up (step ∷ []))

-- a pattern that was found below a step
pub misplaced_up : (b : Bool) (tree found : Tree Row) (step : Step) (up longer : Path) → step_into tree step ≡ Some found → IsMisplacedUp (below_step b step) found up → longer ≡ up ++ step ∷ [] → IsMisplacedUp b tree longer
misplaced_up b tree found step up longer at h e = subst (IsMisplacedFrom b tree) (one_more up longer step e) (misplaced_below b tree found step (reverse up) at h)

-- ---- a pattern at a place
listed_one : (labels : List (List ℕ)) (pattern : List ℕ) → IsOneOf labels pattern → is_listed labels pattern ≡ true
listed_one [] pattern h = absurd h
listed_one (l ∷ labels) pattern (inl same) = ap (λ b. b || is_listed labels pattern) ((bytes_eq-Decides l pattern).1 same)
listed_one (l ∷ labels) pattern (inr more) = elim (bytes_eq l pattern) as (λ b. (b || is_listed labels pattern) ≡ true) [ true ↦ refl | false ↦ listed_one labels pattern more ]

-- a label at an index
pub one_at : (labels : List (List ℕ)) (i : ℕ) (d : List ℕ) → i < length labels → IsOneOf labels (get_or labels i d)
one_at [] i d less = absurd (omega (arith, less))
one_at (l ∷ labels) zero d less = inl refl
one_at (l ∷ labels) (suc i) d less = inr (one_at labels i d (omega (arith, less)))

leaves_out : (row : Row) (labels : List (List ℕ)) (l : List ℕ) → row.labels ≡ Some labels → is_listed labels l ≡ false → rows.RowRefusesQuestion row (allows l)
leaves_out row labels l e out = let P : Option (List (List ℕ)) → Type 0 = λ set. RefusesLabel set l in subst P (sym e) out

lets_in : (row : Row) (labels : List (List ℕ)) (l : List ℕ) → row.labels ≡ Some labels → is_listed labels l ≡ true → ¬ rows.RowRefusesQuestion row (allows l)
lets_in row labels l e in_it r =
    let P : Option (List (List ℕ)) → Type 0 = λ set. RefusesLabel set l in
    let out : is_listed labels l ≡ false = subst P e r in
    false≢true (sym out ∙ in_it)

misplaced_label : (b : Bool) (tree : Tree Row) (pattern : List ℕ) → IsListedAt (row_of tree) pattern → IsMisplacedFrom b tree (label pattern ∷ [])
misplaced_label b (node None children rest) pattern h = absurd h
misplaced_label b (node (Some row) children rest) pattern h =
    let labels = h.1.0 in
    let long = greatest_length labels + 1 in (
      [],
      pattern,
      refl,
      h.0,
      inr (
        zeros long,
        leaves_out row labels (zeros long) h.1.1 (is_listed-zeros labels long (omega arith)),
        lets_in row labels pattern h.1.1 (listed_one labels pattern h.1.2),
      ),
    )

-- a pattern in the set of labels of a place
pub label_up : (b : Bool) (tree : Tree Row) (pattern : List ℕ) (longer : Path) → IsListedAt (row_of tree) pattern → longer ≡ label pattern ∷ [] → IsMisplacedUp b tree longer
label_up b tree pattern longer h e = subst (IsMisplacedFrom b tree) (one_more [] longer (label pattern) e) (misplaced_label b tree pattern h)

pub may_pass : (b : Bool) (step : Step) → ¬ IsBarred b step → MayStep b step
may_pass b (label l) free = free
may_pass b (index n) free = tt

here_barred : (pattern : List ℕ) → IsPattern pattern → (b : Bool) → b ≡ true → HasPatternFrom b (label pattern ∷ [])
here_barred pattern is true e = inl is
here_barred pattern is false e = absurd (false≢true e)

-- a pattern in a list, where something is refused or below
barred_at : (b : Bool) (tree found : Tree Row) (step : Step) → step_into tree step ≡ Some found → IsTreeTaken found → IsTree Kept found → IsBarred b step → IsMisplacedFrom b tree (step ∷ [])
barred_at b tree found (index n) at taken form h = absurd h
barred_at b tree found (label l) at taken form h =
    let some = taken_row Kept found taken form in (
      [],
      l,
      refl,
      h.1,
      inl (
        here_barred l h.1 b h.0,
        λ silent. (kept_at Kept found some.0 some.1 form some.2).1 (λ question r.
            silent some.0 (question_of question) (lift tree found (label l) at some.0 (question_of question) (here_refused (row_at found some.0) some.1 (question_of question) some.2 r))),
      ),
    )
  where
    here_refused : (here : Option Row) (row : Row) (question : Question) → here ≡ Some row → rows.RowRefusesQuestion row question → RowRefuses rows.RowRefusesQuestion here question
    here_refused here row question e r = subst (λ o. RowRefuses rows.RowRefusesQuestion o question) (sym e) r

-- ---- spans that are left
first_found : (span : Span) (tree : Tree Row) (others : Children Row) → find (first_of_span span) (branches_of_span span tree others) ≡ Some tree
first_found (field l) tree others = find_first (label l) tree others
first_found (elements i zero) tree others = find_first (index i) tree others
first_found (elements i (suc more)) tree others = find_first (index i) tree (alike_elements (suc i) more tree others)

alike_kept : (i more : ℕ) (tree : Tree Row) (others : Children Row) → AreBranches Kept (alike_elements i more tree others) → IsTreeTaken tree × IsTree Kept tree × AreBranches Kept others
alike_kept i zero tree others h = (h.1, h.2, h.3)
alike_kept i (suc more) tree others h = alike_kept (suc i) more tree others h.3

spanned_kept : (span : Span) (tree : Tree Row) (others : Children Row) → AreBranches Kept (branches_of_span span tree others) → IsTreeTaken tree × IsTree Kept tree × AreBranches Kept others
spanned_kept (field l) tree others h = (h.1, h.2, h.3)
spanned_kept (elements i more) tree others h = alike_kept i more tree others h

alike_found : (i more : ℕ) (tree : Tree Row) (others : Children Row) → AreBranches Kept (alike_elements i more tree others) → (s : Step) (t : Tree Row) → find s others ≡ Some t → find s (alike_elements i more tree others) ≡ Some t
alike_found i zero tree others h s t e = found_later (index i) tree others h.0 s t e (step_cmp s (index i)) refl
alike_found i (suc more) tree others h s t e =
    found_later (index i) tree (alike_elements (suc i) more tree others) h.0 s t (alike_found (suc i) more tree others h.3 s t e) (step_cmp s (index i)) refl

spanned_found : (span : Span) (tree : Tree Row) (others : Children Row) → AreBranches Kept (branches_of_span span tree others) → (s : Step) (t : Tree Row) → find s others ≡ Some t → find s (branches_of_span span tree others) ≡ Some t
spanned_found (field l) tree others h s t e = found_later (label l) tree others h.0 s t e (step_cmp s (label l)) refl
spanned_found (elements i more) tree others h s t e = alike_found i more tree others h s t e

own_into : (tree found : Tree Row) (step : Step) → IsTable RefusesAsked IsRow tree → find step (below tree) ≡ Some found → step_into tree step ≡ Some found
own_into (node row children rest) found step form e = find_own Kept rest step found children form.2 e

-- the walk begins with all spans
pub left_first : (b : Bool) (tree : Tree Row) (spans : List (Span × Tree Row)) → IsTable RefusesAsked IsRow tree → branches_of_spans spans ≡ below tree → IsLeft b (below tree) spans
left_first b (node row children rest) spans form e = record {
  forms = (λ h. subst (AreForms b) (sym e) h, λ h. subst (AreForms b) e h);
  smaller = let same = ap children_size e in omega (arith, same);
  kept = subst (AreBranches Kept) (sym e) form.1;
  found = λ step tree f. subst (λ c. find step c ≡ Some tree) e f;
}

module _ (b : Bool) (tree : Tree Row) (spans left : List (Span × Tree Row)) (span : Span) (first : Tree Row) (cut : spans ≡ (span, first) ∷ left) (h : IsLeft b (below tree) spans) where
  kept_now : AreBranches Kept (branches_of_span span first (branches_of_spans left))
  kept_now = subst (λ all. AreBranches Kept (branches_of_spans all)) cut h.kept

  -- it goes one span further
  pub left_more : MayStep b (first_of_span span) → IsForm (below_step b (first_of_span span)) first → IsLeft b (below tree) left
  left_more may form = record {
    forms = forms_more b (below tree) spans left span first cut h.forms may form;
    smaller = let size = left_size span first spans left cut in let less = h.smaller in omega (arith, size, less);
    kept = (spanned_kept span first (branches_of_spans left) kept_now).2;
    found = λ step t e. h.found step t (subst (λ all. find step (branches_of_spans all) ≡ Some t) (sym cut) (spanned_found span first (branches_of_spans left) kept_now step t e));
  }

  -- the branch of a span is found at its first step
  pub found_span : IsTable RefusesAsked IsRow tree → step_into tree (first_of_span span) ≡ Some first
  found_span form = own_into tree first (first_of_span span) form (h.found (first_of_span span) first (subst (λ all. find (first_of_span span) (branches_of_spans all) ≡ Some first) (sym cut) (first_found span first (branches_of_spans left))))

  -- a span at which a pattern is in a list
  pub barred_up : IsTable RefusesAsked IsRow tree → IsBarred b (first_of_span span) → (longer : Path) → longer ≡ first_of_span span ∷ [] → IsMisplacedUp b tree longer
  barred_up form h longer e =
      let some = spanned_kept span first (branches_of_spans left) kept_now in
      subst (IsMisplacedFrom b tree) (one_more [] longer (first_of_span span) e) (barred_at b tree first (first_of_span span) (found_span form) some.0 some.1 h)

-- ---- the rest
pub rest_into : (tree found : Tree Row) → rest_at (rest_below tree) ≡ Some found → step_into tree (index (fixed_of tree)) ≡ Some found
rest_into (node row children no_rest) found e = cc
rest_into (node row children (onward n other)) found e = find_rest n other children n (omega arith) ∙ e

-- ---- the whole path
steps_reversed : (up : List code.Slot) → first_steps (reverse up) ≡ reverse (first_steps up)
steps_reversed [] = refl
steps_reversed (slot ∷ up) =
    let step = first_of_slot (slot_of slot) in
    ap first_steps (reverse-append (slot ∷ []) up) ∙ map-append (λ s. first_of_slot (slot_of s)) (reverse up) (slot ∷ []) ∙ ap (λ path. path ++ (step ∷ [])) (steps_reversed up)
    ∙ sym (reverse-append (step ∷ []) (first_steps up))

-- from the end of a path to the path
pub path_is : (policy root : Tree Row) (up path : List code.Slot) → root ≡ policy → IsMisplacedUp false root (first_steps up) → path ≡ reverse up → IsMisplaced (PolicyTreeRefusals policy) (first_steps path)
path_is policy root up path e h turned =
    let same : reverse (first_steps up) ≡ first_steps path = sym (ap first_steps turned ∙ steps_reversed up) in
    subst (λ p. IsMisplacedFrom false policy p) same (subst (λ t. IsMisplacedFrom false t (reverse (first_steps up))) e h)
