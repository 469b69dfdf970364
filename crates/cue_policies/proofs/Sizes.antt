-- The fields of a view have no more rows together than the view.
use Rattle.std.proofs.Common.{◌≡◌, ◌↔◌, ◌⊎◌, inl, inr, ⊎_elim, ◌<◌, ◌≤◌, ◌-◌, ◌+◌, ℕ, true, List, [], ◌∷◌, ◌++◌, Option, Some, None, Result, Ok, Err, refl, sym, ap, subst, ◌∙◌, arith}
use Rattle.std.specs.Prelude.{IfErr}
use Rattle.std.specs.Cmp.Lexicographic.{slice_cmp}
use Rattle.std.specs.List.{AllByRecursion}
use Rattle.std.specs.List.Sorted.{IsStrictlySortedBy}
use Rattle.std.specs.Option.{option_and_then}
use Rattle.std.specs.Ordering.{nat_cmp}
use Rattle.std.specs.declared.cmp.Ordering.TheVariants.{Less, Equal}
use Rattle.std.proofs.lemmas.Cmp.{nat_list_cmp_total}
use Rattle.cue_lattice.specs.OneOf.{OneOf}
use Rattle.cue_lattice.specs.Path as paths
use Rattle.cue_lattice.specs.Path.{label, Path, step_cmp}
use Rattle.cue_lattice.specs.Question.{Question, SameAnswers}
use Rattle.cue_row.specs.Questions.{question_of}
use Rattle.cue_row.specs.Row as rows
use Rattle.cue_row.specs.Row.{RefusesAsked, IsRow}
use Rattle.cue_row.specs.RowLaws.{same_rows}
use Rattle.cue_row.specs.Steps.{step_of}
use Rattle.cue_row.specs.declared.step.Step.{Step}
use Rattle.cue_row.specs.declared.step.Step.TheVariants.{Label}
use Rattle.cue_row.specs.declared.parts.RowParts.{RowParts as Row}
use Rattle.cue_table.specs.Form.{IsRowKept, IsTable}
use Rattle.cue_table.specs.Refuses.{RowRefuses}
use Rattle.cue_table.specs.Tree.{Tree, node, Rest, no_rest, onward, empty, row_of, below, find, step_into, branch_at}
use Rattle.cue_table.proofs.Exact.{exact_tree}
use Rattle.cue_table.proofs.Finding.{found_form, same_step}
use Rattle.cue_policies.specs.Rows.{row_count, HasMoreRows, IsViewError}
use Rattle.cue_policies.specs.View.{DeclaresAt}
use Rattle.cue_policies.specs.declared.error.ViewError.{ViewError}
use Rattle.cue_policies.specs.declared.error.ViewError.TheVariants as errors
use Rattle.cue_policies.specs.declared.part.ViewPart.{ViewPart}
use Rattle.cue_policies.specs.Inner.Answers.{PolicyTreeRefusals}
use Rattle.cue_policies.specs.Inner.Parts.{part_of, PartsRefuse, IsIn, IsField, IsBelow, HasLabels}
use Rattle.cue_policies.specs.Inner.Rows.{tree_rows, children_rows}
use Rattle.cue_policies.proofs.Apart as apart
use Rattle.cue_policies.proofs.Asking.{answered}
use Rattle.cue_policies.proofs.Counting.{rows_counted, below_rows}
use Rattle.cue_policies.proofs.Gains.{none_in, pushed}
use Rattle.cue_policies.proofs.Steps.{view_below}
use Rattle.cue_policies.proofs.Walking.{into_branch, out_of_branch, parts_behind}

-- ---- errors
pub view_error : {A B : Type 0} (e : ViewError) → (A → B) → IsViewError A e → IsViewError B e
view_error (errors.Memory memory) f h = tt
view_error errors.TooLarge f h = f h

pub memory_error : (B : Type 0) (e : ViewError) → IsViewError ⊥ e → IsViewError B e
memory_error B e h = view_error e (λ never. absurd never) h

pub if_err_weaker : {A E : Type 0} (r : Result A E) (P Q : E → Type 0) → ((e : E) → P e → Q e) → IfErr r P → IfErr r Q
if_err_weaker (Ok x) P Q f h = h
if_err_weaker (Err e) P Q f h = f e h

-- ---- tables with equal answers
pub same_tables : (a b : Tree Row) → IsTable RefusesAsked IsRow a → IsTable RefusesAsked IsRow b → SameAnswers (PolicyTreeRefusals a) (PolicyTreeRefusals b) → a ≡ b
same_tables a b h k same = exact_tree RefusesAsked IsRow same_rows a b h k (λ path question.
    let here = same path (question_of question) in (
      λ r. (answered b path question).1 (here.0 ((answered a path question).0 r)),
      λ r. (answered a path question).1 (here.1 ((answered b path question).0 r)),
    ))

-- a table and its rows are those of all tables with its answers
pub more_rows : (most : ℕ) (table : Tree Row) (refuses : Path → Question → Type 0) → IsTable RefusesAsked IsRow table → SameAnswers (PolicyTreeRefusals table) refuses → most < row_count table → HasMoreRows most refuses
more_rows most table refuses form same more other form' same' =
    let is = same_tables table other form form' (λ path question. (λ r. (same' path question).1 ((same path question).0 r), λ r. (same path question).1 ((same' path question).0 r))) in
    subst (λ t. most < row_count t) is more

-- and they are those of all refusals with the same answers
pub more_as : (most : ℕ) (a b : Path → Question → Type 0) → SameAnswers a b → HasMoreRows most a → HasMoreRows most b
more_as most a b same more table form is = more table form (λ path question.
    let s = same path question in
    let i = is path question in
    (λ r. s.1 (i.0 r), λ r. i.1 (s.0 r)))

-- ---- the branch of a table at a label
into_label : (tree : Tree Row) (l : List ℕ) → step_into tree (label l) ≡ find (label l) (below tree)
into_label (node row children no_rest) l = refl
into_label (node row children (onward n rest)) l = refl

no_branch : (tree : Tree Row) (s : paths.Step) → step_into tree s ≡ None → (path : Path) (question : Question) → ¬ PolicyTreeRefusals tree (s ∷ path) question
no_branch tree s e path question h = subst (λ (o : Option (Tree Row)). RowRefuses rows.RowRefusesQuestion (option_and_then row_of (option_and_then (λ b. branch_at b path) o)) question) e h

-- ---- fields
abbrev pub field_step : Step × Tree Row → paths.Step
field_step field = step_of field.0

abbrev pub field_tree : Step × Tree Row → Tree Row
field_tree field = field.1

abbrev pub AreOnce : List (Step × Tree Row) → Type 0
AreOnce = apart.AreOnce field_step field_tree

abbrev pub rows_of_fields : List (Step × Tree Row) → ℕ
rows_of_fields = apart.rows_of_all field_step field_tree

abbrev AreFound : Tree Row → List (Step × Tree Row) → Type 0
AreFound view = apart.AreFoundIn field_step field_tree (below view)

-- the labels that are left rise, and no field is of one of them
pub record AreApart (left : List (List ℕ)) (fields : List (Step × Tree Row)) : Type 0 where
  pub order : IsStrictlySortedBy (slice_cmp nat_cmp) left
  pub past : (l : List ℕ) → IsIn l left → ¬ OneOf (λ field. step_of field.0 ≡ label l) fields
  pub once : AreOnce fields

pub apart_start : (left : List (List ℕ)) (fields : List (Step × Tree Row)) → IsStrictlySortedBy (slice_cmp nat_cmp) left → fields ≡ [] → AreApart left fields
apart_start left fields order nothing = record {
  order = order;
  past = λ l is h. none_in (λ field. step_of field.0 ≡ label l) fields nothing h;
  once = subst AreOnce (sym nothing) tt;
}

not_behind : (l m : List ℕ) (next : List (List ℕ)) → AllByRecursion (λ y. slice_cmp nat_cmp l y ≡ Less) next → IsIn m next → l ≡ m → ⊥
not_behind l m [] all is e = is
not_behind l m (y ∷ next) all is e = ⊎_elim
    (λ same.
    let less : step_cmp (label l) (label y) ≡ Less = all.0 in
    let both : label l ≡ label y = ap label (e ∙ sym same) in
    let equal = subst (λ s. step_cmp (label l) s ≡ Equal) both (same_step (label l)) in
    let never : Less ≡ Equal = sym less ∙ equal in cc)
    (λ more. not_behind l m next all.1 more e) is

sorted_first : (l : List ℕ) (next : List (List ℕ)) → IsStrictlySortedBy (slice_cmp nat_cmp) (l ∷ next) → AllByRecursion (λ y. slice_cmp nat_cmp l y ≡ Less) next × IsStrictlySortedBy (slice_cmp nat_cmp) next
unfolding IsStrictlySortedBy
sorted_first l next h = h

pub apart_more :
    (left next : List (List ℕ)) (l : List ℕ) (fields new : List (Step × Tree Row)) (table : Tree Row) → left ≡ l ∷ next → new ≡ fields ++ (Label l, table) ∷ [] → AreApart left fields → AreApart next new
apart_more left next l fields new table cut items h =
    let order = sorted_first l next (subst (IsStrictlySortedBy (slice_cmp nat_cmp)) cut h.order) in
    let first : IsIn l left = subst (IsIn l) (sym cut) (inl refl) in
    record {
      order = order.1;
      past = λ m is o. ⊎_elim
          (λ old. h.past m (subst (IsIn m) (sym cut) (inr is)) old)
          (λ (same : label l ≡ label m). let e : l ≡ m = cc in not_behind l m next order.0 is e)
          ((pushed (λ field. step_of field.0 ≡ label m) fields new (Label l, table) items).0 o);
      once = subst AreOnce (sym items) (apart.once_push field_step field_tree fields (Label l, table) h.once (h.past l first));
    }

-- one more field, and its rows
pub counted_more :
    (l : List ℕ) (fields new : List (Step × Tree Row)) (table : Tree Row) (count more : ℕ) → new ≡ fields ++ (Label l, table) ∷ [] → count ≤ rows_of_fields fields → more ≤ row_count table → count + more ≤ rows_of_fields new
counted_more l fields new table count more items counted few =
    let sum = apart.rows_push field_step field_tree fields (Label l, table) in
    let rows = rows_counted table in
    subst (λ fs. count + more ≤ rows_of_fields fs) (sym items) (omega (arith, sum, rows, counted, few))

module _ (parts : List ViewPart) (view : Tree Row) (form : IsTable RefusesAsked IsRow view) (same : SameAnswers (PolicyTreeRefusals view) (PartsRefuse parts)) where
  found_or_free : (field : Step × Tree Row) → IsField parts field → (tree_rows field.1 ≡ 0) ⊎ (find (step_of field.0) (below view) ≡ Some field.1)
  found_or_free field is = by (step_into view (label is.at)) refl
    where
      by : (found : Option (Tree Row)) → step_into view (label is.at) ≡ found → (tree_rows field.1 ≡ 0) ⊎ (find (step_of field.0) (below view) ≡ Some field.1)
      by None e =
          let free : field.1 ≡ empty = same_tables field.1 empty is.form (tt, tt, tt) (λ path question. (
            λ r. absurd (no_branch view (label is.at) e path question ((same (label is.at ∷ path) question).1 ((is.refused path question).0 r))),
            λ r. absurd (none_refused path question r),
          )) in
          inl (ap (λ t. tree_rows t) free)
        where
          none_refused : (path : Path) (question : Question) → ¬ PolicyTreeRefusals empty path question
          none_refused [] question r = r
          none_refused (step ∷ path) question r = r
      by (Some tree) e =
          let good = found_form (IsRowKept RefusesAsked IsRow) (label is.at) view tree form e in
          let one : tree ≡ field.1 = same_tables tree field.1 good.1 is.form (λ path question. (
            λ r. (is.refused path question).1 ((same (label is.at ∷ path) question).0 (out_of_branch view tree (label is.at) e path question r)),
            λ r. into_branch view tree (label is.at) e path question ((same (label is.at ∷ path) question).1 ((is.refused path question).0 r)),
          )) in
          inr (ap (λ s. find s (below view)) is.is ∙ sym (into_label view is.at) ∙ e ∙ ap Some one)

  fields_found : (fields : List (Step × Tree Row)) → ((field : Step × Tree Row) → IsIn field fields → IsField parts field) → AreFound view fields
  fields_found fields made field is = found_or_free field (made field is)

  -- the fields have no more rows together
  pub fields_rows : (fields : List (Step × Tree Row)) → ((field : Step × Tree Row) → IsIn field fields → IsField parts field) → AreOnce fields → rows_of_fields fields ≤ row_count view
  fields_rows fields made once =
      let here = apart.rows_apart field_step field_tree (below view) fields once (fields_found fields made) in
      let all = below_rows view in
      let counted = rows_counted view in
      omega arith

  -- and where those at one label more are too many, all are
  pub branch_more :
      (found : List ViewPart) (l : List ℕ) (fields : List (Step × Tree Row)) (count most : ℕ) → ((path : Path) (question : Question) → PartsRefuse parts (label l ∷ path) question ↔ PartsRefuse found path question)
      → ((field : Step × Tree Row) → IsIn field fields → IsField parts field) → AreOnce fields → ¬ OneOf (λ field. step_of field.0 ≡ label l) fields
      → count ≤ rows_of_fields fields → count ≤ most → HasMoreRows (most - count) (PartsRefuse found) → most < row_count view
  branch_more found l fields count most behind made once past counted within more = by (step_into view (label l)) refl
    where
      by : (found : Option (Tree Row)) → step_into view (label l) ≡ found → most < row_count view
      by None e = absurd (
          let none = more empty (tt, tt, tt) (λ path question. (
            λ r. absurd (none_refused path question r),
            λ r. absurd (no_branch view (label l) e path question ((same (label l ∷ path) question).1 ((behind path question).1 r))),
          )) in omega (arith, none))
        where
          none_refused : (path : Path) (question : Question) → ¬ PolicyTreeRefusals empty path question
          none_refused [] question r = r
          none_refused (step ∷ path) question r = r
      by (Some tree) e =
          let good = found_form (IsRowKept RefusesAsked IsRow) (label l) view tree form e in
          let large = more tree good.1 (λ path question. (
            λ r. (behind path question).0 ((same (label l ∷ path) question).0 (out_of_branch view tree (label l) e path question r)),
            λ r. into_branch view tree (label l) e path question ((same (label l ∷ path) question).1 ((behind path question).1 r)),
          )) in
          let new = fields ++ (Label l, tree) ∷ [] in
          let again : AreOnce new = apart.once_push field_step field_tree fields (Label l, tree) once past in
          let are : AreFound view new = λ field is. ⊎_elim
          (λ old. fields_found fields made field old)
          (λ last. inr (subst (λ (one : Step × Tree Row). find (step_of one.0) (below view) ≡ Some one.1) last (sym (into_label view l) ∙ e)))
          ((pushed (λ y. y ≡ field) fields new (Label l, tree) refl).0 is) in
          let here = apart.rows_apart field_step field_tree (below view) new again are in
          let sum = apart.rows_push field_step field_tree fields (Label l, tree) in
          let all = below_rows view in
          let whole = rows_counted view in
          let part = rows_counted tree in
          omega (arith, here, sum, large)

-- so where a field is too large, the view is
pub field_too_large :
    (parts found : List ViewPart) (patterns : List (List ℕ)) (l : List ℕ) (left : List (List ℕ)) (fields : List (Step × Tree Row)) (count most : ℕ) → HasLabels true parts patterns
    → ((next : ViewPart) → IsIn next found ↔ OneOf (λ part. IsBelow patterns l part next) parts) → OneOf (λ part. DeclaresAt (part_of part) [] l) parts
    → ((field : Step × Tree Row) → IsIn field fields → IsField parts field) → AreApart left fields → IsIn l left
    → count ≤ rows_of_fields fields → count ≤ most → HasMoreRows (most - count) (PartsRefuse found) → HasMoreRows most (PartsRefuse parts)
field_too_large parts found patterns l left fields count most known are declared made far here counted within more view form same =
    branch_more parts view form same found l fields count most (λ path question.
    let below = view_below part_of parts part_of found l (parts_behind parts found patterns l known are) path question in
    (λ h. (below.0 h).1, λ h. below.1 (declared, h))) made far.once (far.past l here) counted within more
