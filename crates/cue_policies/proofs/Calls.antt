-- What the calls on parts pass on to one another.
use Rattle.std.proofs.Common.{◌≡◌, ◌↔◌, ◌⊎◌, inl, inr, ⊎_elim, ◌<◌, ◌≤◌, ℕ, Bool, true, false, List, [], ◌∷◌, ◌++◌, length, zero, suc, Option, Some, None, Result, Ok, Err, refl, sym, ap, subst, ◌∙◌, arith, All}
use Rattle.std.specs.Prelude.{IfOk}
use Rattle.cue_lattice.specs.Limits.{step_limit}
use Rattle.cue_lattice.specs.OneOf.{OneOf}
use Rattle.cue_lattice.specs.Path.{label, index, Path}
use Rattle.cue_lattice.specs.Question.{Question, SameAnswers}
use Rattle.cue_row.specs.Row as rows
use Rattle.cue_row.specs.Row.{RefusesAsked, IsRow}
use Rattle.cue_row.specs.Steps.{step_of}
use Rattle.cue_row.specs.ValidRow.{IsWord}
use Rattle.cue_row.specs.declared.step.Step.{Step}
use Rattle.cue_row.specs.declared.step.Step.TheVariants.{Label}
use Rattle.cue_row.specs.declared.parts.RowParts.{RowParts as Row}
use Rattle.cue_table.specs.Depth.{tree_depth}
use Rattle.cue_table.specs.Form.{IsTable}
use Rattle.cue_table.specs.Refuses.{RowRefuses}
use Rattle.cue_table.specs.Tree.{Tree, row_of, rest_below, rest_at, fixed_of}
use Rattle.cue_table.specs.Valid.{IsValidTable}
use Rattle.cue_table.specs.Inner.ValidWalk.{HasChild}
use Rattle.cue_policies.specs.Tables.{table_part, ViewOfTwo}
use Rattle.cue_policies.specs.View.{DeclaresAt}
use Rattle.cue_policies.specs.WellFormed.{IsPlain, IsWellFormed}
use Rattle.cue_table.specs.Meet.{IsMet}
use Rattle.cue_policies.proofs.Asking.{met_answers}
use Rattle.cue_policies.specs.declared.kind.LayerKind.{LayerKind}
use Rattle.cue_policies.specs.declared.kind.LayerKind.TheVariants as kinds
use Rattle.cue_policies.specs.declared.part.Role.TheVariants as roles
use Rattle.cue_policies.specs.declared.part.ViewPart.{ViewPart}
use Rattle.cue_policies.specs.Inner.Answers.{PolicyTreeRefusals}
use Rattle.cue_policies.specs.Inner.Parts.{refused_in_role, held_row, part_of, two_parts, PartsRefuse, IsIn, HasLabel, HasLabels, IsBelow, IsPlace, IsElements, RestRefuses, IsSoundPart, AreSoundParts, IsLimited, IsFit, AreLimited, IsField, AreFields, most_depth}
use Rattle.cue_policies.proofs.Branches.{OwnRefuses, RestAt, elements_apart}
use Rattle.cue_policies.proofs.Fields.{AreFieldsSoFar}
use Rattle.cue_policies.proofs.Gains.{none_in, pushed}
use Rattle.cue_policies.proofs.Places.{held_refuses}
use Rattle.cue_policies.proofs.Soundness.{tree_into, valid_is_root}
use Rattle.cue_policies.proofs.Steps.{view_below, refuses_as, declares_as}
use Rattle.cue_policies.proofs.Views.{IsPlainPart, layers_are_plain, pick, plain_view, put, view_as}
use Rattle.cue_policies.proofs.Walking.{declared_there, depth_below, held_far, held_firm, labels_declared, lone_view, most_in, parts_behind, pattern_of}

pub list_none : {X : Type 0} (xs : List X) → length xs ≡ 0 → xs ≡ []
list_none [] e = refl
list_none (x ∷ xs) e = absurd (omega (arith, e))

pub if_ok_both : {A E : Type 0} (r : Result A E) (P Q R : A → Type 0) → ((x : A) → P x → Q x → R x) → IfOk r P → IfOk r Q → IfOk r R
if_ok_both (Ok x) P Q R f p q = f x p q
if_ok_both (Err e) P Q R f p q = p

-- ---- a place without its labels
-- what a table refuses that has a row added to the elements
pub place_parts : (part : ViewPart) (elements whole : Tree Row) → IsElements part.branch elements
    → ((path : Path) (question : Question) → PolicyTreeRefusals whole path question ↔ (PolicyTreeRefusals elements path question ⊎ ((path ≡ []) × refused_in_role part.role part.branch [] question))) → IsPlace part whole
place_parts part elements whole is same [] question = (
  λ h. ⊎_elim (λ x. absurd ((is [] question).0 x)) (λ x. x.1) ((same [] question).0 h),
  λ h. (same [] question).1 (inr (refl, h)),
)
place_parts part elements whole is same (label l ∷ path) question = (
  λ h. ⊎_elim (λ x. (is (label l ∷ path) question).0 x) (λ x. not_root l path x.0) ((same (label l ∷ path) question).0 h),
  λ h. absurd h,
)
  where
    not_root : (m : List ℕ) (path : Path) → label m ∷ path ≡ [] → ⊥
    not_root m path e = cc
place_parts part elements whole is same (index i ∷ path) question = (
  λ h. ⊎_elim (λ x. (is (index i ∷ path) question).0 x) (λ x. absurd (not_root i path x.0)) ((same (index i ∷ path) question).0 h),
  λ h. (same (index i ∷ path) question).1 (inl ((is (index i ∷ path) question).1 h)),
)
  where
    not_root : (i : ℕ) (path : Path) → index i ∷ path ≡ [] → ⊥
    not_root i path e = cc

-- what is refused where a row is added
pub row_added : (part : ViewPart) (row held_is : Row) (old new : Tree Row) → row_of part.branch ≡ Some row → held_is ≡ held_row part.role row
    → ((path : Path) (question : Question) → PolicyTreeRefusals new path question ↔ (PolicyTreeRefusals old path question ⊎ ((path ≡ []) × rows.RowRefusesQuestion held_is question)))
    → (path : Path) (question : Question) → PolicyTreeRefusals new path question ↔ (PolicyTreeRefusals old path question ⊎ ((path ≡ []) × refused_in_role part.role part.branch [] question))
row_added part row held_is old new e same added path question =
    let here = added path question in
    let refused_in_role = held_refuses part.role row question in
    let into = λ (r : rows.RowRefusesQuestion held_is question). refused_in_role.0 (subst (λ (x : Row). rows.RowRefusesQuestion x question) same r) in
    let root : PolicyTreeRefusals part.branch [] question ↔ rows.RowRefusesQuestion row question = (subst (λ o. RowRefuses rows.RowRefusesQuestion o question) e, subst (λ o. RowRefuses rows.RowRefusesQuestion o question) (sym e)) in (
      λ h. ⊎_elim (λ x. inl x) (λ x. let r = into x.1 in inr (x.0, (root.1 r.0, r.1))) (here.0 h),
      λ h. here.1 (⊎_elim (λ x. inl x) (λ x. inr (x.0, subst (λ (y : Row). rows.RowRefusesQuestion y question) (sym same) (refused_in_role.1 (root.0 x.1.0, x.1.1)))) h),
    )

-- a table of the elements that stand by themselves, with the rest
pub elements_parts :
    (tree : Tree Row) (given : List (Step × Tree Row)) (own whole : Tree Row) → IsTable RefusesAsked IsRow tree
    → ((path : Path) (question : Question) → PolicyTreeRefusals whole path question ↔ (PolicyTreeRefusals own path question ⊎ RestRefuses tree path question))
    → ((question : Question) → ¬ PolicyTreeRefusals own [] question)
    → ((l : List ℕ) (path : Path) (question : Question) → ¬ PolicyTreeRefusals own (label l ∷ path) question)
    → ((i : ℕ) (path : Path) (question : Question) → PolicyTreeRefusals own (index i ∷ path) question ↔ OwnRefuses tree i path question)
    → IsElements tree whole
elements_parts tree given own whole form same root labels items [] question = (
  λ h. ⊎_elim (λ x. root question x) (λ x. far x.0 x.1 x.3) ((same [] question).0 h),
  λ h. absurd h,
)
  where
    far : (i : ℕ) (behind : Path) → [] ≡ index i ∷ behind → ⊥
    far i behind e = cc
elements_parts tree given own whole form same root labels items (label l ∷ path) question = (
  λ h. ⊎_elim (λ x. labels l path question x) (λ x. far x.0 x.1 x.3) ((same (label l ∷ path) question).0 h),
  λ h. absurd h,
)
  where
    far : (i : ℕ) (behind : Path) → label l ∷ path ≡ index i ∷ behind → ⊥
    far i behind e = cc
elements_parts tree given own whole form same root labels items (index i ∷ path) question =
    let apart = elements_apart tree form i path question in (
      λ h. apart.1 (⊎_elim (λ x. inl ((items i path question).0 x)) (λ x. inr (rest_in x)) ((same (index i ∷ path) question).0 h)),
      λ h. (same (index i ∷ path) question).1 (⊎_elim (λ x. inl ((items i path question).1 x)) (λ x. inr (i, path, x.0, refl, x.1, x.2, x.3)) (apart.0 h)),
    )
  where
    number_of : (j : ℕ) (behind : Path) → index i ∷ path ≡ index j ∷ behind → j ≡ i
    number_of j behind e = cc

    behind_of : (j : ℕ) (behind : Path) → index i ∷ path ≡ index j ∷ behind → behind ≡ path
    behind_of j behind e = cc

    rest_in : RestRefuses tree (index i ∷ path) question → RestAt tree i path question
    rest_in h =
        let number : h.0 ≡ i = number_of h.0 h.1 h.3 in
        let behind : h.1 ≡ path = behind_of h.0 h.1 h.3 in
        (h.2, h.4, subst (λ n. fixed_of tree ≤ n) number h.5, subst (λ p. PolicyTreeRefusals h.2 p question) behind h.6)

-- what is refused where a rest is added
pub rest_added : (tree rest old new : Tree Row) (first : ℕ) → rest_at (rest_below tree) ≡ Some rest → first ≡ fixed_of tree
    → ((at : Path) (question : Question) → PolicyTreeRefusals new at question ↔ (PolicyTreeRefusals old at question ⊎ ((i : ℕ) × (path : Path) × (at ≡ index i ∷ path) × (first ≤ i) × PolicyTreeRefusals rest path question)))
    → (at : Path) (question : Question) → PolicyTreeRefusals new at question ↔ (PolicyTreeRefusals old at question ⊎ RestRefuses tree at question)
rest_added tree rest old new first e same added at question =
    let here = added at question in (
      λ h. ⊎_elim (λ x. inl x) (λ x. inr (x.0, x.1, rest, x.2, e, subst (λ n. n ≤ x.0) same x.3, x.4)) (here.0 h),
      λ h. here.1 (⊎_elim (λ x. inl x) (λ x.
          let both : Some rest ≡ Some x.2 = sym e ∙ x.4 in
          let one : x.2 ≡ rest = sym (some_same rest x.2 both) in
          inr (x.0, x.1, x.3, subst (λ n. n ≤ x.0) (sym same) x.5, subst (λ t. PolicyTreeRefusals t x.1 question) one x.6)) h),
    )
  where
    some_same : (a b : Tree Row) → Some a ≡ Some b → a ≡ b
    some_same a b f = cc

-- ---- a walk over the labels of a place
pub are_found :
    (parts found items : List ViewPart) (patterns given : List (List ℕ)) (l : List ℕ) → found ≡ items → given ≡ patterns
    → ((next : ViewPart) → IsIn next items ↔ OneOf (λ part. IsBelow given l part next) parts) → (next : ViewPart) → IsIn next found ↔ OneOf (λ part. IsBelow patterns l part next) parts
are_found parts found items patterns given l same known are next =
    subst (λ xs. IsIn next xs ↔ OneOf (λ part. IsBelow patterns l part next) parts) (sym same)
    (subst (λ ps. IsIn next items ↔ OneOf (λ part. IsBelow ps l part next) parts) known (are next))

pub so_far_start : (parts : List ViewPart) (labels left : List (List ℕ)) (fields : List (Step × Tree Row)) → AreSoundParts parts → HasLabels false parts labels → left ≡ labels → fields ≡ [] → AreFieldsSoFar parts left fields
so_far_start parts labels left fields sound known same nothing = record {
  made = λ field is. absurd (none_in (λ y. y ≡ field) fields nothing is);
  declared = λ l is. (labels_declared parts labels sound known l).0 (subst (IsIn l) same is);
  all = λ l is. inl (subst (IsIn l) (sym same) ((labels_declared parts labels sound known l).1 is));
}

pub first_declared : (parts : List ViewPart) (left next : List (List ℕ)) (l : List ℕ) (fields : List (Step × Tree Row)) → left ≡ l ∷ next → AreFieldsSoFar parts left fields → OneOf (λ part. DeclaresAt (part_of part) [] l) parts
first_declared parts left next l fields cut far = far.declared l (subst (IsIn l) (sym cut) (inl refl))

pub declared_has : (parts : List ViewPart) (l : List ℕ) → OneOf (λ part. DeclaresAt (part_of part) [] l) parts → OneOf (λ part. HasLabel false part l) parts
declared_has parts l h =
    let one = pick (λ part. DeclaresAt (part_of part) [] l) parts h in
    put (λ part. HasLabel false part l) parts one.0 one.1 (declared_there one.0 l one.2)

child_word : (parent : Row) (l : List ℕ) (row : Option Row) → HasChild parent (label l) row → IsWord l
child_word parent l None h = absurd h
child_word parent l (Some row) h = h.word

declared_word : (parts : List ViewPart) (l : List ℕ) → AreSoundParts parts → OneOf (λ part. DeclaresAt (part_of part) [] l) parts → IsWord l
declared_word parts l sound h =
    let one = pick (λ part. DeclaresAt (part_of part) [] l) parts h in
    let branch = (declared_there one.0 l one.2).1 in
    let into = tree_into one.0.branch branch.0 (label l) (sound one.0 one.1).sound branch.1 in
    child_word into.0 l (row_of branch.0) into.2

pub field_made :
    (parts found : List ViewPart) (patterns : List (List ℕ)) (l : List ℕ) (table : Tree Row) → AreSoundParts parts → most_depth parts ≤ step_limit → HasLabels true parts patterns
    → ((next : ViewPart) → IsIn next found ↔ OneOf (λ part. IsBelow patterns l part next) parts) → OneOf (λ part. DeclaresAt (part_of part) [] l) parts
    → IsTable RefusesAsked IsRow table → SameAnswers (PolicyTreeRefusals table) (PartsRefuse found) → ((top : Bool) → AreLimited top found → IsFit top table) → IsField parts (Label l, table)
field_made parts found patterns l table sound deep known are declared form same fit = record {
  at = l;
  is = refl;
  word = declared_word parts l sound declared;
  form = form;
  fit = fit false (λ part is.
      let low = depth_below parts found patterns l are (declared_has parts l declared) in
      let most = most_in found part is in
      omega arith);
  refused = λ path question.
      let below = view_below part_of parts part_of found l (parts_behind parts found patterns l known are) path question in
      let here = same path question in
      (λ h. below.1 (declared, here.0 h), λ h. here.1 (below.0 h).1);
}

pub so_far_more :
    (parts : List ViewPart) (left next : List (List ℕ)) (l : List ℕ) (fields new : List (Step × Tree Row)) (table : Tree Row) → left ≡ l ∷ next → new ≡ fields ++ (Label l, table) ∷ []
    → IsField parts (Label l, table) → AreFieldsSoFar parts left fields → AreFieldsSoFar parts next new
so_far_more parts left next l fields new table cut items field far = record {
  made = λ one is. ⊎_elim (λ old. far.made one old) (λ same. subst (IsField parts) same field) ((pushed (λ y. y ≡ one) fields new (Label l, table) items).0 is);
  declared = λ m is. far.declared m (subst (IsIn m) (sym cut) (inr is));
  all = λ m is. ⊎_elim
      (λ here. ⊎_elim
      (λ (same : l ≡ m). inr ((pushed (λ one. step_of one.0 ≡ label m) fields new (Label l, table) items).1 (inr (ap label same))))
      (λ rest. inl rest)
      (subst (IsIn m) cut here))
      (λ old. inr ((pushed (λ one. step_of one.0 ≡ label m) fields new (Label l, table) items).1 (inl old)))
      (far.all m is);
}

pub so_far_all : (parts : List ViewPart) (left : List (List ℕ)) (fields : List (Step × Tree Row)) → left ≡ [] → AreFieldsSoFar parts left fields → AreFields parts fields
so_far_all parts left fields nothing far = record {
  made = far.made;
  all = λ l is. ⊎_elim (λ here. absurd (none_in (λ y. y ≡ l) left nothing here)) (λ h. h) (far.all l is);
}

at_index : {X : Type 0} (P : X → Type 0) (xs : List X) → ((x : X) → IsIn x xs → P x) → All P xs
at_index P [] f k d less = absurd (omega arith)
at_index P (x ∷ xs) f zero d less = f x (inl refl)
at_index P (x ∷ xs) f (suc k) d less = at_index P xs (λ y is. f y (inr is)) k d (omega arith)

pub fields_low : (parts : List ViewPart) (fields : List (Step × Tree Row)) → AreFields parts fields → All (λ one. tree_depth one.1 < step_limit) fields
fields_low parts fields are = at_index (λ one. tree_depth one.1 < step_limit) fields (λ one is. (are.made one is).fit.1)

pub lone_answers : (parts : List ViewPart) (part : ViewPart) (view : Tree Row) → parts ≡ part ∷ [] → part.role ≡ roles.Layer → view ≡ part.branch → SameAnswers (PolicyTreeRefusals view) (PartsRefuse parts)
lone_answers parts part view e role is path question =
    let here = lone_view part role path question in
    subst (λ ps. PolicyTreeRefusals view path question ↔ PartsRefuse ps path question) (sym e)
    (subst (λ t. PolicyTreeRefusals t path question ↔ PartsRefuse (part ∷ []) path question) (sym is) here)

-- ---- the two tables
each_of : (layers policies : Tree Row) (P : ViewPart → Type 0) → P (record { role = roles.Layer; branch = layers }) → P (record { role = roles.Policy; branch = policies }) → (part : ViewPart) → IsIn part (two_parts layers policies) → P part
each_of layers policies P p q part is = ⊎_elim (λ e. subst P e p) (λ r. ⊎_elim (λ e. subst P e q) (λ non. absurd non) r) is

pub two_sound : (layers policies : Tree Row) → IsValidTable layers → IsValidTable policies → tree_depth layers ≤ step_limit → tree_depth policies ≤ step_limit → IsWellFormed (PolicyTreeRefusals policies) → AreSoundParts (two_parts layers policies)
two_sound layers policies h k deep low formed = each_of layers policies IsSoundPart
    (record { form = h.form; sound = (valid_is_root layers h deep).0; lists = λ path question r never. layer_no never.0 })
    (record { form = k.form; sound = (valid_is_root policies k low).0; lists = λ path question r has. formed.lists path question r has.1 })
  where
    layer_no : kinds.Layer ≡ kinds.Policy → ⊥
    layer_no e = cc

pub two_limited : (layers policies : Tree Row) → IsValidTable layers → IsValidTable policies → tree_depth layers ≤ step_limit → tree_depth policies ≤ step_limit → AreLimited true (two_parts layers policies)
two_limited layers policies h k deep low = each_of layers policies (λ part. IsLimited true part.branch) (valid_is_root layers h deep).1 (valid_is_root policies k low).1

pub two_refuse : (layers policies : Tree Row) (path : Path) (question : Question) → PartsRefuse (two_parts layers policies) path question ↔ ViewOfTwo layers policies path question
two_refuse layers policies path question = (
  view_as part_of (two_parts layers policies) table_part ((kinds.Layer, layers) ∷ (kinds.Policy, policies) ∷ [])
      (λ p q h. ⊎_elim (λ x. inl (refuses_as (part_of (record { role = roles.Layer; branch = layers })) (table_part (kinds.Layer, layers)) refl (λ a b r. held_far roles.Layer layers a b r) p q x))
      (λ r. ⊎_elim (λ x. inr (inl (refuses_as (part_of (record { role = roles.Policy; branch = policies })) (table_part (kinds.Policy, policies)) refl (λ a b r. held_far roles.Policy policies a b r) p q x))) (λ non. absurd non) r) h)
      (λ p l h. ⊎_elim (λ x. inl (declares_as (part_of (record { role = roles.Layer; branch = layers })) (table_part (kinds.Layer, layers)) refl (λ a b r. held_far roles.Layer layers a b r) p l x))
      (λ r. ⊎_elim (λ x. inr (inl (declares_as (part_of (record { role = roles.Policy; branch = policies })) (table_part (kinds.Policy, policies)) refl (λ a b r. held_far roles.Policy policies a b r) p l x))) (λ non. absurd non) r) h)
      path question,
  view_as table_part ((kinds.Layer, layers) ∷ (kinds.Policy, policies) ∷ []) part_of (two_parts layers policies)
      (λ p q h. ⊎_elim (λ x. inl (refuses_as (table_part (kinds.Layer, layers)) (part_of (record { role = roles.Layer; branch = layers })) refl (λ a b r. held_firm roles.Layer layers (λ n. n) a b r) p q x))
      (λ r. ⊎_elim (λ x. inr (inl (refuses_as (table_part (kinds.Policy, policies)) (part_of (record { role = roles.Policy; branch = policies })) refl (λ a b r. held_firm roles.Policy policies (λ n. n) a b r) p q x))) (λ non. absurd non) r) h)
      (λ p l h. ⊎_elim (λ x. inl (declares_as (table_part (kinds.Layer, layers)) (part_of (record { role = roles.Layer; branch = layers })) refl (λ a b r. held_firm roles.Layer layers (λ n. n) a b r) p l x))
      (λ r. ⊎_elim (λ x. inr (inl (declares_as (table_part (kinds.Policy, policies)) (part_of (record { role = roles.Policy; branch = policies })) refl (λ a b r. held_firm roles.Policy policies (λ n. n) a b r) p l x))) (λ non. absurd non) r) h)
      path question,
)

pub two_parts_are :
    (layers policies first second : Tree Row) (none one both parts : List ViewPart) → first ≡ layers → second ≡ policies → none ≡ [] → one ≡ none ++ (record { role = roles.Layer; branch = first }) ∷ []
    → both ≡ one ++ (record { role = roles.Policy; branch = second }) ∷ [] → parts ≡ both → parts ≡ two_parts layers policies
two_parts_are layers policies first second none one both parts e f nothing push again is =
    let start : one ≡ (record { role = roles.Layer; branch = first }) ∷ [] = push ∙ ap (λ xs. xs ++ (record { role = roles.Layer; branch = first }) ∷ []) nothing in
    let all : both ≡ two_parts first second = again ∙ ap (λ xs. xs ++ (record { role = roles.Policy; branch = second }) ∷ []) start in
    is ∙ all ∙ (λ i. two_parts (e i) (f i))

-- without patterns the view is what the two tables are met to
pub plain_two : (layers policies met : Tree Row) → IsMet RefusesAsked layers policies met → IsPlain (PolicyTreeRefusals policies) → SameAnswers (PolicyTreeRefusals met) (ViewOfTwo layers policies)
plain_two layers policies met is plain path question =
    let m = met_answers layers policies met is path question in
    let view = plain_view table_part ((kinds.Layer, layers) ∷ (kinds.Policy, policies) ∷ []) each path question in (
      λ h. view.1 (⊎_elim (λ x. inl x) (λ x. inr (inl x)) (m.0 h)),
      λ h. m.1 (⊎_elim (λ x. inl x) (λ r. ⊎_elim (λ x. inr x) (λ non. absurd non) r) (view.0 h)),
    )
  where
    policy_plain : IsPlainPart (table_part (kinds.Policy, policies))
    policy_plain p q r has = plain p q r (pattern_of kinds.Policy p has).1

    each : (part : LayerKind × Tree Row) → OneOf (λ y. y ≡ part) ((kinds.Layer, layers) ∷ (kinds.Policy, policies) ∷ []) → IsPlainPart (table_part part)
    each part here = ⊎_elim
        (λ e. subst (λ x. IsPlainPart (table_part x)) e (layers_are_plain (table_part (kinds.Layer, layers)) refl))
        (λ r. ⊎_elim (λ e. subst (λ x. IsPlainPart (table_part x)) e policy_plain) (λ non. absurd non) r)
        here
