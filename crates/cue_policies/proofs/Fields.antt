-- The fields of a view as a table, and the view that is made of it and of what the parts refuse elsewhere.
use Rattle.std.proofs.Common.{◌≡◌, ◌↔◌, ◌⊎◌, inl, inr, ⊎_elim, ◌≤◌, ℕ, false, List, [], ◌∷◌, length, Option, Some, None, refl, sym, subst, ◌∙◌, arith}
use Rattle.std.specs.declared.cmp.Ordering.{Ordering}
use Rattle.std.specs.declared.cmp.Ordering.TheVariants.{Less, Equal, Greater}
use Rattle.cue_lattice.specs.OneOf.{OneOf}
use Rattle.cue_lattice.specs.Path as paths
use Rattle.cue_lattice.specs.Path.{label, index, step_cmp, Path}
use Rattle.cue_lattice.specs.Question.{Question}
use Rattle.cue_row.specs.Questions.{question_of}
use Rattle.cue_row.specs.Row as rows
use Rattle.cue_row.specs.Row.{RefusesAsked, IsRow}
use Rattle.cue_row.specs.RowLaws.{same_rows}
use Rattle.cue_row.specs.Steps.{step_of}
use Rattle.cue_row.specs.ValidRow.{IsWord}
use Rattle.cue_row.specs.declared.step.Step.{Step}
use Rattle.cue_row.specs.declared.parts.RowParts.{RowParts as Row}
use Rattle.cue_table.specs.Depth.{tree_depth}
use Rattle.cue_table.specs.Form.{IsTreeTaken, AreBranches, IsRowKept, IsTable}
use Rattle.cue_table.specs.Many.{IsOfBranches}
use Rattle.cue_table.specs.Refuses.{RowRefuses, TableRefuses}
use Rattle.cue_table.specs.Tree.{Tree, node, Children, none, child, Rest, no_rest, onward, empty, row_of, find, find_with, step_into, behind_last}
use Rattle.cue_table.specs.Valid.{MayHold}
use Rattle.cue_table.specs.Inner.ValidWalk.{IsSound, AreSound, HasChild}
use Rattle.cue_table.proofs.Branches.{find_first, find_rest}
use Rattle.cue_table.proofs.Depth.{found_later, taken_row, kept_at, refusals_depth, refused_depth}
use Rattle.cue_table.proofs.Exact.{exact_tree}
use Rattle.cue_table.proofs.Finding.{found_form, same_step}
use Rattle.cue_table.proofs.Order.{equal_steps}
use Rattle.cue_policies.specs.View.{IsAlong, PartRefuses, DeclaresAt}
use Rattle.cue_policies.specs.declared.kind.LayerKind.{LayerKind}
use Rattle.cue_policies.specs.declared.part.ViewPart.{ViewPart}
use Rattle.cue_policies.specs.Inner.Answers.{PolicyTreeRefusals}
use Rattle.cue_policies.specs.Inner.Parts.{kind_of, part_of, PartsRefuse, IsIn, IsFit, IsField, AreFields, most_depth}
use Rattle.cue_policies.proofs.Asking.{answered}
use Rattle.cue_policies.proofs.Branches.{AtStep, branches_answer, branches_no_root}
use Rattle.cue_policies.proofs.Soundness.{sound_rows}
use Rattle.cue_policies.proofs.ValidRows.{something}
use Rattle.cue_policies.proofs.Views.{pick, put}
use Rattle.cue_policies.proofs.Walking.{FieldsRefuse, into_branch, out_of_branch, most_in, held_far}

abbrev Kept : Row → Type 0
Kept = IsRowKept RefusesAsked IsRow

-- ---- what the fields refuse
same_label : (a b : List ℕ) (s : paths.Step) → s ≡ label a → s ≡ label b → a ≡ b
same_label a b s e f = let both : label a ≡ label b = sym e ∙ f in cc

pub fields_answer :
    (parts : List ViewPart) (given : List (Step × Tree Row)) (table : Tree Row) → AreFields parts given → IsOfBranches RefusesAsked given table
    → (path : Path) (question : Question) → PolicyTreeRefusals table path question ↔ FieldsRefuse parts path question
fields_answer parts given table are is [] question = (branches_no_root given table is question, λ h. absurd h)
fields_answer parts given table are is (index i ∷ path) question = (
  λ h.
      let one = pick (AtStep (index i) path question) given ((branches_answer given table is (index i) path question).0 h) in
      let field = are.made one.0 one.1 in
      let both : label field.at ≡ index i = sym field.is ∙ one.2.0 in
      cc,
  λ h. absurd h,
)
fields_answer parts given table are is (label l ∷ path) question = (
  λ h.
      let one = pick (AtStep (label l) path question) given ((branches_answer given table is (label l) path question).0 h) in
      let field = are.made one.0 one.1 in
      subst (λ m. PartsRefuse parts (label m ∷ path) question) (same_label field.at l (step_of one.0.0) field.is one.2.0) ((field.refused path question).0 one.2.1),
  λ h.
      let one = pick (λ field. step_of field.0 ≡ label l) given (are.all l (h.0 [] l path refl)) in
      let field = are.made one.0 one.1 in
      let here = (field.refused path question).1 (subst (λ m. PartsRefuse parts (label m ∷ path) question) (same_label l field.at (step_of one.0.0) one.2 field.is) h) in
      (branches_answer given table is (label l) path question).1 (put (AtStep (label l) path question) given one.0 one.1 (one.2, here)),
)

-- ---- how deep the view is
along_length : (kind : LayerKind) (written path : Path) → IsAlong kind written path → length written ≡ length path
along_length kind [] [] h = refl
along_length kind [] (label l ∷ path) h = absurd h
along_length kind [] (index n ∷ path) h = absurd h
along_length kind (label own ∷ written) [] h = absurd h
along_length kind (label own ∷ written) (index n ∷ path) h = absurd h
along_length kind (index m ∷ written) [] h = absurd h
along_length kind (index m ∷ written) (label l ∷ path) h = absurd h
along_length kind (label own ∷ written) (label l ∷ path) h = let more = along_length kind written path h.1 in omega arith
along_length kind (index m ∷ written) (index n ∷ path) h = let more = along_length kind written path h.1 in omega arith

pub view_depth : (parts : List ViewPart) (path : Path) (question : Question) → PartsRefuse parts path question → length path ≤ most_depth parts
view_depth parts path question h =
    let one = pick (λ part. PartRefuses (part_of part) path question) parts h.1 in
    let written = one.2.0 in
    let long = along_length (kind_of one.0.role) written path one.2.1 in
    let near = refused_depth rows.RowRefusesQuestion one.0.branch written question (held_far one.0.role one.0.branch written question one.2.2) in
    let most = most_in parts one.0 one.1 in
    omega arith

fields_refused : (parts : List ViewPart) (path : Path) (question : Question) → FieldsRefuse parts path question → PartsRefuse parts path question
fields_refused parts [] question h = absurd h
fields_refused parts (label l ∷ path) question h = h
fields_refused parts (index i ∷ path) question h = absurd h

pub fields_depth : (parts : List ViewPart) (table : Tree Row) → IsTable RefusesAsked IsRow table → ((path : Path) (question : Question) → PolicyTreeRefusals table path question ↔ FieldsRefuse parts path question) → tree_depth table ≤ most_depth parts
fields_depth parts table form same = refusals_depth RefusesAsked IsRow table (most_depth parts) form (λ path question r.
    view_depth parts path (question_of question) (fields_refused parts path (question_of question) ((same path (question_of question)).0 ((answered table path question).0 r))))

-- ---- a field that is found
decided : (s : paths.Step) (given : List (Step × Tree Row)) → OneOf (λ one. step_of one.0 ≡ s) given ⊎ (¬ OneOf (λ one. step_of one.0 ≡ s) given)
decided s [] = inr (λ h. h)
decided s (one ∷ given) = ⊎_elim (λ h. inl (inr h)) (λ non. by (step_cmp (step_of one.0) s) refl non) (decided s given)
  where
    by : (o : Ordering) → step_cmp (step_of one.0) s ≡ o → ¬ OneOf (λ one. step_of one.0 ≡ s) given → OneOf (λ one. step_of one.0 ≡ s) (one ∷ given) ⊎ (¬ OneOf (λ one. step_of one.0 ≡ s) (one ∷ given))
    by Equal e non = inl (inl (equal_steps (step_of one.0) s e))
    by Less e non = inr (λ h. ⊎_elim (λ same. let again = subst (λ t. step_cmp (step_of one.0) t ≡ Equal) same (same_step (step_of one.0)) in let both : Less ≡ Equal = sym e ∙ again in cc) non h)
    by Greater e non = inr (λ h. ⊎_elim (λ same. let again = subst (λ t. step_cmp (step_of one.0) t ≡ Equal) same (same_step (step_of one.0)) in let both : Greater ≡ Equal = sym e ∙ again in cc) non h)

not_taken : (tree : Tree Row) → tree ≡ empty → IsTreeTaken tree → ⊥
not_taken tree e h = subst IsTreeTaken e h

pub record IsFound (parts : List ViewPart) (s : paths.Step) (tree : Tree Row) : Type 0 where
  pub at : List ℕ
  pub is : s ≡ label at
  pub word : IsWord at
  pub sound : IsSound tree
  pub fit : IsFit false tree
  pub declared : OneOf (λ part. DeclaresAt (part_of part) [] at) parts

module _ (parts : List ViewPart) (given : List (Step × Tree Row)) (table : Tree Row) (are : AreFields parts given) (is : IsOfBranches RefusesAsked given table) (form : IsTable RefusesAsked IsRow table) where
  -- a branch that is found refuses something, which one that is given refuses
  none_found : (s : paths.Step) (tree : Tree Row) → step_into table s ≡ Some tree → ¬ OneOf (λ one. step_of one.0 ≡ s) given → ⊥
  none_found s tree e non =
      let good = found_form Kept s table tree form e in
      let some = taken_row Kept tree good.0 good.1 in
      (kept_at Kept tree some.0 some.1 good.1 some.2).1 (λ question r.
      let here : TableRefuses RefusesAsked tree some.0 question = subst (λ o. RowRefuses RefusesAsked o question) (sym some.2) r in
      let out = out_of_branch table tree s e some.0 (question_of question) ((answered tree some.0 question).0 here) in
      let one = pick (AtStep s some.0 (question_of question)) given ((branches_answer given table is s some.0 (question_of question)).0 out) in
      non (put (λ one. step_of one.0 ≡ s) given one.0 one.1 one.2.0))

  refused_there : (s : paths.Step) (tree : Tree Row) → step_into table s ≡ Some tree → (one : Step × Tree Row) → IsIn one given → step_of one.0 ≡ s → tree ≡ one.1
  refused_there s tree e one is_in same =
      let field = are.made one is_in in
      let good = found_form Kept s table tree form e in
      let steps : s ≡ label field.at = sym same ∙ field.is in
      exact_tree RefusesAsked IsRow same_rows tree one.1 good.1 field.form (λ path question.
      let q = question_of question in
      let fields = fields_answer parts given table are is (label field.at ∷ path) q in (
        λ r.
            let out = out_of_branch table tree s e path q ((answered tree path question).0 r) in
            (answered one.1 path question).1 ((field.refused path q).1 (fields.0 (subst (λ t. PolicyTreeRefusals table (t ∷ path) q) steps out))),
        λ r.
            let out = fields.1 ((field.refused path q).0 ((answered one.1 path question).0 r)) in
            (answered tree path question).1 (into_branch table tree s e path q (subst (λ t. PolicyTreeRefusals table (t ∷ path) q) (sym steps) out)),
      ))

  found_declared : (s : paths.Step) (tree : Tree Row) (at : List ℕ) → s ≡ label at → step_into table s ≡ Some tree → (path : Path) (question : Question) → PolicyTreeRefusals tree path question → OneOf (λ part. DeclaresAt (part_of part) [] at) parts
  found_declared s tree at same e path question r =
      let out = subst (λ t. PolicyTreeRefusals table (t ∷ path) question) same (out_of_branch table tree s e path question r) in
      ((fields_answer parts given table are is (label at ∷ path) question).0 out).0 [] at path refl

  pub field_found : (s : paths.Step) (tree : Tree Row) → step_into table s ≡ Some tree → IsFound parts s tree
  field_found s tree e =
      let good = found_form Kept s table tree form e in
      let has : OneOf (λ one. step_of one.0 ≡ s) given = ⊎_elim (λ h. h) (λ non. absurd (none_found s tree e non)) (decided s given) in
      let one = pick (λ one. step_of one.0 ≡ s) given has in
      let field = are.made one.0 one.1 in
      let same = refused_there s tree e one.0 one.1 one.2 in
      let fit = subst (IsFit false) (sym same) field.fit in
      let sound : IsSound tree = ⊎_elim (λ bare. absurd (not_taken tree bare good.0)) (λ h. h) fit.0 in
      let some = taken_row Kept tree good.0 good.1 in
      let question = something some.1 (sound_rows tree some.0 some.1 sound some.2) in
      let refused : PolicyTreeRefusals tree some.0 question.0 = subst (λ o. RowRefuses rows.RowRefusesQuestion o question.0) (sym some.2) question.1 in
      record {
        at = field.at;
        is = sym one.2 ∙ field.is;
        word = field.word;
        sound = sound;
        fit = fit;
        declared = found_declared s tree field.at (sym one.2 ∙ field.is) e some.0 question.0 refused;
      }

  -- no element is found
  pub no_element : (i : ℕ) (tree : Tree Row) → step_into table (index i) ≡ Some tree → ⊥
  no_element i tree e = let found = field_found (index i) tree e in let both : index i ≡ label found.at = found.is in cc

-- ---- the fields below a row
child_there : (parent : Row) (l : List ℕ) (tree : Tree Row) → IsWord l → MayHold parent (label []) → IsSound tree → HasChild parent (label l) (row_of tree)
child_there parent l (node None children rest) word holds sound = absurd sound
child_there parent l (node (Some row) children rest) word holds sound = record { word = word; holds = holds; level = tt }

pub below_sound : (parts : List ViewPart) (parent : Row) (children : Children Row) → AreBranches Kept children → MayHold parent (label []) → ((s : paths.Step) (tree : Tree Row) → find s children ≡ Some tree → IsFound parts s tree) → AreSound parent children
below_sound parts parent none form holds found = tt
below_sound parts parent (child s tree children) form holds found =
    let here = found s tree (find_first s tree children) in (
      subst (λ t. HasChild parent t (row_of tree)) (sym here.is) (child_there parent here.at tree here.word holds here.sound),
      here.sound,
      below_sound parts parent children form.3 holds (λ t other e. found t other (found_later s tree children form.0 t other e (step_cmp t s) refl)),
    )

pub no_last : (children : Children Row) → AreBranches Kept children → ((i : ℕ) (tree : Tree Row) → find (index i) children ≡ Some tree → ⊥) → behind_last children ≡ 0
no_last none form non = refl
no_last (child (label l) tree children) form non = no_last children form.3 (λ i other e. non i other (found_later (label l) tree children form.0 (index i) other e (step_cmp (index i) (label l)) refl))
no_last (child (index n) tree children) form non = absurd (non n tree (find_first (index n) tree children))

pub no_onward : (children : Children Row) (rest : Rest Row) → ((i : ℕ) (tree : Tree Row) → find_with rest (index i) children ≡ Some tree → ⊥) → rest ≡ no_rest
no_onward children no_rest non = refl
no_onward children (onward n tree) non = absurd (non n tree (find_rest n tree children n (omega arith)))

abbrev pub IsHeld : Option Row → Type 0
IsHeld None = Unit {0}
IsHeld (Some row) = Kept row

pub no_row : (here : Option Row) → IsHeld here → ((question : Question) → ¬ RowRefuses rows.RowRefusesQuestion here question) → here ≡ None
no_row None h non = refl
no_row (Some row) h non = absurd (h.1 (λ question r. non (question_of question) r))

-- ---- a walk over the labels
-- each field is one of a label that the parts declare, and each such label has one, or is left
pub record AreFieldsSoFar (parts : List ViewPart) (left : List (List ℕ)) (fields : List (Step × Tree Row)) : Type 0 where
  pub made : (field : Step × Tree Row) → IsIn field fields → IsField parts field
  pub declared : (l : List ℕ) → IsIn l left → OneOf (λ part. DeclaresAt (part_of part) [] l) parts
  pub all : (l : List ℕ) → OneOf (λ part. DeclaresAt (part_of part) [] l) parts → IsIn l left ⊎ OneOf (λ field. step_of field.0 ≡ label l) fields
