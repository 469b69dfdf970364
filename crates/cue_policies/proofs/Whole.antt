-- The whole view: what its fields and the parts refuse together, and that it is a place of a valid table.
use Rattle.std.proofs.Common.{◌≡◌, ◌↔◌, inl, inr, ⊎_elim, ◌<◌, ◌≤◌, ℕ, Bool, true, false, List, [], ◌∷◌, Option, Some, None, refl, sym, ap, subst, ◌∙◌, arith}
use Rattle.cue_lattice.specs.Limits.{step_limit}
use Rattle.cue_lattice.specs.OneOf.{OneOf}
use Rattle.cue_lattice.specs.Path as paths
use Rattle.cue_lattice.specs.Path.{label, index, Path}
use Rattle.cue_lattice.specs.Question as questions
use Rattle.cue_lattice.specs.Question.{Question}
use Rattle.cue_row.specs.Questions.{question_of}
use Rattle.cue_row.specs.Row as rows
use Rattle.cue_row.specs.Row.{RefusesAsked, IsRow}
use Rattle.cue_row.specs.RowLaws.{same_rows}
use Rattle.cue_row.specs.ValidRow.{IsValidRow}
use Rattle.cue_row.specs.declared.level.Level.TheVariants.{Optional}
use Rattle.cue_row.specs.declared.question.Question as program
use Rattle.cue_row.specs.declared.question.Question.TheVariants as asks
use Rattle.cue_row.specs.declared.step.Step.{Step}
use Rattle.cue_row.specs.declared.parts.RowParts.{RowParts as Row}
use Rattle.cue_table.specs.Depth.{tree_depth}
use Rattle.cue_table.specs.Form.{IsTableRow as IsRowOf, AreBranches, IsRowKept, IsTable}
use Rattle.cue_table.specs.Many.{IsOfBranches}
use Rattle.cue_table.specs.Meet.{IsMet}
use Rattle.cue_table.specs.Refuses.{RowRefuses, TableRefuses}
use Rattle.cue_table.specs.Tree.{Tree, node, Children, none, child, no_rest, empty, row_of, find}
use Rattle.cue_table.specs.Valid.{MayHold, IsOpenStruct}
use Rattle.cue_table.specs.Inner.ValidWalk.{HasChild}
use Rattle.cue_table.proofs.Branches.{find_first, find_own}
use Rattle.cue_table.proofs.Exact.{exact_tree}
use Rattle.cue_policies.specs.View.{DeclaresAt}
use Rattle.cue_policies.specs.declared.part.ViewPart.{ViewPart}
use Rattle.cue_policies.specs.Inner.Answers.{PolicyTreeRefusals}
use Rattle.cue_policies.specs.Inner.Parts.{held_row, part_of, PartsRefuse, ArePlaces, PlaceRefuses, AreSoundParts, IsLimited, IsFit, AreLimited, AreFields, most_depth}
use Rattle.cue_policies.proofs.Asking.{answered, met_answers}
use Rattle.cue_policies.proofs.Fields.{IsFound, fields_answer, fields_depth, field_found, no_element, no_last, no_onward, no_row, IsHeld, below_sound}
use Rattle.cue_policies.proofs.Places.{held_refuses, held_is, held_valid, held_holds, held_open}
use Rattle.cue_policies.proofs.Soundness.{tree_into, tree_rows, met_fit}
use Rattle.cue_policies.proofs.Views.{pick, put}
use Rattle.cue_policies.proofs.Walking.{view_together, declared_there, most_below}

abbrev Kept : Row → Type 0
Kept = IsRowKept RefusesAsked IsRow

-- ---- what the view refuses
pub view_refuses :
    (parts : List ViewPart) (given : List (Step × Tree Row)) (places fields view : Tree Row) → AreSoundParts parts → AreFields parts given → ArePlaces parts places → IsOfBranches RefusesAsked given fields
    → IsMet RefusesAsked places fields view → (path : Path) (question : Question) → PolicyTreeRefusals view path question ↔ PartsRefuse parts path question
view_refuses parts given places fields view sound are here is met path question =
    let m = met_answers places fields view met path question in
    let f = fields_answer parts given fields are is path question in
    let p = here path question in
    let v = view_together parts sound path question in (
      λ h. v.1 (⊎_elim (λ x. inr (p.0 x)) (λ x. inl (f.0 x)) (m.0 h)),
      λ h. m.1 (⊎_elim (λ x. inr (f.1 x)) (λ x. inl (p.1 x)) (v.0 h)),
    )

-- ---- a row that fields are below
child_holds : (parent : Row) (step : paths.Step) (row : Option Row) → HasChild parent step row → MayHold parent step
child_holds parent step None h = absurd h
child_holds parent step (Some row) h = h.holds

no_list : (row : Row) → MayHold row (label []) → rows.RowRefusesQuestion row questions.list
no_list row h = ⊎_elim (λ is. is.2) (λ is. is.2) h

root_of : (tree : Tree Row) (row : Row) → IsTable RefusesAsked IsRow tree → row_of tree ≡ Some row → Kept row
root_of (node None children rest) row form e = cc
root_of (node (Some here) children rest) row form e = let same : here ≡ row = cc in subst Kept same form.0

row_refuses : (here : Option Row) (row : Row) (question : Question) → here ≡ Some row → rows.RowRefusesQuestion row question → RowRefuses rows.RowRefusesQuestion here question
row_refuses here row question e r = subst (λ o. RowRefuses rows.RowRefusesQuestion o question) (sym e) r

-- at the root it is an open struct of no level
abbrev IsLimitedRow : Bool → Row → Type 0
IsLimitedRow true row = IsOpenStruct row × (row.level ≡ Optional)
IsLimitedRow false row = Unit {0}

limited_row : (top : Bool) (part : ViewPart) (row : Row) → row_of part.branch ≡ Some row → IsLimited top part.branch → IsLimitedRow top (held_row part.role row)
limited_row true part row e h = held_open part.role row (h.1 row e)
limited_row false part row e h = tt

-- a row of one of the parts, which may have fields
pub record IsParent (parts : List ViewPart) (places : Tree Row) (top : Bool) (row : Row) : Type 0 where
  pub kept : Kept row
  pub valid : IsValidRow row
  pub holds : MayHold row (label [])
  pub refused : (question : program.Question) → RefusesAsked row question → TableRefuses RefusesAsked places [] question
  pub limited : IsLimitedRow top row

parent_of : (parts : List ViewPart) (places : Tree Row) (top : Bool) → AreSoundParts parts → AreLimited top parts → ArePlaces parts places → (at : List ℕ) → OneOf (λ part. DeclaresAt (part_of part) [] at) parts
    → (row : Row) × IsParent parts places top row
parent_of parts places top sound limited here at declared =
    let one = pick (λ part. DeclaresAt (part_of part) [] at) parts declared in
    let part = one.0 in
    let is = sound part one.1 in
    let branch = (declared_there part at one.2).1 in
    let into = tree_into part.branch branch.0 (label at) is.sound branch.1 in
    let row = into.0 in
    let holds : MayHold row (label []) = child_holds row (label at) (row_of branch.0) into.2 in
    let valid = tree_rows part.branch [] row is.sound into.1 in
    let list : rows.RowRefusesQuestion (held_row part.role row) questions.list = (held_refuses part.role row questions.list).1 (no_list row holds, λ g. g.1) in (
      held_row part.role row,
      record {
        kept = (held_is part.role row (root_of part.branch row is.form into.1).0, λ free. free asks.List list);
        valid = held_valid part.role row valid (λ free. free asks.List list);
        holds = held_holds part.role row (label []) holds;
        refused = λ question r.
            let held = (held_refuses part.role row (question_of question)).0 r in
            let root : PlaceRefuses part [] (question_of question) = (row_refuses (row_of part.branch) row (question_of question) into.1 held.0, held.1) in
            (answered places [] question).1 ((here [] (question_of question)).1 (put (λ part. PlaceRefuses part [] (question_of question)) parts part one.1 root));
        limited = limited_row top part row into.1 (limited part one.1);
      },
    )

-- ---- the fields below such a row
abbrev IsLimitedDepth : Bool → Tree Row → Type 0
IsLimitedDepth true tree = tree_depth tree ≤ step_limit
IsLimitedDepth false tree = tree_depth tree < step_limit

limited_depth : (top : Bool) (parts : List ViewPart) (tree : Tree Row) → most_depth parts ≤ step_limit → tree_depth tree ≤ most_depth parts → AreLimited top parts → IsLimitedDepth top tree
limited_depth true parts tree deep most h = omega arith
limited_depth false parts tree deep most h = let less = most_below parts step_limit h (omega arith) in omega arith

held_root : (here : Option Row) → IsRowOf Kept here → IsHeld here
held_root None h = tt
held_root (Some row) h = h

fields_fit :
    (top : Bool) (parts : List ViewPart) (places : Tree Row) (row : Row) (children : Children Row) → IsParent parts places top row → AreBranches Kept children
    → ((s : paths.Step) (tree : Tree Row) → find s children ≡ Some tree → IsFound parts s tree) → ((i : ℕ) (tree : Tree Row) → find (index i) children ≡ Some tree → ⊥)
    → IsLimitedDepth top (node None children no_rest) → IsFit top (node (Some row) children no_rest)
fields_fit true parts places row children parent form found non deep = (
  inr (parent.valid, (let last = no_last children form non in omega arith), below_sound parts row children form parent.holds found, tt),
  (deep, λ other e. let same : row ≡ other = cc in subst (λ (r : Row). IsOpenStruct r × (r.level ≡ Optional)) same parent.limited),
)
fields_fit false parts places row children parent form found non deep =
    (inr (parent.valid, (let last = no_last children form non in omega arith), below_sound parts row children form parent.holds found, tt), deep)

with_parent :
    (parts : List ViewPart) (places view : Tree Row) (top : Bool) (row : Row) (children : Children Row) → IsParent parts places top row
    → IsMet RefusesAsked places (node None children no_rest) view → IsMet RefusesAsked places (node (Some row) children no_rest) view
with_parent parts places view top row children parent met [] = λ question. (
  λ h. ⊎_elim (λ x. inl x) (λ non. absurd non) ((met [] question).0 h),
  λ h. ⊎_elim (λ x. (met [] question).1 (inl x)) (λ r. (met [] question).1 (inl (parent.refused question r))) h,
)
with_parent parts places view top row children parent met (step ∷ path) = met (step ∷ path)

nothing_refused : (path : Path) (question : program.Question) → TableRefuses RefusesAsked empty path question → ⊥
nothing_refused [] question h = h
nothing_refused (step ∷ path) question h = h

met_alone : (a b m : Tree Row) → IsTable RefusesAsked IsRow a → IsTable RefusesAsked IsRow m → IsMet RefusesAsked a b m → b ≡ empty → m ≡ a
met_alone a b m form_a form met bare = exact_tree RefusesAsked IsRow same_rows m a form form_a (λ path question. (
  λ h. ⊎_elim (λ x. x) (λ x. absurd (nothing_refused path question (subst (λ t. TableRefuses RefusesAsked t path question) bare x))) ((met path question).0 h),
  λ h. (met path question).1 (inl h),
))

-- the view is a place of a valid table
pub view_fit :
    (top : Bool) (parts : List ViewPart) (given : List (Step × Tree Row)) (places fields view : Tree Row) → AreSoundParts parts → most_depth parts ≤ step_limit → AreFields parts given
    → ArePlaces parts places → IsOfBranches RefusesAsked given fields → IsMet RefusesAsked places fields view
    → IsTable RefusesAsked IsRow places → IsTable RefusesAsked IsRow fields → IsTable RefusesAsked IsRow view → AreLimited top parts → IsFit top places → IsFit top view
view_fit top parts given places (node here children rest) view sound deep are at is met form_p form form_v limited fit = by children refl
  where
    found : (s : paths.Step) (tree : Tree Row) → find s children ≡ Some tree → IsFound parts s tree
    found s tree e = field_found parts given (node here children rest) are is form s tree (find_own Kept rest s tree children form.2 e)

    bare_row : here ≡ None
    bare_row = no_row here (held_root here form.0) (λ question r. (fields_answer parts given (node here children rest) are is [] question).0 r)

    bare_rest : rest ≡ no_rest
    bare_rest = no_onward children rest (λ i tree e. no_element parts given (node here children rest) are is form i tree e)

    plain : node here children rest ≡ node None children no_rest
    plain = λ i. node (bare_row i) children (bare_rest i)

    depth : tree_depth (node None children no_rest) ≤ most_depth parts
    depth = subst (λ t. tree_depth t ≤ most_depth parts) plain (fields_depth parts (node here children rest) form (fields_answer parts given (node here children rest) are is))

    by : (cs : Children Row) → children ≡ cs → IsFit top view
    by none e =
        let bare : node here children rest ≡ empty = plain ∙ ap (λ cs. node None cs no_rest) e in
        subst (IsFit top) (sym (met_alone places (node here children rest) view form_p form_v met bare)) fit
    by (child s tree others) e =
        let first = found s tree (ap (find s) e ∙ find_first s tree others) in
        let parent = parent_of parts places top sound limited at first.at first.declared in
        let whole = with_parent parts places view top parent.0 children parent.1 (subst (λ t. IsMet RefusesAsked places t view) plain met) in
        let row_fit = fields_fit top parts places parent.0 children parent.1 form.1 found (λ i other f. no_element parts given (node here children rest) are is form i other (find_own Kept rest (index i) other children form.2 f)) (limited_depth top parts (node None children no_rest) deep depth limited) in
        met_fit top places (node (Some parent.0) children no_rest) view form_p (parent.1.kept, form.1, tt) form_v whole fit row_fit
