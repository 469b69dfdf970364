-- The table of a part without its labels: its rows, and that it is a place of a valid table.
use Rattle.std.proofs.Common.{◌≡◌, ◌↔◌, inl, inr, ⊎_elim, ◌≤◌, ◌+◌, max, ℕ, zero, suc, Bool, true, false, nat_lt, if◌then◌else◌, List, [], ◌∷◌, Option, Some, None, refl, sym, ap, subst, ◌∙◌, arith}
use Rattle.cue_lattice.specs.Path as paths
use Rattle.cue_lattice.specs.Path.{label, index, step_cmp, Path}
use Rattle.cue_lattice.specs.Question as questions
use Rattle.cue_lattice.specs.Question.{Question}
use Rattle.cue_row.specs.Kinds.{IsRowKind}
use Rattle.cue_row.specs.Made.{at_level}
use Rattle.cue_row.specs.Questions.{question_of}
use Rattle.cue_row.specs.Row as rows
use Rattle.cue_row.specs.Row.{RefusesAsked, IsRow}
use Rattle.cue_row.specs.RowLaws.{same_rows}
use Rattle.cue_row.specs.ValidRow.{IsValidRow, UsualFits, LabelsFit, LengthsFit}
use Rattle.cue_row.specs.declared.kind.RowKind.{RowKind}
use Rattle.cue_row.specs.declared.kind.RowKind.TheVariants as kinds
use Rattle.cue_row.specs.declared.level.Level.TheVariants.{Optional}
use Rattle.cue_row.specs.declared.question.Question as program
use Rattle.cue_row.specs.declared.parts.RowParts.{RowParts as Row}
use Rattle.cue_table.specs.Depth.{tree_depth}
use Rattle.cue_table.specs.Form.{IsStepBelowAll, AreBranches, AreWithinDepth, DiffersFromRest, IsRestOf, IsRowKept, IsTable}
use Rattle.cue_table.specs.Refuses.{RowRefuses, TableRefuses}
use Rattle.cue_table.specs.Tree.{Tree, node, Children, none, child, Rest, no_rest, onward, empty, row_of, below, rest_below, find, find_with, if_equal, row_at, behind_last, fixed_with}
use Rattle.cue_table.specs.Valid.{MayHold, IsOpenStruct}
use Rattle.cue_table.specs.Inner.ValidWalk.{IsSound, AreSound, IsRestSound, HasChild, HasElement}
use Rattle.cue_table.proofs.Depth.{found_row, refusals_depth, refused_depth}
use Rattle.cue_table.proofs.Exact.{exact_tree}
use Rattle.cue_policies.specs.View.{IsLevelInView}
use Rattle.cue_policies.specs.declared.part.Role.{Role}
use Rattle.cue_policies.specs.declared.part.Role.TheVariants as roles
use Rattle.cue_policies.specs.declared.part.ViewPart.{ViewPart}
use Rattle.cue_policies.specs.Inner.Answers.{PolicyTreeRefusals}
use Rattle.cue_policies.specs.Inner.Parts.{IsLoose, held_row, PlaceRefuses, IsPlace, IsSoundTree, IsSoundPart, HasOpenRow, IsLimited, IsFit}
use Rattle.cue_policies.proofs.Asking.{answered}
use Rattle.cue_policies.proofs.ValidRows.{loose_row}

abbrev Kept : Row → Type 0
Kept = IsRowKept RefusesAsked IsRow

-- ---- rows in their role
pub held_refuses : (role : Role) (row : Row) (question : Question) → rows.RowRefusesQuestion (held_row role row) question ↔ (rows.RowRefusesQuestion row question × ¬ (IsLoose role × IsLevelInView question))
held_refuses roles.Layer row question = (λ h. (h, λ g. g.0), λ h. h.0)
held_refuses roles.Policy row question = (λ h. (h, λ g. g.0), λ h. h.0)
held_refuses roles.Pattern row question =
    let loose = loose_row row question in
    (λ h. ((loose.0 h).0, λ g. (loose.0 h).1 g.1), λ h. loose.1 (h.0, λ level. h.1 (tt, level)))

pub held_is : (role : Role) (row : Row) → IsRow row → IsRow (held_row role row)
held_is roles.Layer row h = h
held_is roles.Policy row h = h
held_is roles.Pattern row h = record { value = h.value; usual = h.usual; labels = h.labels }

pub held_valid : (role : Role) (row : Row) → IsValidRow row → ¬ ((question : program.Question) → ¬ RefusesAsked (held_row role row) question) → IsValidRow (held_row role row)
held_valid roles.Layer row h some = h
held_valid roles.Policy row h some = h
held_valid roles.Pattern row h some = record {
  kind = h.kind;
  is_kind = kind_of h.kind h.is_kind;
  usual = usual_of h.kind h.usual;
  labels = labels_of h.kind h.labels;
  row_lengths = lengths_of h.kind h.row_lengths;
  limits = h.limits;
  texts = record { labels = h.texts.labels; value = h.texts.value; usual = h.texts.usual };
  not_free = some;
}
  where
    kind_of : (kind : RowKind) → IsRowKind row kind → IsRowKind (at_level Optional row) kind
    kind_of kinds.Free is = is
    kind_of kinds.Scalar is = is
    kind_of kinds.Struct is = is
    kind_of kinds.List is = is
    kind_of kinds.Nothing is = is

    usual_of : (kind : RowKind) → UsualFits row kind → UsualFits (at_level Optional row) kind
    usual_of kinds.Free is = is
    usual_of kinds.Scalar is = is
    usual_of kinds.Struct is = is
    usual_of kinds.List is = is
    usual_of kinds.Nothing is = is

    labels_of : (kind : RowKind) → LabelsFit row kind → LabelsFit (at_level Optional row) kind
    labels_of kinds.Free is = is
    labels_of kinds.Scalar is = is
    labels_of kinds.Struct is = is
    labels_of kinds.List is = is
    labels_of kinds.Nothing is = is

    lengths_of : (kind : RowKind) → LengthsFit row kind → LengthsFit (at_level Optional row) kind
    lengths_of kinds.Free is = is
    lengths_of kinds.Scalar is = is
    lengths_of kinds.Struct is = is
    lengths_of kinds.List is = is
    lengths_of kinds.Nothing is = is

pub held_holds : (role : Role) (row : Row) (step : paths.Step) → MayHold row step → MayHold (held_row role row) step
held_holds roles.Layer row step h = h
held_holds roles.Policy row step h = h
held_holds roles.Pattern row (label l) h = h
held_holds roles.Pattern row (index i) h = h

pub held_least : (role : Role) (row : Row) → (held_row role row).least ≡ row.least
held_least roles.Layer row = refl
held_least roles.Policy row = refl
held_least roles.Pattern row = refl

pub held_open : (role : Role) (row : Row) → IsOpenStruct row × (row.level ≡ Optional) → IsOpenStruct (held_row role row) × ((held_row role row).level ≡ Optional)
held_open roles.Layer row h = h
held_open roles.Policy row h = h
held_open roles.Pattern row h = (h.0, refl)

-- ---- branches at indexes alone
items_only : Children Row → Children Row
items_only none = none
items_only (child (label l) tree children) = items_only children
items_only (child (index i) tree children) = child (index i) tree (items_only children)

only_index : (i : ℕ) (children : Children Row) → find (index i) (items_only children) ≡ find (index i) children
unfolding items_only
only_index i none = refl
only_index i (child (label l) tree children) = only_index i children
only_index i (child (index n) tree children) = ap (if_equal (step_cmp (index i) (index n)) tree) (only_index i children)

only_label : (l : List ℕ) (children : Children Row) → find (label l) (items_only children) ≡ None
unfolding items_only
only_label l none = refl
only_label l (child (label m) tree children) = only_label l children
only_label l (child (index n) tree children) = only_label l children

only_below : (step : paths.Step) (children : Children Row) → IsStepBelowAll step children → IsStepBelowAll step (items_only children)
unfolding items_only
only_below step none h = tt
only_below step (child (label m) tree children) h = only_below step children h.1
only_below step (child (index n) tree children) h = (h.0, only_below step children h.1)

only_form : (children : Children Row) → AreBranches Kept children → AreBranches Kept (items_only children)
unfolding items_only
only_form none h = tt
only_form (child (label m) tree children) h = only_form children h.3
only_form (child (index n) tree children) h = (only_below (index n) children h.0, h.1, h.2, only_form children h.3)

only_within : (n : ℕ) (children : Children Row) → AreWithinDepth n children → AreWithinDepth n (items_only children)
unfolding items_only
only_within n none h = tt
only_within n (child (label m) tree children) h = only_within n children h
only_within n (child (index i) tree children) h = (h.0, only_within n children h.1)

only_differs : (n : ℕ) (tree : Tree Row) (children : Children Row) → DiffersFromRest n tree children → DiffersFromRest n tree (items_only children)
only_differs zero tree children h = tt
only_differs (suc i) tree children h = λ e. h (sym (only_index i children) ∙ e)

only_rest : (children : Children Row) (rest : Rest Row) → IsRestOf Kept children rest → IsRestOf Kept (items_only children) rest
only_rest children no_rest h = tt
only_rest children (onward n tree) h = (only_within n children h.0, only_differs n tree children h.1, h.2, h.3, h.4)

only_last : (children : Children Row) → behind_last (items_only children) ≡ behind_last children
unfolding items_only
only_last none = refl
only_last (child (label m) tree children) = only_last children
only_last (child (index i) tree children) = ap (max (i + 1)) (only_last children)

only_fixed : (rest : Rest Row) (children : Children Row) → fixed_with rest (items_only children) ≡ fixed_with rest children
only_fixed no_rest children = only_last children
only_fixed (onward n tree) children = refl

only_found : (rest : Rest Row) (i : ℕ) (children : Children Row) → find_with rest (index i) (items_only children) ≡ find_with rest (index i) children
only_found no_rest i children = only_index i children
only_found (onward n tree) i children = ap (λ found. if nat_lt i n then found else Some tree) (only_index i children)

only_unfound : (rest : Rest Row) (l : List ℕ) (children : Children Row) → find_with rest (label l) (items_only children) ≡ None
only_unfound no_rest l children = only_label l children
only_unfound (onward n tree) l children = only_label l children

-- ---- the place as a tree of its own
apart : Option Row → Tree Row → Tree Row
apart row tree = node row (items_only (below tree)) (rest_below tree)

apart_label : (row : Option Row) (tree : Tree Row) (l : List ℕ) (path : Path) → row_at (apart row tree) (label l ∷ path) ≡ None
unfolding apart
apart_label row (node here children rest) l path = ap (λ found. found_row found path) (only_unfound rest l children)

apart_index : (row : Option Row) (tree : Tree Row) (i : ℕ) (path : Path) → row_at (apart row tree) (index i ∷ path) ≡ row_at tree (index i ∷ path)
unfolding apart
apart_index row (node here children rest) i path = ap (λ found. found_row found path) (only_found rest i children)

RowIs : Option Row → Type 0
RowIs None = Unit {0}
RowIs (Some row) = Kept row

apart_form : (tree other : Tree Row) → IsTable RefusesAsked IsRow tree → IsTable RefusesAsked IsRow other → IsTable RefusesAsked IsRow (apart (row_of other) tree)
unfolding apart
apart_form (node here children rest) (node row others more) form k = (k.0, only_form children form.1, only_rest children rest form.2)

same_row : (a b : Option Row) (question : program.Question) → a ≡ b → RowRefuses RefusesAsked a question ↔ RowRefuses RefusesAsked b question
same_row a b question e = (subst (λ o. RowRefuses RefusesAsked o question) e, subst (λ o. RowRefuses RefusesAsked o question) (sym e))

-- the table of a place is that tree
place_is : (part : ViewPart) (table : Tree Row) → IsTable RefusesAsked IsRow part.branch → IsTable RefusesAsked IsRow table → IsPlace part table → table ≡ apart (row_of table) part.branch
unfolding apart
place_is part table form k is = exact_tree RefusesAsked IsRow same_rows table (apart (row_of table) part.branch) k (apart_form part.branch table form k) same
  where
    same : (path : Path) (question : program.Question) → TableRefuses RefusesAsked table path question ↔ TableRefuses RefusesAsked (apart (row_of table) part.branch) path question
    same [] question = (λ h. h, λ h. h)
    same (label l ∷ path) question =
        let here = same_row (row_at (apart (row_of table) part.branch) (label l ∷ path)) None question (apart_label (row_of table) part.branch l path) in (
          λ h. absurd ((is (label l ∷ path) (question_of question)).0 ((answered table (label l ∷ path) question).0 h)),
          λ h. absurd (here.0 h),
        )
    same (index i ∷ path) question =
        let here = same_row (row_at (apart (row_of table) part.branch) (index i ∷ path)) (row_at part.branch (index i ∷ path)) question (apart_index (row_of table) part.branch i path) in (
          λ h. here.1 ((answered part.branch (index i ∷ path) question).1 ((is (index i ∷ path) (question_of question)).0 ((answered table (index i ∷ path) question).0 h))),
          λ h. (answered table (index i ∷ path) question).1 ((is (index i ∷ path) (question_of question)).1 ((answered part.branch (index i ∷ path) question).0 (here.0 h))),
        )

-- ---- it is a place of a valid table
child_held : (role : Role) (parent : Row) (step : paths.Step) (row : Option Row) → HasChild parent step row → HasChild (held_row role parent) step row
child_held role parent step None h = h
child_held role parent step (Some row) h = record { word = h.word; holds = held_holds role parent step h.holds; level = h.level }

index_holds : (role : Role) (parent : Row) (row : Row) → MayHold parent (index 0) → MayHold (held_row role parent) (index 0)
index_holds role parent row h = held_holds role parent (index 0) h

element_held : (role : Role) (parent : Row) (row : Option Row) → HasElement parent row → HasElement (held_row role parent) row
element_held role parent None h = h
element_held role parent (Some row) h = record { holds = held_holds role parent (index 0) h.holds; level = h.level }

items_sound : (role : Role) (parent : Row) (children : Children Row) → AreSound parent children → AreSound (held_row role parent) (items_only children)
unfolding items_only
items_sound role parent none h = tt
items_sound role parent (child (label l) tree children) h = items_sound role parent children h.2
items_sound role parent (child (index i) tree children) h = (child_held role parent (index i) (row_of tree) h.0, h.1, items_sound role parent children h.2)

rest_sound : (role : Role) (parent : Row) (rest : Rest Row) → IsRestSound parent rest → IsRestSound (held_row role parent) rest
rest_sound role parent no_rest h = tt
rest_sound role parent (onward n tree) h = (element_held role parent (row_of tree) h.0, h.1)

-- a list lets no struct stand
no_struct : (row : Row) (i : ℕ) → MayHold row (index i) → rows.RowRefusesQuestion row questions.struct
no_struct row i h = ⊎_elim (λ is. is.1) (λ is. is.1) h

child_struct : (parent : Row) (i : ℕ) (row : Option Row) → HasChild parent (index i) row → rows.RowRefusesQuestion parent questions.struct
child_struct parent i None h = absurd h
child_struct parent i (Some row) h = no_struct parent i h.holds

element_struct : (parent : Row) (row : Option Row) → HasElement parent row → rows.RowRefusesQuestion parent questions.struct
element_struct parent None h = absurd h
element_struct parent (Some row) h = no_struct parent 0 h.holds

none_only : (parent : Row) (children : Children Row) → AreSound parent children → ¬ rows.RowRefusesQuestion parent questions.struct → items_only children ≡ none
unfolding items_only
none_only parent none h free = refl
none_only parent (child (label l) tree children) h free = none_only parent children h.2 free
none_only parent (child (index i) tree children) h free = absurd (free (child_struct parent i (row_of tree) h.0))

none_rest : (parent : Row) (rest : Rest Row) → IsRestSound parent rest → ¬ rows.RowRefusesQuestion parent questions.struct → rest ≡ no_rest
none_rest parent no_rest h free = refl
none_rest parent (onward n tree) h free = absurd (free (element_struct parent (row_of tree) h.0))

-- with the row that is held at its root
apart_sound : (role : Role) (tree : Tree Row) (row : Row) → row_of tree ≡ Some row → IsSound tree → ¬ ((question : program.Question) → ¬ RefusesAsked (held_row role row) question) → IsSound (apart (Some (held_row role row)) tree)
unfolding apart
apart_sound role (node None children rest) row e h some = cc
apart_sound role (node (Some here) children rest) row e h some =
    let same : here ≡ row = cc in
    let is = subst (λ r. IsValidRow r × (fixed_with rest children ≤ r.least) × AreSound r children × IsRestSound r rest) same h in
    let fixed = only_fixed rest children in
    let least = held_least role row in (
      held_valid role row is.0 some,
      omega (arith, fixed, least, is.1),
      items_sound role row children is.2,
      rest_sound role row rest is.3,
    )

apart_empty : (tree : Tree Row) (row : Row) → row_of tree ≡ Some row → IsSound tree → ¬ rows.RowRefusesQuestion row questions.struct → apart None tree ≡ empty
unfolding apart
apart_empty (node None children rest) row e h free = cc
apart_empty (node (Some here) children rest) row e h free =
    let same : here ≡ row = cc in
    let is = subst (λ r. AreSound r children × IsRestSound r rest) same (h.2, h.3) in
    let items = none_only row children is.0 free in
    let more = none_rest row rest is.1 free in
    λ i. node None (items i) (more i)

sound_row_of : (tree : Tree Row) → IsSound tree → (row : Row) × (row_of tree ≡ Some row)
sound_row_of (node None children rest) h = absurd h
sound_row_of (node (Some row) children rest) h = (row, refl)

refuses_at : (here : Option Row) (row : Row) (question : Question) → here ≡ Some row → RowRefuses rows.RowRefusesQuestion here question ↔ rows.RowRefusesQuestion row question
refuses_at here row question e = (subst (λ o. RowRefuses rows.RowRefusesQuestion o question) e, subst (λ o. RowRefuses rows.RowRefusesQuestion o question) (sym e))

-- what the row of the place refuses
place_row : (part : ViewPart) (table : Tree Row) (row : Row) → row_of part.branch ≡ Some row → IsPlace part table → (question : Question)
    → RowRefuses rows.RowRefusesQuestion (row_of table) question ↔ rows.RowRefusesQuestion (held_row part.role row) question
place_row part table row e is question =
    let here = is [] question in
    let held = held_refuses part.role row question in
    let root = refuses_at (row_of part.branch) row question e in (
      λ h. let r = here.0 h in held.1 (root.0 r.0, r.1),
      λ h. let r = held.0 h in here.1 (root.1 r.0, r.1),
    )

same_place_row : (part : ViewPart) (table : Tree Row) (row other : Row) → IsTable RefusesAsked IsRow table → IsRow row → row_of part.branch ≡ Some row → row_of table ≡ Some other → IsRow other → IsPlace part table → other ≡ held_row part.role row
same_place_row part table row other form is_row e f is_other is = same_rows other (held_row part.role row) is_other (held_is part.role row is_row)
    (λ question.
    let q = place_row part table row e is (question_of question) in
    let at = refuses_at (row_of table) other (question_of question) f in
    (λ r. q.0 (at.1 r), λ r. at.0 (q.1 r)))

kept_root : (tree : Tree Row) (row : Row) → IsTable RefusesAsked IsRow tree → row_of tree ≡ Some row → Kept row
kept_root (node None children rest) row form e = cc
kept_root (node (Some here) children rest) row form e = let same : here ≡ row = cc in subst Kept same form.0

nothing_held : (part : ViewPart) (table : Tree Row) → IsTable RefusesAsked IsRow table → part.branch ≡ empty → IsPlace part table → table ≡ empty
nothing_held part table form bare is = exact_tree RefusesAsked IsRow same_rows table empty form (tt, tt, tt) same
  where
    none_at : (path : Path) (question : Question) → PolicyTreeRefusals empty path question → ⊥
    none_at [] question h = h
    none_at (step ∷ path) question h = h

    bare_at : (path : Path) (question : Question) → PolicyTreeRefusals part.branch path question → ⊥
    bare_at path question h = none_at path question (subst (λ t. PolicyTreeRefusals t path question) bare h)

    none_held : (path : Path) (question : Question) → PlaceRefuses part path question → ⊥
    none_held [] question h = bare_at [] question h.0
    none_held (label l ∷ path) question h = h
    none_held (index i ∷ path) question h = bare_at (index i ∷ path) question h

    same : (path : Path) (question : program.Question) → TableRefuses RefusesAsked table path question ↔ TableRefuses RefusesAsked empty path question
    same path question = (
      λ h. absurd (none_held path (question_of question) ((is path (question_of question)).0 ((answered table path question).0 h))),
      λ h. absurd (none_at path (question_of question) ((answered empty path question).0 h)),
    )

sound_place : (part : ViewPart) (table : Tree Row) → IsTable RefusesAsked IsRow part.branch → IsTable RefusesAsked IsRow table → IsPlace part table → IsSound part.branch → IsSoundTree table
unfolding apart
sound_place part table form k is sound = by (row_of table) refl
  where
    root : (row : Row) × (row_of part.branch ≡ Some row)
    root = sound_row_of part.branch sound

    tree_is : table ≡ apart (row_of table) part.branch
    tree_is = place_is part table form k is

    by : (here : Option Row) → row_of table ≡ here → IsSoundTree table
    by None e =
        let free : ¬ rows.RowRefusesQuestion root.0 questions.struct = λ r.
        let held = (held_refuses part.role root.0 questions.struct).1 (r, λ g. g.1) in
        subst (λ o. RowRefuses rows.RowRefusesQuestion o questions.struct) e ((place_row part table root.0 root.1 is questions.struct).1 held) in
        inl (tree_is ∙ ap (λ row. apart row part.branch) e ∙ apart_empty part.branch root.0 root.1 sound free)
    by (Some other) e =
        let kept = kept_root table other k e in
        let same = same_place_row part table root.0 other k (kept_root part.branch root.0 form root.1).0 root.1 e kept.0 is in
        let some = subst Kept same kept in
        let whole : table ≡ apart (Some (held_row part.role root.0)) part.branch = tree_is ∙ ap (λ row. apart row part.branch) (e ∙ ap Some same) in
        inr (subst IsSound (sym whole) (apart_sound part.role part.branch root.0 root.1 sound some.1))

place_depth : (part : ViewPart) (table : Tree Row) → IsTable RefusesAsked IsRow table → IsPlace part table → tree_depth table ≤ tree_depth part.branch
place_depth part table k is = refusals_depth RefusesAsked IsRow table (tree_depth part.branch) k (λ path question r.
    let h = (is path (question_of question)).0 ((answered table path question).0 r) in
    refused_depth RefusesAsked part.branch path question ((answered part.branch path question).1 (refused path (question_of question) h)))
  where
    refused : (path : Path) (question : Question) → PlaceRefuses part path question → PolicyTreeRefusals part.branch path question
    refused [] question h = h.0
    refused (label l ∷ path) question h = absurd h
    refused (index i ∷ path) question h = h

place_open : (part : ViewPart) (table : Tree Row) → IsTable RefusesAsked IsRow part.branch → IsTable RefusesAsked IsRow table → IsPlace part table → IsSoundTree part.branch → HasOpenRow part.branch → HasOpenRow table
place_open part table form k is sound opens other e = ⊎_elim
    (λ bare.
    let non : None ≡ Some other = ap row_of (sym (nothing_held part table k bare is)) ∙ e in
    absurd (cc))
    (λ whole.
    let root = sound_row_of part.branch whole in
    let kept = kept_root table other k e in
    let same = same_place_row part table root.0 other k (kept_root part.branch root.0 form root.1).0 root.1 e kept.0 is in
    subst (λ (r : Row). IsOpenStruct r × (r.level ≡ Optional)) (sym same) (held_open part.role root.0 (opens root.0 root.1)))
    sound

pub place_fit : (top : Bool) (part : ViewPart) (table : Tree Row) → IsTable RefusesAsked IsRow table → IsPlace part table → IsSoundPart part → IsLimited top part.branch → IsFit top table
place_fit true part table k is sound limited = (
  ⊎_elim (λ bare. inl (nothing_held part table k bare is)) (λ whole. sound_place part table sound.form k is whole) sound.sound,
  (let d = place_depth part table k is in let most = limited.0 in omega arith, place_open part table sound.form k is sound.sound limited.1),
)
place_fit false part table k is sound limited = (
  ⊎_elim (λ bare. inl (nothing_held part table k bare is)) (λ whole. sound_place part table sound.form k is whole) sound.sound,
  let d = place_depth part table k is in omega arith,
)
