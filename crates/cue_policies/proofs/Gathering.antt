-- The labels and the parts that loops over the parts of a place gather.
use Rattle.std.proofs.Common.{◌≡◌, ◌↔◌, ◌⊎◌, inl, inr, ⊎_elim, ◌<◌, ◌≤◌, ℕ, Bool, List, [], ◌∷◌, ◌++◌, Some, None, sym, ap, subst, ◌∙◌, arith}
use Rattle.std.specs.List.{AllByRecursion}
use Rattle.cue_lattice.specs.OneOf.{OneOf}
use Rattle.cue_lattice.specs.Path.{label, index, Path}
use Rattle.cue_lattice.specs.Question.{Question}
use Rattle.cue_row.specs.declared.parts.RowParts.{RowParts as Row}
use Rattle.cue_table.specs.Depth.{tree_depth, children_depth}
use Rattle.cue_table.specs.Tree.{Tree, node, Children, none, child, no_rest, onward, below, rest_below, rest_at, step_into, labels_of, items_of}
use Rattle.cue_policies.specs.declared.part.Role.{Role}
use Rattle.cue_policies.specs.declared.part.ViewPart.{ViewPart}
use Rattle.cue_policies.specs.Inner.Answers.{PolicyTreeRefusals}
use Rattle.cue_policies.specs.Inner.Parts.{IsIn, IsOf, HasLabel, HasPartAt}
use Rattle.cue_lattice.specs.Limits.{step_limit}
use Rattle.cue_row.specs.declared.step.Step.{Step}
use Rattle.cue_row.specs.declared.step.Step.TheVariants.{Index}
use Rattle.cue_policies.proofs.Branches.{label_listed, AtStep, ItemRefuses, OwnRefuses}
use Rattle.cue_policies.proofs.Gains.{pushed, Left}

-- ---- a part that is put behind others
same_part : (role : Role) (branch : Tree Row) (next : ViewPart) → Some branch ≡ Some next.branch → next.role ≡ role → record { role = role; branch = branch } ≡ next
same_part role branch next e f =
    let tree : branch ≡ next.branch = cc in
    let kind : role ≡ next.role = sym f in
    λ i. record { role = kind i; branch = tree i }

pub add_some :
    (old new : List ViewPart) (part : ViewPart) (role : Role) (l : List ℕ) (branch : Tree Row) → step_into part.branch (label l) ≡ Some branch
    → new ≡ old ++ (record { role = role; branch = branch }) ∷ [] → (next : ViewPart) → IsIn next new ↔ (IsIn next old ⊎ HasPartAt part role l next)
add_some old new part role l branch e items next =
    let one : ViewPart = record { role = role; branch = branch } in
    let both = pushed (λ y. y ≡ next) old new one items in (
      λ h. ⊎_elim (λ o. inl o)
          (λ same. inr (e ∙ ap (λ (p : ViewPart). Some p.branch) same, ap (λ (p : ViewPart). p.role) (sym same))) (both.0 h),
      λ h. both.1 (⊎_elim (λ o. inl o) (λ at. inr (same_part role branch next (sym e ∙ at.0) at.1)) h),
    )

pub add_none :
    (old new : List ViewPart) (part : ViewPart) (role : Role) (l : List ℕ) → step_into part.branch (label l) ≡ None → new ≡ old
    → (next : ViewPart) → IsIn next new ↔ (IsIn next old ⊎ HasPartAt part role l next)
add_none old new part role l e same next = (
  λ h. inl (subst (IsIn next) same h),
  λ h. ⊎_elim (λ o. subst (IsIn next) (sym same) o) (λ at. let both : None ≡ Some next.branch = sym e ∙ at.0 in absurd (cc)) h,
)

-- ---- the labels of a part
abbrev pub IsTheLabel : List ℕ → List ℕ × Tree Row → Type 0
IsTheLabel l one = one.0 ≡ l

abbrev pub IsLabelOf : Bool → Role → List ℕ → List ℕ × Tree Row → Type 0
IsLabelOf patterns role l one = IsOf patterns role one.0 × (one.0 ≡ l)

-- labels of a list that are such
pub labels_split : (patterns : Bool) (role : Role) (l : List ℕ) (xs : List (List ℕ × Tree Row)) → OneOf (IsLabelOf patterns role l) xs ↔ (IsOf patterns role l × OneOf (IsTheLabel l) xs)
labels_split patterns role l [] = (λ h. absurd h, λ h. absurd h.1)
labels_split patterns role l (x ∷ xs) =
    let more = labels_split patterns role l xs in (
      ⊎_elim (λ here. (subst (IsOf patterns role) here.1 here.0, inl here.1)) (λ r. let both = more.0 r in (both.0, inr both.1)),
      λ h. ⊎_elim (λ e. inl (subst (IsOf patterns role) (sym e) h.0, e)) (λ r. inr (more.1 (h.0, r))) h.1,
    )

pub labels_left : (patterns : Bool) (part : ViewPart) (rest : List (List ℕ × Tree Row)) (old : Type 0) (l : List ℕ) → rest ≡ labels_of (below part.branch)
    → Left old (IsLabelOf patterns part.role l) rest (old ⊎ HasLabel patterns part l)
labels_left patterns part rest old l e =
    let listed = label_listed l part.branch in
    let split = labels_split patterns part.role l rest in (
      λ h. ⊎_elim (λ o. inl o) (λ r. let both = split.0 r in inr (both.0, listed.0 (subst (OneOf (IsTheLabel l)) e both.1))) h,
      λ h. ⊎_elim (λ o. inl o) (λ has. inr (split.1 (has.0, subst (OneOf (IsTheLabel l)) (sym e) (listed.1 has.1)))) h,
    )

-- ---- how deep the elements of a place are
abbrev pub AreBelow : ℕ → List (ℕ × Tree Row) → Type 0
AreBelow n = AllByRecursion (λ one. tree_depth one.1 < n)

items_low : (children : Children Row) (n : ℕ) → children_depth children ≤ n → AreBelow n (items_of children)
items_low none n h = tt
items_low (child (label l) tree children) n h = items_low children n (omega arith)
items_low (child (index i) tree children) n h = (omega arith, items_low children n (omega arith))

pub items_depth : (tree : Tree Row) → AreBelow (tree_depth tree) (items_of (below tree))
items_depth (node row children rest) = items_low children (tree_depth (node row children rest)) (omega arith)

pub rest_depth : (tree rest : Tree Row) → rest_at (rest_below tree) ≡ Some rest → tree_depth rest < tree_depth tree
rest_depth (node row children no_rest) rest e = cc
rest_depth (node row children (onward n tree)) rest e = let same : tree ≡ rest = cc in let deep = ap tree_depth same in omega arith

-- ---- the elements of a place that stand by themselves
pub items_start : (tree : Tree Row) (i : ℕ) (path : Path) (question : Question) (now : Type 0) (rest : List (ℕ × Tree Row)) → ¬ now → rest ≡ items_of (below tree) → Left now (ItemRefuses i path question) rest (OwnRefuses tree i path question)
items_start tree i path question now rest nothing all = (
  λ h. ⊎_elim (λ n. absurd (nothing n)) (λ r. subst (OneOf (ItemRefuses i path question)) all r) h,
  λ h. inr (subst (OneOf (ItemRefuses i path question)) (sym all) h),
)

pub items_below : (tree : Tree Row) (rest : List (ℕ × Tree Row)) → rest ≡ items_of (below tree) → tree_depth tree ≤ step_limit → AreBelow step_limit rest
items_below tree rest all deep = subst (AreBelow step_limit) (sym all) (lower (items_of (below tree)) (items_depth tree))
  where
    lower : (xs : List (ℕ × Tree Row)) → AreBelow (tree_depth tree) xs → AreBelow step_limit xs
    lower [] h = tt
    lower (x ∷ xs) h = (let low = h.0 in omega arith, lower xs h.1)

pub item_pushed :
    (i : ℕ) (path : Path) (question : Question) (old new : List (Step × Tree Row)) (number : ℕ) (table branch : Tree Row) → table ≡ branch → new ≡ old ++ (Index number, table) ∷ []
    → OneOf (AtStep (index i) path question) new ↔ (OneOf (AtStep (index i) path question) old ⊎ ItemRefuses i path question (number, branch))
item_pushed i path question old new number table branch same items =
    let both = pushed (AtStep (index i) path question) old new (Index number, table) items in (
      λ h. ⊎_elim (λ o. inl o) (λ at. inr (number_is at.0, subst (λ t. PolicyTreeRefusals t path question) same at.1)) (both.0 h),
      λ h. both.1 (⊎_elim (λ o. inl o) (λ at. inr (ap index at.0, subst (λ t. PolicyTreeRefusals t path question) (sym same) at.1)) h),
    )
  where
    number_is : index number ≡ index i → number ≡ i
    number_is e = cc

pub no_label_pushed :
    (text : List ℕ) (path : Path) (question : Question) (old new : List (Step × Tree Row)) (number : ℕ) (table : Tree Row) → new ≡ old ++ (Index number, table) ∷ []
    → ¬ OneOf (AtStep (label text) path question) old → ¬ OneOf (AtStep (label text) path question) new
no_label_pushed text path question old new number table items non h =
    ⊎_elim non (λ at. apart at.0) ((pushed (AtStep (label text) path question) old new (Index number, table) items).0 h)
  where
    apart : index number ≡ label text → ⊥
    apart e = cc
