-- The parts one step below a place: what they refuse and declare is what the parts of the place do there.
use Rattle.std.proofs.Common.{◌≡◌, ◌↔◌, ◌⊎◌, inl, inr, ⊎_elim, ◌<◌, ◌≤◌, ℕ, true, false, List, [], ◌∷◌, ◌++◌, Option, Some, None, refl, sym, ap, subst, ◌∙◌, arith}
use Rattle.cue_lattice.specs.OneOf.{OneOf}
use Rattle.cue_lattice.specs.Path.{Step, label, index, Path}
use Rattle.cue_lattice.specs.Question.{Question, Refusals}
use Rattle.cue_row.specs.Row as rows
use Rattle.cue_row.specs.Row.{RefusesAsked, IsRow}
use Rattle.cue_row.specs.declared.parts.RowParts.{RowParts as Row}
use Rattle.cue_table.specs.Depth.{tree_depth}
use Rattle.cue_table.specs.Form.{IsRowKept, IsTable}
use Rattle.cue_table.specs.Refuses.{RowRefuses}
use Rattle.cue_table.specs.Tree.{Tree, node, step_into, row_at}
use Rattle.cue_table.proofs.Depth.{found_row, row_found, taken_row, depth_with}
use Rattle.cue_table.proofs.Finding.{found_form}
use Rattle.cue_policies.specs.Patterns.{IsPatternOf, MatchesPattern, IsNamedLabel, IsPatternBound}
use Rattle.cue_policies.specs.View.{ViewedPart, IsAlong, PartRefuses, DeclaresAt}
use Rattle.cue_policies.specs.WellFormed.{HasPattern}
use Rattle.cue_policies.specs.declared.kind.LayerKind.{LayerKind}
use Rattle.cue_policies.specs.declared.kind.LayerKind.TheVariants as kinds
use Rattle.cue_policies.specs.declared.part.Role.{Role}
use Rattle.cue_policies.specs.declared.part.Role.TheVariants as roles
use Rattle.cue_policies.specs.declared.part.ViewPart.{ViewPart}
use Rattle.cue_policies.specs.Inner.Answers.{PolicyTreeRefusals}
use Rattle.cue_policies.specs.Inner.Below.{Loose, below_name, below_pattern, below_index, HasPatternOf}
use Rattle.cue_policies.specs.Inner.Parts.{kind_of, role_below, IsLoose, refused_in_role, part_of, PartsRefuse, IsIn, IsThere, HasLabel, HasLabels, HasPartAt, IsBelow, PlaceRefuses, IsSoundPart, AreSoundParts, most_depth}
use Rattle.cue_policies.proofs.Steps.{SomeBelow, IsBehind, refused_below, declared_below, refused_at_index, declared_at_index, refused_at_root, refuses_as, declares_as, view_at_index}
use Rattle.cue_policies.proofs.Views.{pick, put, plain_view, layers_are_plain}
use Rattle.cue_policies.proofs.Soundness.{tree_into, tree_rows}
use Rattle.cue_policies.proofs.ValidRows.{something}

-- ---- roles
kind_below : (role : Role) → kind_of (role_below role) ≡ kind_of role
kind_below roles.Layer = refl
kind_below roles.Policy = refl
kind_below roles.Pattern = refl

not_loose_below : (role : Role) → ¬ IsLoose (role_below role)
not_loose_below roles.Layer h = h
not_loose_below roles.Policy h = h
not_loose_below roles.Pattern h = h

policy_bound : (role : Role) (l : List ℕ) → IsPatternOf (kind_of role) l → kind_of role ≡ kinds.Policy
policy_bound roles.Layer l h = absurd h
policy_bound roles.Policy l h = refl
policy_bound roles.Pattern l h = refl

pub held_far : (role : Role) (tree : Tree Row) (path : Path) (question : Question) → refused_in_role role tree path question → PolicyTreeRefusals tree path question
held_far role tree [] question h = h.0
held_far role tree (step ∷ path) question h = h

pub held_firm : (role : Role) (tree : Tree Row) → ¬ IsLoose role → (path : Path) (question : Question) → PolicyTreeRefusals tree path question → refused_in_role role tree path question
held_firm role tree firm [] question h = (h, λ g. firm g.0)
held_firm role tree firm (step ∷ path) question h = h

-- ---- trees one step further
refusing_row : (here : Option Row) (question : Question) → RowRefuses rows.RowRefusesQuestion here question → (row : Row) × (here ≡ Some row) × rows.RowRefusesQuestion row question
refusing_row None question h = absurd h
refusing_row (Some row) question h = (row, refl, h)

refused_row : (here : Option Row) (row : Row) (question : Question) → here ≡ Some row → rows.RowRefusesQuestion row question → RowRefuses rows.RowRefusesQuestion here question
refused_row here row question e r = subst (λ o. RowRefuses rows.RowRefusesQuestion o question) (sym e) r

-- where something is refused one step further a branch is there
pub there : (tree : Tree Row) (step : Step) (path : Path) (question : Question) → PolicyTreeRefusals tree (step ∷ path) question → IsThere (step_into tree step)
there (node row children rest) step path question h =
    let found = refusing_row (found_row (step_into (node row children rest) step) path) question h in
    let branch = row_found (step_into (node row children rest) step) path found.0 found.1 in
    (branch.0, branch.1)

-- and refuses it
pub into_branch : (tree branch : Tree Row) (step : Step) → step_into tree step ≡ Some branch → (path : Path) (question : Question) → PolicyTreeRefusals tree (step ∷ path) question → PolicyTreeRefusals branch path question
into_branch (node row children rest) branch step e path question h = subst (λ found. RowRefuses rows.RowRefusesQuestion (found_row found path) question) e h

pub out_of_branch : (tree branch : Tree Row) (step : Step) → step_into tree step ≡ Some branch → (path : Path) (question : Question) → PolicyTreeRefusals branch path question → PolicyTreeRefusals tree (step ∷ path) question
out_of_branch (node row children rest) branch step e path question h = subst (λ found. RowRefuses rows.RowRefusesQuestion (found_row found path) question) (sym e) h

-- ---- what holds of what a part has one step further
module _ (P : ViewedPart → Type 0)
    (like : (part other : ViewedPart) → part.kind ≡ other.kind → ((path : Path) (question : Question) → part.refuses path question → other.refuses path question) → P part → P other)
    (some : (part : ViewedPart) → P part → (path : Path) × (question : Question) × part.refuses path question) where
  into_named : (part : ViewPart) (l : List ℕ) → ¬ IsPatternOf (kind_of part.role) l → P (below_name (part_of part) l) → (next : ViewPart) × HasPartAt part (role_below part.role) l next × P (part_of next)
  into_named part l plain p =
      let r = some (below_name (part_of part) l) p in
      let branch = there part.branch (label l) r.0 r.1 r.2 in
      let next : ViewPart = record { role = role_below part.role; branch = branch.0 } in (
        next,
        (branch.1, refl),
        like (below_name (part_of part) l) (part_of next) (sym (kind_below part.role))
            (λ path question h. held_firm (role_below part.role) branch.0 (not_loose_below part.role) path question (into_branch part.branch branch.0 (label l) branch.1 path question h)) p,
      )

  loose_in : (part : ViewPart) (own : List ℕ) (branch : Tree Row) → step_into part.branch (label own) ≡ Some branch
      → (path : Path) (question : Question) → Loose (λ path. refused_in_role part.role part.branch (label own ∷ path)) path question → refused_in_role roles.Pattern branch path question
  loose_in part own branch e [] question h = (into_branch part.branch branch (label own) e [] question h.0, λ g. h.1 g.1)
  loose_in part own branch e (step ∷ path) question h = into_branch part.branch branch (label own) e (step ∷ path) question h

  loose_out : (part : ViewPart) (own : List ℕ) (branch : Tree Row) → step_into part.branch (label own) ≡ Some branch
      → (path : Path) (question : Question) → refused_in_role roles.Pattern branch path question → Loose (λ path. refused_in_role part.role part.branch (label own ∷ path)) path question
  loose_out part own branch e [] question h = (out_of_branch part.branch branch (label own) e [] question h.0, λ level. h.1 (tt, level))
  loose_out part own branch e (step ∷ path) question h = out_of_branch part.branch branch (label own) e (step ∷ path) question h

  loose_there : (part : ViewPart) (own : List ℕ) (path : Path) (question : Question) → Loose (λ path. refused_in_role part.role part.branch (label own ∷ path)) path question → PolicyTreeRefusals part.branch (label own ∷ path) question
  loose_there part own [] question h = h.0
  loose_there part own (step ∷ path) question h = h

  into_bound : (part : ViewPart) (own l : List ℕ) → IsPatternOf (kind_of part.role) own → P (below_pattern (part_of part) own) → (next : ViewPart) × HasPartAt part roles.Pattern own next × P (part_of next)
  into_bound part own l is p =
      let r = some (below_pattern (part_of part) own) p in
      let branch = there part.branch (label own) r.0 r.1 (loose_there part own r.0 r.1 r.2) in
      let next : ViewPart = record { role = roles.Pattern; branch = branch.0 } in
      (next, (branch.1, refl), like (below_pattern (part_of part) own) (part_of next) (policy_bound part.role own is) (loose_in part own branch.0 branch.1) p)

  -- what holds of something that a part has for a label holds of a part below it
  pub into_below :
      (part : ViewPart) (patterns : List (List ℕ)) (l : List ℕ) → ((own : List ℕ) → HasLabel true part own → IsIn own patterns)
      → SomeBelow P (part_of part) l → (next : ViewPart) × IsBelow patterns l part next × P (part_of next)
  into_below part patterns l known h = ⊎_elim named bound h.1
    where
      own : List ℕ
      own = h.0

      named : IsNamedLabel (kind_of part.role) own l × P (below_name (part_of part) own) → (next : ViewPart) × IsBelow patterns l part next × P (part_of next)
      named n =
          let plain = subst (λ m. ¬ IsPatternOf (kind_of part.role) m) n.0.0 n.0.1 in
          let next = into_named part l plain (subst (λ m. P (below_name (part_of part) m)) n.0.0 n.1) in
          (next.0, inl (plain, next.1), next.2)

      bound : IsPatternBound (kind_of part.role) own l × P (below_pattern (part_of part) own) → (next : ViewPart) × IsBelow patterns l part next × P (part_of next)
      bound b =
          let next = into_bound part own l b.0.0 b.1 in
          let is = known own (b.0.0, (next.0.branch, next.1.0)) in
          (next.0, inr (put (λ m. IsPatternOf (kind_of part.role) m × MatchesPattern m l × HasPartAt part roles.Pattern m next.0) patterns own is (b.0.0, b.0.1, next.1)), next.2)

  named_back : (part next : ViewPart) (l : List ℕ) → ¬ IsPatternOf (kind_of part.role) l → HasPartAt part (role_below part.role) l next → P (part_of next) → SomeBelow P (part_of part) l
  named_back part next l plain at p = (
    l,
    inl (
      (refl, plain),
      like (part_of next) (below_name (part_of part) l) (ap kind_of at.1 ∙ kind_below part.role)
          (λ path question h. out_of_branch part.branch next.branch (label l) at.0 path question (held_far next.role next.branch path question h)) p,
    ),
  )

  bound_back : (part next : ViewPart) (own l : List ℕ) → IsPatternOf (kind_of part.role) own → MatchesPattern own l → HasPartAt part roles.Pattern own next → P (part_of next) → SomeBelow P (part_of part) l
  bound_back part next own l is fit at p = (
    own,
    inr (
      (is, fit),
      like (part_of next) (below_pattern (part_of part) own) (ap kind_of at.1 ∙ sym (policy_bound part.role own is))
          (λ path question h. loose_out part own next.branch at.0 path question (subst (λ role. refused_in_role role next.branch path question) at.1 h)) p,
    ),
  )

  -- and back
  pub out_of_below : (part next : ViewPart) (patterns : List (List ℕ)) (l : List ℕ) → IsBelow patterns l part next → P (part_of next) → SomeBelow P (part_of part) l
  out_of_below part next patterns l below p = ⊎_elim
      (λ named. named_back part next l named.0 named.1 p)
      (λ bound. let one = pick (λ own. IsPatternOf (kind_of part.role) own × MatchesPattern own l × HasPartAt part roles.Pattern own next) patterns bound in bound_back part next one.0 l one.2.0 one.2.1 one.2.2 p)
      below

  -- all parts
  pub below_all :
      (parts found : List ViewPart) (patterns : List (List ℕ)) (l : List ℕ) → HasLabels true parts patterns
      → ((next : ViewPart) → IsIn next found ↔ OneOf (λ part. IsBelow patterns l part next) parts)
      → OneOf (λ part. SomeBelow P (part_of part) l) parts ↔ OneOf (λ next. P (part_of next)) found
  below_all parts found patterns l known are = (
    λ h.
        let one = pick (λ part. SomeBelow P (part_of part) l) parts h in
        let next = into_below one.0 patterns l (λ own has. (known own).1 (put (λ part. HasLabel true part own) parts one.0 one.1 has)) one.2 in
        put (λ next. P (part_of next)) found next.0 ((are next.0).1 (put (λ part. IsBelow patterns l part next.0) parts one.0 one.1 next.1)) next.2,
    λ h.
        let next = pick (λ next. P (part_of next)) found h in
        let one = pick (λ part. IsBelow patterns l part next.0) parts ((are next.0).0 next.1) in
        put (λ part. SomeBelow P (part_of part) l) parts one.0 one.1 (out_of_below one.0 next.0 patterns l one.2 next.2),
  )

one_iff : {X : Type 0} (P Q : X → Type 0) → ((x : X) → P x ↔ Q x) → (xs : List X) → OneOf P xs ↔ OneOf Q xs
one_iff P Q same xs = (
  λ h. let one = pick P xs h in put Q xs one.0 one.1 ((same one.0).0 one.2),
  λ h. let one = pick Q xs h in put P xs one.0 one.1 ((same one.0).1 one.2),
)

-- the parts below a label are what the parts of the place refuse and declare behind it
pub parts_behind :
    (parts found : List ViewPart) (patterns : List (List ℕ)) (l : List ℕ) → HasLabels true parts patterns
    → ((next : ViewPart) → IsIn next found ↔ OneOf (λ part. IsBelow patterns l part next) parts)
    → IsBehind part_of parts part_of found (label l)
parts_behind parts found patterns l known are = record {
  refused = λ path question.
      let here = one_iff (λ part. PartRefuses (part_of part) (label l ∷ path) question) (λ part. SomeBelow (λ next. PartRefuses next path question) (part_of part) l)
      (λ part. refused_below (part_of part) l path question) parts in
      let below = below_all (λ part. PartRefuses part path question) (λ part other e f. refuses_as part other e f path question) (λ part h. (h.0, question, h.2)) parts found patterns l known are in
      (λ h. below.0 (here.0 h), λ h. here.1 (below.1 h));
  declared = λ place m.
      let here = one_iff (λ part. DeclaresAt (part_of part) (label l ∷ place) m) (λ part. SomeBelow (λ next. DeclaresAt next place m) (part_of part) l)
      (λ part. declared_below (part_of part) l place m) parts in
      let below = below_all (λ part. DeclaresAt part place m) (λ part other e f. declares_as part other e f place m) (λ part h. (h.0 ++ label m ∷ h.1, h.2, h.5)) parts found patterns l known are in
      (λ h. below.0 (here.0 h), λ h. here.1 (below.1 h));
}

-- ---- labels that are declared at the place
pub declared_there : (part : ViewPart) (l : List ℕ) → DeclaresAt (part_of part) [] l → HasLabel false part l
declared_there part l h = into h.0 h.3 h.5
  where
    into : (written : Path) → IsAlong (kind_of part.role) written [] → refused_in_role part.role part.branch (written ++ label l ∷ h.1) h.2 → HasLabel false part l
    into [] along r = (h.4, there part.branch (label l) h.1 h.2 r)
    into (label own ∷ written) along r = absurd along
    into (index n ∷ written) along r = absurd along

-- a branch of a part whose rows are valid refuses something
pub some_refused : (tree : Tree Row) → IsTable RefusesAsked IsRow tree → ((path : Path) (row : Row) → row_at tree path ≡ Some row → (question : Question) × rows.RowRefusesQuestion row question)
    → (step : Step) (branch : Tree Row) → step_into tree step ≡ Some branch → (path : Path) × (question : Question) × PolicyTreeRefusals tree (step ∷ path) question
some_refused (node row children rest) form valid step branch e =
    let is = found_form (IsRowKept RefusesAsked IsRow) step (node row children rest) branch form e in
    let some = taken_row (IsRowKept RefusesAsked IsRow) branch is.0 is.1 in
    let stands : found_row (step_into (node row children rest) step) some.0 ≡ Some some.1 = ap (λ found. found_row found some.0) e ∙ some.2 in
    let q = valid (step ∷ some.0) some.1 stands in
    (some.0, q.0, refused_row (found_row (step_into (node row children rest) step) some.0) some.1 q.0 stands q.1)

there_declared : (part : ViewPart) (l : List ℕ) → IsSoundPart part → HasLabel false part l → DeclaresAt (part_of part) [] l
there_declared part l sound h =
    let some = some_refused part.branch sound.form (λ path row e. something row (tree_rows part.branch path row sound.sound e)) (label l) h.1.0 h.1.1 in
    ([], some.0, some.1, tt, h.0, some.2)

-- the labels that the parts have are those that they declare
pub labels_declared :
    (parts : List ViewPart) (labels : List (List ℕ)) → AreSoundParts parts → HasLabels false parts labels
    → (l : List ℕ) → IsIn l labels ↔ OneOf (λ part. DeclaresAt (part_of part) [] l) parts
labels_declared parts labels sound known l = (
  λ h.
      let one = pick (λ part. HasLabel false part l) parts ((known l).0 h) in
      put (λ part. DeclaresAt (part_of part) [] l) parts one.0 one.1 (there_declared one.0 l (sound one.0 one.1) one.2),
  λ h.
      let one = pick (λ part. DeclaresAt (part_of part) [] l) parts h in
      (known l).1 (put (λ part. HasLabel false part l) parts one.0 one.1 (declared_there one.0 l one.2)),
)

-- ---- elements of lists
pub pattern_of : (kind : LayerKind) (path : Path) → HasPatternOf kind path → (kind ≡ kinds.Policy) × HasPattern path
pattern_of kinds.Layer [] h = absurd h
pattern_of kinds.Layer (label l ∷ path) h = ⊎_elim (λ g. absurd g) (λ g. let more = pattern_of kinds.Layer path g in (more.0, inr more.1)) h
pattern_of kinds.Layer (index n ∷ path) h = pattern_of kinds.Layer path h
pattern_of kinds.Policy [] h = absurd h
pattern_of kinds.Policy (label l ∷ path) h = (refl, ⊎_elim (λ g. inl g) (λ g. inr (pattern_of kinds.Policy path g).1) h)
pattern_of kinds.Policy (index n ∷ path) h = pattern_of kinds.Policy path h

item_of : ℕ → ViewPart → ViewedPart
item_of i part = below_index (part_of part) i

items_behind : (parts : List ViewPart) (i : ℕ) → IsBehind part_of parts (item_of i) parts (index i)
unfolding item_of
items_behind parts i = record {
  refused = λ path question.
      one_iff (λ part. PartRefuses (part_of part) (index i ∷ path) question) (λ part. PartRefuses (below_index (part_of part) i) path question)
      (λ part. refused_at_index (part_of part) i path question) parts;
  declared = λ place m.
      one_iff (λ part. DeclaresAt (part_of part) (index i ∷ place) m) (λ part. DeclaresAt (below_index (part_of part) i) place m)
      (λ part. declared_at_index (part_of part) i place m) parts;
}

-- in the elements of a place the view is the unification
pub view_of_items : (parts : List ViewPart) → AreSoundParts parts → (i : ℕ) (path : Path) (question : Question)
    → PartsRefuse parts (index i ∷ path) question ↔ OneOf (λ part. PolicyTreeRefusals part.branch (index i ∷ path) question) parts
unfolding item_of
view_of_items parts sound i path question =
    let step = view_at_index part_of parts (item_of i) parts i (items_behind parts i) path question in
    let plain = plain_view (item_of i) parts (λ part is p q r h. let pattern = pattern_of (kind_of part.role) p h in (sound part is).lists (index i ∷ p) q r pattern) path question in
    (λ h. plain.0 (step.0 h), λ h. step.1 (plain.1 h))

-- ---- the place itself
nowhere : (place : Path) (l : List ℕ) (further : Path) → [] ≡ place ++ label l ∷ further → ⊥
nowhere [] l further e = cc
nowhere (step ∷ place) l further e = cc

pub view_of_root : (parts : List ViewPart) (question : Question) → PartsRefuse parts [] question ↔ OneOf (λ part. refused_in_role part.role part.branch [] question) parts
view_of_root parts question =
    let here = one_iff (λ part. PartRefuses (part_of part) [] question) (λ part. refused_in_role part.role part.branch [] question) (λ part. refused_at_root (part_of part) question) parts in
    (λ h. here.0 h.1, λ h. (λ place l further e. absurd (nowhere place l further e), here.1 h))

-- a part of a layer proper alone is the view
pub lone_view : (part : ViewPart) → part.role ≡ roles.Layer → (path : Path) (question : Question) → PolicyTreeRefusals part.branch path question ↔ PartsRefuse (part ∷ []) path question
lone_view part e path question =
    let plain = plain_view part_of (part ∷ []) (λ other is. layers_are_plain (part_of other) (⊎_elim (λ same. ap (λ (p : ViewPart). kind_of p.role) (sym same) ∙ ap kind_of e) (λ none. absurd none) is)) path question in
    let firm : ¬ IsLoose part.role = λ h. subst IsLoose e h in (
      λ h. plain.1 (inl (held_firm part.role part.branch firm path question h)),
      λ h. ⊎_elim (λ r. held_far part.role part.branch path question r) (λ none. absurd none) (plain.0 h),
    )

-- ---- all together
-- what the view refuses at labels
abbrev pub FieldsRefuse : List ViewPart → Refusals
FieldsRefuse parts [] question = ⊥
FieldsRefuse parts (label l ∷ path) question = PartsRefuse parts (label l ∷ path) question
FieldsRefuse parts (index i ∷ path) question = ⊥

-- the view is its fields and what each part refuses elsewhere
pub view_together : (parts : List ViewPart) → AreSoundParts parts → (path : Path) (question : Question)
    → PartsRefuse parts path question ↔ (FieldsRefuse parts path question ⊎ OneOf (λ part. PlaceRefuses part path question) parts)
view_together parts sound [] question =
    let here = view_of_root parts question in
    (λ h. inr (here.0 h), λ h. ⊎_elim (λ none. absurd none) (λ g. here.1 g) h)
view_together parts sound (label l ∷ path) question = (
  λ h. inl h,
  λ h. ⊎_elim (λ g. g) (λ g. let one = pick (λ (part : ViewPart). ⊥) parts g in absurd one.2) h,
)
view_together parts sound (index i ∷ path) question =
    let here = view_of_items parts sound i path question in
    (λ h. inr (here.0 h), λ h. ⊎_elim (λ none. absurd none) (λ g. here.1 g) h)

-- ---- depth and soundness of the parts below
pub most_in : (parts : List ViewPart) (part : ViewPart) → IsIn part parts → tree_depth part.branch ≤ most_depth parts
most_in [] part is = absurd is
most_in (first ∷ parts) part is = ⊎_elim
    (λ e. let same : tree_depth first.branch ≡ tree_depth part.branch = ap (λ (p : ViewPart). tree_depth p.branch) e in omega arith)
    (λ r. let more = most_in parts part r in omega arith) is

pub most_below : (parts : List ViewPart) (n : ℕ) → ((part : ViewPart) → IsIn part parts → tree_depth part.branch < n) → 0 < n → most_depth parts < n
most_below [] n h some = some
most_below (part ∷ parts) n h some =
    let first = h part (inl refl) in
    let more = most_below parts n (λ other is. h other (inr is)) some in
    omega arith

pub step_depth : (tree branch : Tree Row) (step : Step) → step_into tree step ≡ Some branch → tree_depth branch < tree_depth tree
step_depth (node row children rest) branch step e = depth_with rest step children branch e

sound_at : (part next : ViewPart) (l : List ℕ) → step_into part.branch (label l) ≡ Some next.branch → kind_of next.role ≡ kind_of part.role → IsSoundPart part → IsSoundPart next
sound_at part next l e kind sound = record {
  form = (found_form (IsRowKept RefusesAsked IsRow) (label l) part.branch next.branch sound.form e).1;
  sound = inr (tree_into part.branch next.branch (label l) sound.sound e).3;
  lists = λ path question r h. sound.lists (label l ∷ path) question (out_of_branch part.branch next.branch (label l) e path question r) (sym kind ∙ h.0, h.1);
}

-- a part that is below another one
pub below_at : (patterns : List (List ℕ)) (l : List ℕ) (part next : ViewPart) → IsBelow patterns l part next
    → (own : List ℕ) × (step_into part.branch (label own) ≡ Some next.branch) × (kind_of next.role ≡ kind_of part.role)
below_at patterns l part next h = ⊎_elim
    (λ named. (l, named.1.0, ap kind_of named.1.1 ∙ kind_below part.role))
    (λ bound. let one = pick (λ own. IsPatternOf (kind_of part.role) own × MatchesPattern own l × HasPartAt part roles.Pattern own next) patterns bound in
    (one.0, one.2.2.0, ap kind_of one.2.2.1 ∙ sym (policy_bound part.role one.0 one.2.0)))
    h

pub sound_below :
    (parts found : List ViewPart) (patterns : List (List ℕ)) (l : List ℕ) → ((next : ViewPart) → IsIn next found ↔ OneOf (λ part. IsBelow patterns l part next) parts)
    → AreSoundParts parts → AreSoundParts found
sound_below parts found patterns l are sound next is =
    let one = pick (λ part. IsBelow patterns l part next) parts ((are next).0 is) in
    let at = below_at patterns l one.0 next one.2 in
    sound_at one.0 next at.0 at.1 at.2 (sound one.0 one.1)

-- the parts below a label that one has are less deep
pub depth_below :
    (parts found : List ViewPart) (patterns : List (List ℕ)) (l : List ℕ) → ((next : ViewPart) → IsIn next found ↔ OneOf (λ part. IsBelow patterns l part next) parts)
    → OneOf (λ part. HasLabel false part l) parts → most_depth found < most_depth parts
depth_below parts found patterns l are has =
    let any = pick (λ part. HasLabel false part l) parts has in
    let high = most_in parts any.0 any.1 in
    let deep = step_depth any.0.branch any.2.1.0 (label l) any.2.1.1 in
    most_below found (most_depth parts)
    (λ next is.
    let one = pick (λ part. IsBelow patterns l part next) parts ((are next).0 is) in
    let at = below_at patterns l one.0 next one.2 in
    let less = step_depth one.0.branch next.branch (label at.0) at.1 in
    let most = most_in parts one.0 one.1 in
    omega arith)
    (omega arith)
