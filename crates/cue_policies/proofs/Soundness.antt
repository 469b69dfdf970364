-- Places of valid tables: one step further, and what is met of two.
use Rattle.std.proofs.Common.{◌≡◌, ◌↔◌, ◌⊎◌, inl, inr, ⊎_elim, ◌<◌, ◌≤◌, ℕ, Bool, true, false, nat_lt, if◌then◌else◌, List, [], ◌∷◌, Option, Some, None, refl, sym, ap, subst, ◌∙◌, arith}
use Rattle.std.specs.declared.cmp.Ordering.{Ordering}
use Rattle.std.specs.declared.cmp.Ordering.TheVariants.{Less, Equal, Greater}
use Rattle.cue_lattice.specs.Limits.{step_limit}
use Rattle.cue_lattice.specs.Path as paths
use Rattle.cue_lattice.specs.Path.{label, index, step_cmp, Path}
use Rattle.std.proofs.lemmas.Str.{IsUtf8-nil}
use Rattle.cue_lattice.specs.declared.scalar.Scalar.TheVariants as scalars
use Rattle.cue_row.specs.Kinds.{IsEmptySet}
use Rattle.cue_row.specs.Made.{empty_set, struct_row}
use Rattle.cue_row.specs.Row.{RefusesAsked, IsRow}
use Rattle.cue_row.specs.ValidRow.{IsValidRow}
use Rattle.cue_row.specs.declared.kind.RowKind.TheVariants as kinds
use Rattle.cue_row.specs.declared.level.Level.TheVariants.{Optional}
use Rattle.cue_row.specs.declared.question.Question as program
use Rattle.cue_row.specs.declared.question.Question.TheVariants as asks
use Rattle.cue_row.specs.declared.parts.RowParts.{RowParts as Row}
use Rattle.cue_table.specs.Depth.{tree_depth}
use Rattle.cue_table.specs.Form.{IsRowKept, IsTable}
use Rattle.cue_table.specs.Meet.{IsMet}
use Rattle.cue_table.specs.Refuses.{RowRefuses}
use Rattle.cue_table.specs.Tree.{Tree, node, Children, none, child, Rest, no_rest, onward, empty, row_of, if_not_empty, find, find_with, step_into, if_equal, row_at}
use Rattle.cue_table.specs.Valid.{IsOpenStruct, IsValidTable}
use Rattle.cue_table.specs.Inner.ValidWalk.{IsSound, AreSound, IsRestSound, HasChild, HasElement, MayStand}
use Rattle.cue_table.proofs.Depth.{row_found, met_depth}
use Rattle.cue_table.proofs.MetTables.{met_tables}
use Rattle.cue_table.proofs.Order.{equal_steps}
use Rattle.cue_table.proofs.Validity.{valid_walk}
use Rattle.cue_table.proofs.ValidWalks.{empty_valid, valid_empty}
use Rattle.cue_policies.specs.Inner.Parts.{IsSoundTree, HasOpenRow, IsFit}

-- ---- one step further
element_child : (parent : Row) (i : ℕ) (row : Option Row) → HasElement parent row → HasChild parent (index i) row
element_child parent i None h = absurd h
element_child parent i (Some row) h = record { word = tt; holds = h.holds; level = h.level }

sound_here :
    (parent : Row) (step next : paths.Step) (here : Tree Row) (other : Option (Tree Row)) (tree : Tree Row) → HasChild parent next (row_of here) → IsSound here
    → (other ≡ Some tree → HasChild parent step (row_of tree) × IsSound tree)
    → (o : Ordering) → step_cmp step next ≡ o → if_equal o here other ≡ Some tree → HasChild parent step (row_of tree) × IsSound tree
sound_here parent step next here other tree h k others Less c e = others e
sound_here parent step next here other tree h k others Greater c e = others e
sound_here parent step next here other tree h k others Equal c e =
    let steps : next ≡ step = sym (equal_steps step next c) in
    let same : here ≡ tree = cc in
    let one : HasChild parent next (row_of tree) = subst (λ t. HasChild parent next (row_of t)) same h in
    (subst (λ s. HasChild parent s (row_of tree)) steps one, subst IsSound same k)

pub sound_own : (parent : Row) (step : paths.Step) (children : Children Row) (tree : Tree Row) → AreSound parent children → find step children ≡ Some tree → HasChild parent step (row_of tree) × IsSound tree
sound_own parent step none tree h e = cc
sound_own parent step (child next here children) tree h e =
    sound_here parent step next here (find step children) tree h.0 h.1 (λ f. sound_own parent step children tree h.2 f) (step_cmp step next) refl e

sound_else :
    (parent : Row) (i : ℕ) (b : Bool) (own : Option (Tree Row)) (other tree : Tree Row) → (own ≡ Some tree → HasChild parent (index i) (row_of tree) × IsSound tree)
    → HasElement parent (row_of other) → IsSound other → (if b then own else Some other) ≡ Some tree → HasChild parent (index i) (row_of tree) × IsSound tree
sound_else parent i true own other tree f h k e = f e
sound_else parent i false own other tree f h k e =
    let same : other ≡ tree = cc in
    (element_child parent i (row_of tree) (subst (λ t. HasElement parent (row_of t)) same h), subst IsSound same k)

sound_with :
    (parent : Row) (rest : Rest Row) (step : paths.Step) (children : Children Row) (tree : Tree Row) → AreSound parent children → IsRestSound parent rest
    → find_with rest step children ≡ Some tree → HasChild parent step (row_of tree) × IsSound tree
sound_with parent no_rest step children tree h k e = sound_own parent step children tree h e
sound_with parent (onward n other) (label l) children tree h k e = sound_own parent (label l) children tree h e
sound_with parent (onward n other) (index i) children tree h k e =
    sound_else parent i (nat_lt i n) (find (index i) children) other tree (λ f. sound_own parent (index i) children tree h f) k.0 k.1 e

-- a branch of a place of a valid table is one, and may be below it
pub sound_into : (tree branch : Tree Row) (step : paths.Step) → IsSound tree → step_into tree step ≡ Some branch → (parent : Row) × (row_of tree ≡ Some parent) × HasChild parent step (row_of branch) × IsSound branch
sound_into (node None children rest) branch step h e = absurd h
sound_into (node (Some parent) children rest) branch step h e = let found = sound_with parent rest step children branch h.2 h.3 e in (parent, refl, found.0, found.1)

no_step : (step : paths.Step) (branch : Tree Row) → step_into empty step ≡ Some branch → ⊥
no_step step branch e = let non : None ≡ Some branch = e in cc

pub tree_into : (tree branch : Tree Row) (step : paths.Step) → IsSoundTree tree → step_into tree step ≡ Some branch → (parent : Row) × (row_of tree ≡ Some parent) × HasChild parent step (row_of branch) × IsSound branch
tree_into tree branch step h e = ⊎_elim
    (λ bare. absurd (no_step step branch (ap (λ t. step_into t step) (sym bare) ∙ e)))
    (λ sound. sound_into tree branch step sound e) h

-- the rows of such a place are valid
pub sound_rows : (tree : Tree Row) (path : Path) (row : Row) → IsSound tree → row_at tree path ≡ Some row → IsValidRow row
sound_rows (node None children rest) path row h e = absurd h
sound_rows (node (Some here) children rest) [] row h e = let same : here ≡ row = cc in subst IsValidRow same h.0
sound_rows (node (Some here) children rest) (step ∷ path) row h e =
    let found = row_found (find_with rest step children) path row e in
    sound_rows found.0 path row (sound_with here rest step children found.0 h.2 h.3 found.1).1 found.2

nothing_there : (path : Path) (row : Row) → row_at empty path ≡ Some row → ⊥
nothing_there [] row e = cc
nothing_there (step ∷ path) row e = cc

pub tree_rows : (tree : Tree Row) (path : Path) (row : Row) → IsSoundTree tree → row_at tree path ≡ Some row → IsValidRow row
tree_rows tree path row h e = ⊎_elim
    (λ bare. absurd (nothing_there path row (ap (λ t. row_at t path) (sym bare) ∙ e)))
    (λ sound. sound_rows tree path row sound e) h

-- ---- a place below the field of an open struct
abbrev root_row : Row
root_row = struct_row Optional None

no_members : IsEmptySet empty_set
no_members scalars.Null = refl
no_members (scalars.Bool false) = refl
no_members (scalars.Bool true) = refl
no_members (scalars.Int n) = refl
no_members (scalars.Text text) = refl

root_is : IsRow root_row
root_is = record { value = record { ints = tt; texts = tt }; usual = record { ints = tt; texts = tt }; labels = tt }

root_valid : IsValidRow root_row
root_valid = record {
  kind = kinds.Struct;
  is_kind = (no_members, refl, refl);
  usual = no_members;
  labels = tt;
  row_lengths = (refl, refl);
  limits = omega arith;
  texts = record { labels = tt; value = tt; usual = tt };
  not_free = λ free. free asks.List refl;
}

root_open : IsOpenStruct root_row × (root_row.level ≡ Optional)
root_open = (((no_members, refl, refl), refl), refl)

hang : Option (Tree Row) → Children Row
hang None = none
hang (Some tree) = child (label []) tree none

hung : Tree Row → Tree Row
hung tree = node (Some root_row) (hang (if_not_empty tree)) no_rest

root_kept : IsRowKept RefusesAsked IsRow root_row
root_kept = (root_is, λ free. free asks.List refl)

hung_form : (tree : Tree Row) → IsTable RefusesAsked IsRow tree → IsTable RefusesAsked IsRow (hung tree)
unfolding hung hang
hung_form (node None none no_rest) form = (root_kept, tt, tt)
hung_form (node None none (onward n rest)) form = (root_kept, (tt, tt, form, tt), tt)
hung_form (node None (child step tree children) rest) form = (root_kept, (tt, tt, form, tt), tt)
hung_form (node (Some row) children rest) form = (root_kept, (tt, tt, form, tt), tt)

hung_depth : (tree : Tree Row) → tree_depth tree < step_limit → tree_depth (hung tree) ≤ step_limit
unfolding hung hang
hung_depth (node None none no_rest) less = omega arith
hung_depth (node None none (onward n rest)) less = omega arith
hung_depth (node None (child step tree children) rest) less = omega arith
hung_depth (node (Some row) children rest) less = omega arith

-- what the place refuses, below the field
hung_row : (tree : Tree Row) (path : Path) → row_at (hung tree) (label [] ∷ path) ≡ row_at tree path
unfolding hung hang
hung_row (node None none no_rest) [] = refl
hung_row (node None none no_rest) (step ∷ path) = refl
hung_row (node None none (onward n rest)) path = refl
hung_row (node None (child step tree children) rest) path = refl
hung_row (node (Some row) children rest) path = refl

-- nothing is at other steps
hung_label : (tree : Tree Row) (c : ℕ) (l : List ℕ) (path : Path) → row_at (hung tree) (label (c ∷ l) ∷ path) ≡ None
unfolding hung hang
hung_label (node None none no_rest) c l path = refl
hung_label (node None none (onward n rest)) c l path = refl
hung_label (node None (child step tree children) rest) c l path = refl
hung_label (node (Some row) children rest) c l path = refl

hung_index : (tree : Tree Row) (i : ℕ) (path : Path) → row_at (hung tree) (index i ∷ path) ≡ None
unfolding hung hang
hung_index (node None none no_rest) i path = refl
hung_index (node None none (onward n rest)) i path = refl
hung_index (node None (child step tree children) rest) i path = refl
hung_index (node (Some row) children rest) i path = refl

hung_root : (tree : Tree Row) → row_of (hung tree) ≡ Some root_row
unfolding hung
hung_root tree = refl

Union : Option Row → Option Row → Option Row → Type 0
Union a b m = (question : program.Question) → RowRefuses RefusesAsked m question ↔ (RowRefuses RefusesAsked a question ⊎ RowRefuses RefusesAsked b question)

union_as : (a b m c d n : Option Row) → c ≡ a → d ≡ b → n ≡ m → Union a b m → Union c d n
union_as a b m c d n e f g h = subst (λ x. Union x d n) (sym e) (subst (λ y. Union a y n) (sym f) (subst (λ z. Union a b z) (sym g) h))

union_none : Union None None None
unfolding Union
union_none question = (λ h. absurd h, λ h. ⊎_elim (λ x. x) (λ x. x) h)

hung_met : (a b m : Tree Row) → IsMet RefusesAsked a b m → IsMet RefusesAsked (hung a) (hung b) (hung m)
unfolding Union hung
hung_met a b m met [] = λ question. (λ h. inl h, λ h. ⊎_elim (λ x. x) (λ x. x) h)
hung_met a b m met (label [] ∷ path) =
    union_as (row_at a path) (row_at b path) (row_at m path) (row_at (hung a) (label [] ∷ path)) (row_at (hung b) (label [] ∷ path)) (row_at (hung m) (label [] ∷ path))
    (hung_row a path) (hung_row b path) (hung_row m path) (met path)
hung_met a b m met (label (c ∷ l) ∷ path) =
    union_as None None None (row_at (hung a) (label (c ∷ l) ∷ path)) (row_at (hung b) (label (c ∷ l) ∷ path)) (row_at (hung m) (label (c ∷ l) ∷ path))
    (hung_label a c l path) (hung_label b c l path) (hung_label m c l path) union_none
hung_met a b m met (index i ∷ path) =
    union_as None None None (row_at (hung a) (index i ∷ path)) (row_at (hung b) (index i ∷ path)) (row_at (hung m) (index i ∷ path))
    (hung_index a i path) (hung_index b i path) (hung_index m i path) union_none

may_be_field : (row : Row) → MayStand root_row (label []) row
may_be_field row = record { word = record { utf8 = IsUtf8-nil; short = omega arith }; holds = inl (no_members, refl, refl); level = tt }

field_there : (here : Option Row) (row : Row) → here ≡ Some row → HasChild root_row (label []) here
field_there here row e = subst (HasChild root_row (label [])) (sym e) (may_be_field row)

hung_sound : (tree : Tree Row) → IsSoundTree tree → IsSound (hung tree)
unfolding hung hang
hung_sound tree h = ⊎_elim
    (λ bare. subst (λ t. IsSound (hung t)) (sym bare) (root_valid, omega arith, tt, tt))
    (λ sound. with_row tree sound) h
  where
    with_row : (tree : Tree Row) → IsSound tree → IsSound (hung tree)
    with_row (node None children rest) sound = absurd sound
    with_row (node (Some row) children rest) sound = (root_valid, omega arith, (may_be_field row, sound, tt), tt)

sound_hung : (tree : Tree Row) → IsSound (hung tree) → IsSoundTree tree
unfolding hung hang
sound_hung (node None none no_rest) h = inl refl
sound_hung (node None none (onward n rest)) h = inr h.2.1
sound_hung (node None (child step tree children) rest) h = inr h.2.1
sound_hung (node (Some row) children rest) h = inr h.2.1

-- ---- what is met of two places
deep_met : (a b m : Tree Row) → IsTable RefusesAsked IsRow a → IsTable RefusesAsked IsRow b → IsTable RefusesAsked IsRow m → IsMet RefusesAsked a b m → IsFit false a → IsFit false b → IsFit false m
deep_met a b m form_a form_b form met h k =
    let valid = λ (t : Tree Row) (form : IsTable RefusesAsked IsRow t) (fit : IsFit false t).
    (valid_walk (hung t) root_row (hung_form t form) (hung_depth t fit.1) (hung_root t)).0 (root_open, hung_sound t fit.0) in
    let depth : tree_depth m < step_limit = let d = met_depth RefusesAsked IsRow a b m 63 form met (omega (arith, h.1)) (omega (arith, k.1)) in omega arith in
    let met_valid = met_tables (hung a) (hung b) (hung m) (hung_form m form) (hung_met a b m met) (valid a form_a h) (valid b form_b k) in
    (sound_hung m ((valid_walk (hung m) root_row (hung_form m form) (hung_depth m depth) (hung_root m)).1 met_valid).1, depth)

-- a tree that may be the root is a valid table
pub root_is_valid : (tree : Tree Row) → IsTable RefusesAsked IsRow tree → IsFit true tree → IsValidTable tree
root_is_valid tree form h = ⊎_elim
    (λ bare. subst IsValidTable (sym bare) empty_valid)
    (λ sound. with_row tree form sound h.1.0 h.1.1) h.0
  where
    with_row : (tree : Tree Row) → IsTable RefusesAsked IsRow tree → IsSound tree → tree_depth tree ≤ step_limit → HasOpenRow tree → IsValidTable tree
    with_row (node None children rest) form sound deep opens = absurd sound
    with_row (node (Some row) children rest) form sound deep opens =
        (valid_walk (node (Some row) children rest) row form deep refl).0 (opens row refl, sound)

pub valid_is_root : (tree : Tree Row) → IsValidTable tree → tree_depth tree ≤ step_limit → IsFit true tree
valid_is_root tree h deep = by (row_of tree) refl
  where
    by : (row : Option Row) → row_of tree ≡ row → IsFit true tree
    by None e =
        let bare = valid_empty tree e h in
        (inl bare, (deep, λ row f. let non : None ≡ Some row = sym e ∙ f in absurd (cc)))
    by (Some row) e =
        let walk = (valid_walk tree row h.form deep e).1 h in
        (inr walk.1, (deep, λ other f. let both : Some row ≡ Some other = sym e ∙ f in let same : row ≡ other = cc in subst (λ (r : Row). IsOpenStruct r × (r.level ≡ Optional)) same walk.0))

root_met : (a b m : Tree Row) → IsTable RefusesAsked IsRow a → IsTable RefusesAsked IsRow b → IsTable RefusesAsked IsRow m → IsMet RefusesAsked a b m → IsFit true a → IsFit true b → IsFit true m
root_met a b m form_a form_b form met h k =
    valid_is_root m (met_tables a b m form met (root_is_valid a form_a h) (root_is_valid b form_b k)) (met_depth RefusesAsked IsRow a b m step_limit form met h.1.0 k.1.0)

-- what is met of two places of valid tables is one
pub met_fit : (top : Bool) (a b m : Tree Row) → IsTable RefusesAsked IsRow a → IsTable RefusesAsked IsRow b → IsTable RefusesAsked IsRow m → IsMet RefusesAsked a b m → IsFit top a → IsFit top b → IsFit top m
met_fit true a b m = root_met a b m
met_fit false a b m = deep_met a b m

pub empty_fit : (top : Bool) → IsFit top empty
empty_fit true = (inl refl, (omega arith, λ row e. let non : None ≡ Some row = e in absurd (cc)))
empty_fit false = (inl refl, omega arith)
