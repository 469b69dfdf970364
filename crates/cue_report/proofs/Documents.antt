-- The document of a place is that of its row and of the branches below it.
use Rattle.std.proofs.Common.{◌≡◌, ◌⊎◌, inl, inr, ℕ, suc, ◌+◌, ◌<◌, Bool, true, false, ◌||◌, List, [], ◌∷◌, ◌++◌, BTreeMap, String, Vec, Global, Option, None, Some, refl, sym, ap, subst, ◌∙◌, arith, rules}
use Rattle.std.specs.Prelude.{IfSome, IfNone}
use Rattle.std.specs.Option.{option_and_then}
use Rattle.std.proofs.lemmas.Bool.{false≢true}
use Rattle.cue_lattice.specs.Path as paths
use Rattle.cue_lattice.specs.Path.{label, index, step_cmp, Path, path_cmp}
use Rattle.cue_lattice.specs.Question.{Refusals, may_be, struct, list, length_at_most}
use Rattle.cue_lattice.specs.declared.scalar.Scalar.{Scalar}
use Rattle.cue_lattice.specs.declared.scalar.Scalar.TheVariants as scalars
use Rattle.cue_scalars.specs.Scalars.{members, IsFirstScalar}
use Rattle.cue_row.specs.declared.parts.RowParts.{RowParts as Row}
use Rattle.cue_row.specs.Row.{RefusesAsked, IsRow}
use Rattle.cue_row.specs.Chosen as chosen
use Rattle.cue_table.specs.Form.{IsTable}
use Rattle.cue_table.specs.Tree.{Tree, node, row_of, step_into, branch_at}
use Rattle.serde_json.specs.Data.{Data, null, array, object, Items, no_items, item, Members}
use Rattle.serde_json.specs.View.{view, items_view, members_view}
use Rattle.serde_json.specs.Written.{has_float, items_have_float}
use Rattle.serde_json.specs.declared.value.Value.{Value, Null, Array, Object, the_lemmas}
use Rattle.serde_json.proofs.Views.{view-Array, view-Object}
use Rattle.cue_report.specs.Answers.{IsStepDemanded, HasNoScalar}
use Rattle.cue_report.specs.Export.{refused_below, data_of, keys, count_elements, AreKeys, IsAtom, IsShape, AreElements, AreMembers}
use Rattle.cue_report.specs.Inner.GapSearch.{AtPlace}
use Rattle.cue_report.specs.Gaps.{IsChosenScalar, IsFreeRow}
use Rattle.cue_report.specs.Inner.Search.{least_at}
use Rattle.cue_report.specs.Inner.Clear.{IsClear}
use Rattle.cue_report.specs.Picks.{IsFirstPick, IsPicked}
use Rattle.cue_report.proofs.Choice.{member_is, chosen_is}
use Rattle.cue_report.proofs.Empty.{refused}
use Rattle.cue_report.proofs.Descent.{Told, open_below}
use Rattle.cue_report.proofs.Rows.{RefusedAt}
use Rattle.cue_report.proofs.Clear.{clear_here, clear_below}

-- ---- a scalar
pub same_chosen : (refuses : Refusals) (path : Path) (x y : Scalar) → IsChosenScalar refuses path x → IsChosenScalar refuses path y → x ≡ y
same_chosen refuses path x y (inl a) (inl b) = b.1 x a.0
same_chosen refuses path x y (inl a) (inr b) = absurd (b.0 x a.0)
same_chosen refuses path x y (inr a) (inl b) = absurd (a.0 y b.0)
same_chosen refuses path x y (inr a) (inr b) = b.1.1 x a.1.0

-- what the row at a place picks
abbrev pub IsPickedAt : Option Row → Scalar → Type 0
IsPickedAt row = IsPicked (AtPlace row) []

first_is : (row : Row) (scalar : Scalar) → IsRow row → IsFirstScalar row.value scalar → IsFirstPick (AtPlace (Some row)) [] scalar
first_is row scalar form h = (
  (member_is row.value scalar form.value).0 h.member,
  λ other stands. h.first other ((member_is row.value other form.value).1 stands),
)

-- the chosen scalar, the first one, or none
pub one_chosen : (row : Row) (found : Option Scalar) (scalar : Scalar) → found ≡ Some scalar → IfSome found (chosen.IsRowChosen row) → IsRow row → IsPickedAt (Some row) scalar
one_chosen row None scalar e h form = cc
one_chosen row (Some x) scalar e h form =
    let same : x ≡ scalar = cc in
    inl ((chosen_is row scalar form).0 (subst (chosen.IsRowChosen row) same h))

pub one_first : (row : Row) (found first : Option Scalar) → found ≡ None → IfNone found ((other : Scalar) → ¬ chosen.IsRowChosen row other) → IfSome first (IsFirstScalar row.value)
    → IsRow row → IfSome first (IsPickedAt (Some row))
one_first row None None e n h form = tt
one_first row None (Some x) e n h form = inr (λ other c. n other ((chosen_is row other form).1 c), first_is row x form h)
one_first row (Some y) first e n h form = cc

pub none_first : (row : Row) (first : Option Scalar) → IfNone first ((other : Scalar) → members row.value other ≡ false) → IsRow row → IfNone first (HasNoScalar (AtPlace (Some row)) [])
none_first row None n form = refused row.value n
none_first row (Some x) n form = tt

-- what was found is what may be told
pub told_one : (row : Row) (found : Option Scalar) (scalar : Scalar) (json : Data) → found ≡ Some scalar → IfSome found (IsPickedAt (Some row)) → json ≡ data_of scalar
    → ((scalar : Scalar) × IsPickedAt (Some row) scalar × (json ≡ data_of scalar)) ⊎ HasNoScalar (AtPlace (Some row)) []
told_one row None scalar json e h d = cc
told_one row (Some x) scalar json e h d = let same : x ≡ scalar = cc in inl (scalar, subst (IsPickedAt (Some row)) same h, d)

pub told_none : (row : Row) (found : Option Scalar) (json : Data) → found ≡ None → IfNone found (HasNoScalar (AtPlace (Some row)) [])
    → ((scalar : Scalar) × IsPickedAt (Some row) scalar × (json ≡ data_of scalar)) ⊎ HasNoScalar (AtPlace (Some row)) []
told_none row None json e h = inr h
told_none row (Some x) json e h = cc

scalar_place :
    (tree : Tree Row) (row : Row) (scalar : Scalar) (json : Data) → row_of tree ≡ Some row → row.struct_ok ≡ false → row.list_ok ≡ false
    → IsPickedAt (Some row) scalar → json ≡ data_of scalar → IsAtom IsPicked (Told tree) json
scalar_place tree row scalar json e s l c d = inr (record {
  no_struct = subst (λ r. RefusedAt r struct) (sym e) s;
  no_list = subst (λ r. RefusedAt r list) (sym e) l;
  picked = (scalar, subst (λ r. IsPickedAt r scalar) (sym e) c, d);
})

is_atom : (refuses : Refusals) (scalar : Scalar) → IsAtom IsPicked refuses (data_of scalar) → IsShape IsPicked refuses (data_of scalar)
is_atom refuses scalars.Null h = h
is_atom refuses (scalars.Bool b) h = h
is_atom refuses (scalars.Int n) h = h
is_atom refuses (scalars.Text t) h = h

view-Null : view Null ≡ null
view-Null = search (rules, the_lemmas)

pub row_is : (tree : Tree Row) (row : Row) → row_of tree ≡ Some row → IsTable RefusesAsked IsRow tree → IsRow row
row_is (node None children rest) row e h = cc
row_is (node (Some here) children rest) row e h = let same : here ≡ row = cc in subst IsRow same h.0.0

-- only scalars may stand: one is picked, or there is none
pub only_scalars :
    (tree : Tree Row) (row : Row) (json : Data) → row_of tree ≡ Some row → row.struct_ok ≡ false → row.list_ok ≡ false
    → ((scalar : Scalar) × IsPickedAt (Some row) scalar × (json ≡ data_of scalar)) ⊎ HasNoScalar (AtPlace (Some row)) []
    → IsClear (Told tree) → IsShape IsPicked (Told tree) json
only_scalars tree row json e s l (inl h) z =
    subst (IsShape IsPicked (Told tree)) (sym h.2) (is_atom (Told tree) h.0 (scalar_place tree row h.0 (data_of h.0) e s l h.1 refl))
only_scalars tree row json e s l (inr lack) z =
    absurd ((clear_here (Told tree) z).0 (inl (
      subst (λ r. HasNoScalar (AtPlace r) []) (sym e) lack,
      subst (λ r. RefusedAt r struct) (sym e) s,
      subst (λ r. RefusedAt r list) (sym e) l,
    )))

-- anything may stand
null_shape : (refuses : Refusals) (json : Data) → json ≡ null → IsFreeRow refuses [] → IsShape IsPicked refuses json
null_shape refuses json e free = subst (IsShape IsPicked refuses) (sym e) (inl (free, refl))

pub free_place : (tree : Tree Row) (row : Option Row) (value : Value) → row_of tree ≡ row → value ≡ Null → IsFreeRow (AtPlace row) [] → IsClear (Told tree) → IsShape IsPicked (Told tree) (view value)
free_place tree row value e v free z =
    null_shape (Told tree) (view value) (ap view v ∙ view-Null) (subst (λ r. IsFreeRow (AtPlace r) []) (sym e) free)

pub free_null : (tree : Tree Row) (row : Option Row) → row_of tree ≡ row → IsFreeRow (AtPlace row) [] → IsClear (Told tree) → IsShape IsPicked (Told tree) null
free_null tree row e free z = null_shape (Told tree) null refl (subst (λ r. IsFreeRow (AtPlace r) []) (sym e) free)

pub free_none : IsFreeRow (AtPlace None) []
free_none = (λ scalar r. r, λ r. r, λ r. r)

-- a struct may stand, but not anything
pub some_struct : (tree : Tree Row) (row : Row) → row_of tree ≡ Some row → row.struct_ok ≡ true → ¬ Told tree [] struct
some_struct tree row e s r = false≢true (sym (subst (λ r. RefusedAt r struct) e r) ∙ s)

pub not_free : (tree : Tree Row) (row : Row) → row_of tree ≡ Some row → (¬ IsFreeRow (AtPlace (Some row)) []) → ¬ IsFreeRow (Told tree) []
not_free tree row e n free = n (subst (λ r. IsFreeRow (AtPlace r) []) e free)

-- ---- one step below
abbrev pub Seen : Option (Tree Row) → Refusals
Seen found path question = RefusedAt (option_and_then row_of (option_and_then (λ branch. branch_at branch path) found)) question

pub document_below :
    (tree inner : Tree Row) (step : paths.Step) (json : Data) → step_into tree step ≡ Some inner → IsStepDemanded (Told tree) [] step
    → (IsClear (Told inner) → IsShape IsPicked (Told inner) json) → IsClear (Told tree) → IsShape IsPicked (refused_below (Told tree) step) json
document_below tree inner step json f d h z =
    subst (λ found. IsShape IsPicked (Seen found) json) (sym f) (h (subst (λ found. IsClear (Seen found)) f (clear_below (Told tree) step z d)))

-- each list is so long
below_least : (row : Option Row) (n : ℕ) → n < least_at row → RefusedAt row (length_at_most n)
below_least None n h = let no : n < 0 = h in omega arith
below_least (Some row) n h = h

pub index_demanded : (tree : Tree Row) (n : ℕ) → n < least_at (row_of tree) → IsStepDemanded (Told tree) [] (index n)
index_demanded tree n h = below_least (row_of tree) n h

-- an element of which nothing is known
pub document_free : (tree : Tree Row) (step : paths.Step) (json : Data) → step_into tree step ≡ None → json ≡ null → IsShape IsPicked (refused_below (Told tree) step) json
document_free tree step json f e =
    null_shape (refused_below (Told tree) step) json e (λ scalar r. open_below tree step [] (may_be scalar) f r, λ r. open_below tree step [] struct f r, λ r. open_below tree step [] list f r)

-- the shapes of a struct and of a list
pub object_shape :
    (tree : Tree Row) (row : Row) (members : Members) → row_of tree ≡ Some row → row.struct_ok ≡ true → (¬ IsFreeRow (AtPlace (Some row)) [])
    → AreKeys (Told tree) (keys members) → (IsClear (Told tree) → AreMembers IsPicked (Told tree) members)
    → IsClear (Told tree) → IsShape IsPicked (Told tree) (object members)
object_shape tree row members e s n ks ms z = (some_struct tree row e s, not_free tree row e n, ks, ms z)

pub struct_shape :
    (tree : Tree Row) (row : Row) (map : BTreeMap (String Global) Value) → row_of tree ≡ Some row → row.struct_ok ≡ true → (¬ IsFreeRow (AtPlace (Some row)) [])
    → AreKeys (Told tree) (keys (members_view map.entries)) → (IsClear (Told tree) → AreMembers IsPicked (Told tree) (members_view map.entries))
    → IsClear (Told tree) → IsShape IsPicked (Told tree) (view (Object map))
struct_shape tree row map e s n ks ms z =
    subst (IsShape IsPicked (Told tree)) (sym (view-Object map)) (object_shape tree row (members_view map.entries) e s n ks ms z)

pub least_is : (row : Option Row) (n : ℕ) → RefusedAt row (length_at_most n) → n < least_at row
least_is None n h = absurd h
least_is (Some row) n h = h

pub array_shape :
    (tree : Tree Row) (row : Row) (items : Items) → row_of tree ≡ Some row → row.struct_ok ≡ false → row.list_ok ≡ true
    → count_elements items ≡ least_at (row_of tree) → (IsClear (Told tree) → AreElements IsPicked (Told tree) 0 items)
    → IsClear (Told tree) → IsShape IsPicked (Told tree) (array items)
array_shape tree row items e s l c es z = (
  subst (λ r. RefusedAt r struct) (sym e) s,
  (λ r. false≢true (sym (subst (λ r. RefusedAt r list) e r) ∙ l)),
  (λ n. (λ h. subst (λ k. n < k) (sym c) (least_is (row_of tree) n h), λ h. index_demanded tree n (subst (λ k. n < k) c h))),
  es z,
)

pub list_shape :
    (tree : Tree Row) (row : Row) (values : Vec Value Global) → row_of tree ≡ Some row → row.struct_ok ≡ false → row.list_ok ≡ true
    → count_elements (items_view values.items) ≡ least_at (row_of tree) → (IsClear (Told tree) → AreElements IsPicked (Told tree) 0 (items_view values.items))
    → IsClear (Told tree) → IsShape IsPicked (Told tree) (view (Array values))
list_shape tree row values e s l c es z =
    subst (IsShape IsPicked (Told tree)) (sym (view-Array values)) (array_shape tree row (items_view values.items) e s l c es z)

pub or_false : (a b : Bool) → a ≡ false → b ≡ false → (a || b) ≡ false
or_false true b p q = p
or_false false b p q = q

pub or_both : (a b : Bool) → (a || b) ≡ false → (a ≡ false) × (b ≡ false)
or_both true b p = absurd (false≢true (sym p))
or_both false b p = (refl, p)

-- ---- the elements of a list
abbrev pub with_item : Items → Data → Items
with_item no_items json = item json no_items
with_item (item first items) json = item first (with_item items json)

view_more : (values : List Value) (value : Value) → items_view (values ++ value ∷ []) ≡ with_item (items_view values) (view value)
view_more [] value = refl
view_more (first ∷ values) value = ap (item (view first)) (view_more values value)

count_more : (items : Items) (json : Data) → count_elements (with_item items json) ≡ count_elements items + 1
count_more no_items json = omega arith
count_more (item first items) json =
    let more : count_elements (with_item items json) ≡ count_elements items + 1 = count_more items json in
    omega arith

elements_more : (refuses : Refusals) (first : ℕ) (items : Items) (json : Data) → AreElements IsPicked refuses first items → IsShape IsPicked (refused_below refuses (index (first + count_elements items))) json → AreElements IsPicked refuses first (with_item items json)
elements_more refuses first no_items json h d =
    let same : first + 0 ≡ first = omega arith in
    (subst (λ n. IsShape IsPicked (refused_below refuses (index n)) json) same d, tt)
elements_more refuses first (item here items) json h d =
    let same : first + suc (count_elements items) ≡ suc first + count_elements items = omega arith in
    (h.0, elements_more refuses (suc first) items json h.1 (subst (λ n. IsShape IsPicked (refused_below refuses (index n)) json) same d))

items_float : (items : Items) (json : Data) → items_have_float items ≡ false → has_float json ≡ false → items_have_float (with_item items json) ≡ false
items_float no_items json h d = or_false (has_float json) false d refl
items_float (item first items) json h d =
    let both = or_both (has_float first) (items_have_float items) h in
    or_false (has_float first) (items_have_float (with_item items json)) both.0 (items_float items json both.1 d)

-- so many elements are built
pub record IsCounted (tree : Tree Row) (number : ℕ) (items : Items) : Type 0 where
  pub length : count_elements items ≡ number
  pub elements : IsClear (Told tree) → AreElements IsPicked (Told tree) 0 items
  pub no_float : items_have_float items ≡ false

pub none_counted : (tree : Tree Row) (items : Items) → items ≡ no_items → IsCounted tree 0 items
none_counted tree items e = subst (IsCounted tree 0) (sym e) (record { length = refl; elements = λ z. tt; no_float = refl })

counted : (tree : Tree Row) (number : ℕ) (items : Items) (json : Data) → IsCounted tree number items
    → (IsClear (Told tree) → IsShape IsPicked (refused_below (Told tree) (index number)) json) → has_float json ≡ false → IsCounted tree (number + 1) (with_item items json)
counted tree number items json w d f =
    let from_zero : 0 + count_elements items ≡ count_elements items = omega arith in
    let here : IsClear (Told tree) → IsShape IsPicked (refused_below (Told tree) (index (0 + count_elements items))) json =
    λ z. subst (λ n. IsShape IsPicked (refused_below (Told tree) (index n)) json) (sym (from_zero ∙ w.length)) (d z) in
    record {
      length = count_more items json ∙ ap (λ n. n + 1) w.length;
      elements = λ z. elements_more (Told tree) 0 items json (w.elements z) (here z);
      no_float = items_float items json w.no_float f;
    }

pub counted_next :
    (tree inner : Tree Row) (number : ℕ) (items : Items) (json : Data) → IsCounted tree number items
    → step_into tree (index number) ≡ Some inner → number < least_at (row_of tree) → (IsClear (Told inner) → IsShape IsPicked (Told inner) json)
    → has_float json ≡ false → IsCounted tree (number + 1) (with_item items json)
counted_next tree inner number items json w f below_end d n =
    counted tree number items json w (document_below tree inner (index number) json f (index_demanded tree number below_end) d) n

pub counted_null :
    (tree : Tree Row) (number : ℕ) (items : Items) → IsCounted tree number items → step_into tree (index number) ≡ None → IsCounted tree (number + 1) (with_item items null)
counted_null tree number items w f = counted tree number items null w (λ z. document_free tree (index number) null f refl) refl

pub counted_in :
    (tree inner : Tree Row) (number : ℕ) (values after : List Value) (value made : Value) → IsCounted tree number (items_view values) → after ≡ values ++ value ∷ [] → value ≡ made
    → step_into tree (index number) ≡ Some inner → number < least_at (row_of tree) → (IsClear (Told inner) → IsShape IsPicked (Told inner) (view made))
    → has_float (view made) ≡ false → IsCounted tree (number + 1) (items_view after)
counted_in tree inner number values after value made w a s f below_end d n =
    subst (IsCounted tree (number + 1)) (sym (ap items_view a ∙ view_more values value ∙ ap (λ v. with_item (items_view values) (view v)) s))
    (counted_next tree inner number (items_view values) (view made) w f below_end d n)

pub counted_free :
    (tree : Tree Row) (number : ℕ) (values after : List Value) (value : Value) → IsCounted tree number (items_view values) → after ≡ values ++ value ∷ []
    → step_into tree (index number) ≡ None → value ≡ Null → IsCounted tree (number + 1) (items_view after)
counted_free tree number values after value w a f v =
    subst (IsCounted tree (number + 1)) (sym (ap items_view a ∙ view_more values value ∙ ap (with_item (items_view values)) (ap view v ∙ view-Null)))
    (counted_null tree number (items_view values) w f)
