-- Small tables, and which of them are valid.
use Rattle.std.proofs.Common.{◌≡◌, ◌⊎◌, inl, inr, ℕ, zero, suc, [], ◌∷◌, ◌++◌, replicate, true, Some, None, refl, sym, ap, subst, arith, lit≤}
use Rattle.std.specs.Option.{option_and_then}
use Rattle.std.specs.List.{AllByRecursion}
use Rattle.std.specs.Str.{is_utf8, chars}
use Rattle.std.specs.declared.cmp.Ordering.{Ordering}
use Rattle.std.specs.declared.cmp.Ordering.TheVariants.{Less, Equal, Greater}
use lib.Utf8.{encode}
use Rattle.std.proofs.lemmas.Bool.{false≢true}
use Rattle.std.proofs.lemmas.Str.{IsUtf8-from_is_utf8, is_utf8-from_IsUtf8}
use Rattle.cue_lattice.specs.Path.{Path, Step, label, index}
use Rattle.cue_sets.specs.Texts.{text_cmp}
use Rattle.cue_sets.specs.TextLaws.{same_from_equal}
use Rattle.cue_row.specs.declared.level.Level.TheVariants.{Optional, Given}
use Rattle.cue_row.specs.declared.parts.RowParts.{RowParts as Row}
use Rattle.cue_row.specs.declared.question.Question.TheVariants as asks
use Rattle.cue_row.specs.Made.{free_row, struct_row, list_row}
use Rattle.cue_row.specs.Steps.{IsWithinDepth}
use Rattle.cue_row.specs.Row.{RefusesAsked, IsRow}
use Rattle.cue_row.specs.ValidRow.{IsValidRow, IsWordStep}
use Rattle.cue_table.specs.Tree.{Tree, node, none, child, no_rest, onward, row_of, if_equal, branch_at}
use Rattle.cue_table.specs.Form.{IsRowKept}
use Rattle.cue_table.specs.Valid.{IsPlaceThere, EachRow, MayHold, HasElements, HasOpenRoot, path_below, IsValidTable}
use Rattle.store_facts.proofs.Base.{a, b}
use Rattle.store_facts.proofs.Rows.{one, sets_are_in_their_one_form, one_is_valid, an_open_struct_is_valid, an_optional_free_row_is_not, no_scalar_is_in_the_empty_set, one_integer_is_no_empty_set}

abbrev pub leaf : Row → Tree Row
leaf row = node (Some row) none no_rest

-- an open struct at the root
abbrev pub root : Row
root = struct_row Optional None

-- a file of one field
abbrev pub file : Tree Row → Tree Row
file value = node (Some root) (child (label a) value none) no_rest

-- a: 1
abbrev pub a_is_one : Tree Row
a_is_one = file (leaf one)

-- ---- the rows of a file of one field stand at the root and at a
pub where_rows_stand : (row : Row) (path : Path) (found : Row) → IsPlaceThere (file (leaf row)) path found
    → ((path ≡ []) × (found ≡ root)) ⊎ ((path ≡ label a ∷ []) × (found ≡ row))
where_rows_stand row [] found h = inl (refl, cc)
where_rows_stand row (index n ∷ path) found h = cc
where_rows_stand row (label l ∷ path) found h = by (text_cmp l a) refl path h where
  by : (o : Ordering) → text_cmp l a ≡ o → (p : Path)
      → option_and_then row_of (option_and_then (λ t. branch_at t p) (if_equal o (leaf row) None)) ≡ Some found
      → ((label l ∷ p ≡ []) × (found ≡ root)) ⊎ ((label l ∷ p ≡ label a ∷ []) × (found ≡ row))
  by Less e p h = cc
  by Greater e p h = cc
  by Equal e [] h = inr (ap (λ k. label k ∷ []) (same_from_equal l a e), cc)
  by Equal e (step ∷ p) h = cc

each : (P : Path → Row → Type 0) → P [] root → P (label a ∷ []) one → EachRow P a_is_one
each P at_root at_a path found h = by (where_rows_stand one path found h) where
  by : ((path ≡ []) × (found ≡ root)) ⊎ ((path ≡ label a ∷ []) × (found ≡ one)) → P path found
  by (inl (p, f)) = subst (λ x. P x found) (sym p) (subst (P []) (sym f) at_root)
  by (inr (p, f)) = subst (λ x. P x found) (sym p) (subst (P (label a ∷ [])) (sym f) at_a)

-- a path of one step or none
pub one_step : (path : Path) (step last : Step) → path ++ step ∷ [] ≡ last ∷ [] → (path ≡ []) × (step ≡ last)
one_step [] step last e = (refl, cc)
one_step (x ∷ []) step last e = cc
one_step (x ∷ y ∷ path) step last e = cc

pub no_step : (path : Path) (step : Step) → path ++ step ∷ [] ≡ [] → ⊥
no_step [] step e = cc
no_step (x ∷ path) step e = cc

-- the only row below another one
below_the_root : (path : Path) (step : Step) (found : Row) → IsPlaceThere a_is_one (path_below path step) found
    → (path ≡ []) × (step ≡ label a) × (found ≡ one)
below_the_root path step found h = by (where_rows_stand one (path_below path step) found h) where
  by : ((path_below path step ≡ []) × (found ≡ root)) ⊎ ((path_below path step ≡ label a ∷ []) × (found ≡ one))
      → (path ≡ []) × (step ≡ label a) × (found ≡ one)
  by (inl (p, f)) = absurd (no_step path step p)
  by (inr (p, f)) = let s = one_step path step (label a) p in (s.0, s.1, f)

a_is_a_word : IsWordStep (label a)
unfolding is_utf8 chars encode
a_is_a_word = record { utf8 = IsUtf8-from_is_utf8 a refl; short = lit≤ tt }

no_index : (n : ℕ) → index n ≡ label a → ⊥
no_index n e = cc

-- both rows are kept
root_is_kept : IsRowKept RefusesAsked IsRow root
root_is_kept = (record { value = record { ints = tt; texts = tt }; usual = record { ints = tt; texts = tt }; labels = tt }, λ free. free asks.List refl)

one_is_kept : IsRowKept RefusesAsked IsRow one
one_is_kept = (sets_are_in_their_one_form, λ free. free asks.Struct refl)

may_hold : (path : Path) (step : Step) (parent found : Row) → IsPlaceThere a_is_one path parent → IsPlaceThere a_is_one (path_below path step) found
    → MayHold parent step
may_hold path step parent found p h = by (below_the_root path step found h) where
  by : (path ≡ []) × (step ≡ label a) × (found ≡ one) → MayHold parent step
  by (e, s, f) =
      let above : IsPlaceThere a_is_one [] parent = subst (λ x. IsPlaceThere a_is_one x parent) e p in
      let is : root ≡ parent = cc in
      subst (MayHold parent) (sym s) (subst (λ x. MayHold x (label a)) is (inl (no_scalar_is_in_the_empty_set, refl, refl)))

alike : HasElements a_is_one
alike path found i j h _ _ = by (where_rows_stand one path found h) where
  by : ((path ≡ []) × (found ≡ root)) ⊎ ((path ≡ label a ∷ []) × (found ≡ one))
      → branch_at a_is_one (path_below path (index i)) ≡ branch_at a_is_one (path_below path (index j))
  by (inl (p, f)) = subst (λ x. branch_at a_is_one (path_below x (index i)) ≡ branch_at a_is_one (path_below x (index j))) (sym p) refl
  by (inr (p, f)) = subst (λ x. branch_at a_is_one (path_below x (index i)) ≡ branch_at a_is_one (path_below x (index j))) (sym p) refl

pub a_is_one_is_valid : IsValidTable a_is_one
a_is_one_is_valid = record {
  form = (root_is_kept, (tt, tt, (one_is_kept, tt, tt), tt), tt);
  rows = each (λ path row. IsValidRow row) (an_open_struct_is_valid Optional) one_is_valid;
  paths = each (λ path row. IsWithinDepth path) (lit≤ tt) (lit≤ tt);
  labels = each (λ path row. AllByRecursion IsWordStep path) tt (a_is_a_word, tt);
  root = inr (root, refl, ((no_scalar_is_in_the_empty_set, refl, refl), refl));
  root_level = λ found h. let e : root ≡ found = cc in subst (λ x. x.level ≡ Optional) e refl;
  element_levels = λ path n found h. absurd (no_index n (below_the_root path (index n) found h).1);
  parents = λ path step found h.
      (root, subst (λ p. IsPlaceThere a_is_one p root) (sym (below_the_root path step found h).0) refl);
  kinds = may_hold;
  elements = alike;
}

-- ---- tables that are not valid
-- a scalar at the root
a_scalar_at_the_root_is_not_valid : IsValidTable (leaf one) → ⊥
a_scalar_at_the_root_is_not_valid h = by h.root where
  by : HasOpenRoot (leaf one) → ⊥
  by (inl e) = cc
  by (inr (row, stands, opens)) = false≢true (subst (λ x. x.struct_ok ≡ true) (same row stands) opens.0.1) where
    same : (row : Row) → IsPlaceThere (leaf one) [] row → row ≡ one
    same row e = cc

nor_is_a_closed_root : IsValidTable (leaf (struct_row Optional (Some (a ∷ [])))) → ⊥
nor_is_a_closed_root h = by h.root where
  by : HasOpenRoot (leaf (struct_row Optional (Some (a ∷ [])))) → ⊥
  by (inl e) = cc
  by (inr (row, stands, opens)) = let labels = opens.1 in cc

nor_is_a_root_that_is_given : IsValidTable (leaf (struct_row Given None)) → ⊥
nor_is_a_root_that_is_given h = let e = h.root_level (struct_row Given None) refl in cc

nor_is_a_free_row : IsValidTable (file (leaf (free_row Optional))) → ⊥
nor_is_a_free_row h = an_optional_free_row_is_not (h.rows (label a ∷ []) (free_row Optional) refl)

nor_is_a_branch_without_rows : IsValidTable (file (node None none no_rest)) → ⊥
nor_is_a_branch_without_rows h = h.form.1.1

-- a list of two elements or more
abbrev two_or_more : Row
two_or_more = list_row Given 2 None

nor_is_a_field_below_a_list : IsValidTable (file (node (Some two_or_more) (child (label b) (leaf one) none) no_rest)) → ⊥
nor_is_a_field_below_a_list h = by (h.kinds (label a ∷ []) (label b) two_or_more one refl refl) where
  by : MayHold two_or_more (label b) → ⊥
  by (inl is) = false≢true is.1
  by (inr is) = false≢true (sym is.2)

nor_is_an_element_below_a_struct : IsValidTable (node (Some root) (child (index 0) (leaf (struct_row Optional None)) none) no_rest) → ⊥
nor_is_an_element_below_a_struct h = by (h.kinds [] (index 0) root (struct_row Optional None) refl refl) where
  by : MayHold root (index 0) → ⊥
  by (inl is) = false≢true (sym is.1)
  by (inr is) = false≢true (sym is.1)

nor_is_anything_below_a_scalar : IsValidTable (file (node (Some one) (child (label b) (leaf one) none) no_rest)) → ⊥
nor_is_anything_below_a_scalar h = by (h.kinds (label a ∷ []) (label b) one one refl refl) where
  by : MayHold one (label b) → ⊥
  by (inl is) = false≢true is.1
  by (inr is) = one_integer_is_no_empty_set 1 refl is.0

-- an element has level 0
nor_is_a_given_element : IsValidTable (file (node (Some two_or_more) (child (index 0) (leaf one) none) no_rest)) → ⊥
nor_is_a_given_element h = let e = h.element_levels (label a ∷ []) 0 one refl in cc

-- an element of its own at the least length
nor_is_an_element_behind_the_least_length : IsValidTable (file (node (Some two_or_more) (child (index 2) (leaf (struct_row Optional None)) none) no_rest)) → ⊥
nor_is_an_element_behind_the_least_length h =
    let e = h.elements (label a ∷ []) two_or_more 2 3 refl (lit≤ tt) (lit≤ tt) in cc

-- a rest that begins behind the least length
nor_is_a_rest_behind_it : IsValidTable (file (node (Some two_or_more) none (onward 3 (leaf (struct_row Optional None))))) → ⊥
nor_is_a_rest_behind_it h = let e = h.elements (label a ∷ []) two_or_more 2 3 refl (lit≤ tt) (lit≤ tt) in cc

nor_is_a_row_without_one_above : IsValidTable (file (node None (child (label b) (leaf one) none) no_rest)) → ⊥
nor_is_a_row_without_one_above h = by (h.parents (label a ∷ []) (label b) one refl) where
  by : (parent : Row) × IsPlaceThere (file (node None (child (label b) (leaf one) none) no_rest)) (label a ∷ []) parent → ⊥
  by (parent, e) = cc

-- a struct in a struct, so often
deep : ℕ → Tree Row
deep zero = leaf root
deep (suc n) = node (Some root) (child (label a) (deep n) none) no_rest

nor_is_a_path_of_65_steps : IsValidTable (deep 65) → ⊥
unfolding deep
nor_is_a_path_of_65_steps h = omega (arith, h.paths (replicate 65 (label a)) root refl)

nor_is_a_label_that_is_no_text : IsValidTable (node (Some root) (child (label (0xc3 ∷ [])) (leaf one) none) no_rest) → ⊥
unfolding is_utf8 chars encode
nor_is_a_label_that_is_no_text h =
    false≢true (is_utf8-from_IsUtf8 (0xc3 ∷ []) (h.labels (label (0xc3 ∷ []) ∷ []) one refl).0.utf8)
