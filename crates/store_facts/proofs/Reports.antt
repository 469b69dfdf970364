-- What is demanded of small tables, and their conflicts, gaps and exports.
use Rattle.std.proofs.Common.{◌≡◌, ◌⊎◌, inl, inr, ◌++◌, ℕ, ℤ, pos, negsuc, Bool, List, [], ◌∷◌, true, false, ◌||◌, Option, Some, None, refl, sym, ap, ◌∙◌, subst, zero, suc, arith, lit<}
use Rattle.std.specs.Prelude.{codes, IsTrue, ◌<ℤ◌, Vec}
use Rattle.std.specs.Global.{Global}
use Rattle.std.specs.Fmt.{digits}
use Rattle.std.proofs.lemmas.Bool.{false≢true}
use Rattle.std.proofs.lemmas.Int.{ints}
use Rattle.cue_lattice.specs.declared.scalar.Scalar.{Scalar}
use Rattle.cue_lattice.specs.declared.scalar.Scalar.TheVariants as scalars
use Rattle.cue_lattice.specs.Path.{Path, label, index}
use Rattle.cue_lattice.specs.OneOf.{OneOf}
use Rattle.cue_lattice.specs.Scalar.{IsScalar}
use Rattle.cue_lattice.specs.Question.{Refusals, may_be, allows, level_at_most}
use Rattle.cue_sets.specs.PieceLaws.{is_within-below, is_within-above}
use Rattle.cue_scalars.specs.declared.scalar_set.ScalarSet.{ScalarSet}
use Rattle.cue_scalars.specs.Scalars.{RefusesScalar, IsScalarBefore}
use Rattle.cue_row.specs.declared.level.Level.TheVariants.{Optional, Required, Given}
use Rattle.cue_row.specs.declared.parts.RowParts.{RowParts as Row}
use Rattle.cue_row.specs.LabelSets.{allows_label}
use Rattle.cue_row.specs.Made.{empty_set, free_row, scalar_row, struct_row, list_row, nothing_row}
use Rattle.cue_row.specs.Row.{RowRefusesQuestion}
use Rattle.cue_table.specs.Tree.{node, none, child, no_rest, row_at}
use Rattle.cue_table.specs.Refuses.{TableRefuses}
use Rattle.cue_table.specs.Refuses as tables
use Rattle.json.specs.Print.{escape_byte}
use Rattle.serde_json.specs.Data as json
use Rattle.serde_json.specs.Find.{of_integer}
use Rattle.cue_report.specs.declared.outcome.ExportKind.TheVariants as kinds
use Rattle.cue_report.specs.declared.outcome.Export.TheVariants.{Conflicts, Incomplete}
use Rattle.cue_report.specs.Answers.{IsDemanded, HasNoScalar, HasNoValue, IsNotAllowed, HasNoLength, IsStepDemanded}
use Rattle.cue_report.specs.declared.conflict.Conflict.{Conflict}
use Rattle.cue_report.specs.declared.gap.Gap.{Gap}
use Rattle.cue_report.specs.Gaps.{MayScalarStand, IsMissing, IsUsual, IsChosenScalar, IsFreeRow, HasNoChoice, IsReportGap, AreGaps}
use Rattle.cue_report.specs.Listing.{Lists, IsConflict, AreConflicts}
use Rattle.cue_report.specs.Picks.{IsFirstPick, IsPicked}
use Rattle.cue_report.specs.Export.{IsShape, AreKeys, IsLeastLength}
use Rattle.cue_report.specs.ExportText.{IsExportOf, WritesExport}
use Rattle.cue_report.specs.Lines.{WritesConflicts, WritesGaps, WritesConflictsPrefix}
use Rattle.cue_device.specs.Texts.{WritesPrefix}
use Rattle.cue_report.specs.Documents.{json_of, SomeMeets, IsDocumentOf, IsExactExport}
use Rattle.cue_report.specs.OneReport.{IsSameExport}
use Rattle.store_facts.proofs.Base.{a, b, number, in_range, other}
use Rattle.store_facts.proofs.Rows.{just, one, the_full_set_refuses_no_scalar}
use Rattle.store_facts.proofs.Tables.{leaf, root, file, where_rows_stand}
use Rattle.store_facts.proofs.Documents.{refused_by, wanted, a_is, a_is_utf8, a_is_one_meets_it}

-- ---- lists in the order of paths
abbrev these : Path → Type 0
these path = (path ≡ []) ⊎ (path ≡ label a ∷ [])

each_once_in_order : Lists (λ path. path) these ([] ∷ (label a ∷ []) ∷ [])
each_once_in_order = record {
  sound = (inl refl, (inr refl, tt));
  complete = among;
  rising = ((refl, tt), (tt, tt));
} where
  among : (path : Path) → these path → OneOf (λ y. y ≡ path) ([] ∷ (label a ∷ []) ∷ [])
  among path (inl e) = inl (sym e)
  among path (inr e) = inr (inl (sym e))

another_order_is_none : Lists (λ path. path) these ((label a ∷ []) ∷ [] ∷ []) → ⊥
another_order_is_none h = let e = h.rising.0.0 in cc

nor_is_one_that_lacks : Lists (λ path. path) these ([] ∷ []) → ⊥
nor_is_one_that_lacks h = by (h.complete (label a ∷ []) (inr refl)) where
  by : OneOf (λ y. y ≡ label a ∷ []) ([] ∷ []) → ⊥
  by (inl e) = cc
  by (inr h) = h

nor_is_one_that_has_more : Lists (λ path. path) these ([] ∷ (label a ∷ []) ∷ (label b ∷ []) ∷ []) → ⊥
nor_is_one_that_has_more h = by h.sound.1.1.0 where
  by : these (label b ∷ []) → ⊥
  by (inl e) = cc
  by (inr e) = other b a refl (ap (λ path. first path) e) where
    first : Path → List ℕ
    first [] = []
    first (label l ∷ path) = l
    first (index n ∷ path) = []

-- ---- what is demanded of a: 1 and of a?: 1
the_root_is_demanded : IsDemanded (refused_by one) []
the_root_is_demanded [] after step e = cc
the_root_is_demanded (x ∷ before) after step e = cc

pub a_is_demanded : (row : Row) → refused_by row (label a ∷ []) (level_at_most 0) → IsDemanded (refused_by row) (label a ∷ [])
a_is_demanded row h [] after step e =
    let same : label a ≡ step = cc in subst (IsStepDemanded (refused_by row) []) same h
a_is_demanded row h (x ∷ []) after step e = cc
a_is_demanded row h (x ∷ y ∷ before) after step e = cc

an_optional_field_is_not : IsDemanded (refused_by (scalar_row Optional (just 1) (just 1))) (label a ∷ []) → ⊥
an_optional_field_is_not h = let d = h [] [] (label a) refl in omega (arith, d)

what_nobody_speaks_of_is_not : IsDemanded (refused_by one) (label b ∷ []) → ⊥
what_nobody_speaks_of_is_not h = h [] [] (label b) refl

-- no more than the root and a is demanded of a scalar at a
no_more : (row : Row) → row.least ≡ 0 → (path : Path) → IsDemanded (refused_by row) path → (path ≡ []) ⊎ (path ≡ label a ∷ [])
no_more row e [] h = inl refl
no_more row e (index n ∷ path) h = let d = h [] path (index n) refl in absurd (omega (arith, d))
no_more row e (label l ∷ path) h = by path (wanted row l 0 (h [] path (label l) refl)) h where
  at : (p : Path) → IsDemanded (refused_by row) (label a ∷ p) → (label a ∷ p ≡ []) ⊎ (label a ∷ p ≡ label a ∷ [])
  at [] d = inr refl
  at (label m ∷ p) d = absurd (d (label a ∷ []) p (label m) refl)
  at (index n ∷ p) d = let s = d (label a ∷ []) p (index n) refl in absurd (omega (arith, s, e))

  by : (p : Path) → l ≡ a → IsDemanded (refused_by row) (label l ∷ p) → (label l ∷ p ≡ []) ⊎ (label l ∷ p ≡ label a ∷ [])
  by p same d =
      subst (λ k. (label k ∷ p ≡ []) ⊎ (label k ∷ p ≡ label a ∷ [])) (sym same)
      (at p (subst (λ k. IsDemanded (refused_by row) (label k ∷ p)) same d))

-- ---- where no value may stand
abbrev nothing : Row
nothing = nothing_row Given None 0 None

nothing_may_stand : HasNoValue (refused_by nothing) (label a ∷ [])
nothing_may_stand = inl (none, refl, refl) where
  none : (x : Scalar) → IsScalar x → refused_by nothing (label a ∷ []) (may_be x)
  none scalars.Null s = refl
  none (scalars.Bool false) s = refl
  none (scalars.Bool true) s = refl
  none (scalars.Int n) s = (s, refl)
  none (scalars.Text t) s = refl

one_may_stand : HasNoValue (refused_by one) (label a ∷ []) → ⊥
one_may_stand (inl h) = let r = h.0 (number 1) (in_range 1 (lit< tt)) in false≢true (sym r.1)
one_may_stand (inr h) = h.0 refl

a_struct_may_stand : (row : Row) → HasNoValue (refused_by row) [] → ⊥
a_struct_may_stand row (inl h) = false≢true (sym h.1)
a_struct_may_stand row (inr h) = h.0 refl

-- [_, _] & [_]
no_length_fits : HasNoValue (refused_by (list_row Given 2 (Some 1))) (label a ∷ [])
no_length_fits = inr ((λ h. false≢true (sym h)), fits) where
  fits : HasNoLength (refused_by (list_row Given 2 (Some 1))) (label a ∷ [])
  fits zero = inl (lit< tt)
  fits (suc zero) = inl (lit< tt)
  fits (suc (suc n)) = inr (omega arith)

-- ---- labels that are left out
abbrev closed_at_a : Refusals
closed_at_a = TableRefuses RowRefusesQuestion (file (node (Some (struct_row Given (Some (a ∷ [])))) (child (label b) (leaf one) none) no_rest))

another_label_is_not_allowed : IsNotAllowed closed_at_a (label a ∷ label b ∷ [])
another_label_is_not_allowed = (label a ∷ [], b, refl, refl)

every_label_is_below_an_open_struct : (row : Row) → row.labels ≡ None → (path : Path) → IsNotAllowed (refused_by row) path → ⊥
every_label_is_below_an_open_struct row open_ path (above, l, e, r) = by (row_at (file (leaf row)) above) refl r where
  labels_of : (found : Row) → ((above ≡ []) × (found ≡ root)) ⊎ ((above ≡ label a ∷ []) × (found ≡ row)) → found.labels ≡ None
  labels_of found (inl (p, f)) = ap (λ x. x.labels) f
  labels_of found (inr (p, f)) = ap (λ x. x.labels) f ∙ open_

  by : (found : Option Row) → row_at (file (leaf row)) above ≡ found → tables.RowRefuses RowRefusesQuestion found (allows l) → ⊥
  by None f h = h
  by (Some found) f h =
      let all = labels_of found (where_rows_stand row above found f) in
      false≢true (sym h ∙ ap (λ x. allows_label x l) all)

-- ---- conflicts
a_conflict_without_a_value : IsConflict (refused_by nothing) (record { path = label a ∷ []; no_value = true; not_allowed = false })
a_conflict_without_a_value = record {
  demanded = a_is_demanded nothing (lit< tt);
  no_value = ((λ h. nothing_may_stand), (λ h. refl));
  not_allowed = ((λ h. absurd (false≢true h)), (λ h. absurd (every_label_is_below_an_open_struct nothing refl _ h)));
  cause = refl;
}

the_other_cause_is_told_wrongly : IsConflict (refused_by nothing) (record { path = label a ∷ []; no_value = false; not_allowed = true }) → ⊥
the_other_cause_is_told_wrongly h = every_label_is_below_an_open_struct nothing refl _ (h.not_allowed.0 refl)

without_a_cause_it_is_none : IsConflict (refused_by one) (record { path = label a ∷ []; no_value = false; not_allowed = false }) → ⊥
without_a_cause_it_is_none h = false≢true h.cause

-- a?: _|_
an_optional_field_is_no_conflict : IsConflict (refused_by (record nothing { level = Optional })) (record { path = label a ∷ []; no_value = true; not_allowed = false }) → ⊥
an_optional_field_is_no_conflict h = let d = h.demanded [] [] (label a) refl in omega (arith, d)

neither : (p q : Bool) → (IsTrue p → ⊥) → (IsTrue q → ⊥) → IsTrue (p || q) → ⊥
neither true q f g h = f refl
neither false q f g h = g h

pub a_is_one_has_no_conflict : AreConflicts (refused_by one) []
a_is_one_has_no_conflict = record { sound = tt; complete = none; rising = tt } where
  value : (path : Path) → (path ≡ []) ⊎ (path ≡ label a ∷ []) → HasNoValue (refused_by one) path → ⊥
  value path (inl e) h = a_struct_may_stand one (subst (HasNoValue (refused_by one)) e h)
  value path (inr e) h = one_may_stand (subst (HasNoValue (refused_by one)) e h)

  none : (x : Conflict) → IsConflict (refused_by one) x → OneOf (λ y. y ≡ x) []
  none x h =
      absurd
      (neither x.no_value x.not_allowed (λ t. value x.path (no_more one refl x.path h.demanded) (h.no_value.0 t))
      (λ t. every_label_is_below_an_open_struct one refl x.path (h.not_allowed.0 t)) h.cause)

no_conflict_is_not_all_of_them : AreConflicts (refused_by nothing) [] → ⊥
no_conflict_is_not_all_of_them h = h.complete _ a_conflict_without_a_value

-- ---- the chosen scalar
-- what refuses at each path what a row does
abbrev of_row : Row → Refusals
of_row row path = RowRefusesQuestion row

abbrev one_or_two : ScalarSet
one_or_two = record (just 1) { ints = (pos 1, pos 2) ∷ [] }

only_integer : (n : ℤ) → (n <ℤ pos 1 → ⊥) → (pos 1 <ℤ n → ⊥) → n ≡ pos 1
only_integer (pos zero) below above = absurd (below (omega (arith, ints)))
only_integer (pos (suc zero)) below above = refl
only_integer (pos (suc (suc n))) below above = absurd (above (omega (arith, ints)))
only_integer (negsuc n) below above = absurd (below (omega (arith, ints)))

only_one : (x : Scalar) → IsScalar x → (RefusesScalar (just 1) x → ⊥) → x ≡ number 1
only_one scalars.Null s h = absurd (h refl)
only_one (scalars.Bool false) s h = absurd (h refl)
only_one (scalars.Bool true) s h = absurd (h refl)
only_one (scalars.Text t) s h = absurd (h refl)
only_one (scalars.Int n) s h =
    let below : n <ℤ pos 1 → ⊥ = λ l. h (s, ap (λ m. m || false) (is_within-below (pos 1, pos 1) n l)) in
    let above : pos 1 <ℤ n → ⊥ = λ l. h (s, ap (λ m. m || false) (is_within-above (pos 1, pos 1) n l)) in
    ap scalars.Int (only_integer n below above)

pub one_is_chosen : (row : Row) → row.usual ≡ just 1 → IsChosenScalar (of_row row) [] (number 1)
one_is_chosen row e = inl ((in_range 1 (lit< tt), λ h. may (subst (λ set. RefusesScalar set (number 1)) e h)), only) where
  may : RefusesScalar (just 1) (number 1) → ⊥
  may h = false≢true (sym h.1)

  only : (x : Scalar) → IsUsual (of_row row) [] x → x ≡ number 1
  only x u = only_one x u.0 (λ h. u.1 (subst (λ set. RefusesScalar set x) (sym e) h))

-- *1 | 2
the_default_is_chosen : IsChosenScalar (of_row (scalar_row Given one_or_two (just 1))) [] (number 1)
the_default_is_chosen = one_is_chosen (scalar_row Given one_or_two (just 1)) refl

the_other_is_not : IsChosenScalar (of_row (scalar_row Given one_or_two (just 1))) [] (number 2) → ⊥
the_other_is_not (inl h) = h.0.1 (in_range 2 (lit< tt), refl)
the_other_is_not (inr h) = h.0 (number 1) (in_range 1 (lit< tt), λ r. false≢true (sym r.1))

of_two_without_a_default_none_is : IsChosenScalar (of_row (scalar_row Given one_or_two one_or_two)) [] (number 1) → ⊥
of_two_without_a_default_none_is (inl h) =
    let e = h.1 (number 2) (in_range 2 (lit< tt), λ r. false≢true (sym r.1)) in cc
of_two_without_a_default_none_is (inr h) = h.0 (number 1) (in_range 1 (lit< tt), λ r. false≢true (sym r.1))

-- *_|_ | 1: the only one that may stand
without_a_usual_one_the_only_one_is : IsChosenScalar (of_row (scalar_row Given (just 1) empty_set)) [] (number 1)
without_a_usual_one_the_only_one_is = inr (none, ((in_range 1 (lit< tt), λ r. false≢true (sym r.1)), λ x h. only_one x h.0 h.1)) where
  none : (x : Scalar) → IsUsual (of_row (scalar_row Given (just 1) empty_set)) [] x → ⊥
  none scalars.Null h = h.1 refl
  none (scalars.Bool false) h = h.1 refl
  none (scalars.Bool true) h = h.1 refl
  none (scalars.Text t) h = h.1 refl
  none (scalars.Int n) h = h.1 (h.0, refl)

null_is_the_first : IsFirstPick (of_row (free_row Given)) [] scalars.Null
null_is_the_first = ((tt, λ h. false≢true (sym h)), none) where
  none : (x : Scalar) → MayScalarStand (of_row (free_row Given)) [] x → IsScalarBefore x scalars.Null → ⊥
  none scalars.Null m h = omega (arith, h)
  none (scalars.Bool false) m h = omega (arith, h)
  none (scalars.Bool true) m h = omega (arith, h)
  none (scalars.Int n) m h = omega (arith, h)
  none (scalars.Text t) m h = omega (arith, h)

the_greater_one_is_not : IsFirstPick (of_row (scalar_row Given one_or_two one_or_two)) [] (number 2) → ⊥
the_greater_one_is_not h = h.1 (number 1) (in_range 1 (lit< tt), λ r. false≢true (sym r.1)) (omega (arith, ints))

the_chosen_one_is_picked : IsPicked (of_row one) [] (number 1)
the_chosen_one_is_picked = inl (one_is_chosen one refl)

no_other_is : IsPicked (of_row (scalar_row Given one_or_two (just 1))) [] (number 2) → ⊥
no_other_is (inl h) = the_other_is_not h
no_other_is (inr h) = h.0 (number 1) the_default_is_chosen

-- ---- gaps
-- a!: 1
what_nobody_gives_is_missing : IsMissing (refused_by (scalar_row Required (just 1) (just 1))) (label a ∷ [])
what_nobody_gives_is_missing = (lit< tt, λ h. omega (arith, h))

what_is_given_is_not : IsMissing (refused_by one) (label a ∷ []) → ⊥
what_is_given_is_not h = h.1 (lit< tt)

nor_is_what_is_optional : IsMissing (refused_by (scalar_row Optional (just 1) (just 1))) (label a ∷ []) → ⊥
nor_is_what_is_optional h = omega (arith, h.0)

one_of_a_row_may_stand : (row : Row) → (RefusesScalar row.value (number 1) → ⊥) → row.list_ok ≡ false → HasNoValue (refused_by row) (label a ∷ []) → ⊥
one_of_a_row_may_stand row may e (inl h) = may (h.0 (number 1) (in_range 1 (lit< tt)))
one_of_a_row_may_stand row may e (inr h) = h.0 e

a_missing_field_is_a_gap : IsReportGap (refused_by (scalar_row Required (just 1) (just 1))) (record { path = label a ∷ []; missing = true })
a_missing_field_is_a_gap = record {
  demanded = a_is_demanded (scalar_row Required (just 1) (just 1)) (lit< tt);
  has_value = one_of_a_row_may_stand (scalar_row Required (just 1) (just 1)) (λ r. false≢true (sym r.1)) refl;
  allowed = every_label_is_below_an_open_struct (scalar_row Required (just 1) (just 1)) refl _;
  missing = ((λ h. what_nobody_gives_is_missing), (λ h. refl));
  cause = inl what_nobody_gives_is_missing;
}

-- a: 1 | 2
two_without_a_default_are_a_gap : IsReportGap (refused_by (scalar_row Given one_or_two one_or_two)) (record { path = label a ∷ []; missing = false })
two_without_a_default_are_a_gap = record {
  demanded = a_is_demanded (scalar_row Given one_or_two one_or_two) (lit< tt);
  has_value = one_of_a_row_may_stand (scalar_row Given one_or_two one_or_two) (λ r. false≢true (sym r.1)) refl;
  allowed = every_label_is_below_an_open_struct (scalar_row Given one_or_two one_or_two) refl _;
  missing = ((λ h. absurd (false≢true h)), (λ h. absurd (h.1 (lit< tt))));
  cause = inr (inr (some, refl, refl, none));
} where
  some : HasNoScalar (refused_by (scalar_row Given one_or_two one_or_two)) (label a ∷ []) → ⊥
  some h = let r = h (number 1) (in_range 1 (lit< tt)) in false≢true (sym r.1)

  none : (x : Scalar) → IsChosenScalar (refused_by (scalar_row Given one_or_two one_or_two)) (label a ∷ []) x → ⊥
  none x (inl h) =
      let e = h.1 (number 1) (in_range 1 (lit< tt), λ r. false≢true (sym r.1)) in
      let f = h.1 (number 2) (in_range 2 (lit< tt), λ r. false≢true (sym r.1)) in cc
  none x (inr h) = h.0 (number 1) (in_range 1 (lit< tt), λ r. false≢true (sym r.1))

-- a: _
anything_is_a_gap : IsFreeRow (refused_by (free_row Given)) (label a ∷ [])
anything_is_a_gap = (the_full_set_refuses_no_scalar, (λ h. false≢true (sym h)), (λ h. false≢true (sym h)))

one_value_is_none : (gap : Gap) → IsReportGap (refused_by one) gap → ⊥
one_value_is_none gap h = by gap.path (no_more one refl gap.path h.demanded) h.cause where
  at_root : (IsMissing (refused_by one) [] ⊎ (IsFreeRow (refused_by one) [] ⊎ HasNoChoice (refused_by one) [])) → ⊥
  at_root (inl m) = omega (arith, m.0)
  at_root (inr (inl f)) = f.0 scalars.Null refl
  at_root (inr (inr n)) = false≢true (sym n.1)

  at_a : (IsMissing (refused_by one) (label a ∷ []) ⊎ (IsFreeRow (refused_by one) (label a ∷ []) ⊎ HasNoChoice (refused_by one) (label a ∷ []))) → ⊥
  at_a (inl m) = m.1 (lit< tt)
  at_a (inr (inl f)) = f.1 refl
  at_a (inr (inr n)) = n.3 (number 1) (one_is_chosen one refl)

  by : (path : Path) → (path ≡ []) ⊎ (path ≡ label a ∷ [])
      → (IsMissing (refused_by one) path ⊎ (IsFreeRow (refused_by one) path ⊎ HasNoChoice (refused_by one) path)) → ⊥
  by path (inl e) h = at_root (subst (λ p. IsMissing (refused_by one) p ⊎ (IsFreeRow (refused_by one) p ⊎ HasNoChoice (refused_by one) p)) e h)
  by path (inr e) h = at_a (subst (λ p. IsMissing (refused_by one) p ⊎ (IsFreeRow (refused_by one) p ⊎ HasNoChoice (refused_by one) p)) e h)

pub a_is_one_has_no_gap : AreGaps (refused_by one) []
a_is_one_has_no_gap = record { sound = tt; complete = λ gap h. absurd (one_value_is_none gap h); rising = tt }

-- ---- the export of a: 1
its_keys : AreKeys (refused_by one) (a ∷ [])
its_keys = record { sound = (lit< tt, tt); complete = λ l h. inl (sym (wanted one l 0 h)); rising = (tt, tt) }

pub its_shape : IsShape IsChosenScalar (refused_by one) (json_of (a_is 1))
its_shape = (
  (λ h. false≢true (sym h)),
  (λ free. free.0 scalars.Null refl),
  its_keys,
  (inr (record { no_struct = refl; no_list = refl; picked = (number 1, one_is_chosen one refl, refl) }), tt),
)

pub a_is_one_is_exported : IsExportOf (refused_by one) kinds.Json (codes "{\"a\":1}")
unfolding digits escape_byte
a_is_one_is_exported = (a_is_one_has_no_conflict, a_is_one_has_no_gap, (json_of (a_is 1), its_shape, refl))

it_is_written_behind_what_was : WritesExport (refused_by one) kinds.Json (Some a) (Some (codes "a{\"a\":1}"))
it_is_written_behind_what_was = (codes "{\"a\":1}", a_is_one_is_exported, refl)

no_lines_are_written_where_there_is_no_conflict : WritesConflicts (refused_by one) false (Some a) (Some a)
no_lines_are_written_where_there_is_no_conflict = ([], a_is_one_has_no_conflict, refl, refl)

nor_where_there_is_no_gap : WritesGaps (refused_by one) false (Some a) (Some a)
nor_where_there_is_no_gap = ([], a_is_one_has_no_gap, refl, refl)

and_no_front_of_any : WritesConflictsPrefix (refused_by one) (Some []) (Some a) → ⊥
and_no_front_of_any h = by (h [] a_is_one_has_no_conflict) where
  by : WritesPrefix (Some []) (Some a) [] → ⊥
  by begins = let e : [] ≡ a ++ begins.back = subst (λ front. [] ≡ front ++ begins.back) (sym begins.added) begins.whole in cc

some_document_meets_it : SomeMeets (refused_by one)
some_document_meets_it = (a_is 1, (a_is_utf8, tt, (in_range 1 (lit< tt), tt), tt), a_is_one_meets_it)

and_is_told : IsDocumentOf IsChosenScalar (refused_by one) (json_of (a_is 1))
and_is_told = record {
  document = a_is 1;
  is = (a_is_utf8, tt, (in_range 1 (lit< tt), tt), tt);
  meets = a_is_one_meets_it;
  json = refl;
  shape = its_shape;
}

no_exact_export_has_conflicts : (found : Vec Conflict Global) → IsExactExport (refused_by one) (Conflicts found) → ⊥
no_exact_export_has_conflicts found h = h some_document_meets_it

null_stands_where_anything_may : IsShape IsChosenScalar (of_row (free_row Given)) json.null
null_stands_where_anything_may = inl ((the_full_set_refuses_no_scalar, (λ h. false≢true (sym h)), (λ h. false≢true (sym h))), refl)

a_list_of_any_length_has_no_elements : IsShape IsChosenScalar (of_row (list_row Given 0 None)) (json.array json.no_items)
a_list_of_any_length_has_no_elements = (refl, (λ h. false≢true (sym h)), (λ n. ((λ h. h), (λ h. h))), tt)

it_has_no_conflict_lines : (text : List ℕ) → IsExportOf (refused_by one) kinds.Conflicts text → ⊥
it_has_no_conflict_lines text ([], some, are, e) = some refl
it_has_no_conflict_lines text (x ∷ xs, some, are, e) = a_is_one_has_no_conflict.complete x are.sound.0

an_object_in_json : json_of (a_is 1) ≡ json.object (json.member a (json.number (of_integer (pos 1))) json.no_members)
an_object_in_json = refl

a_list_has_its_least_length : IsLeastLength (of_row (list_row Given 2 None)) 2
a_list_has_its_least_length n = ((λ h. h), (λ h. h))

and_no_other : IsLeastLength (of_row (list_row Given 2 None)) 3 → ⊥
and_no_other h = omega (arith, (h 2).1 (lit< tt))

two_kinds_of_export_differ : (found : Vec Conflict Global) (gaps : Vec Gap Global) → IsSameExport (Conflicts found) (Incomplete gaps) → ⊥
two_kinds_of_export_differ found gaps h = h
