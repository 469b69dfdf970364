-- What is reported at a demanded path, by the row at its end.
use Rattle.std.proofs.Common.{◌≡◌, ◌↔◌, ◌⊎◌, inl, inr, ⊎_elim, ℕ, ◌<◌, Bool, true, false, ◌||◌, [], Some, refl, sym, subst, ◌∙◌, arith}
use Rattle.std.specs.Prelude.{IsTrue}
use Rattle.std.proofs.lemmas.Bool.{false≢true}
use Rattle.cue_lattice.specs.declared.scalar.Scalar.{Scalar}
use Rattle.cue_lattice.specs.Path.{Path}
use Rattle.cue_lattice.specs.Question.{Question, Refusals, may_be, usual, struct, list, level_at_most, length_at_most, length_at_least}
use Rattle.cue_row.specs.Levels.{level_of}
use Rattle.cue_row.specs.Row.{IsRow, RowRefusesQuestion}
use Rattle.cue_row.specs.declared.level.Level.{Level}
use Rattle.cue_row.specs.declared.level.Level.TheVariants.{Optional, Required, Given}
use Rattle.cue_row.specs.declared.parts.RowParts.{RowParts as Row}
use Rattle.cue_report.specs.Answers.{IsDemanded, HasNoValue, IsNotAllowed}
use Rattle.cue_report.specs.Gaps.{IsMissing, MayScalarStand, IsUsual, IsChosenScalar, IsFreeRow, HasNoChoice, IsReportGap}
use Rattle.cue_report.specs.Listing.{IsConflict}
use Rattle.cue_report.specs.Inner.GapSearch.{AtPlace, IsOpenAt}
use Rattle.cue_report.specs.Inner.Search.{lacks_value}
use Rattle.cue_report.proofs.Rows.{no_value_is}
use Rattle.cue_why.specs.Finding.{HasNoDefault, IsWithoutFinding}
use Rattle.cue_why.specs.Reported.{IsReported}
use Rattle.cue_why.specs.Inner.Findings.{IsReportedAs, IsGapOf, IsConflictOf, HasGap}
use Rattle.cue_why.specs.declared.finding.Finding.{Finding}

-- ---- the same at two paths
module _ (a b : Refusals) (p q : Path) (to : (question : Question) → a p question → b q question) (from : (question : Question) → b q question → a p question) where
  pub no_value_as : HasNoValue a p → HasNoValue b q
  no_value_as h = ⊎_elim
      (λ all. inl ((λ scalar is. to (may_be scalar) (all.0 scalar is)), to struct all.1, to list all.2))
      (λ none. inr ((λ r. none.0 (from list r)), λ n. ⊎_elim (λ x. inl (to (length_at_most n) x)) (λ y. inr (to (length_at_least n) y)) (none.1 n)))
      h

  pub free_as : IsFreeRow a p → IsFreeRow b q
  free_as h = ((λ scalar r. h.0 scalar (from (may_be scalar) r)), (λ r. h.1 (from struct r)), λ r. h.2 (from list r))

  usual_as : (scalar : Scalar) → IsUsual a p scalar → IsUsual b q scalar
  usual_as scalar h = (h.0, λ r. h.1 (from (usual scalar) r))

  usual_back : (scalar : Scalar) → IsUsual b q scalar → IsUsual a p scalar
  usual_back scalar h = (h.0, λ r. h.1 (to (usual scalar) r))

  stand_as : (scalar : Scalar) → MayScalarStand a p scalar → MayScalarStand b q scalar
  stand_as scalar h = (h.0, λ r. h.1 (from (may_be scalar) r))

  stand_back : (scalar : Scalar) → MayScalarStand b q scalar → MayScalarStand a p scalar
  stand_back scalar h = (h.0, λ r. h.1 (to (may_be scalar) r))

  chosen_back : (scalar : Scalar) → IsChosenScalar b q scalar → IsChosenScalar a p scalar
  chosen_back scalar h = ⊎_elim
      (λ one. inl (usual_back scalar one.0, λ other u. one.1 other (usual_as other u)))
      (λ one. inr ((λ other u. one.0 other (usual_as other u)), (stand_back scalar one.1.0, λ other m. one.1.1 other (stand_as other m))))
      h

  pub no_choice_as : HasNoChoice a p → HasNoChoice b q
  no_choice_as h = ((λ none. h.0 (λ scalar is. from (may_be scalar) (none scalar is))), to struct h.1, to list h.2, λ scalar c. h.3 scalar (chosen_back scalar c))

-- ---- levels
missing_level : (level : Level) → (0 < level_of level) × (1 < level_of level → ⊥) → level ≡ Required
missing_level Optional h = let low : 0 < 0 = h.0 in absurd (omega arith)
missing_level Required h = refl
missing_level Given h = absurd (h.1 (omega arith))

level_missing : (level : Level) → level ≡ Required → (0 < level_of level) × (1 < level_of level → ⊥)
level_missing Optional e = cc
level_missing Required e = (omega arith, λ h. let no : ⊥ = omega arith in no)
level_missing Given e = cc

is_required : Level → Bool
is_required Optional = false
is_required Required = true
is_required Given = false

required_is : (level : Level) → IsTrue (is_required level) ↔ (level ≡ Required)
unfolding is_required
required_is Optional = (λ t. absurd (false≢true t), λ e. cc)
required_is Required = (λ t. refl, λ e. refl)
required_is Given = (λ t. absurd (false≢true t), λ e. cc)

either : (a b : Bool) → IsTrue (a || b) → IsTrue a ⊎ IsTrue b
either true b h = inl refl
either false b h = inr h

-- ---- a demanded path
module _ (view : Refusals) (path : Path) (row : Row) (barred : Bool) (same : (question : Question) → view path question ↔ RowRefusesQuestion row question)
    (demanded : IsDemanded view path) (barred_is : IsTrue barred ↔ IsNotAllowed view path) (form : IsRow row) where
  value_is : IsTrue (lacks_value row) ↔ HasNoValue view path
  value_is =
      let at = no_value_is (Some row) form in (
        λ t. no_value_as (AtPlace (Some row)) view [] path (λ question r. (same question).1 r) (λ question r. (same question).0 r) (at.0 t),
        λ h. at.1 (no_value_as view (AtPlace (Some row)) path [] (λ question r. (same question).0 r) (λ question r. (same question).1 r) h),
      )

  missing_is : IsMissing view path ↔ (row.level ≡ Required)
  missing_is = (
    λ h. missing_level row.level ((same (level_at_most 0)).0 h.0, λ r. h.1 ((same (level_at_most 1)).1 r)),
    λ e. let both = level_missing row.level e in ((same (level_at_most 0)).1 both.0, λ r. both.1 ((same (level_at_most 1)).0 r)),
  )

  open_is : IsOpenAt (Some row) → IsFreeRow view path ⊎ HasNoChoice view path
  open_is h = ⊎_elim
      (λ free. inl (free_as (AtPlace (Some row)) view [] path (λ question r. (same question).1 r) (λ question r. (same question).0 r) free))
      (λ none. inr (no_choice_as (AtPlace (Some row)) view [] path (λ question r. (same question).1 r) (λ question r. (same question).0 r) none))
      h

  open_back : IsFreeRow view path ⊎ HasNoChoice view path → IsOpenAt (Some row)
  open_back h = ⊎_elim
      (λ free. inl (free_as view (AtPlace (Some row)) path [] (λ question r. (same question).0 r) (λ question r. (same question).1 r) free))
      (λ none. inr (no_choice_as view (AtPlace (Some row)) path [] (λ question r. (same question).0 r) (λ question r. (same question).1 r) none))
      h

  conflict_found : (finding : Finding) → IsConflictOf row barred finding → IsReportedAs view path finding
  conflict_found finding is = (
    record { demanded = demanded; no_value = no_value; not_allowed = not_allowed; levels = levels; no_default = no_default },
    inl (record { path = path; no_value = finding.no_value; not_allowed = finding.not_allowed }, refl, record { demanded = demanded; no_value = no_value; not_allowed = not_allowed; cause = is.some }),
  )
    where
      no_value : IsTrue finding.no_value ↔ HasNoValue view path
      no_value = (λ t. value_is.0 (sym is.no_value ∙ t), λ h. is.no_value ∙ value_is.1 h)

      not_allowed : IsTrue finding.not_allowed ↔ IsNotAllowed view path
      not_allowed = (λ t. barred_is.0 (sym is.not_allowed ∙ t), λ h. is.not_allowed ∙ barred_is.1 h)

      not_clear : ¬ IsWithoutFinding view path
      not_clear clear = ⊎_elim (λ t. clear.has_value (no_value.0 t)) (λ t. clear.allowed (not_allowed.0 t)) (either finding.no_value finding.not_allowed is.some)

      levels : (k : ℕ) → k < level_of finding.level ↔ (IsWithoutFinding view path × view path (level_at_most k))
      levels k = (λ less. let low : k < 0 = subst (λ l. k < level_of l) is.level less in absurd (omega arith), λ h. absurd (not_clear h.0))

      no_default : IsTrue finding.no_default ↔ (IsWithoutFinding view path × (¬ IsMissing view path) × HasNoDefault view path)
      no_default = (λ t. absurd (false≢true (sym is.no_default ∙ t)), λ h. absurd (not_clear h.0))

  clear_at : lacks_value row ≡ false → barred ≡ false → IsWithoutFinding view path
  clear_at v e = record { has_value = λ h. false≢true (sym v ∙ value_is.1 h); allowed = λ h. false≢true (sym e ∙ barred_is.1 h) }

  gap_found : (finding : Finding) → lacks_value row ≡ false → barred ≡ false → HasGap row → IsGapOf row finding → IsReportedAs view path finding
  gap_found finding v e has is = (
    record {
      demanded = demanded;
      no_value = (λ t. absurd (false≢true (sym is.no_value ∙ t)), λ h. absurd (clear.has_value h));
      not_allowed = (λ t. absurd (false≢true (sym is.not_allowed ∙ t)), λ h. absurd (clear.allowed h));
      levels = λ k. (
        λ less. (clear, (same (level_at_most k)).1 (subst (λ l. k < level_of l) is.level less)),
        λ h. subst (λ l. k < level_of l) (sym is.level) ((same (level_at_most k)).0 h.1),
      );
      no_default = (
        λ t. let both = is.no_default.0 t in (clear, (λ m. both.0 (missing_is.0 m)), λ scalar s. (same (usual scalar)).1 (both.1 scalar s)),
        λ h. is.no_default.1 ((λ r. h.1 (missing_is.1 r)), λ scalar s. (same (usual scalar)).0 (h.2 scalar s)),
      );
    },
    inr (
      record { path = path; missing = is_required row.level },
      refl,
      record {
        demanded = demanded;
        has_value = clear.has_value;
        allowed = clear.allowed;
        missing = (λ t. missing_is.1 ((required_is row.level).0 t), λ m. (required_is row.level).1 (missing_is.0 m));
        cause = ⊎_elim (λ r. inl (missing_is.1 r)) (λ o. inr (open_is o)) has;
      },
    ),
  )
    where
      clear : IsWithoutFinding view path
      clear = clear_at v e

  pub found_is : (finding : Finding) → IsConflictOf row barred finding ⊎ ((lacks_value row ≡ false) × (barred ≡ false) × HasGap row × IsGapOf row finding) → IsReportedAs view path finding
  found_is finding h = ⊎_elim (λ c. conflict_found finding c) (λ g. gap_found finding g.0 g.1 g.2 g.3) h

  pub nothing_is : lacks_value row ≡ false → barred ≡ false → ¬ HasGap row → ¬ IsReported view path
  nothing_is v e against h = ⊎_elim
      (λ c.
      let is : IsConflict view c.0 = c.2 in
      let at : c.0.path ≡ path = c.1 in
      ⊎_elim (λ t. clear.has_value (subst (HasNoValue view) at (is.no_value.0 t))) (λ t. clear.allowed (subst (IsNotAllowed view) at (is.not_allowed.0 t))) (either c.0.no_value c.0.not_allowed is.cause))
      (λ g.
      let is : IsReportGap view g.0 = g.2 in
      let at : g.0.path ≡ path = g.1 in
      ⊎_elim (λ m. against (inl (missing_is.0 (subst (IsMissing view) at m)))) (λ o. against (inr (open_back (⊎_elim (λ f. inl (subst (IsFreeRow view) at f)) (λ n. inr (subst (HasNoChoice view) at n)) o)))) is.cause)
      h
    where
      clear : IsWithoutFinding view path
      clear = clear_at v e

-- what is not demanded is not reported
pub not_demanded : (view : Refusals) (path : Path) → ¬ IsDemanded view path → ¬ IsReported view path
not_demanded view path against h = ⊎_elim
    (λ c. let is : IsConflict view c.0 = c.2 in let at : c.0.path ≡ path = c.1 in against (subst (IsDemanded view) at is.demanded))
    (λ g. let is : IsReportGap view g.0 = g.2 in let at : g.0.path ≡ path = g.1 in against (subst (IsDemanded view) at is.demanded))
    h
