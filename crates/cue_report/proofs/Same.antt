-- What the answers alone tell is the same wherever these are.
use Rattle.std.proofs.Common.{inl, inr, ⊎_elim, ◌∷◌}
use Rattle.cue_lattice.specs.declared.scalar.Scalar.{Scalar}
use Rattle.cue_lattice.specs.Path as paths
use Rattle.cue_lattice.specs.Path.{label, index, Path}
use Rattle.cue_lattice.specs.Question.{Refusals, SameAnswers, struct, list}
use Rattle.cue_report.specs.Answers.{IsStepDemanded, IsDemanded, HasNoScalar, HasNoLength, HasNoValue, IsNotAllowed}
use Rattle.cue_report.specs.Export.{refused_below}
use Rattle.cue_report.specs.Gaps.{IsMissing, MayScalarStand, IsUsual, IsChosenScalar, IsFreeRow, HasNoChoice, IsReportGap}
use Rattle.cue_report.specs.Listing.{IsConflict}
use Rattle.cue_report.specs.declared.conflict.Conflict.{Conflict}
use Rattle.cue_report.specs.declared.gap.Gap.{Gap}

pub swapped : (a b : Refusals) → SameAnswers a b → SameAnswers b a
swapped a b same path question = ((same path question).1, (same path question).0)

pub same_beyond : (a b : Refusals) (step : paths.Step) → SameAnswers a b → SameAnswers (refused_below a step) (refused_below b step)
same_beyond a b step same path question = same (step ∷ path) question

pub step_there : (a b : Refusals) (path : Path) (step : paths.Step) → SameAnswers a b → IsStepDemanded a path step → IsStepDemanded b path step
step_there a b path (label text) same h = (same _ _).0 h
step_there a b path (index n) same h = (same _ _).0 h

demanded_there : (a b : Refusals) (path : Path) → SameAnswers a b → IsDemanded a path → IsDemanded b path
demanded_there a b path same h before after step e = step_there a b before step same (h before after step e)

no_scalar_there : (a b : Refusals) (path : Path) → SameAnswers a b → HasNoScalar a path → HasNoScalar b path
no_scalar_there a b path same h scalar is = (same _ _).0 (h scalar is)

no_length_there : (a b : Refusals) (path : Path) → SameAnswers a b → HasNoLength a path → HasNoLength b path
no_length_there a b path same h n = ⊎_elim (λ r. inl ((same _ _).0 r)) (λ r. inr ((same _ _).0 r)) (h n)

no_value_there : (a b : Refusals) (path : Path) → SameAnswers a b → HasNoValue a path → HasNoValue b path
no_value_there a b path same (inl h) = inl (no_scalar_there a b path same h.0, (same path struct).0 h.1, (same path list).0 h.2)
no_value_there a b path same (inr h) = inr (λ r. h.0 ((same path list).1 r), no_length_there a b path same h.1)

not_allowed_there : (a b : Refusals) (path : Path) → SameAnswers a b → IsNotAllowed a path → IsNotAllowed b path
not_allowed_there a b path same (above, text, e, r) = (above, text, e, (same _ _).0 r)

missing_there : (a b : Refusals) (path : Path) → SameAnswers a b → IsMissing a path → IsMissing b path
missing_there a b path same h = ((same _ _).0 h.0, λ r. h.1 ((same _ _).1 r))

may_there : (a b : Refusals) (path : Path) (x : Scalar) → SameAnswers a b → MayScalarStand a path x → MayScalarStand b path x
may_there a b path x same h = (h.0, λ r. h.1 ((same _ _).1 r))

usual_there : (a b : Refusals) (path : Path) (x : Scalar) → SameAnswers a b → IsUsual a path x → IsUsual b path x
usual_there a b path x same h = (h.0, λ r. h.1 ((same _ _).1 r))

pub chosen_there : (a b : Refusals) (path : Path) (x : Scalar) → SameAnswers a b → IsChosenScalar a path x → IsChosenScalar b path x
chosen_there a b path x same (inl h) =
    inl (usual_there a b path x same h.0, λ other u. h.1 other (usual_there b a path other (swapped a b same) u))
chosen_there a b path x same (inr h) =
    inr (
      λ other u. h.0 other (usual_there b a path other (swapped a b same) u),
      (may_there a b path x same h.1.0, λ other m. h.1.1 other (may_there b a path other (swapped a b same) m)),
    )

pub free_there : (a b : Refusals) (path : Path) → SameAnswers a b → IsFreeRow a path → IsFreeRow b path
free_there a b path same h = (λ scalar r. h.0 scalar ((same _ _).1 r), λ r. h.1 ((same _ _).1 r), λ r. h.2 ((same _ _).1 r))

no_choice_there : (a b : Refusals) (path : Path) → SameAnswers a b → HasNoChoice a path → HasNoChoice b path
no_choice_there a b path same h = (
  λ n. h.0 (no_scalar_there b a path (swapped a b same) n),
  (same path struct).0 h.1,
  (same path list).0 h.2,
  λ scalar c. h.3 scalar (chosen_there b a path scalar (swapped a b same) c),
)

pub conflict_there : (a b : Refusals) (conflict : Conflict) → SameAnswers a b → IsConflict a conflict → IsConflict b conflict
conflict_there a b conflict same h = record {
  demanded = demanded_there a b conflict.path same h.demanded;
  no_value = (λ t. no_value_there a b conflict.path same (h.no_value.0 t), λ n. h.no_value.1 (no_value_there b a conflict.path (swapped a b same) n));
  not_allowed = (λ t. not_allowed_there a b conflict.path same (h.not_allowed.0 t), λ n. h.not_allowed.1 (not_allowed_there b a conflict.path (swapped a b same) n));
  cause = h.cause;
}

pub gap_there : (a b : Refusals) (gap : Gap) → SameAnswers a b → IsReportGap a gap → IsReportGap b gap
gap_there a b gap same h = record {
  demanded = demanded_there a b gap.path same h.demanded;
  has_value = λ n. h.has_value (no_value_there b a gap.path (swapped a b same) n);
  allowed = λ n. h.allowed (not_allowed_there b a gap.path (swapped a b same) n);
  missing = (λ t. missing_there a b gap.path same (h.missing.0 t), λ m. h.missing.1 (missing_there b a gap.path (swapped a b same) m));
  cause = ⊎_elim (λ m. inl (missing_there a b gap.path same m))
      (λ c. inr (⊎_elim (λ f. inl (free_there a b gap.path same f)) (λ n. inr (no_choice_there a b gap.path same n)) c)) h.cause;
}
