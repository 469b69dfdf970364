-- The sources that are left of a pass make the finding of the view, and are a least list.
use Rattle.std.proofs.Common.{◌≡◌, ◌↔◌, inl, inr, ⊎_elim, Bool, true, false, List, [], ◌∷◌, map, refl, sym, subst, ◌∙◌, append-nil}
use Rattle.std.specs.Prelude.{IsTrue}
use Rattle.std.proofs.lemmas.Bool.{false≢true}
use Rattle.cue_lattice.specs.OneOf.{OneOf}
use Rattle.cue_lattice.specs.Path.{Path}
use Rattle.cue_lattice.specs.Question.{Question, Refusals, level_at_most, usual}
use Rattle.cue_report.specs.Answers.{IsDemanded, HasNoValue, IsNotAllowed}
use Rattle.cue_report.specs.Gaps.{IsMissing, IsFreeRow, HasNoChoice, IsReportGap}
use Rattle.cue_report.specs.Listing.{IsConflict}
use Rattle.cue_report.specs.declared.conflict.Conflict.{Conflict}
use Rattle.cue_report.specs.declared.gap.Gap.{Gap}
use Rattle.cue_row.specs.Row.{RowRefusesQuestion}
use Rattle.cue_row.specs.declared.parts.RowParts.{RowParts as Row}
use Rattle.cue_policies.specs.Tables.{table_part}
use Rattle.cue_policies.specs.View.{PartRefuses, DeclaresAt, ViewRefuses}
use Rattle.cue_policies.specs.declared.kind.LayerKind.{LayerKind}
use Rattle.cue_table.specs.Tree.{Tree}
use Rattle.cue_why.specs.Finding.{IsWithoutFinding}
use Rattle.cue_why.specs.Least.{IsLeft, IsLeastList}
use Rattle.cue_why.specs.Reported.{IsReported, IsLabelReported}
use Rattle.cue_why.specs.Sources.{SourcesRefuse, SourcesMake}
use Rattle.cue_why.specs.Inner.Findings.{IsFinding, IsReportedAs}
use Rattle.cue_why.specs.Inner.Stacks.{LineRefuses, IsTrailOf, Suffice, source_part}
use Rattle.cue_why.specs.Inner.Trails.{TrailRefuses}
use Rattle.cue_why.specs.declared.finding.Finding.{Finding}
use Rattle.cue_why.specs.declared.source.LayerSource.{LayerSource}
use Rattle.cue_why.proofs.Declaring.{view_narrow, line_narrow, makes_view, view_makes, makes_with_more}
use Rattle.cue_why.proofs.Findings.{makes_is}
use Rattle.cue_why.proofs.Makes.{IsAsNarrowAlong, demanded_more, not_allowed_more, makes_more, makes_own}
use Rattle.cue_why.proofs.Pass.{left_is_least}
use Rattle.cue_why.proofs.Reports.{no_value_as, free_as, no_choice_as}
use Rattle.cue_why.proofs.Stacks.{left_as}

-- ---- two sets of refusals that agree along a path
module _ (a b : Refusals) (path : Path) (ab : IsAsNarrowAlong a b path) (ba : IsAsNarrowAlong b a path) where
  to : (question : Question) → a path question → b path question
  to = ba.at path [] (sym (append-nil path))

  from : (question : Question) → b path question → a path question
  from = ab.at path [] (sym (append-nil path))

  value_to : HasNoValue a path → HasNoValue b path
  value_to = no_value_as a b path path to from

  value_from : HasNoValue b path → HasNoValue a path
  value_from = no_value_as b a path path from to

  barred_to : IsNotAllowed a path → IsNotAllowed b path
  barred_to = not_allowed_more b a path ba

  barred_from : IsNotAllowed b path → IsNotAllowed a path
  barred_from = not_allowed_more a b path ab

  missing_to : IsMissing a path → IsMissing b path
  missing_to m = (to (level_at_most 0) m.0, λ r. m.1 (from (level_at_most 1) r))

  missing_from : IsMissing b path → IsMissing a path
  missing_from m = (from (level_at_most 0) m.0, λ r. m.1 (to (level_at_most 1) r))

  clear_to : IsWithoutFinding a path → IsWithoutFinding b path
  clear_to clear = record { has_value = λ h. clear.has_value (value_from h); allowed = λ h. clear.allowed (barred_from h) }

  clear_from : IsWithoutFinding b path → IsWithoutFinding a path
  clear_from clear = record { has_value = λ h. clear.has_value (value_to h); allowed = λ h. clear.allowed (barred_to h) }

  pub finding_as : (finding : Finding) → IsFinding a path finding → IsFinding b path finding
  finding_as finding is = record {
    demanded = demanded_more b a path ba is.demanded;
    no_value = (λ t. value_to (is.no_value.0 t), λ h. is.no_value.1 (value_from h));
    not_allowed = (λ t. barred_to (is.not_allowed.0 t), λ h. is.not_allowed.1 (barred_from h));
    levels = λ k. (
      λ less. let both = (is.levels k).0 less in (clear_to both.0, to (level_at_most k) both.1),
      λ h. (is.levels k).1 (clear_from h.0, from (level_at_most k) h.1),
    );
    no_default = (
      λ t. let all = is.no_default.0 t in (clear_to all.0, (λ m. all.1 (missing_from m)), λ scalar s. to (usual scalar) (all.2 scalar s)),
      λ h. is.no_default.1 (clear_from h.0, (λ m. h.1 (missing_to m)), λ scalar s. from (usual scalar) (h.2 scalar s)),
    );
  }

  pub reported_as : IsReported a path → IsReported b path
  reported_as h = ⊎_elim
      (λ c. inl (conflict c.0 c.1 c.2))
      (λ g. inr (gap g.0 g.1 g.2))
      h
    where
      conflict : (c : Conflict) → c.path ≡ path → IsConflict a c → (conflict : Conflict) × (conflict.path ≡ path) × IsConflict b conflict
      conflict c e is =
          let asked : IsDemanded a path = subst (IsDemanded a) e is.demanded in
          let back = sym e in (
            c,
            e,
            record {
              demanded = subst (IsDemanded b) back (demanded_more b a path ba asked);
              no_value = (
                λ t. subst (HasNoValue b) back (value_to (subst (HasNoValue a) e (is.no_value.0 t))),
                λ n. is.no_value.1 (subst (HasNoValue a) back (value_from (subst (HasNoValue b) e n))),
              );
              not_allowed = (
                λ t. subst (IsNotAllowed b) back (barred_to (subst (IsNotAllowed a) e (is.not_allowed.0 t))),
                λ n. is.not_allowed.1 (subst (IsNotAllowed a) back (barred_from (subst (IsNotAllowed b) e n))),
              );
              cause = is.cause;
            },
          )

      gap : (g : Gap) → g.path ≡ path → IsReportGap a g → (gap : Gap) × (gap.path ≡ path) × IsReportGap b gap
      gap g e is =
          let asked : IsDemanded a path = subst (IsDemanded a) e is.demanded in
          let back = sym e in (
            g,
            e,
            record {
              demanded = subst (IsDemanded b) back (demanded_more b a path ba asked);
              has_value = λ n. is.has_value (subst (HasNoValue a) back (value_from (subst (HasNoValue b) e n)));
              allowed = λ n. is.allowed (subst (IsNotAllowed a) back (barred_from (subst (IsNotAllowed b) e n)));
              missing = (
                λ t. subst (IsMissing b) back (missing_to (subst (IsMissing a) e (is.missing.0 t))),
                λ m. is.missing.1 (subst (IsMissing a) back (missing_from (subst (IsMissing b) e m))),
              );
              cause = ⊎_elim
                  (λ m. inl (subst (IsMissing b) back (missing_to (subst (IsMissing a) e m))))
                  (λ o. inr (⊎_elim
                  (λ f. inl (subst (IsFreeRow b) back (free_as a b path path to from (subst (IsFreeRow a) e f))))
                  (λ n. inr (subst (HasNoChoice b) back (no_choice_as a b path path to from (subst (HasNoChoice a) e n)))) o))
                  is.cause;
            },
          )

-- ---- the view of sources is that of their tables
one_map : {X Y : Type 0} (f : X → Y) (P : Y → Type 0) (xs : List X) → OneOf P (map f xs) ↔ OneOf (λ x. P (f x)) xs
one_map f P [] = (λ h. h, λ h. h)
one_map f P (x ∷ xs) =
    let more = one_map f P xs in
    (λ h. ⊎_elim (λ p. inl p) (λ r. inr (more.0 r)) h, λ h. ⊎_elim (λ p. inl p) (λ r. inr (more.1 r)) h)

view_is : (sources : List LayerSource) (path : Path) (question : Question) → SourcesRefuse sources path question ↔ ViewRefuses source_part sources path question
view_is sources path question =
    let pair : LayerSource → LayerKind × Tree Row = λ s. (s.kind, s.table.now) in
    let here = one_map pair (λ part. PartRefuses (table_part part) path question) sources in (
      λ h. ((λ place l further e. (one_map pair (λ part. DeclaresAt (table_part part) place l) sources).0 (h.0 place l further e)), here.0 h.1),
      λ h. ((λ place l further e. (one_map pair (λ part. DeclaresAt (table_part part) place l) sources).1 (h.0 place l further e)), here.1 h.1),
    )

sources_narrow : (sources : List LayerSource) (path : Path) → IsAsNarrowAlong (SourcesRefuse sources) (ViewRefuses source_part sources) path
sources_narrow sources path = record { at = λ place after e question h. (view_is sources place question).1 h }

narrow_sources : (sources : List LayerSource) (path : Path) → IsAsNarrowAlong (ViewRefuses source_part sources) (SourcesRefuse sources) path
narrow_sources sources path = record { at = λ place after e question h. (view_is sources place question).0 h }

narrow_through : (a b c : Refusals) (path : Path) → IsAsNarrowAlong a b path → IsAsNarrowAlong b c path → IsAsNarrowAlong a c path
narrow_through a b c path ab bc = record { at = λ place after e question h. ab.at place after e question (bc.at place after e question h) }

-- ---- the trail of all sources
module _ (path : Path) (sources : List LayerSource) (rows : List Row) (trail : IsTrailOf path sources rows) where
  abbrev Rows : Refusals
  Rows = TrailRefuses RowRefusesQuestion path rows

  line_rows : IsAsNarrowAlong (LineRefuses sources) Rows path
  line_rows = record { at = λ place after e question h. (trail.same place after e question).0 h }

  rows_line : IsAsNarrowAlong Rows (LineRefuses sources) path
  rows_line = record { at = λ place after e question h. (trail.same place after e question).1 h }

  -- the view refuses what the rows do, at a path that they demand
  view_rows : IsDemanded Rows path → IsAsNarrowAlong (SourcesRefuse sources) Rows path
  view_rows demanded =
      let asked = demanded_more (LineRefuses sources) Rows path line_rows demanded in
      narrow_through (SourcesRefuse sources) (ViewRefuses source_part sources) Rows path (sources_narrow sources path)
      (narrow_through (ViewRefuses source_part sources) (LineRefuses sources) Rows path (view_narrow source_part sources path asked) line_rows)

  rows_view : IsAsNarrowAlong Rows (SourcesRefuse sources) path
  rows_view =
      narrow_through Rows (LineRefuses sources) (SourcesRefuse sources) path rows_line
      (narrow_through (LineRefuses sources) (ViewRefuses source_part sources) (SourcesRefuse sources) path (line_narrow source_part sources path) (narrow_sources sources path))

  pub view_finding : (finding : Finding) → IsReportedAs Rows path finding → IsFinding (SourcesRefuse sources) path finding
  view_finding finding is = finding_as Rows (SourcesRefuse sources) path rows_view (view_rows is.0.demanded) finding is.0

  reported_asked : (view : Refusals) → IsReported view path → IsDemanded view path
  reported_asked view h = ⊎_elim
      (λ c. let is : IsConflict view c.0 = c.2 in let at : c.0.path ≡ path = c.1 in subst (IsDemanded view) at is.demanded)
      (λ g. let is : IsReportGap view g.0 = g.2 in let at : g.0.path ≡ path = g.1 in subst (IsDemanded view) at is.demanded)
      h

  pub view_reported : IsReported Rows path → IsReported (SourcesRefuse sources) path
  view_reported h = reported_as Rows (SourcesRefuse sources) path rows_view (view_rows (reported_asked Rows h)) h

  pub rows_reported : IsReported (SourcesRefuse sources) path → IsReported Rows path
  rows_reported h =
      let asked = demanded_more Rows (SourcesRefuse sources) path rows_view (reported_asked (SourcesRefuse sources) h) in
      reported_as (SourcesRefuse sources) Rows path (view_rows asked) rows_view h

-- ---- what suffices for the finding
suffice_is : (all some : List LayerSource) (path : Path) (finding : Finding) → IsFinding (SourcesRefuse all) path finding → Suffice finding path some ↔ SourcesMake all path some
suffice_is all some path finding is =
    let line = makes_is (SourcesRefuse all) (LineRefuses some) path finding is in (
      λ h. makes_more (SourcesRefuse all) (SourcesRefuse some) (ViewRefuses source_part some) path (sources_narrow some path) (makes_view source_part some (SourcesRefuse all) path (line.0 h)),
      λ m. line.1 (view_makes source_part some (SourcesRefuse all) path (makes_more (SourcesRefuse all) (ViewRefuses source_part some) (SourcesRefuse some) path (narrow_sources some path) m)),
    )

more_make : (all : List LayerSource) (path : Path) (some others : List LayerSource) → ((x : LayerSource) → OneOf (λ y. y ≡ x) some → OneOf (λ y. y ≡ x) others) → SourcesMake all path some → SourcesMake all path others
more_make all path some others among m =
    let view = makes_more (SourcesRefuse all) (ViewRefuses source_part some) (SourcesRefuse some) path (narrow_sources some path) m in
    makes_more (SourcesRefuse all) (SourcesRefuse others) (ViewRefuses source_part others) path (sources_narrow others path)
    (makes_with_more source_part (SourcesRefuse all) path some others among view)

pub left_make : (all left : List LayerSource) (path : Path) (finding : Finding) → IsFinding (SourcesRefuse all) path finding → IsLeft (Suffice finding path) [] all left → IsLeft (SourcesMake all path) [] all left
left_make all left path finding is h = left_as (Suffice finding path) (SourcesMake all path) (λ some. suffice_is all some path finding is) [] all left h

pub least_make : (all left : List LayerSource) (path : Path) (finding : Finding) → IsFinding (SourcesRefuse all) path finding → IsLeft (SourcesMake all path) [] all left → IsLeastList (SourcesMake all path) left
least_make all left path finding is h = left_is_least (SourcesMake all path) (more_make all path) all left (makes_own (SourcesRefuse all) path is.demanded) h

-- ---- whether the label alone is reported
not_true : (b : Bool) → ¬ IsTrue b → b ≡ false
not_true true non = absurd (non refl)
not_true false non = refl

pub label_is : (view : Refusals) (path : Path) (finding : Finding) (found : Bool) → IsFinding view path finding → IsReported view path → IsTrue found ↔ ((finding.no_value ≡ false) × IsTrue finding.not_allowed)
    → IsTrue found ↔ IsLabelReported view path
label_is view path finding found is reported e = (
  λ t. let both = e.0 t in (reported, is.not_allowed.0 both.1, λ h. false≢true (sym both.0 ∙ is.no_value.1 h)),
  λ h. e.1 (not_true finding.no_value (λ t. h.2 (is.no_value.0 t)), is.not_allowed.1 h.1),
)
