-- Views of equal maps.
use Rattle.std.proofs.Common.{◌≡◌, List, refl, subst}
use Rattle.cue_lattice.specs.Question.{SameAnswers}
use Rattle.cue_replica.specs.Language.{Table, language}
use Rattle.cue_replica.specs.Reports as reports
use Rattle.cue_replica.proofs.Sound.{sound}
use Rattle.cue_report.proofs.OneReport.{one_report}
use Rattle.cue_layers.specs.declared.layer.Layer.{Layer}
use Rattle.cue_layers.proofs.Maps.{equal_of_one_set}
use Rattle.cue_layers_world.specs.Laws.{HaveOneView, HaveEqualViewsOfOneSet}
use Rattle.cue_layers_world.specs.Sites.{HaveEqualViews}

-- two tables with the answers of one view are equal
pub one_view : HaveOneView
one_view layers v w is other = sound.one_table v w is.valid other.valid same
  where
    same : SameAnswers (language.table_refuses v) (language.table_refuses w)
    same path question =
        let l = is.refuses path question in
        let r = other.refuses path question in
        (λ h. r.1 (l.0 h), λ h. l.1 (r.0 h))

-- a table has the reports of itself
itself : (v : Table) → reports.HaveEqualReports v v
itself v = record {
  reports = one_report (language.table_refuses v) (language.table_refuses v) (λ path question. (λ h. h, λ h. h));
  text = refl;
  bytes = refl;
}

map_itself : (a : List Layer) → HaveEqualViews a a
map_itself a = record {
  bytes = refl;
  too_large = λ limit. (λ h. h, λ h. h);
  views = λ v w is other. let same = one_view a v w is other in (same, subst (reports.HaveEqualReports v) same (itself v));
}

pub equal_maps : (a b : List Layer) → a ≡ b → HaveEqualViews a b
equal_maps a b same = subst (HaveEqualViews a) same (map_itself a)

pub equal_views_of_one_set : HaveEqualViewsOfOneSet
equal_views_of_one_set a b ps qs ma mb same = equal_maps a b (equal_of_one_set a b ps qs ma mb same)
