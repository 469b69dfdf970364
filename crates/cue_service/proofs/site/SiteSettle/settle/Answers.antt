use Rattle.std.proofs.Common.{inr, ◌∙◌}
use Rattle.cue_service.proofs.site.SiteSettle.settle.Goals as goal

pub returns : goal.returns
returns g c = record {
  consistent = λ on_disk pieces stands before. c.condense.ensures.consistent pieces stands c.commit.ensures.empty (c.commit.ensures.consistent on_disk pieces c.if-not-commit.false before);
  crash = λ on_disk pieces before left may. inr (c.condense.ensures.crash pieces c.commit.ensures.empty (c.commit.ensures.consistent on_disk pieces c.if-not-commit.false before) left may);
  whole_before = λ stands. c.commit.ensures.whole_before c.if-not-commit.false;
  listed = c.condense.ensures.listed ∙ c.commit.ensures.listed;
  broken_after = c.condense.ensures.broken_after;
}
