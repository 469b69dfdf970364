use Rattle.std.proofs.Common.{inr, ◌∙◌, subst, sym}
use Rattle.cue_layers_site.specs.Entries.{StandForMap}
use Rattle.cue_layers_site.proofs.store.LayersStore.settle.Goals as goal

pub returns : goal.returns
returns g c = record {
  same = c.condense.ensures.same ∙ c.commit.ensures.same;
  kept = λ on_disk stands before. c.condense.ensures.kept stands c.commit.ensures.empty (c.commit.ensures.kept on_disk c.if-not-commit.false before);
  crash = λ on_disk before left may.
      inr (subst (StandForMap left) (sym c.condense.ensures.same) (c.condense.ensures.crash c.commit.ensures.empty (c.commit.ensures.kept on_disk c.if-not-commit.false before) left may));
  whole_before = λ stands. c.commit.ensures.whole_before c.if-not-commit.false;
  broken_after = c.condense.ensures.broken_after;
}
