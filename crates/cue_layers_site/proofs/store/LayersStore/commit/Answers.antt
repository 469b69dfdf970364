use Rattle.std.proofs.Common.{sym, ◌∙◌, refl}
use Rattle.cue_layers_site.proofs.Kept.{committed, commit_leaves}
use Rattle.cue_layers_site.proofs.Outcomes.{took, refused}
use Rattle.cue_layers_site.proofs.store.LayersStore.commit.Goals as goal

pub returns : goal.returns
returns g c = record {
  same = refl;
  kept = λ on_disk stands before.
      let done = took c.commit-done.result (sym c.is_ok.ensures.value ∙ stands) c.commit-done.ensures.acknowledged before.ready before.batch in
      committed g.D.Disk.seen g.D.Disk.may_leave c.args.self.now _ on_disk before done.0 done.1 refl c.commit-done.ensures.empty;
  crash = λ on_disk before left may. commit_leaves g.D.Disk.seen g.D.Disk.may_leave c.args.self.now on_disk left before (c.commit-done.ensures.crash before.ready before.batch left may);
  whole_before = λ stands. (took c.commit-done.result (sym c.is_ok.ensures.value ∙ stands) c.commit-done.ensures.whole).0;
  broken_after = λ fails. refused c.commit-done.result (sym c.is_ok.ensures.value ∙ fails) c.commit-done.ensures.broken;
  empty = c.commit-done.ensures.empty;
}
