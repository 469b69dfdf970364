use Rattle.std.proofs.Common.{◌++◌, List, ℕ, IsTrue, Vec, map, subst, sym}
use Rattle.std.specs.declared.alloc.Global.{Global}
use Rattle.cue_journal.specs.Journals.{disk_of}
use Rattle.cue_journal.specs.Pairs.{growing_of, spare_of}
use Rattle.cue_layers_site.specs.Entries.{StandForMap}
use Rattle.cue_layers_site.specs.Stores.{IsKept}
use Rattle.cue_layers_site.proofs.start.start_layers.Goals as goal

pub returns : goal.returns
returns g c = λ clean.
    let f : Vec ℕ Global → List ℕ = λ v. v.items in
    let table = c.in-Ok-map_of.map in
    let started = c.in-Ok.ensures
    (subst (λ f. IsTrue (g.D.Disk.is_clean (disk_of (spare_of f)))) c.new.ensures.files clean.0)
    (subst (λ f. IsTrue (g.D.Disk.is_clean (disk_of (growing_of f)))) c.new.ensures.files clean.1) in
    let one = subst (λ (xs : List (Vec ℕ Global)). StandForMap (map f xs ++ map f c.deref-2.result.now) table) c.deref.ensures.value c.in-Ok-map_of.ensures in
    let of = subst (λ (xs : List (Vec ℕ Global)). StandForMap (map f c.in-Ok.started.spare.items ++ map f xs) table) c.deref-2.ensures.value one in
    record {
      spare = map f c.in-Ok.started.spare.items;
      growing = map f c.in-Ok.started.growing.items;
      files = started.all;
      stands = subst (StandForMap (map f c.in-Ok.started.spare.items ++ map f c.in-Ok.started.growing.items)) (sym c.new.ensures.map) of;
      kept = subst (IsKept g.D.Disk.seen g.D.Disk.may_leave c.new.result) (sym c.new.ensures.map)
          (c.new.ensures.kept started.ready (subst (λ (l : List (List ℕ)). StandForMap l table) (sym started.entries) of));
    }
