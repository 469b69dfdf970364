use Rattle.std.proofs.Common.{◌++◌, List, ℕ, IsTrue, Vec, map, subst}
use Rattle.std.specs.declared.alloc.Global.{Global}
use Rattle.cue_replica.specs.Accepted.{IsOfPieces}
use Rattle.cue_journal.specs.Journals.{disk_of}
use Rattle.cue_journal.specs.Pairs.{growing_of, spare_of}
use Rattle.cue_service.specs.Entries.{pieces_of}
use Rattle.cue_service.proofs.Starts.{site_started}
use Rattle.cue_service.proofs.start.start_site.Goals as goal

pub returns : goal.returns
returns g c = λ clean.
    let f : Vec ℕ Global → List ℕ = λ v. v.items in
    let table = c.in-Ok-table_of.table in
    let started = c.in-Ok.ensures
    (subst (λ f. IsTrue (g.D.Disk.is_clean (disk_of (spare_of f)))) c.new.ensures.files clean.0)
    (subst (λ f. IsTrue (g.D.Disk.is_clean (disk_of (growing_of f)))) c.new.ensures.files clean.1) in
    let one = subst (λ (xs : List (Vec ℕ Global)). IsOfPieces table (pieces_of (map f xs ++ map f c.deref-2.result.now))) c.deref.ensures.value c.in-Ok-table_of.ensures in
    let of = subst (λ (xs : List (Vec ℕ Global)). IsOfPieces table (pieces_of (map f c.in-Ok.started.spare.items ++ map f xs))) c.deref-2.ensures.value one in
    site_started g.D.Disk.seen g.D.Disk.may_leave c.args.first c.args.second c.args.rules c.args.run c.new.result _ _ _ table
    started of c.new.ensures.consistent c.new.ensures.listed c.new.ensures.run c.new.ensures.rules
