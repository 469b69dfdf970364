use Rattle.std.proofs.Common.{◌≡◌, ℕ, List, [], rules, sym, subst}
use Rattle.cue_layers_site.specs.Requests.{IsNameIn}
use Rattle.cue_layers_site.proofs.Puts.{put_done}
use Rattle.cue_layers_site.proofs.store.LayersStore.remove_named.Goals as goal

pub returns-clause-ok : goal.returns-clause-ok
returns-clause-ok g c =
    let request = c.args.request.now in
    let name = c.in_ok-name.name.now in
    let same : name ≡ c.in_ok-bytes.bytes.items = search rules in
    let names : IsNameIn c.args.kind request name = subst (λ (n : List ℕ). IsNameIn c.args.kind request n) (sym same) c.in_ok-bytes.ensures.name in
    let put = c.in_ok-change.ensures.put in
    put_done g.D.Disk.seen g.D.Disk.may_leave c.finish_put.result c.args.kind name [] c.in_ok-change.change.next put.0
    c.args.self.now c.finish_put.new.self request c.finish_put.new.response put.1 names c.in_ok-check_met.ensures.met c.finish_put.ensures.ok
