use Rattle.std.proofs.Common.{◌≡◌, ℕ, List, rules, sym, subst}
use Rattle.http.specs.Request.{body_of}
use Rattle.cue_layers.specs.Refusals.{piece_of_refusal}
use Rattle.cue_layers_site.specs.Answering.{IsBodyPiece}
use Rattle.cue_layers_site.specs.Requests.{IsNameIn}
use Rattle.cue_layers_site.proofs.Puts.{body_put}
use Rattle.cue_layers_site.proofs.store.LayersStore.put_body.Goals as goal

pub returns-clause-ok : goal.returns-clause-ok
returns-clause-ok g c =
    let request = c.args.request.now in
    let name = c.in_ok-name.name.now in
    let same : name ≡ c.in_ok-bytes.bytes.items = search rules in
    let names : IsNameIn c.args.kind request name = subst (λ (n : List ℕ). IsNameIn c.args.kind request n) (sym same) c.in_ok-bytes.ensures.name in
    let body : IsBodyPiece (body_of request) (piece_of_refusal c.in_ok-piece.piece) = search rules in
    let put = c.in_ok-change.ensures.put in
    body_put g.D.Disk.seen g.D.Disk.may_leave c.finish_put.result c.args.kind name (piece_of_refusal c.in_ok-piece.piece) c.in_ok-change.change.next put.0 c.args.commons.now
    c.args.self.now c.finish_put.new.self request c.finish_put.new.response put.1 names c.in_ok-check_met.ensures.met body c.in_ok-check_view.ensures c.finish_put.ensures.ok
