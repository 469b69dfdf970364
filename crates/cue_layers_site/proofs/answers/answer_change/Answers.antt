use Rattle.std.proofs.Common.{List, ℕ, [], ◌∷◌, codes, subst}
use Rattle.http_server.specs.Response.{IsResponse}
use Rattle.cue_layers_site.proofs.Outcomes.{on_ok}
use Rattle.cue_layers_site.proofs.answers.answer_change.Goals as goal

pub returns : goal.returns
returns c =
    let layer = c.in-Some.layer.now in
    let found = c.in-Some.ensures.some in
    on_ok c.answer_done.result (λ answer. (
      layer,
      c.requires.extract.among layer found.0,
      found.1,
      subst (λ (t : List ℕ). IsResponse 204 ((codes "etag", t) ∷ []) [] c.answer_done.new.response) c.in_ok-tag.ensures answer,
    )) c.answer_done.ensures
