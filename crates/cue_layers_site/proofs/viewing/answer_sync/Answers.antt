use Rattle.std.proofs.Common.{rules, ◌≡◌, ℕ, List, subst}
use Rattle.cue_layers.specs.Bytes.{layers_bytes}
use Rattle.cue_service.specs.Tags.{quoted_digest}
use Rattle.cue_layers_site.specs.Views.{IsSent}
use Rattle.cue_layers_site.proofs.Outcomes.{on_ok}
use Rattle.cue_layers_site.proofs.viewing.answer_sync.Goals as goal

pub returns : goal.returns
returns c =
    let whole = c.in_ok-whole.whole in
    let bytes : c.in_ok-layers.layers.items ≡ layers_bytes whole = search rules in
    let tag : c.in_ok-tag.tag.bytes ≡ quoted_digest (layers_bytes whole) = search rules in
    on_ok c.answer_layers.result (λ sent. (
      whole,
      c.in_ok-whole.ensures,
      subst (λ (b : List ℕ). IsSent (quoted_digest (layers_bytes whole)) b c.args.request.now c.answer_layers.new.response) bytes
          (subst (λ (t : List ℕ). IsSent t c.in_ok-layers.layers.items c.args.request.now c.answer_layers.new.response) tag sent),
    )) c.answer_layers.ensures
