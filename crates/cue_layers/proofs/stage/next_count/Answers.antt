use Rattle.std.proofs.Common.{sym, ap, subst, ◌∙◌, ◌++◌}
use Rattle.std.specs.Int.{w64, to_be_bytes}
use Rattle.cue_layers.specs.Pieces.{IsNoLayersPrefix}
use Rattle.cue_layers.specs.Inner.Stages.{front_bytes}
use Rattle.cue_layers.proofs.Steps.{no_count}
use Rattle.cue_layers.proofs.stage.next_count.Goals as goal

pub returns-in-Some-eq0-clause-ok : goal.returns-in-Some-eq0-clause-ok
returns-in-Some-eq0-clause-ok c =
    let zero_is = sym c.deref.ensures.value ∙ c.in-Some-eq0.ensures.some.0 ∙ ap (to_be_bytes w64) c.in-Some-eq0.field-0-test in
    (tt, subst (λ (b : _). IsNoLayersPrefix (front_bytes ++ b)) c.in_ok-bytes.ensures.ok (no_count c.in_ok-bytes.bytes.items zero_is))
