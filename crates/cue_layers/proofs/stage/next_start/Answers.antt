use Rattle.std.proofs.Common.{ℕ, List, ◌++◌, subst, ◌∙◌}
use Rattle.cue_codec.specs.Reading.{ReadsNoItem}
use Rattle.cue_layers.specs.Bytes.{layer_bytes}
use Rattle.cue_layers.specs.Inner.Reading.{IsHeld}
use Rattle.cue_layers.proofs.Stages.{no_next}
use Rattle.cue_layers.proofs.stage.next_start.Goals as goal

pub returns-in-None-clause-ok : goal.returns-in-None-clause-ok
returns-in-None-clause-ok c =
    let is = c.deref.ensures.value ∙ c.in_ok-bytes.ensures.ok in
    (tt, no_next c.args.read.count c.args.read.layers.items _ c.requires.read.front c.requires.read.more c.requires.read.small (λ l more after held behind e. subst (λ (b : List ℕ). ReadsNoItem IsHeld layer_bytes (b ++ more)) is (c.in-None.ensures.none more) l after held e))
