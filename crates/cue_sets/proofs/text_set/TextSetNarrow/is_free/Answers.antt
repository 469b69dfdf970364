use Rattle.cue_sets.specs.TextLaws.{free_is_all}
use Rattle.cue_sets.proofs.text_set.TextSetNarrow.is_free.Goals as goal

pub returns : goal.returns
returns c =
    let free = free_is_all c.args.self.now c.is_all.ensures.ascending in
    (λ e. free.0 (c.is_all.ensures.all.0 e), λ h. c.is_all.ensures.all.1 (free.1 h))
