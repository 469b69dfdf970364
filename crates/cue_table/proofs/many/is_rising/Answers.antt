use Rattle.std.proofs.Common.{rules}
use Rattle.std.proofs.lemmas.Fn.{always_returns_same}
use Rattle.cue_table.proofs.Rising.{stands_before, rise_answer}
use Rattle.cue_table.proofs.many.is_rising.Goals as goal

pub returns : goal.returns
returns g c =
    rise_answer c.args.children.now c.is_sorted_by.result (c.is_sorted_by.ensures.cases stands_before (always_returns_same _ _ _ (λ a r f k. search rules)))
