use Rattle.std.proofs.Common.{◌≡◌, ℕ, suc, ◌<◌, List, get_or}
use Rattle.std.specs.declared.cmp.Ordering.TheVariants.{Less}
use Rattle.cue_sets.specs.Texts.{text_cmp}
use Rattle.cue_sets.proofs.texts.ascends.Given as goal

abbrev pub invariant-loop-index : goal.invariant-loop-index
invariant-loop-index l =
    (k : ℕ) (d : List ℕ) → suc k < l.index → text_cmp (get_or l.texts k d) (get_or l.texts (suc k) d) ≡ Less
