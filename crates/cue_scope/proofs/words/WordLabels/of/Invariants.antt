use Rattle.std.proofs.Common.{◌≡◌, ◌||◌, ℕ, List, Some, drop, false}
use Rattle.std.specs.Prelude.{slice_index_or}
use Rattle.cue_syntax.specs.Syntax.{entries}
use Rattle.cue_scope.specs.Names.{has_label}
use Rattle.cue_scope.specs.Words.{word_number}
use Rattle.cue_scope.proofs.words.WordLabels.of.Given as goal

abbrev pub invariant-loop-declaration : goal.invariant-loop-declaration
invariant-loop-declaration l =
    (t : List ℕ) (at : ℕ) → word_number t ≡ Some at
    → (slice_index_or l.hidden at false || has_label t (entries (drop l.declaration-index l.declarations))) ≡ has_label t (entries l.declarations)
