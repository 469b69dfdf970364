use Rattle.std.proofs.Common.{◌≡◌, ◌&&◌, not, ℕ, List, take}
use Rattle.cue_sets.specs.Texts.{is_listed, IsAscending}
use Rattle.cue_sets.proofs.leaving.remove_each.Given as goal

abbrev pub invariant-loop-text : goal.invariant-loop-text
invariant-loop-text l =
    IsAscending l.texts.items × ((other : List ℕ) → is_listed l.texts.items other ≡ (is_listed l.initial.texts.items other && not (is_listed (take l.text-index l.gone) other)))
