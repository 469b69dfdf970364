-- What a combination of two sets keeps.
use Rattle.std.specs.Prelude.{Bool, not, ◌&&◌, ◌||◌}
use Rattle.cue_sets.specs.declared.combination.Combination.{Combination}
use Rattle.cue_sets.specs.declared.combination.Combination.TheVariants.{Meet, Union, Without}

-- whether a member of the left set, of the right set, of both or of neither is kept
abbrev pub combination_keeps : Combination → Bool → Bool → Bool
combination_keeps Meet left right = left && right
combination_keeps Union left right = left || right
combination_keeps Without left right = left && not right
