-- What is kept, as a pair of plain sets of scalars.
use Rattle.std.specs.Prelude.{Bool, List, map, option_map}
use Rattle.cue_scalars.specs.Scalars.{members}
use Rattle.cue_scalars.specs.Pairs.{ScalarPair}
use Rattle.cue_scalars.specs.declared.valued.Valued.{Valued}

abbrev pub pair_of_value : Valued → ScalarPair
pair_of_value valued = record { value = members valued.value; usual = option_map members valued.usual }

abbrev pub terms_of_values : List (Bool × Valued) → List (Bool × ScalarPair)
terms_of_values terms = map (λ term. (term.0, pair_of_value term.1)) terms
