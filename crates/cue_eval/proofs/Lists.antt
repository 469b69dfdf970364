-- Examples: lists and their lengths.
use Rattle.std.proofs.Common.{inl, inr, [], ◌∷◌, refl, sym, lit<, arith}
use Rattle.std.proofs.lemmas.Bool.{false≢true}
use Rattle.cue_lattice.specs.Path.{index}
use Rattle.cue_lattice.specs.Question as questions
use Rattle.cue_lattice.specs.Question.{length_at_most, length_at_least}
use Rattle.cue_scope.specs.Core.{Core, top, list, ends, goes_on, each, element}
use Rattle.cue_eval.specs.Refuses.{Refuses}
use Rattle.cue_eval.specs.Laws.{conjunction_of}
use Rattle.cue_eval.proofs.Example.{number, may_be_number, in_range}

-- [1, ...] & [_, 2]
abbrev two : Core
two = conjunction_of (list (element (number 1) goes_on)) (list (element top (element (number 2) ends)))

less_is_refused : Refuses two [] (length_at_most 1)
less_is_refused = inr (inl (lit< tt))

the_least_length : Refuses two [] (length_at_most 2) → ⊥
the_least_length (inl h) = omega (arith, h)
the_least_length (inr (inl h)) = omega (arith, h)
the_least_length (inr (inr h)) = h

more_is_refused : Refuses two [] (length_at_least 3)
more_is_refused = inr (inl (lit< tt))

the_greatest_length : Refuses two [] (length_at_least 2) → ⊥
the_greatest_length (inl h) = h
the_greatest_length (inr (inl h)) = omega (arith, h)
the_greatest_length (inr (inr h)) = h

-- with [1]: the greatest length is below the least
shorter_lists_conflict : Refuses (conjunction_of two (list (element (number 1) ends))) [] (length_at_least 2)
shorter_lists_conflict = inr (inl (lit< tt))

the_first_element : Refuses two (index 0 ∷ []) (may_be_number 2)
the_first_element = inl (in_range 2 (lit< tt), refl)

the_first_element_is_one : Refuses two (index 0 ∷ []) (may_be_number 1) → ⊥
the_first_element_is_one (inl h) = false≢true (sym h.1)
the_first_element_is_one (inr (inl h)) = h
the_first_element_is_one (inr (inr h)) = h

the_second_element : Refuses two (index 1 ∷ []) (may_be_number 1)
the_second_element = inr (inl (in_range 1 (lit< tt), refl))

behind_the_last_element : Refuses two (index 2 ∷ []) (may_be_number 1) → ⊥
behind_the_last_element (inl h) = h
behind_the_last_element (inr (inl h)) = h
behind_the_last_element (inr (inr h)) = h

no_struct_is_a_list : Refuses two [] questions.struct
no_struct_is_a_list = inl tt

-- [...] lets any length stand
any_length : Refuses (list goes_on) [] (length_at_most 0) → ⊥
any_length h = omega (arith, h)

-- [_, ...2]: from the second element on each is 2, and there may be any number of them
abbrev further : Core
further = list (element top (each (number 2)))

the_first_is_free : Refuses further (index 0 ∷ []) (may_be_number 1) → ⊥
the_first_is_free h = h

the_second_is_two : Refuses further (index 1 ∷ []) (may_be_number 1)
the_second_is_two = (in_range 1 (lit< tt), refl)

each_later_one_is_two : Refuses further (index 7 ∷ []) (may_be_number 1)
each_later_one_is_two = (in_range 1 (lit< tt), refl)

further_ones_may_be_many : Refuses further [] (length_at_least 9) → ⊥
further_ones_may_be_many h = h
