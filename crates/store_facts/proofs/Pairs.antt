-- Values and defaults: unification and disjunction of small sets of integers.
use Rattle.std.proofs.Common.{◌≡◌, ℕ, ℤ, pos, Bool, List, [], ◌∷◌, true, false, Option, Some, None, refl}
use Rattle.std.specs.Prelude.{option_map}
use Rattle.cue_scalars.specs.Scalars.{members}
use Rattle.cue_scalars.specs.Pairs.{ScalarMembers, ScalarPair, default_or_value, unify_pairs, all_of, disjunction}
use Rattle.store_facts.proofs.Base.{number}

abbrev pieces_of : List ℕ → List (ℤ × ℤ)
pieces_of [] = []
pieces_of (n ∷ ns) = (pos n, pos n) ∷ pieces_of ns

-- these integers alone
abbrev just : List ℕ → ScalarMembers
just ns = members (record { null = false; no = false; yes = false; ints = pieces_of ns; texts = (false, []) })

abbrev plain : List ℕ → ScalarPair
plain ns = record { value = just ns; usual = None }

abbrev with_default : List ℕ → List ℕ → ScalarPair
with_default ns ms = record { value = just ns; usual = Some (just ms) }

-- which of 1, 2, 3 and 4 are members
abbrev asked : ScalarMembers → List Bool
asked set = set (number 1) ∷ set (number 2) ∷ set (number 3) ∷ set (number 4) ∷ []

-- what may stand, and the default
abbrev told : ScalarPair → List Bool × Option (List Bool)
told pair = (asked pair.value, option_map asked pair.usual)

abbrev set : Bool → Bool → Bool → Bool → List Bool
set one two three four = one ∷ two ∷ three ∷ four ∷ []

-- *1 | 2
a_mark_gives_the_default : told (disjunction ((true, plain (1 ∷ [])) ∷ (false, plain (2 ∷ [])) ∷ []))
    ≡ (set true true false false, Some (set true false false false))
a_mark_gives_the_default = refl

-- 1 | 2
without_marks_there_is_none : told (disjunction ((false, plain (1 ∷ [])) ∷ (false, plain (2 ∷ [])) ∷ []))
    ≡ (set true true false false, None)
without_marks_there_is_none = refl

-- (*1 | 2) | 3: without a mark a term keeps its own
a_term_keeps_its_own : told (disjunction ((false, with_default (1 ∷ 2 ∷ []) (1 ∷ [])) ∷ (false, plain (3 ∷ [])) ∷ []))
    ≡ (set true true true false, Some (set true false false false))
a_term_keeps_its_own = refl

-- (*1 | 2) | *3: beside a mark an unmarked term loses its own
an_unmarked_term_loses_its_own : told (disjunction ((false, with_default (1 ∷ 2 ∷ []) (1 ∷ [])) ∷ (true, plain (3 ∷ [])) ∷ []))
    ≡ (set true true true false, Some (set false false true false))
an_unmarked_term_loses_its_own = refl

-- *(*1 | 2) | 3: a marked term brings its default, and not its value
a_marked_term_brings_its_default : told (disjunction ((true, with_default (1 ∷ 2 ∷ []) (1 ∷ [])) ∷ (false, plain (3 ∷ [])) ∷ []))
    ≡ (set true true true false, Some (set true false false false))
a_marked_term_brings_its_default = refl

-- *1 | *2 | 3
marked_terms_join : told (disjunction ((true, plain (1 ∷ [])) ∷ (true, plain (2 ∷ [])) ∷ (false, plain (3 ∷ [])) ∷ []))
    ≡ (set true true true false, Some (set true true false false))
marked_terms_join = refl

-- *_|_ | 1 | 2
an_empty_default_stays : told (disjunction ((true, plain []) ∷ (false, plain (1 ∷ [])) ∷ (false, plain (2 ∷ [])) ∷ []))
    ≡ (set true true false false, Some (set false false false false))
an_empty_default_stays = refl

no_terms_are_the_empty_value : told (disjunction []) ≡ (set false false false false, None)
no_terms_are_the_empty_value = refl

-- (*1 | 2) & (2 | 3)
a_default_that_is_left_out_is_empty : told (all_of (with_default (1 ∷ 2 ∷ []) (1 ∷ []) ∷ plain (2 ∷ 3 ∷ []) ∷ []))
    ≡ (set false true false false, Some (set false false false false))
a_default_that_is_left_out_is_empty = refl

-- (*2 | 1 | 3) & (1 | 2): a side without a default brings its value
a_side_without_a_default_brings_its_value : told (all_of (with_default (1 ∷ 2 ∷ 3 ∷ []) (2 ∷ []) ∷ plain (1 ∷ 2 ∷ []) ∷ []))
    ≡ (set true true false false, Some (set false true false false))
a_side_without_a_default_brings_its_value = refl

-- (*1 | 2) & (*2 | 1)
defaults_meet : told (all_of (with_default (1 ∷ 2 ∷ []) (1 ∷ []) ∷ with_default (1 ∷ 2 ∷ []) (2 ∷ []) ∷ []))
    ≡ (set true true false false, Some (set false false false false))
defaults_meet = refl

-- (1 | 2) & (2 | 3)
without_defaults_there_is_none : told (all_of (plain (1 ∷ 2 ∷ []) ∷ plain (2 ∷ 3 ∷ []) ∷ []))
    ≡ (set false true false false, None)
without_defaults_there_is_none = refl

two_at_a_time_are_the_same : told (unify_pairs (with_default (1 ∷ 2 ∷ []) (1 ∷ [])) (plain (2 ∷ 3 ∷ [])))
    ≡ (set false true false false, Some (set false false false false))
two_at_a_time_are_the_same = refl

what_is_brought : (asked (default_or_value (plain (1 ∷ 2 ∷ []))) ≡ set true true false false)
    × (asked (default_or_value (with_default (1 ∷ 2 ∷ []) (2 ∷ []))) ≡ set false true false false)
what_is_brought = (refl, refl)
