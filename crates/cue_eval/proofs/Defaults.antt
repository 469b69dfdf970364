-- Examples: sets of scalars and defaults.
use Rattle.std.proofs.Common.{inl, inr, ℕ, Bool, true, false, [], refl, sym, lit<, arith}
use Rattle.std.specs.Prelude.{codes, negsuc}
use Rattle.std.proofs.lemmas.Bool.{false≢true}
use Rattle.cue_lattice.specs.declared.scalar.Scalar.TheVariants as scalars
use Rattle.cue_lattice.specs.Question as questions
use Rattle.cue_lattice.specs.Question.{may_be}
use Rattle.cue_syntax.specs.declared.tree.Sign.TheVariants.{Absent}
use Rattle.cue_syntax.specs.declared.tree.Comparison.{Comparison}
use Rattle.cue_syntax.specs.declared.tree.Comparison.TheVariants.{AtMost, AtLeast, Greater}
use Rattle.cue_scope.specs.declared.named.Named.TheVariants as sets
use Rattle.cue_scope.specs.Core.{Core, named, bottom, bound, other_text, disjunction, choice, no_choices}
use Rattle.cue_eval.specs.Refuses.{Refuses}
use Rattle.cue_eval.specs.Laws.{conjunction_of}
use Rattle.cue_eval.proofs.Example.{number, may_be_number, usual_number, in_range}

-- `l | r`, each marked or not
abbrev either : Bool → Core → Bool → Core → Core
either mark_l l mark_r r = disjunction (choice mark_l l (choice mark_r r no_choices))

abbrev compared : Comparison → ℕ → Core
compared comparison n = bound comparison (record { sign = Absent; magnitude = n })

-- *80 | 443
abbrev port : Core
port = either true (number 80) false (number 443)

the_other_port_may_stand : Refuses port [] (may_be_number 443) → ⊥
the_other_port_may_stand h = false≢true (sym h.1)

the_other_port_is_not_usual : Refuses port [] (usual_number 443)
the_other_port_is_not_usual = (in_range 443 (lit< tt), refl)

the_default_is_usual : Refuses port [] (usual_number 80) → ⊥
the_default_is_usual h = false≢true (sym h.1)

-- and 443: the default is left empty
abbrev no_port : Core
no_port = conjunction_of port (number 443)

the_default_is_refused : Refuses no_port [] (usual_number 80)
the_default_is_refused = inr (inl (in_range 80 (lit< tt), refl))

nothing_is_usual : Refuses no_port [] (usual_number 443)
nothing_is_usual = inl (in_range 443 (lit< tt), refl)

it_may_stand : Refuses no_port [] (may_be_number 443) → ⊥
it_may_stand (inl h) = false≢true (sym h.1)
it_may_stand (inr (inl h)) = false≢true (sym h.1)
it_may_stand (inr (inr h)) = h

-- *_|_ | 1 has an empty default
abbrev undecided : Core
undecided = either true bottom false (number 1)

an_empty_default_stays : Refuses undecided [] (usual_number 1)
an_empty_default_stays = (in_range 1 (lit< tt), refl)

one_may_stand : Refuses undecided [] (may_be_number 1) → ⊥
one_may_stand h = false≢true (sym h.1)

-- (1 | 2) | (*3 | 4): a term without a default brings none
abbrev nested : Core
nested = either false (either false (number 1) false (number 2)) false (either true (number 3) false (number 4))

a_value_is_no_default : Refuses nested [] (usual_number 1)
a_value_is_no_default = (in_range 1 (lit< tt), refl)

the_default_of_a_term : Refuses nested [] (usual_number 3) → ⊥
the_default_of_a_term h = false≢true (sym h.1)

-- (*1 | 2) | *3: an unmarked term beside a marked one loses its default
an_unmarked_term_loses_it : Refuses (either false (either true (number 1) false (number 2)) true (number 3)) [] (usual_number 1)
an_unmarked_term_loses_it = (in_range 1 (lit< tt), refl)

-- <=4 | >=5 is int
abbrev all_integers : Core
all_integers = either false (compared AtMost 4) false (compared AtLeast 5)

four_may_stand : Refuses all_integers [] (may_be_number 4) → ⊥
four_may_stand h = false≢true (sym h.1)

five_is_usual : Refuses all_integers [] (usual_number 5) → ⊥
five_is_usual h = false≢true (sym h.1)

no_text_is_an_integer : Refuses all_integers [] (may_be (scalars.Text (codes "5")))
no_text_is_an_integer = (tt, refl)

-- uint8 & >=250
abbrev large : Core
large = conjunction_of (named sets.Uint8) (compared AtLeast 250)

below_it : Refuses large [] (may_be_number 249)
below_it = inr (inl (in_range 249 (lit< tt), refl))

above_it : Refuses large [] (may_be_number 256)
above_it = inl (in_range 256 (lit< tt), refl)

at_its_end : Refuses large [] (may_be_number 255) → ⊥
at_its_end (inl h) = false≢true (sym h.1)
at_its_end (inr (inl h)) = false≢true (sym h.1)
at_its_end (inr (inr h)) = h

-- >9223372036854775807 lets no integer stand, and a number that is none of the language is never refused
the_greatest_integer : Refuses (compared Greater 9223372036854775807) [] (may_be_number 9223372036854775807)
the_greatest_integer = (in_range 9223372036854775807 (lit< tt), refl)

no_integer_of_the_language : Refuses bottom [] (may_be_number 9223372036854775808) → ⊥
no_integer_of_the_language h = omega (arith, h.0)

the_least_integer : Refuses (named sets.Int) [] (may_be (scalars.Int (negsuc 9223372036854775807))) → ⊥
the_least_integer h = false≢true (sym h.1)

-- !="x" lets all texts but one stand, and nothing else
the_text_is_refused : Refuses (other_text (codes "x")) [] (may_be (scalars.Text (codes "x")))
the_text_is_refused = (tt, refl)

another_text_may_stand : Refuses (other_text (codes "x")) [] (may_be (scalars.Text (codes "y"))) → ⊥
another_text_may_stand h = false≢true (sym h.1)

no_integer_is_a_text : Refuses (other_text (codes "x")) [] (may_be_number 5)
no_integer_is_a_text = (in_range 5 (lit< tt), refl)

-- a set of scalars lets neither structs nor lists stand
no_struct_is_a_scalar : Refuses (named sets.Bool) [] questions.struct
no_struct_is_a_scalar = tt
