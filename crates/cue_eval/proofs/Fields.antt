-- Examples: fields and their marks, and places where two kinds of things are wanted.
use Rattle.std.proofs.Common.{inl, inr, [], refl, sym, lit<, arith}
use Rattle.std.proofs.lemmas.Bool.{false≢true}
use Rattle.cue_lattice.specs.Question as questions
use Rattle.cue_lattice.specs.Question.{level_at_most}
use Rattle.cue_scope.specs.declared.named.Named.TheVariants as sets
use Rattle.cue_scope.specs.Core.{Core, named, struct, no_members}
use Rattle.cue_eval.specs.Refuses.{Refuses}
use Rattle.cue_eval.specs.Laws.{conjunction_of}
use Rattle.cue_eval.proofs.Example.{number, may_be_number, field, optional, required, a, b, at, other, in_range}

-- a!: 3
abbrev wanted : Core
wanted = struct (required a (number 3) no_members)

a_required_field_is_not_optional : Refuses wanted (at a) (level_at_most 0)
a_required_field_is_not_optional = inl (refl, inl (lit< tt))

a_required_field_may_lack : Refuses wanted (at a) (level_at_most 1) → ⊥
a_required_field_may_lack (inl (e, inl h)) = omega (arith, h)
a_required_field_may_lack (inl (e, inr h)) = h
a_required_field_may_lack (inr h) = h

-- and a: int
a_regular_field_is_there : Refuses (conjunction_of wanted (struct (field a (named sets.Int) no_members))) (at a) (level_at_most 1)
a_regular_field_is_there = inr (inl (inl (refl, inl (lit< tt))))

-- a?: 1 and a?: 2
abbrev unlikely : Core
unlikely = conjunction_of (struct (optional a (number 1) no_members)) (struct (optional a (number 2) no_members))

one_may_not_stand : Refuses unlikely (at a) (may_be_number 1)
one_may_not_stand = inr (inl (inl (refl, inr (in_range 1 (lit< tt), refl))))

two_may_not_stand : Refuses unlikely (at a) (may_be_number 2)
two_may_not_stand = inl (inl (refl, inr (in_range 2 (lit< tt), refl)))

but_it_may_lack : Refuses unlikely (at a) (level_at_most 0) → ⊥
but_it_may_lack (inl (inl (e, inl h))) = omega (arith, h)
but_it_may_lack (inl (inl (e, inr h))) = h
but_it_may_lack (inl (inr h)) = h
but_it_may_lack (inr (inl (inl (e, inl h)))) = omega (arith, h)
but_it_may_lack (inr (inl (inl (e, inr h)))) = h
but_it_may_lack (inr (inl (inr h))) = h
but_it_may_lack (inr (inr h)) = h

-- a: int and a: 3 in one struct: a repeated label unifies, and b is not spoken of
abbrev repeated : Core
repeated = struct (field a (named sets.Int) (field a (number 3) no_members))

a_repeated_label_unifies : Refuses repeated (at a) (may_be_number 4)
a_repeated_label_unifies = inr (inl (refl, inr (in_range 4 (lit< tt), refl)))

what_both_let_may_stand : Refuses repeated (at a) (may_be_number 3) → ⊥
what_both_let_may_stand (inl (e, inl h)) = h
what_both_let_may_stand (inl (e, inr h)) = false≢true (sym h.1)
what_both_let_may_stand (inr (inl (e, inl h))) = h
what_both_let_may_stand (inr (inl (e, inr h))) = false≢true (sym h.1)
what_both_let_may_stand (inr (inr h)) = h

another_label_is_free : Refuses repeated (at b) (may_be_number 4) → ⊥
another_label_is_free (inl (e, h)) = other a b refl e
another_label_is_free (inr (inl (e, h))) = other a b refl e
another_label_is_free (inr (inr h)) = h

-- {b: 1} & 3: nothing may stand, and b keeps its answers
abbrev clash : Core
clash = conjunction_of (struct (field b (number 1) no_members)) (number 3)

no_scalar_may_stand : Refuses clash [] (may_be_number 3)
no_scalar_may_stand = inl (in_range 3 (lit< tt))

no_struct_may_stand : Refuses clash [] questions.struct
no_struct_may_stand = inr (inl tt)

no_list_may_stand : Refuses clash [] questions.list
no_list_may_stand = inl tt

below_a_conflict_two_is_refused : Refuses clash (at b) (may_be_number 2)
below_a_conflict_two_is_refused = inl (inl (refl, inr (in_range 2 (lit< tt), refl)))

below_a_conflict_one_may_stand : Refuses clash (at b) (may_be_number 1) → ⊥
below_a_conflict_one_may_stand (inl (inl (e, inl h))) = h
below_a_conflict_one_may_stand (inl (inl (e, inr h))) = false≢true (sym h.1)
below_a_conflict_one_may_stand (inl (inr h)) = h
below_a_conflict_one_may_stand (inr (inl h)) = h
below_a_conflict_one_may_stand (inr (inr h)) = h
