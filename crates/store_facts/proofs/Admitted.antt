-- Which documents small expressions admit.
use Rattle.std.proofs.Common.{◌⊎◌, inl, inr, ℕ, List, [], ◌∷◌, true, false, refl}
use Rattle.std.proofs.lemmas.Bool.{false≢true}
use Rattle.cue_lattice.specs.declared.scalar.Scalar.TheVariants as scalars
use Rattle.cue_lattice.specs.Document as documents
use Rattle.cue_lattice.specs.Document.{Document}
use Rattle.cue_scope.specs.Core.{Core, top, bottom, conjunction, disjunction, struct, close, list, closed, no_cores, core, ends, goes_on, each, element, choice, no_choices, Members, no_members, dots}
use Rattle.cue_eval.proofs.Example.{field, optional, required}
use Rattle.cue_eval.proofs.Example as expressions
use Rattle.document_laws.specs.Admits.{Admits}
use Rattle.document_laws.specs.Conjuncts.{DeclaresLabel}
use Rattle.store_facts.proofs.Base.{a, b, c, number, other}
use Rattle.store_facts.proofs.Documents.{a_is}

-- a literal
abbrev is : ℕ → Core
is n = expressions.number n

abbrev null : Document
null = documents.scalar scalars.Null

abbrev scalar : ℕ → Document
scalar n = documents.scalar (number n)

-- {"a": 1, "b": null}
abbrev a_and_b : Document
a_and_b = documents.map (documents.member a (scalar 1) (documents.member b null documents.no_members))

abbrev no_map : Document
no_map = documents.map documents.no_members

abbrev two_items : Document → Document → Document
two_items x y = documents.list (documents.item x (documents.item y documents.no_items))

abbrev one_item : Document → Document
one_item x = documents.list (documents.item x documents.no_items)

-- ---- scalars
a_literal_admits_itself : Admits (is 1) (scalar 1)
a_literal_admits_itself = refl

and_no_other : (Admits (is 1) (scalar 2) ⊎ (Admits (is 1) null ⊎ Admits (is 1) no_map)) → ⊥
and_no_other (inl h) = false≢true h
and_no_other (inr (inl h)) = false≢true h
and_no_other (inr (inr h)) = h

anything_is_admitted_by_top : Admits top a_and_b
anything_is_admitted_by_top = tt

nothing_is_by_bottom : Admits bottom null → ⊥
nothing_is_by_bottom h = false≢true h

-- *1 | 2: a default takes no value away
each_term_is_admitted : Admits (disjunction (choice true (is 1) (choice false (is 2) no_choices))) (scalar 2)
each_term_is_admitted = refl

-- (1 | 2) & 2
both_sides_must_admit : Admits (conjunction (core (disjunction (choice false (is 1) (choice false (is 2) no_choices))) (core (is 2) no_cores))) (scalar 2)
both_sides_must_admit = (refl, (refl, tt))

one_side_is_not_enough : Admits (conjunction (core (disjunction (choice false (is 1) (choice false (is 2) no_choices))) (core (is 2) no_cores))) (scalar 1) → ⊥
one_side_is_not_enough h = false≢true h.1.0

-- ---- structs
a_field_is_admitted : Admits (struct (field a (is 1) no_members)) (a_is 1)
a_field_is_admitted = (inl refl, ((λ e. refl), tt), tt)

so_is_another_label_beside_it : Admits (struct (field a (is 1) no_members)) a_and_b
so_is_another_label_beside_it = (inl refl, ((λ e. refl), ((λ e. absurd (other b a refl e)), tt)), tt)

another_value_is_not : Admits (struct (field a (is 1) no_members)) (a_is 2) → ⊥
another_value_is_not h = false≢true (h.1.0 refl)

a_field_must_be_there : Admits (struct (field a (is 1) no_members)) no_map → ⊥
a_field_must_be_there h = h.0

so_must_a_required_one : Admits (struct (required a (is 1) no_members)) no_map → ⊥
so_must_a_required_one h = h.0

an_optional_one_may_lack : Admits (struct (optional a (is 1) no_members)) no_map
an_optional_one_may_lack = (tt, tt, tt)

but_not_have_another_value : Admits (struct (optional a (is 1) no_members)) (a_is 2) → ⊥
but_not_have_another_value h = false≢true (h.1.0 refl)

no_scalar_is_a_struct : (Admits (struct no_members) (scalar 1) ⊎ Admits (struct no_members) (one_item null)) → ⊥
no_scalar_is_a_struct (inl h) = h
no_scalar_is_a_struct (inr h) = h

-- ---- lists: [1, _], [1, ...] and [1, ...2]
as_many_elements_as_written : Admits (list (element (is 1) (element top ends))) (two_items (scalar 1) null)
as_many_elements_as_written = (refl, (tt, tt))

not_less : Admits (list (element (is 1) (element top ends))) (one_item (scalar 1)) → ⊥
not_less h = h.1

not_more : Admits (list (element (is 1) ends)) (two_items (scalar 1) null) → ⊥
not_more h = h.1

more_where_the_list_goes_on : Admits (list (element (is 1) goes_on)) (two_items (scalar 1) null)
more_where_the_list_goes_on = (refl, tt)

and_such_as_are_written : Admits (list (element (is 1) (each (is 2)))) (two_items (scalar 1) (scalar 2))
and_such_as_are_written = (refl, (refl, tt))

no_others : Admits (list (element (is 1) (each (is 2)))) (two_items (scalar 1) (scalar 3)) → ⊥
no_others h = false≢true h.1.0

-- ---- closing: #D: {a: {b?: _}}
abbrev nested : Members
nested = field a (struct (optional b top no_members)) no_members

abbrev below_a : List ℕ → Document
below_a l = documents.map (documents.member a (documents.map (documents.member l null documents.no_members)) documents.no_members)

a_definition_admits_what_it_declares : Admits (closed (struct nested)) (below_a b)
a_definition_admits_what_it_declares = (
  (inl refl, ((λ e. (tt, ((λ f. tt), tt), tt)), tt), tt),
  (inl (inl (inl refl)), (inl (inl (inl refl)), tt, tt), tt),
)

but_no_other_label : Admits (closed (struct (optional a top no_members))) (documents.map (documents.member b null documents.no_members)) → ⊥
but_no_other_label h = by h.1.0 where
  by : DeclaresLabel (optional a top no_members ∷ []) b → ⊥
  by (inl (inl (inl e))) = other a b refl e
  by (inl (inl (inr h))) = h
  by (inl (inr h)) = h
  by (inr (inl h)) = h
  by (inr (inr h)) = h

nor_one_further_below : Admits (closed (struct nested)) (below_a c) → ⊥
nor_one_further_below h = by h.1.1.0 where
  by : DeclaresLabel (optional b top no_members ∷ []) c → ⊥
  by (inl (inl (inl e))) = other b c refl e
  by (inl (inl (inr h))) = h
  by (inl (inr h)) = h
  by (inr (inl h)) = h
  by (inr (inr h)) = h

-- `close` closes its own place alone
close_leaves_what_is_below_open : Admits (close nested) (below_a c)
close_leaves_what_is_below_open =
    ((inl refl, ((λ e. (tt, ((λ f. absurd (other c b refl f)), tt), tt)), tt), tt), (inl (inl (inl refl)), tt))

and_closes_its_own : Admits (close (optional a top no_members)) (documents.map (documents.member b null documents.no_members)) → ⊥
and_closes_its_own h = by h.1.0 where
  by : DeclaresLabel (optional a top no_members ∷ []) b → ⊥
  by (inl (inl (inl e))) = other a b refl e
  by (inl (inl (inr h))) = h
  by (inl (inr h)) = h
  by (inr (inl h)) = h
  by (inr (inr h)) = h

-- {a?: _, ...}
dots_leave_a_definition_open : Admits (closed (struct (optional a top (dots no_members)))) (documents.map (documents.member b null documents.no_members))
dots_leave_a_definition_open = ((tt, ((λ e. absurd (other b a refl e)), tt), tt), (inr (inl tt), tt, tt))

-- {a?: _} & {b?: _}: the literals of one body declare together
parts_declare_together : Admits (closed (conjunction (core (struct (optional a top no_members)) (core (struct (optional b top no_members)) no_cores)))) (documents.map (documents.member b null documents.no_members))
parts_declare_together =
    (((tt, ((λ e. absurd (other b a refl e)), tt), tt), ((tt, ((λ e. tt), tt), tt), tt)), (inl (inr (inl (inl refl))), tt, tt))

-- [{a?: _}]
an_element_of_a_definition_is_closed : Admits (closed (list (element (struct (optional a top no_members)) ends))) (one_item (documents.map (documents.member b null documents.no_members))) → ⊥
an_element_of_a_definition_is_closed h = by h.1.0.0 where
  by : DeclaresLabel (optional a top no_members ∷ []) b → ⊥
  by (inl (inl (inl e))) = other a b refl e
  by (inl (inl (inr h))) = h
  by (inl (inr h)) = h
  by (inr (inl h)) = h
  by (inr (inr h)) = h
