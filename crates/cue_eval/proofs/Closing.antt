-- Examples: which labels are left out where definitions and `close` close structs. A use of `#Name: body` is `closed body`.
use Rattle.std.proofs.Common.{inl, inr, [], refl}
use Rattle.std.specs.Prelude.{codes}
use Rattle.cue_lattice.specs.Question.{allows}
use Rattle.cue_scope.specs.declared.named.Named.TheVariants as sets
use Rattle.cue_scope.specs.Core.{Core, named, top, struct, close, closed, no_members, dots}
use Rattle.cue_eval.specs.Refuses.{Refuses}
use Rattle.cue_eval.specs.Laws.{conjunction_of}
use Rattle.cue_eval.proofs.Example.{number, field, optional, a, b, c, at, other, left_out, declared_stays, dots_open}

-- #P: {host: string, port?: int}
abbrev profile : Core
profile = closed (struct (field (codes "host") (named sets.Text) (optional (codes "port") (named sets.Int) no_members)))

another_label_is_left_out : Refuses profile [] (allows (codes "prt"))
another_label_is_left_out = inr (left_out _ _ _ refl refl)

an_optional_label_stays : Refuses profile [] (allows (codes "port")) → ⊥
an_optional_label_stays (inl h) = h
an_optional_label_stays (inr out) = declared_stays _ _ refl out

-- a struct literal by itself leaves out none
a_literal_is_open : Refuses (struct (field a (number 1) no_members)) [] (allows b) → ⊥
a_literal_is_open h = h

-- #P: {a?: _}
a_label_of_anything_stays : Refuses (closed (struct (optional a top no_members))) [] (allows a) → ⊥
a_label_of_anything_stays (inl h) = h
a_label_of_anything_stays (inr out) = declared_stays _ _ refl out

-- #P: {a: {b: int, ...}, c: {d: int}}
abbrev nested : Core
nested = closed (struct (field a (struct (field b (named sets.Int) (dots no_members))) (field c (struct (field (codes "d") (named sets.Int) no_members)) no_members)))

structs_in_a_definition_are_closed : Refuses nested (at c) (allows a)
structs_in_a_definition_are_closed = inr (left_out _ _ _ refl refl)

dots_open_their_struct : Refuses nested (at a) (allows c) → ⊥
dots_open_their_struct (inl (inl (e, inl h))) = h
dots_open_their_struct (inl (inl (e, inr h))) = h
dots_open_their_struct (inl (inr (inl (e, h)))) = other c a refl e
dots_open_their_struct (inl (inr (inr h))) = h
dots_open_their_struct (inr out) = dots_open _ _ refl out

-- dots in a struct below close nothing above
dots_below_leave_it_closed : Refuses nested [] (allows b)
dots_below_leave_it_closed = inr (left_out _ _ _ refl refl)

-- close({a: {b: 1}})
abbrev once : Core
once = close (field a (struct (field b (number 1) no_members)) no_members)

close_leaves_out_others : Refuses once [] (allows b)
close_leaves_out_others = inr (left_out _ _ _ refl refl)

close_leaves_structs_below_open : Refuses once (at a) (allows c) → ⊥
close_leaves_structs_below_open (inl (inl (e, inl h))) = h
close_leaves_structs_below_open (inl (inl (e, inr h))) = h
close_leaves_structs_below_open (inl (inr h)) = h
close_leaves_structs_below_open (inr h) = h

-- close({a: 1}) & close({b: 2}) leaves out both
abbrev apart : Core
apart = conjunction_of (close (field a (number 1) no_members)) (close (field b (number 2) no_members))

permissions_meet_at_a : Refuses apart [] (allows a)
permissions_meet_at_a = inr (inl (inr (left_out _ _ _ refl refl)))

permissions_meet_at_b : Refuses apart [] (allows b)
permissions_meet_at_b = inl (inr (left_out _ _ _ refl refl))

-- #B: {a: int, b?: int}, and #A: #B & {a: 3}
abbrev extended : Core
extended = closed (conjunction_of (closed (struct (field a (named sets.Int) (optional b (named sets.Int) no_members)))) (struct (field a (number 3) no_members)))

a_used_definition_declares : Refuses extended [] (allows b) → ⊥
a_used_definition_declares (inl (inl (inl h))) = h
a_used_definition_declares (inl (inl (inr out))) = declared_stays _ _ refl out
a_used_definition_declares (inl (inr (inl h))) = h
a_used_definition_declares (inl (inr (inr h))) = h
a_used_definition_declares (inr out) = declared_stays _ _ refl out

-- #A: {a: 1, ...}, #B: #A & {b: 1}, and #B & {c: 1}
abbrev stays_open : Core
stays_open =
    conjunction_of (closed (conjunction_of (closed (struct (field a (number 1) (dots no_members)))) (struct (field b (number 1) no_members))))
    (struct (field c (number 1) no_members))

dots_of_a_used_definition_open : Refuses stays_open [] (allows c) → ⊥
dots_of_a_used_definition_open (inl (inl (inl (inl h)))) = h
dots_of_a_used_definition_open (inl (inl (inl (inr out)))) = dots_open _ _ refl out
dots_of_a_used_definition_open (inl (inl (inr (inl h)))) = h
dots_of_a_used_definition_open (inl (inl (inr (inr h)))) = h
dots_of_a_used_definition_open (inl (inr out)) = dots_open _ _ refl out
dots_of_a_used_definition_open (inr (inl h)) = h
dots_of_a_used_definition_open (inr (inr h)) = h

-- #A: {} & 3 leaves out each label, though no struct may stand
a_conflict_leaves_out_labels : Refuses (closed (conjunction_of (struct no_members) (number 3))) [] (allows a)
a_conflict_leaves_out_labels = inr (left_out _ _ _ refl refl)
