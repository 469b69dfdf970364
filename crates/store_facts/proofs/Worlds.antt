-- Worlds of sites in a small language: what sites have taken, and what an event answers.
use Rattle.std.proofs.Common.{◌≡◌, inl, inr, ◌<◌, ℕ, List, [], ◌∷◌, refl, arith, lit<}
use Rattle.cue_lattice.specs.declared.refusal.Kind.TheVariants as kinds
use Rattle.cue_lattice.specs.declared.refusal.Refusal.{Refusal}
use Rattle.cue_lattice.specs.declared.scalar.Scalar.TheVariants as scalars
use Rattle.cue_lattice.specs.Refusal.{refusal_at, memory}
use Rattle.cue_lattice.specs.Question.{struct, list}
use Rattle.cue_lattice.specs.Document.{scalar, map, no_members}
use Rattle.cue_lattice.specs.World.{text, state, Meaning, IsSoundLanguage, IsExactOnDocuments, pieces_refuse, IsAdmitted, IsInSet, SamePieces, Event, submit, send, deliver, foreign, Outcome, accepted, sent, refused, no_such, start_sets, sets_after, reach_sets, IsThere, IsAnswerOutcome, IsStarved, IsEventOutcome, AreOutcomes, AllAlong, IsUnified, IsMessageOf}
use Rattle.store_facts.proofs.Base.{a, b, c, other}

-- The text a is legal, refuses structs and admits all; b has a fault at 0 that is found at once. The bytes c are a state that refuses lists.
-- A table is a number, refuses nothing, and is written as no bytes.
abbrev small : Meaning ℕ
small = record {
  IsValid = λ table. Unit {0};
  table_refuses = λ table path question. ⊥;
  IsLegal = λ t. t ≡ a;
  text_refuses = λ t path question. question ≡ struct;
  text_admits = λ t d. t ≡ a;
  IsTextFault = λ t why. (t ≡ b) × (why ≡ refusal_at kinds.Syntax 0);
  IsState = λ bytes. bytes ≡ c;
  state_refuses = λ bytes path question. question ≡ list;
  state_admits = λ bytes d. Unit {0};
  IsStateFault = λ bytes why. (bytes ≡ a) × (why ≡ refusal_at kinds.NotState 0);
  IsTextRefusedAtOnce = λ t. t ≡ b;
  IsStateRefusedAtOnce = λ bytes. ⊥;
  written = λ table. [];
}

-- ---- what every language must keep to, and this one does not
tables_with_equal_answers_are_equal : IsSoundLanguage ℕ small → ⊥
tables_with_equal_answers_are_equal h = let e = h.one_table 0 1 tt tt (λ path question. ((λ r. r), (λ r. r))) in cc

a_text_admits_what_meets_what_it_refuses : IsExactOnDocuments ℕ small → ⊥
a_text_admits_what_meets_what_it_refuses h = ((h.of_texts a (map no_members) tt).0 refl).0 refl

-- ---- sets of pieces
order_and_repetition_do_not_count : SamePieces (text a ∷ state c ∷ []) (state c ∷ text a ∷ text a ∷ [])
order_and_repetition_do_not_count piece = (there, back) where
  there : IsInSet (text a ∷ state c ∷ []) piece → IsInSet (state c ∷ text a ∷ text a ∷ []) piece
  there (inl e) = inr (inl e)
  there (inr (inl e)) = inl e
  there (inr (inr h)) = absurd h

  back : IsInSet (state c ∷ text a ∷ text a ∷ []) piece → IsInSet (text a ∷ state c ∷ []) piece
  back (inl e) = inr (inl e)
  back (inr (inl e)) = inl e
  back (inr (inr (inl e))) = inl e
  back (inr (inr (inr h))) = absurd h

a_piece_less_does : SamePieces (text a ∷ []) (text a ∷ state a ∷ []) → ⊥
a_piece_less_does h = by ((h (state a)).1 (inr (inl refl))) where
  by : IsInSet (text a ∷ []) (state a) → ⊥
  by (inl e) = cc
  by (inr h) = h

a_set_refuses_what_one_piece_does : pieces_refuse small (text a ∷ state c ∷ []) [] struct × pieces_refuse small (text a ∷ state c ∷ []) [] list
a_set_refuses_what_one_piece_does = (inl refl, inr (inl refl))

the_empty_set_refuses_nothing : pieces_refuse small [] [] struct → ⊥
the_empty_set_refuses_nothing h = h

each_piece_must_admit : IsAdmitted small (text a ∷ state c ∷ []) (scalar scalars.Null)
each_piece_must_admit = record { is = (tt, tt); by_each = (refl, (tt, tt)) }

one_is_not_enough : IsAdmitted small (state c ∷ text b ∷ []) (scalar scalars.Null) → ⊥
one_is_not_enough h = other b a refl h.by_each.1.0

-- ---- events: a is handed to the first site, its state goes to the second one twice, and c is handed to that
abbrev events : List Event
events = submit 0 a ∷ send 0 ∷ deliver 1 0 ∷ deliver 1 0 ∷ foreign 1 c ∷ send 1 ∷ []

abbrev outcomes : List Outcome
outcomes = accepted ∷ sent 0 ∷ accepted ∷ accepted ∷ accepted ∷ sent 1 ∷ []

what_the_sites_have_taken : reach_sets (start_sets 2) events outcomes ≡ record {
  sites = (text a ∷ []) ∷ (text a ∷ text a ∷ state c ∷ []) ∷ [];
  messages = (text a ∷ []) ∷ (text a ∷ text a ∷ state c ∷ []) ∷ [];
}
what_the_sites_have_taken = refl

what_is_refused_changes_nothing : sets_after (start_sets 2) (submit 0 b) (refused (refusal_at kinds.Syntax 0)) ≡ start_sets 2
what_is_refused_changes_nothing = refl

at_the_start_there_is_nothing : start_sets 2 ≡ record { sites = [] ∷ [] ∷ []; messages = [] }
at_the_start_there_is_nothing = refl

these_outcomes_may_come : AreOutcomes small (start_sets 2) events outcomes
these_outcomes_may_come = (
  inl (lit< tt, inl refl),
  (
    inl (lit< tt, inl refl),
    (
      inl ((lit< tt, lit< tt), inl tt),
      (inl ((lit< tt, lit< tt), inl tt), (inl (lit< tt, inl refl), (inl (lit< tt, inl refl), tt))),
    ),
  ),
)

each_event_has_one_outcome : AreOutcomes small (start_sets 2) (send 0 ∷ []) [] → ⊥
each_event_has_one_outcome h = h

a_fault_is_told : IsEventOutcome small (start_sets 1) (submit 0 b) (refused (refusal_at kinds.Syntax 0))
a_fault_is_told = inl (lit< tt, inl (refl, refl))

and_not_as_accepted : IsEventOutcome small (start_sets 1) (submit 0 b) accepted → ⊥
and_not_as_accepted (inl (there, inl e)) = other b a refl e
and_not_as_accepted (inl (there, inr starved)) = let e = starved.0 in cc
and_not_as_accepted (inr (gone, e)) = gone (lit< tt)

a_legal_text_has_no_fault : (why : Refusal) → IsAnswerOutcome small (start_sets 1) (submit 0 a) (refused why) → ⊥
a_legal_text_has_no_fault why h = other a b refl h.0

no_message_is_refused : (why : Refusal) → IsAnswerOutcome small (start_sets 2) (deliver 1 0) (refused why) → ⊥
no_message_is_refused why h = h

messages_are_counted_from_0 : IsAnswerOutcome small (start_sets 2) (send 0) (sent 1) → ⊥
messages_are_counted_from_0 e = cc

memory_may_run_out : IsStarved small (submit 0 a) (refused memory) × IsStarved small (deliver 0 0) (refused memory)
memory_may_run_out = ((refl, λ e. other a b refl e), (refl, λ h. h))

but_hides_no_fault_that_is_found_at_once : IsStarved small (submit 0 b) (refused memory) → ⊥
but_hides_no_fault_that_is_found_at_once h = h.1 refl

a_site_that_is_not_there : IsEventOutcome small (start_sets 2) (submit 2 a) no_such
a_site_that_is_not_there = inr ((λ h. omega (arith, h)), refl)

one_that_is : IsEventOutcome small (start_sets 2) (submit 1 a) no_such → ⊥
one_that_is (inl (there, inl h)) = h
one_that_is (inl (there, inr starved)) = let e = starved.0 in cc
one_that_is (inr (gone, e)) = gone (lit< tt)

no_message_is_there_at_the_start : IsThere (start_sets 2) (deliver 0 0) → ⊥
no_message_is_there_at_the_start h = omega (arith, h.1)

-- ---- what a site holds
the_unification_of_nothing : IsUnified small 0 []
the_unification_of_nothing = (tt, λ path question. ((λ h. h), (λ h. h)))

no_table_that_refuses_less : IsUnified small 0 (text a ∷ []) → ⊥
no_table_that_refuses_less h = (h.1 [] struct).1 (inl refl)

a_message_of_nothing : IsMessageOf small [] []
a_message_of_nothing = (0, the_unification_of_nothing, refl)

other_bytes_are_none : IsMessageOf small a [] → ⊥
other_bytes_are_none (table, unified, e) = cc

two_by_two : AllAlong (λ (m n : ℕ). m < n) (0 ∷ 1 ∷ []) (1 ∷ 2 ∷ [])
two_by_two = (lit< tt, (lit< tt, tt))

and_as_many : AllAlong (λ (m n : ℕ). m < n) (0 ∷ []) (1 ∷ 2 ∷ []) → ⊥
and_as_many h = h.1
