-- What a site is told of: states, their faults, events, and sites with the same pieces.
use Rattle.std.proofs.Common.{◌≡◌, ◌⊎◌, inl, inr, ◌++◌, [], ◌∷◌, refl, lit<}
use Rattle.std.specs.Prelude.{codes}
use Rattle.std.specs.Fmt.{digits}
use Rattle.std.specs.Str.{chars}
use lib.Utf8.{encode}
use Rattle.cue_lattice.specs.declared.refusal.Kind.TheVariants as kinds
use Rattle.cue_lattice.specs.Refusal.{refusal_at, memory}
use Rattle.cue_lattice.specs.Path.{Path, label}
use Rattle.cue_lattice.specs.Question.{level_at_most}
use Rattle.cue_lattice.specs.Document.{map, no_members}
use Rattle.cue_lattice.specs.World as world
use Rattle.cue_lattice.specs.World.{text, SamePieces}
use Rattle.cue_table.specs.Tree.{empty}
use Rattle.cue_codec.specs.declared.version.Version.TheVariants as versions
use Rattle.cue_codec.specs.State.{state_mark}
use Rattle.cue_codec.specs.Pieces.{so_far, other_version, no_state, failed}
use Rattle.cue_report.specs.declared.outcome.ExportKind.TheVariants as exports
use Rattle.cue_report.specs.Documents.{json_of}
use Rattle.cue_print.specs.Spelled.{term_text, terms_text, operand_text, default_text, value_text, part_texts, field_texts, element_texts, ending_texts, file_text}
use Rattle.cue_print.specs.Terms.{terms_of}
use Rattle.cue_print.specs.Printed.{row_value, value_of, fields_below, element_below, element_at, rest_value, file_of}
use Rattle.cue_replica.specs.declared.world.Event.TheVariants.{Submit, Deliver}
use Rattle.cue_replica.specs.declared.world.Outcome.TheVariants.{Accepted, Sent, Refused, NoSuch}
use Rattle.cue_replica.specs.Language.{empty_site, language}
use Rattle.cue_replica.specs.States.{IsTableOf, IsState, state_refuses, state_admits, IsStateFault, IsStateRefusedAtOnce}
use Rattle.cue_replica.specs.Replica.{AddsRefusals}
use Rattle.cue_replica.specs.Reports.{printed_text, AreConflictsOf, AreGapsOf, IsExportAsText}
use Rattle.cue_replica.specs.Documents.{IsOfChosen}
use Rattle.cue_replica.specs.PrintedAgain.{IsAgain}
use Rattle.cue_replica.specs.Reading.{HasFaultAt, HasTakenIn}
use Rattle.cue_replica.specs.World.{event_of, outcome_of, reached_sets, AreEqualSites, SubmitsText}
use Rattle.store_facts.proofs.Base.{a, b}
use Rattle.store_facts.proofs.Rows.{one}
use Rattle.store_facts.proofs.Tables.{a_is_one, a_is_one_is_valid}
use Rattle.store_facts.proofs.Documents.{refused_by, a_is, nor_does_a_map_without_it}
use Rattle.store_facts.proofs.Reports.{a_is_one_has_no_conflict, a_is_one_has_no_gap, a_is_one_is_exported, its_shape}
use Rattle.store_facts.proofs.StateBytes.{version_1, version_2, a_is_one_in_version_1, a_is_one_in_version_2, another_version_is_rejected_as_that}

a_new_site_knows_nothing : empty_site ≡ empty
a_new_site_knows_nothing = refl

-- ---- states
version_1_is_a_state : IsTableOf version_1 a_is_one
version_1_is_a_state = record { valid = a_is_one_is_valid; spelled = (versions.First, (tt, ((tt, tt), tt)), a_is_one_in_version_1) }

version_2_is_one : IsTableOf version_2 a_is_one
version_2_is_one = record { valid = a_is_one_is_valid; spelled = (versions.Second, (tt, ((tt, tt), tt)), a_is_one_in_version_2) }

both_are_taken : IsState version_1 × IsState version_2
both_are_taken = ((a_is_one, version_1_is_a_state), (a_is_one, version_2_is_one))

a_state_refuses_what_its_table_does : state_refuses version_1 (label a ∷ []) (level_at_most 0)
a_state_refuses_what_its_table_does = (a_is_one, version_1_is_a_state, lit< tt)

and_admits_what_meets_that : state_admits version_1 (map no_members) → ⊥
and_admits_what_meets_that h = nor_does_a_map_without_it (h a_is_one version_1_is_a_state)

another_version_is_a_fault : IsStateFault (state_mark ++ 3 ∷ []) (refusal_at kinds.Version 0)
another_version_is_a_fault = (refl, another_version_is_rejected_as_that)

at_no_other_place : IsStateFault (state_mark ++ 3 ∷ []) (refusal_at kinds.Version 4) → ⊥
at_no_other_place h = let e = h.0 in cc

a_state_has_no_fault : IsStateFault version_1 (refusal_at kinds.NotState 0) → ⊥
a_state_has_no_fault (place, inl h) = let e = h.0 in cc
a_state_has_no_fault (place, inr h) = h.2 a_is_one a_is_one_is_valid version_1_is_a_state.spelled

no_bytes_are_refused_at_once : IsStateRefusedAtOnce []
no_bytes_are_refused_at_once (version, count, rest, e) = cc

a_state_is_not : IsStateRefusedAtOnce version_2 → ⊥
a_state_is_not h = h (versions.Second, 2, _, refl)

a_reader_stands_at_its_fault : HasFaultAt other_version kinds.Version × HasFaultAt no_state kinds.NotState × HasFaultAt failed kinds.Failed
a_reader_stands_at_its_fault = (refl, refl, refl)

and_at_none_before : HasFaultAt (so_far state_mark) kinds.NotState → ⊥
and_at_none_before h = h

all_bytes_are_taken_in : HasTakenIn (so_far state_mark) state_mark
all_bytes_are_taken_in = (refl, lit< tt)

-- ---- what a site takes in
what_was_added_is_refused : AddsRefusals empty_site (refused_by one) a_is_one
what_was_added_is_refused path question = ((λ h. inr h), back path) where
  back : (p : Path) → (language.table_refuses empty_site p question ⊎ refused_by one p question) → language.table_refuses a_is_one p question
  back [] (inl h) = absurd h
  back (step ∷ p) (inl h) = absurd h
  back p (inr h) = h

and_nothing_else : AddsRefusals empty_site (λ path question. ⊥) a_is_one → ⊥
and_nothing_else h = by ((h (label a ∷ []) (level_at_most 0)).0 (lit< tt)) where
  by : (language.table_refuses empty_site (label a ∷ []) (level_at_most 0) ⊎ ⊥) → ⊥
  by (inl h) = h
  by (inr h) = h

a_refused_text_changes_nothing : SubmitsText [] empty_site a_is_one (Refused memory) → ⊥
a_refused_text_changes_nothing h = let e = h.0 in cc

a_text_that_is_handed_in_is_no_message : SubmitsText [] empty_site empty_site (Sent 0) → ⊥
a_text_that_is_handed_in_is_no_message h = h

-- ---- what is told of it
its_reports : AreConflictsOf a_is_one [] × AreGapsOf a_is_one [] × IsExportAsText a_is_one exports.Json (codes "{\"a\":1}")
its_reports = (a_is_one_has_no_conflict, a_is_one_has_no_gap, a_is_one_is_exported)

its_export_is_of_chosen_scalars : IsOfChosen a_is_one (json_of (a_is 1))
its_export_is_of_chosen_scalars = record { shape = its_shape; full = a_is_one_has_no_gap }

-- ---- events
events_and_outcomes : (event_of (Submit 1 a) ≡ world.submit 1 a) × (event_of (Deliver 1 0) ≡ world.deliver 1 0)
    × (outcome_of (Sent 3) ≡ world.sent 3) × (outcome_of NoSuch ≡ world.no_such)
events_and_outcomes = (refl, refl, refl, refl)

what_one_site_has_taken : reached_sets 2 (Submit 1 a ∷ Submit 0 b ∷ []) (Accepted ∷ Refused memory ∷ []) ≡ record {
  sites = [] ∷ (text a ∷ []) ∷ [];
  messages = [];
}
what_one_site_has_taken = refl

-- ---- sites with the same pieces, and what is printed
sites_of_one_set_hold_one_table : AreEqualSites (empty_site ∷ a_is_one ∷ []) ((text a ∷ []) ∷ (text a ∷ text a ∷ []) ∷ []) → ⊥
sites_of_one_set_hold_one_table h = let e = h 0 1 empty_site a_is_one refl refl same in cc where
  same : SamePieces (text a ∷ []) (text a ∷ text a ∷ [])
  same piece = ((λ g. inr g), back) where
    back : ((text a ≡ piece) ⊎ ((text a ≡ piece) ⊎ ⊥)) → ((text a ≡ piece) ⊎ ⊥)
    back (inl e) = inl e
    back (inr g) = g

the_printed_text : printed_text a_is_one ≡ codes "\"a\": 1\n"
unfolding file_text file_of value_text part_texts field_texts element_texts ending_texts fields_below element_below element_at rest_value value_of row_value terms_of terms_text default_text operand_text term_text chars encode digits
the_printed_text = refl

the_same_table_again : IsAgain a_is_one a_is_one Accepted × IsAgain a_is_one empty_site (Refused memory)
the_same_table_again = (refl, refl)

no_other_one : IsAgain a_is_one empty_site Accepted → ⊥
no_other_one e = cc
