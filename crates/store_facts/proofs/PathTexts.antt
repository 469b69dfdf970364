-- How paths are written, and the lines of a report.
use Rattle.std.proofs.Common.{◌≡◌, [], ◌∷◌, true, false, refl}
use Rattle.std.specs.Prelude.{codes}
use Rattle.std.specs.Fmt.{digits}
use Rattle.std.specs.Str.{chars}
use lib.Utf8.{encode}
use Rattle.cue_lattice.specs.Path.{label, index}
use Rattle.cue_row.specs.Quoted.{quote_text}
use Rattle.cue_row.specs.PathText.{label_text, step_text, path_text}
use Rattle.cue_report.specs.Lines.{conflict_line, gap_line}
use Rattle.store_facts.proofs.Base.{a}

the_root_is_a_dot : path_text [] ≡ codes "."
the_root_is_a_dot = refl

dots_stand_between_steps : path_text (label a ∷ index 12 ∷ label (codes "b c") ∷ index 0 ∷ []) ≡ codes "a.12.\"b c\".0"
unfolding digits chars encode
dots_stand_between_steps = refl

letters_digits_and_two_signs_are_bare : (label_text (codes "a9") ≡ codes "a9") × (label_text (codes "_$Z") ≡ codes "_$Z")
letters_digits_and_two_signs_are_bare = (refl, refl)

other_labels_are_quoted : (label_text [] ≡ codes "\"\"") × (label_text (codes "9a") ≡ codes "\"9a\"")
    × (label_text (codes "my-label") ≡ codes "\"my-label\"") × (label_text (codes ".") ≡ codes "\".\"")
unfolding chars encode
other_labels_are_quoted = (refl, refl, refl, refl)

escapes : quote_text (codes "\"\\\n\r\t\u{1}\u{1f}\u{7f}") ≡ codes "\"\\\"\\\\\\n\\r\\t\\u0001\\u001f\\u007f\""
unfolding chars encode
escapes = refl

-- two bytes, which are one letter
all_else_stands_for_itself : quote_text (0xc3 ∷ 0xa9 ∷ 0x20 ∷ 0x2f ∷ []) ≡ 0x22 ∷ 0xc3 ∷ 0xa9 ∷ 0x20 ∷ 0x2f ∷ 0x22 ∷ []
unfolding chars encode
all_else_stands_for_itself = refl

an_index_is_its_digits : (step_text (index 0) ≡ codes "0") × (step_text (index 65535) ≡ codes "65535")
unfolding digits
an_index_is_its_digits = (refl, refl)

-- ---- lines
a_conflict_without_a_value : conflict_line (record { path = label a ∷ []; no_value = true; not_allowed = false })
    ≡ codes "conflict a no value\n"
a_conflict_without_a_value = refl

a_label_that_is_not_allowed : conflict_line (record { path = label (codes "x") ∷ label (codes "prt") ∷ []; no_value = false; not_allowed = true })
    ≡ codes "conflict x.prt label not allowed\n"
a_label_that_is_not_allowed = refl

both_causes : conflict_line (record { path = label a ∷ []; no_value = true; not_allowed = true })
    ≡ codes "conflict a no value, label not allowed\n"
both_causes = refl

no_cause : conflict_line (record { path = []; no_value = false; not_allowed = false }) ≡ codes "conflict . \n"
no_cause = refl

what_is_missing : gap_line (record { path = label a ∷ index 1 ∷ []; missing = true }) ≡ codes "incomplete a.1 missing\n"
unfolding digits
what_is_missing = refl

what_is_not_one_value : gap_line (record { path = []; missing = false }) ≡ codes "incomplete . not a single value\n"
what_is_not_one_value = refl
