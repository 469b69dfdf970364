use Rattle.std.proofs.Common.{◌+◌, ◌*◌, drop, nat_eq}
use Rattle.std.specs.Prelude.{codes}
use Rattle.cue_device.proofs.Telling.{IsTelling}
use Rattle.cue_table.specs.Size.{tree_size}
use Rattle.cue_print.specs.Printed.{elements, fields_of_labels}
use Rattle.cue_print.specs.Spelled.{join_texts, field_texts, element_texts}
use Rattle.cue_print.specs.Inner.Writing.{fields_at, element_of, beside_text}
use Rattle.cue_print.proofs.Fields.{fields_of}
use Rattle.cue_print.proofs.Joined.{left_joined}
use Rattle.cue_print.proofs.ListTexts.{elements_left}
use Rattle.cue_print.proofs.Parts.{outside_of, outside_text}
use Rattle.cue_print.proofs.Walk.{IsWriting}
use Rattle.cue_print.proofs.value.+walk.Given as goal

abbrev pub decreases-push_field : goal.decreases-push_field
decreases-push_field g l = 13 * tree_size l.field.now + 12

abbrev pub decreases-push_value : goal.decreases-push_value
decreases-push_value g l = 13 * tree_size l.branch.now + 11

abbrev pub decreases-push_nothing : goal.decreases-push_nothing
decreases-push_nothing g l = 13 * tree_size l.branch.now + 10

abbrev pub decreases-push_struct_before : goal.decreases-push_struct_before
decreases-push_struct_before g l = 13 * tree_size l.branch.now + 9

abbrev pub decreases-push_list_before : goal.decreases-push_list_before
decreases-push_list_before g l = 13 * tree_size l.branch.now + 9

abbrev pub decreases-push_struct_in_front : goal.decreases-push_struct_in_front
decreases-push_struct_in_front g l = 13 * tree_size l.branch.now + 8

abbrev pub decreases-push_list_in_front : goal.decreases-push_list_in_front
decreases-push_list_in_front g l = 13 * tree_size l.branch.now + 8

abbrev pub decreases-push_struct : goal.decreases-push_struct
decreases-push_struct g l = 13 * tree_size l.branch.now + 7

abbrev pub decreases-push_list : goal.decreases-push_list
decreases-push_list g l = 13 * tree_size l.branch.now + 7

abbrev pub decreases-push_open_struct : goal.decreases-push_open_struct
decreases-push_open_struct g l = 13 * tree_size l.branch.now + 6

abbrev pub decreases-push_closed_struct : goal.decreases-push_closed_struct
decreases-push_closed_struct g l = 13 * tree_size l.branch.now + 6

abbrev pub decreases-push_ending : goal.decreases-push_ending
decreases-push_ending g l = 13 * tree_size l.branch.now + 6

abbrev pub decreases-push_dots : goal.decreases-push_dots
decreases-push_dots g l = 13 * tree_size l.branch.now + 5

abbrev pub decreases-push_fields : goal.decreases-push_fields
decreases-push_fields g l = 13 * tree_size l.branch.now + 2

abbrev pub decreases-push_inside : goal.decreases-push_inside
decreases-push_inside g l = 13 * tree_size l.branch.now + 2

abbrev pub decreases-push_outside : goal.decreases-push_outside
decreases-push_outside g l = 13 * tree_size l.branch.now + 2

abbrev pub decreases-push_elements : goal.decreases-push_elements
decreases-push_elements g l = 13 * tree_size l.branch.now + 2

abbrev pub decreases-push_rest : goal.decreases-push_rest
decreases-push_rest g l = 13 * tree_size l.branch.now + 1

abbrev pub decreases-push_declared : goal.decreases-push_declared
decreases-push_declared g l = 13 * tree_size l.branch.now + 1

abbrev pub decreases-push_element : goal.decreases-push_element
decreases-push_element g l = 13 * tree_size l.branch.now + 1

abbrev pub invariant-push_fields-loop-label : goal.invariant-push_fields-loop-label
invariant-push_fields-loop-label g l =
    IsWriting l.branch l.label-iterator (g.S.TextSink.taken l.initial.out) (g.S.TextSink.taken l.out) (left_joined (codes ", ") l.is_first (field_texts (fields_of l.label-iterator)))
    (join_texts (codes ", ") (field_texts (fields_at l.branch)))

abbrev pub invariant-push_outside-loop-label : goal.invariant-push_outside-loop-label
invariant-push_outside-loop-label g l =
    IsWriting l.branch l.label-iterator (g.S.TextSink.taken l.initial.out) (g.S.TextSink.taken l.out) (outside_text l.is_first (outside_of l.row.labels (fields_of l.label-iterator)))
    (beside_text l.row.labels (fields_at l.branch))

abbrev pub invariant-push_inside-loop-i : goal.invariant-push_inside-loop-i
invariant-push_inside-loop-i g l =
    IsTelling (g.S.TextSink.taken l.initial.out) (g.S.TextSink.taken l.out) (left_joined (codes ", ") (nat_eq l.i 0) (field_texts (fields_of_labels (drop l.i l.labels) (fields_at l.branch))))
    (join_texts (codes ", ") (field_texts (fields_of_labels l.labels (fields_at l.branch))))

abbrev pub invariant-push_elements-loop-number : goal.invariant-push_elements-loop-number
invariant-push_elements-loop-number g l =
    IsTelling (g.S.TextSink.taken l.initial.out) (g.S.TextSink.taken l.out) (left_joined (codes ", ") (nat_eq l.number 0) (elements_left l.number l.count (element_of l.branch)))
    (join_texts (codes ", ") (element_texts (elements l.count (element_of l.branch))))
