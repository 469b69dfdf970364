use Rattle.std.proofs.Common.{◌≡◌, ◌<◌, ◌∙◌, [], true, false, Some, nat_eq, refl, sym, ap, arith}
use Rattle.std.specs.Prelude.{codes}
use Rattle.std.specs.Option.{option_map}
use Rattle.std.proofs.lemmas.Bool.{false≢true}
use Rattle.std.proofs.lemmas.List.{drop_all}
use Rattle.cue_device.proofs.Texts.{appends_none, begins_now, begins_later}
use Rattle.cue_device.proofs.Telling.{on_err, told_as, begun_as, appends_as, begins_as, tells_first, tells_next, tells_part, tells_all}
use Rattle.cue_lattice.specs.Path.{label, index}
use Rattle.cue_table.specs.Tree.{below, rest_below, row_of, step_into}
use Rattle.cue_table.specs.Inner.Walks.{found_smaller}
use Rattle.cue_print.specs.Printed.{elements, level_at}
use Rattle.cue_print.specs.Terms.{terms_of}
use Rattle.cue_print.specs.Spelled.{join_texts, mark_text, value_text, element_texts}
use Rattle.cue_print.specs.Inner.Writing.{fields_at, element_of, further_at, ending_text, longest_text, found_text, closed_text, written_struct}
use Rattle.cue_print.proofs.Fields.{first_field, no_field_left, all_fields}
use Rattle.cue_print.proofs.Found.{first_label, no_label_left, element_for, element_into, no_rest_told, rest_told}
use Rattle.cue_print.proofs.Joined.{left_joined, none_joined, part_separated, text_told, part_told, later, from_here}
use Rattle.cue_print.proofs.ListTexts.{first_element, no_element_left, all_elements, top_text}
use Rattle.cue_print.proofs.Parts.{struct_spelled, list_spelled, nothing_told, outside_of, outside_text, all_outside, first_outside, outside_closed}
use Rattle.cue_print.proofs.Places.{no_row, by_kind, no_terms, no_members, by_terms, without_terms}
use Rattle.cue_print.proofs.Walk.{all_small, others_small}
use Rattle.cue_print.proofs.value.+walk.Goals as goal

-- ---- fields
pub push_fields-loop-label-init : goal.push_fields-loop-label-init
push_fields-loop-label-init g t c =
    let all = c.into_iter-label-iterator.ensures.into_iter_gives ∙ c.labels-label-items.ensures.list in
    record {
      small = all_small c.args.branch.now _ all;
      telling = tells_first _ _ _ (ap (left_joined (codes ", ") true) (all_fields (below c.args.branch.now) _ all));
    }

pub push_fields-loop-label-preserved : goal.push_fields-loop-label-preserved
push_fields-loop-label-preserved g t c =
    record {
      small = others_small _ _ _ _ c.in-Some.ensures.steps c.loop-label.invariant.small;
      telling = text_told _ _ _ _ (codes ", ") c.loop-label.is_first _ _ _ _ (first_field _ _ _ c.in-Some.ensures.steps) c.loop-label.invariant.telling c.in_ok-separate.ensures.told c.in_ok-push_field.ensures.told;
    }

pub push_fields-returns-in_err-separate-clause-begun : goal.push_fields-returns-in_err-separate-clause-begun
push_fields-returns-in_err-separate-clause-begun g t c =
    on_err _ (part_separated _ _ _ (codes ", ") c.loop-label.is_first _ _ _ _ (first_field _ _ _ c.in-Some.ensures.steps) c.loop-label.invariant.telling c.in_err-separate.ensures.begun)

pub push_fields-returns-in_err-push_field-clause-begun : goal.push_fields-returns-in_err-push_field-clause-begun
push_fields-returns-in_err-push_field-clause-begun g t c =
    on_err _ (part_told _ _ _ _ (codes ", ") c.loop-label.is_first _ _ _ _ (first_field _ _ _ c.in-Some.ensures.steps) c.loop-label.invariant.telling c.in_ok-separate.ensures.told c.in_err-push_field.ensures.begun)

pub push_fields-returns-clause-told : goal.push_fields-returns-clause-told
push_fields-returns-clause-told g t c =
    tells_all _ _ _ _ (none_joined (codes ", ") c.loop-label.is_first _ (no_field_left _ c.in-None.ensures.steps.0)) c.loop-label.invariant.telling

pub push_inside-loop-i-preserved : goal.push_inside-loop-i-preserved
push_inside-loop-i-preserved g t c =
    let i = c.loop-i.i in
    later _ _ (codes ", ") i _ _
    (text_told _ _ _ _ (codes ", ") (nat_eq i 0) _ _ _ _ (first_label c.args.branch.now _ _ _ (from_here c.args.labels.now i _ c.loop-i-test.true c.index-labels-i.is)) c.loop-i.invariant c.in_ok-separate.ensures.told c.in_ok-push_declared.ensures.told)

pub push_inside-returns-in_err-separate-clause-begun : goal.push_inside-returns-in_err-separate-clause-begun
push_inside-returns-in_err-separate-clause-begun g t c =
    let i = c.loop-i.i in
    on_err _ (part_separated _ _ _ (codes ", ") (nat_eq i 0) _ _ _ _ (first_label c.args.branch.now _ _ _ (from_here c.args.labels.now i _ c.loop-i-test.true c.index-labels-i.is)) c.loop-i.invariant c.in_err-separate.ensures.begun)

pub push_inside-returns-in_err-push_declared-clause-begun : goal.push_inside-returns-in_err-push_declared-clause-begun
push_inside-returns-in_err-push_declared-clause-begun g t c =
    let i = c.loop-i.i in
    on_err _ (part_told _ _ _ _ (codes ", ") (nat_eq i 0) _ _ _ _ (first_label c.args.branch.now _ _ _ (from_here c.args.labels.now i _ c.loop-i-test.true c.index-labels-i.is)) c.loop-i.invariant c.in_ok-separate.ensures.told c.in_err-push_declared.ensures.begun)

pub push_inside-returns-clause-told : goal.push_inside-returns-clause-told
push_inside-returns-clause-told g t c =
    tells_all _ _ _ _ (none_joined (codes ", ") (nat_eq c.loop-i.i 0) _ (no_label_left c.args.branch.now _ (drop_all c.loop-i.i c.args.labels.now (omega arith)))) c.loop-i.invariant

pub push_outside-loop-label-init : goal.push_outside-loop-label-init
push_outside-loop-label-init g t c =
    let all = c.into_iter-label-iterator.ensures.into_iter_gives ∙ c.labels-label-items.ensures.list in
    let labels = c.args.row.now.labels in
    record {
      small = all_small c.args.branch.now _ all;
      telling = tells_first _ _ _ (all_outside labels (below c.args.branch.now) _ all);
    }

pub push_outside-loop-label-preserved-then-not-allows : goal.push_outside-loop-label-preserved-then-not-allows
push_outside-loop-label-preserved-then-not-allows g t c =
    let next = first_outside c.loop-label.is_first c.args.row.now.labels _ _ _ c.in-Some.ensures.steps (sym c.allows.ensures ∙ c.if-not-allows.true) in
    record {
      small = others_small _ _ _ _ c.in-Some.ensures.steps c.loop-label.invariant.small;
      telling = tells_next _ _ _ _ _ _ _ refl
          (tells_next _ _ _ _ _ _ _ next c.loop-label.invariant.telling c.in_ok-push_opening.ensures.told) c.in_ok-push_field.ensures.told;
    }

pub push_outside-returns-in_err-push_opening-clause-begun : goal.push_outside-returns-in_err-push_opening-clause-begun
push_outside-returns-in_err-push_opening-clause-begun g t c =
    let next = first_outside c.loop-label.is_first c.args.row.now.labels _ _ _ c.in-Some.ensures.steps (sym c.allows.ensures ∙ c.if-not-allows.true) in
    on_err _ (tells_part _ _ _ _ _ _ _ next c.loop-label.invariant.telling c.in_err-push_opening.ensures.begun)

pub push_outside-returns-in_err-push_field-clause-begun : goal.push_outside-returns-in_err-push_field-clause-begun
push_outside-returns-in_err-push_field-clause-begun g t c =
    let next = first_outside c.loop-label.is_first c.args.row.now.labels _ _ _ c.in-Some.ensures.steps (sym c.allows.ensures ∙ c.if-not-allows.true) in
    on_err _ (tells_part _ _ _ _ _ _ _ refl (tells_next _ _ _ _ _ _ _ next c.loop-label.invariant.telling c.in_ok-push_opening.ensures.told) c.in_err-push_field.ensures.begun)

pub push_outside-returns-in_err-push_closing-clause-begun : goal.push_outside-returns-in_err-push_closing-clause-begun
push_outside-returns-in_err-push_closing-clause-begun g t c =
    on_err _ (tells_part _ _ _ _ _ _ _ (outside_closed c.loop-label.is_first c.args.row.now.labels _ c.in-None.ensures.steps.0) c.loop-label.invariant.telling c.in_err-push_closing.ensures.begun)

pub push_outside-returns-clause-told : goal.push_outside-returns-clause-told
push_outside-returns-clause-told g t c =
    tells_all _ _ _ _ refl (tells_next _ _ _ _ _ _ _ (outside_closed c.loop-label.is_first c.args.row.now.labels _ c.in-None.ensures.steps.0) c.loop-label.invariant.telling c.in_ok-push_closing.ensures.told)

-- ---- elements
pub push_elements-loop-number-init : goal.push_elements-loop-number-init
push_elements-loop-number-init g t c = tells_first _ _ _ (ap (left_joined (codes ", ") true) (all_elements c.args.count (element_of c.args.branch.now)))

pub push_elements-loop-number-preserved : goal.push_elements-loop-number-preserved
push_elements-loop-number-preserved g t c =
    let n = c.loop-number.number in
    let more : n < c.args.count = omega arith in
    later _ _ (codes ", ") n _ _
    (text_told _ _ _ _ (codes ", ") (nat_eq n 0) _ _ _ _ (first_element n c.args.count (element_of c.args.branch.now) more) c.loop-number.invariant c.in_ok-separate.ensures.told c.in_ok-push_element.ensures.told)

pub push_elements-returns-in_err-separate-clause-begun : goal.push_elements-returns-in_err-separate-clause-begun
push_elements-returns-in_err-separate-clause-begun g t c =
    let n = c.loop-number.number in
    let more : n < c.args.count = omega arith in
    on_err _ (part_separated _ _ _ (codes ", ") (nat_eq n 0) _ _ _ _ (first_element n c.args.count (element_of c.args.branch.now) more) c.loop-number.invariant c.in_err-separate.ensures.begun)

pub push_elements-returns-in_err-push_element-clause-begun : goal.push_elements-returns-in_err-push_element-clause-begun
push_elements-returns-in_err-push_element-clause-begun g t c =
    let n = c.loop-number.number in
    let more : n < c.args.count = omega arith in
    on_err _ (part_told _ _ _ _ (codes ", ") (nat_eq n 0) _ _ _ _ (first_element n c.args.count (element_of c.args.branch.now) more) c.loop-number.invariant c.in_ok-separate.ensures.told c.in_err-push_element.ensures.begun)

pub push_elements-returns-clause-told : goal.push_elements-returns-clause-told
push_elements-returns-clause-told g t c =
    let all : c.loop-number.number ≡ c.args.count = omega arith in
    tells_all _ _ _ _ (none_joined (codes ", ") (nat_eq c.loop-number.number 0) _ (no_element_left c.loop-number.number c.args.count (element_of c.args.branch.now) all)) c.loop-number.invariant

-- ---- what is found
pub push_declared-push_field-requires : goal.push_declared-push_field-requires
push_declared-push_field-requires g t c κs within =
    (let smaller = found_smaller (label c.in_ok-copy.field-0) c.args.branch.now c.in-Some.field (sym c.find.ensures.branch ∙ c.in-Some.is) in omega arith, (within.0, within.1))

pub push_declared-returns-in-None-clause-told : goal.push_declared-returns-in-None-clause-told
push_declared-returns-in-None-clause-told g t c =
    let tree = c.args.branch.now in
    let l = c.args.label.now in
    let found = ap (λ x. step_into tree (label x)) (sym c.in_ok-copy.ensures.text) ∙ sym c.find.ensures.branch in
    told_as c.push_free_field.result _ _ _ _ (ap (found_text l) (sym (found ∙ c.in-None.is))) c.push_free_field.ensures.told

pub push_declared-returns-in-None-clause-begun : goal.push_declared-returns-in-None-clause-begun
push_declared-returns-in-None-clause-begun g t c =
    let tree = c.args.branch.now in
    let l = c.args.label.now in
    let found = ap (λ x. step_into tree (label x)) (sym c.in_ok-copy.ensures.text) ∙ sym c.find.ensures.branch in
    begun_as c.push_free_field.result _ _ _ _ (ap (found_text l) (sym (found ∙ c.in-None.is))) c.push_free_field.ensures.begun

pub push_declared-returns-clause-told : goal.push_declared-returns-clause-told
push_declared-returns-clause-told g t c =
    let tree = c.args.branch.now in
    let l = c.args.label.now in
    let found = ap (λ x. step_into tree (label x)) (sym c.in_ok-copy.ensures.text) ∙ sym c.find.ensures.branch in
    told_as c.push_field.result _ _ _ _ (ap (λ x. found_text x (Some c.in-Some.field)) c.as_str.ensures ∙ ap (found_text l) (sym (found ∙ c.in-Some.is))) c.push_field.ensures.told

pub push_declared-returns-clause-begun : goal.push_declared-returns-clause-begun
push_declared-returns-clause-begun g t c =
    let tree = c.args.branch.now in
    let l = c.args.label.now in
    let found = ap (λ x. step_into tree (label x)) (sym c.in_ok-copy.ensures.text) ∙ sym c.find.ensures.branch in
    begun_as c.push_field.result _ _ _ _ (ap (λ x. found_text x (Some c.in-Some.field)) c.as_str.ensures ∙ ap (found_text l) (sym (found ∙ c.in-Some.is))) c.push_field.ensures.begun

pub push_element-push_value-requires : goal.push_element-push_value-requires
push_element-push_value-requires g t c κs within =
    (let smaller = found_smaller (index c.args.number) c.args.branch.now c.in-Some.element (sym c.find.ensures.branch ∙ c.in-Some.is) in omega arith, (within.0, within.1))

pub push_element-returns-in-None-clause-told : goal.push_element-returns-in-None-clause-told
push_element-returns-in-None-clause-told g t c =
    let found = element_into c.args.branch.now c.args.number ∙ ap element_for (sym c.find.ensures.branch) in
    told_as c.put.result _ _ _ _ (top_text ∙ ap value_text (sym (found ∙ ap element_for c.in-None.is))) c.put.ensures.told

pub push_element-returns-in-None-clause-begun : goal.push_element-returns-in-None-clause-begun
push_element-returns-in-None-clause-begun g t c =
    let found = element_into c.args.branch.now c.args.number ∙ ap element_for (sym c.find.ensures.branch) in
    begun_as c.put.result _ _ _ _ (top_text ∙ ap value_text (sym (found ∙ ap element_for c.in-None.is))) c.put.ensures.begun

pub push_element-returns-clause-told : goal.push_element-returns-clause-told
push_element-returns-clause-told g t c =
    let found = element_into c.args.branch.now c.args.number ∙ ap element_for (sym c.find.ensures.branch) in
    told_as c.push_value.result _ _ _ _ (ap value_text (sym (found ∙ ap element_for c.in-Some.is))) c.push_value.ensures.told

pub push_element-returns-clause-begun : goal.push_element-returns-clause-begun
push_element-returns-clause-begun g t c =
    let found = element_into c.args.branch.now c.args.number ∙ ap element_for (sym c.find.ensures.branch) in
    begun_as c.push_value.result _ _ _ _ (ap value_text (sym (found ∙ ap element_for c.in-Some.is))) c.push_value.ensures.begun

pub push_rest-returns-in-None-clause-told : goal.push_rest-returns-in-None-clause-told
push_rest-returns-in-None-clause-told g t c =
    appends_as _ _ _ _ (no_rest_told c.args.branch.now c.in-None.ensures.rest) (appends_none _)

pub push_rest-returns-in-Some-clause-told : goal.push_rest-returns-in-Some-clause-told
push_rest-returns-in-Some-clause-told g t c =
    told_as c.push_value.result _ _ _ _ (rest_told c.args.branch.now c.in-Some.rest c.in-Some.ensures.rest) c.push_value.ensures.told

pub push_rest-returns-in-Some-clause-begun : goal.push_rest-returns-in-Some-clause-begun
push_rest-returns-in-Some-clause-begun g t c =
    begun_as c.push_value.result _ _ _ _ (rest_told c.args.branch.now c.in-Some.rest c.in-Some.ensures.rest) c.push_value.ensures.begun

-- ---- places
pub push_struct-returns-in-None-clause-told : goal.push_struct-returns-in-None-clause-told
push_struct-returns-in-None-clause-told g t c =
    told_as c.push_open_struct.result _ _ _ _ (ap (λ ls. written_struct ls (fields_at c.args.branch.now)) c.in-None.ensures.list) c.push_open_struct.ensures.told

pub push_struct-returns-in-None-clause-begun : goal.push_struct-returns-in-None-clause-begun
push_struct-returns-in-None-clause-begun g t c =
    begun_as c.push_open_struct.result _ _ _ _ (ap (λ ls. written_struct ls (fields_at c.args.branch.now)) c.in-None.ensures.list) c.push_open_struct.ensures.begun

pub push_struct-returns-in-Some-clause-told : goal.push_struct-returns-in-Some-clause-told
push_struct-returns-in-Some-clause-told g t c =
    told_as c.push_closed_struct.result _ _ _ _ (ap (λ ls. closed_text c.in-Some.labels.now ls (fields_at c.args.branch.now)) (sym c.in-Some.ensures.list) ∙ ap (λ ls. written_struct ls (fields_at c.args.branch.now)) c.in-Some.ensures.list) c.push_closed_struct.ensures.told

pub push_struct-returns-in-Some-clause-begun : goal.push_struct-returns-in-Some-clause-begun
push_struct-returns-in-Some-clause-begun g t c =
    begun_as c.push_closed_struct.result _ _ _ _ (ap (λ ls. closed_text c.in-Some.labels.now ls (fields_at c.args.branch.now)) (sym c.in-Some.ensures.list) ∙ ap (λ ls. written_struct ls (fields_at c.args.branch.now)) c.in-Some.ensures.list) c.push_closed_struct.ensures.begun

pub push_value-returns-in_default-clause-told : goal.push_value-returns-in_default-clause-told
push_value-returns-in_default-clause-told g t c =
    told_as c.put.result _ _ _ _ (top_text ∙ ap value_text (no_row c.args.branch.now (sym c.row.ensures.row ∙ ap (option_map (λ row. row.now)) c.in_default.is))) c.put.ensures.told

pub push_value-returns-in_default-clause-begun : goal.push_value-returns-in_default-clause-begun
push_value-returns-in_default-clause-begun g t c =
    begun_as c.put.result _ _ _ _ (top_text ∙ ap value_text (no_row c.args.branch.now (sym c.row.ensures.row ∙ ap (option_map (λ row. row.now)) c.in_default.is))) c.put.ensures.begun

pub push_value-returns-in-true-true-clause-told : goal.push_value-returns-in-true-true-clause-told
push_value-returns-in-true-true-clause-told g t c =
    told_as c.put-in-true-true.result _ _ _ _ (top_text ∙ ap value_text (by_kind c.args.branch.now c.in-Some.row.now true true c.in-Some.ensures.row (sym c.in-true-true.ensures) (sym c.in-true-true.ensures'))) c.put-in-true-true.ensures.told

pub push_value-returns-in-true-true-clause-begun : goal.push_value-returns-in-true-true-clause-begun
push_value-returns-in-true-true-clause-begun g t c =
    begun_as c.put-in-true-true.result _ _ _ _ (top_text ∙ ap value_text (by_kind c.args.branch.now c.in-Some.row.now true true c.in-Some.ensures.row (sym c.in-true-true.ensures) (sym c.in-true-true.ensures'))) c.put-in-true-true.ensures.begun

pub push_value-returns-in-true-false-clause-told : goal.push_value-returns-in-true-false-clause-told
push_value-returns-in-true-false-clause-told g t c =
    told_as c.push_struct.result _ _ _ _ (struct_spelled c.in-Some.row.now.labels (fields_at c.args.branch.now) ∙ ap value_text (by_kind c.args.branch.now c.in-Some.row.now true false c.in-Some.ensures.row (sym c.in-true-false.ensures) (sym c.in-true-false.ensures'))) c.push_struct.ensures.told

pub push_value-returns-in-true-false-clause-begun : goal.push_value-returns-in-true-false-clause-begun
push_value-returns-in-true-false-clause-begun g t c =
    begun_as c.push_struct.result _ _ _ _ (struct_spelled c.in-Some.row.now.labels (fields_at c.args.branch.now) ∙ ap value_text (by_kind c.args.branch.now c.in-Some.row.now true false c.in-Some.ensures.row (sym c.in-true-false.ensures) (sym c.in-true-false.ensures'))) c.push_struct.ensures.begun

pub push_value-returns-in-false-true-clause-told : goal.push_value-returns-in-false-true-clause-told
push_value-returns-in-false-true-clause-told g t c =
    told_as c.push_list.result _ _ _ _ (list_spelled c.in-Some.row.now.least c.in-Some.row.now.most (element_of c.args.branch.now) (further_at c.args.branch.now) ∙ ap value_text (by_kind c.args.branch.now c.in-Some.row.now false true c.in-Some.ensures.row (sym c.in-false-true.ensures) (sym c.in-false-true.ensures'))) c.push_list.ensures.told

pub push_value-returns-in-false-true-clause-begun : goal.push_value-returns-in-false-true-clause-begun
push_value-returns-in-false-true-clause-begun g t c =
    begun_as c.push_list.result _ _ _ _ (list_spelled c.in-Some.row.now.least c.in-Some.row.now.most (element_of c.args.branch.now) (further_at c.args.branch.now) ∙ ap value_text (by_kind c.args.branch.now c.in-Some.row.now false true c.in-Some.ensures.row (sym c.in-false-true.ensures) (sym c.in-false-true.ensures'))) c.push_list.ensures.begun

pub push_value-returns-then-has_no_scalar-clause-told : goal.push_value-returns-then-has_no_scalar-clause-told
push_value-returns-then-has_no_scalar-clause-told g t c =
    let row = c.in-Some.row.now in
    let none = no_terms row.value c.known.ensures.value (c.has_no_scalar.ensures.0 c.if-has_no_scalar.true) in
    told_as c.push_nothing.result _ _ _ _ (nothing_told row (fields_at c.args.branch.now) (element_of c.args.branch.now) (further_at c.args.branch.now) ∙ ap value_text (without_terms (terms_of row.value) row _ _ _ none ∙ by_kind c.args.branch.now c.in-Some.row.now false false c.in-Some.ensures.row (sym c.in-false-false.ensures) (sym c.in-false-false.ensures'))) c.push_nothing.ensures.told

pub push_value-returns-then-has_no_scalar-clause-begun : goal.push_value-returns-then-has_no_scalar-clause-begun
push_value-returns-then-has_no_scalar-clause-begun g t c =
    let row = c.in-Some.row.now in
    let none = no_terms row.value c.known.ensures.value (c.has_no_scalar.ensures.0 c.if-has_no_scalar.true) in
    begun_as c.push_nothing.result _ _ _ _ (nothing_told row (fields_at c.args.branch.now) (element_of c.args.branch.now) (further_at c.args.branch.now) ∙ ap value_text (without_terms (terms_of row.value) row _ _ _ none ∙ by_kind c.args.branch.now c.in-Some.row.now false false c.in-Some.ensures.row (sym c.in-false-false.ensures) (sym c.in-false-false.ensures'))) c.push_nothing.ensures.begun

pub push_value-returns-else-has_no_scalar-clause-told : goal.push_value-returns-else-has_no_scalar-clause-told
push_value-returns-else-has_no_scalar-clause-told g t c =
    let row = c.in-Some.row.now in
    let some : terms_of row.value ≡ [] → ⊥ = λ e. false≢true (sym c.if-has_no_scalar.false ∙ c.has_no_scalar.ensures.1 (no_members row.value e)) in
    told_as c.push_scalar.result _ _ _ _ (ap value_text (by_terms (terms_of row.value) row _ _ _ some ∙ by_kind c.args.branch.now c.in-Some.row.now false false c.in-Some.ensures.row (sym c.in-false-false.ensures) (sym c.in-false-false.ensures'))) c.push_scalar.ensures.told

pub push_value-returns-else-has_no_scalar-clause-begun : goal.push_value-returns-else-has_no_scalar-clause-begun
push_value-returns-else-has_no_scalar-clause-begun g t c =
    let row = c.in-Some.row.now in
    let some : terms_of row.value ≡ [] → ⊥ = λ e. false≢true (sym c.if-has_no_scalar.false ∙ c.has_no_scalar.ensures.1 (no_members row.value e)) in
    begun_as c.push_scalar.result _ _ _ _ (ap value_text (by_terms (terms_of row.value) row _ _ _ some ∙ by_kind c.args.branch.now c.in-Some.row.now false false c.in-Some.ensures.row (sym c.in-false-false.ensures) (sym c.in-false-false.ensures'))) c.push_scalar.ensures.begun

-- ---- what is written one behind the other
pub push_open_struct-returns-in_err-put-clause-begun : goal.push_open_struct-returns-in_err-put-clause-begun
push_open_struct-returns-in_err-put-clause-begun g t c =
    on_err _ (begins_now _ _ _ _ c.in_err-put.ensures.begun)

pub push_open_struct-returns-in_err-push_fields-clause-begun : goal.push_open_struct-returns-in_err-push_fields-clause-begun
push_open_struct-returns-in_err-push_fields-clause-begun g t c =
    on_err _ (begins_later _ _ _ _ _ c.in_ok-put.ensures.told (begins_now _ _ _ _ c.in_err-push_fields.ensures.begun))

pub push_open_struct-returns-in_err-put-2-clause-begun : goal.push_open_struct-returns-in_err-put-2-clause-begun
push_open_struct-returns-in_err-put-2-clause-begun g t c =
    on_err _ (begins_later _ _ _ _ _ c.in_ok-put.ensures.told (begins_later _ _ _ _ _ c.in_ok-push_fields.ensures.told c.in_err-put-2.ensures.begun))

pub push_closed_struct-returns-in_err-put-clause-begun : goal.push_closed_struct-returns-in_err-put-clause-begun
push_closed_struct-returns-in_err-put-clause-begun g t c =
    on_err _ (begins_now _ _ _ _ c.in_err-put.ensures.begun)

pub push_closed_struct-returns-in_err-push_inside-clause-begun : goal.push_closed_struct-returns-in_err-push_inside-clause-begun
push_closed_struct-returns-in_err-push_inside-clause-begun g t c =
    on_err _ (begins_later _ _ _ _ _ c.in_ok-put.ensures.told (begins_now _ _ _ _ c.in_err-push_inside.ensures.begun))

pub push_closed_struct-returns-in_err-put-2-clause-begun : goal.push_closed_struct-returns-in_err-put-2-clause-begun
push_closed_struct-returns-in_err-put-2-clause-begun g t c =
    on_err _ (begins_later _ _ _ _ _ c.in_ok-put.ensures.told (begins_later _ _ _ _ _ c.in_ok-push_inside.ensures.told (begins_now _ _ _ _ c.in_err-put-2.ensures.begun)))

pub push_closed_struct-returns-in_err-push_outside-clause-begun : goal.push_closed_struct-returns-in_err-push_outside-clause-begun
push_closed_struct-returns-in_err-push_outside-clause-begun g t c =
    on_err _ (begins_later _ _ _ _ _ c.in_ok-put.ensures.told (begins_later _ _ _ _ _ c.in_ok-push_inside.ensures.told (begins_later _ _ _ _ _ c.in_ok-put-2.ensures.told c.in_err-push_outside.ensures.begun)))

pub push_field-returns-in_err-push_text-clause-begun : goal.push_field-returns-in_err-push_text-clause-begun
push_field-returns-in_err-push_text-clause-begun g t c =
    on_err _ (begins_now _ _ _ _ c.in_err-push_text.ensures.begun)

pub push_field-returns-in_err-push_mark-clause-begun : goal.push_field-returns-in_err-push_mark-clause-begun
push_field-returns-in_err-push_mark-clause-begun g t c =
    on_err _ (begins_later _ _ _ _ _ c.in_ok-push_text.ensures.told (begins_now _ _ _ _ (begins_as _ _ _ _ (ap mark_text (c.level_of.ensures ∙ ap level_at c.row.ensures.row)) c.in_err-push_mark.ensures.begun)))

pub push_field-returns-in_err-push_value-clause-begun : goal.push_field-returns-in_err-push_value-clause-begun
push_field-returns-in_err-push_value-clause-begun g t c =
    on_err _ (begins_later _ _ _ _ _ c.in_ok-push_text.ensures.told (begins_later _ _ _ _ _ (appends_as _ _ _ _ (ap mark_text (c.level_of.ensures ∙ ap level_at c.row.ensures.row)) c.in_ok-push_mark.ensures.told) c.in_err-push_value.ensures.begun))

pub push_list-returns-in_err-put-clause-begun : goal.push_list-returns-in_err-put-clause-begun
push_list-returns-in_err-put-clause-begun g t c =
    on_err _ (begins_now _ _ _ _ c.in_err-put.ensures.begun)

pub push_list-returns-in_err-push_elements-clause-begun : goal.push_list-returns-in_err-push_elements-clause-begun
push_list-returns-in_err-push_elements-clause-begun g t c =
    on_err _ (begins_later _ _ _ _ _ c.in_ok-put.ensures.told (begins_now _ _ _ _ (begins_as _ _ _ _ (ap (λ n. join_texts (codes ", ") (element_texts (elements n (element_of c.args.branch.now)))) c.least.ensures) c.in_err-push_elements.ensures.begun)))

pub push_list-returns-in_err-push_ending-clause-begun : goal.push_list-returns-in_err-push_ending-clause-begun
push_list-returns-in_err-push_ending-clause-begun g t c =
    on_err _ (begins_later _ _ _ _ _ c.in_ok-put.ensures.told (begins_later _ _ _ _ _ (appends_as _ _ _ _ (ap (λ n. join_texts (codes ", ") (element_texts (elements n (element_of c.args.branch.now)))) c.least.ensures) c.in_ok-push_elements.ensures.told) (begins_now _ _ _ _ (begins_as _ _ _ _ (ap (λ n. ending_text n c.is_exact-is_exact.result (further_at c.args.branch.now)) c.least-2.ensures ∙ ap (λ b. ending_text c.args.row.now.least b (further_at c.args.branch.now)) c.is_exact-is_exact.ensures) c.in_err-push_ending.ensures.begun))))

pub push_list-returns-in_err-put-2-clause-begun : goal.push_list-returns-in_err-put-2-clause-begun
push_list-returns-in_err-put-2-clause-begun g t c =
    on_err _ (begins_later _ _ _ _ _ c.in_ok-put.ensures.told (begins_later _ _ _ _ _ (appends_as _ _ _ _ (ap (λ n. join_texts (codes ", ") (element_texts (elements n (element_of c.args.branch.now)))) c.least.ensures) c.in_ok-push_elements.ensures.told) (begins_later _ _ _ _ _ (appends_as _ _ _ _ (ap (λ n. ending_text n c.is_exact-is_exact.result (further_at c.args.branch.now)) c.least-2.ensures ∙ ap (λ b. ending_text c.args.row.now.least b (further_at c.args.branch.now)) c.is_exact-is_exact.ensures) c.in_ok-push_ending.ensures.told) (begins_now _ _ _ _ c.in_err-put-2.ensures.begun))))

pub push_list-returns-in_err-push_longest-clause-begun : goal.push_list-returns-in_err-push_longest-clause-begun
push_list-returns-in_err-push_longest-clause-begun g t c =
    on_err _ (begins_later _ _ _ _ _ c.in_ok-put.ensures.told (begins_later _ _ _ _ _ (appends_as _ _ _ _ (ap (λ n. join_texts (codes ", ") (element_texts (elements n (element_of c.args.branch.now)))) c.least.ensures) c.in_ok-push_elements.ensures.told) (begins_later _ _ _ _ _ (appends_as _ _ _ _ (ap (λ n. ending_text n c.is_exact-is_exact.result (further_at c.args.branch.now)) c.least-2.ensures ∙ ap (λ b. ending_text c.args.row.now.least b (further_at c.args.branch.now)) c.is_exact-is_exact.ensures) c.in_ok-push_ending.ensures.told) (begins_later _ _ _ _ _ c.in_ok-put-2.ensures.told (begins_as _ _ _ _ (ap (λ m. longest_text m c.is_exact-is_exact.result) c.most.ensures ∙ ap (longest_text c.args.row.now.most) c.is_exact-is_exact.ensures) c.in_err-push_longest.ensures.begun)))))

pub push_list_in_front-returns-in_err-push_list-clause-begun : goal.push_list_in_front-returns-in_err-push_list-clause-begun
push_list_in_front-returns-in_err-push_list-clause-begun g t c =
    on_err _ (begins_now _ _ _ _ c.in_err-push_list.ensures.begun)

pub push_list_in_front-returns-in_err-put-clause-begun : goal.push_list_in_front-returns-in_err-put-clause-begun
push_list_in_front-returns-in_err-put-clause-begun g t c =
    on_err _ (begins_later _ _ _ _ _ c.in_ok-push_list.ensures.told c.in_err-put.ensures.begun)

pub push_dots-returns-in_err-put-clause-begun : goal.push_dots-returns-in_err-put-clause-begun
push_dots-returns-in_err-put-clause-begun g t c =
    on_err _ (begins_later _ _ _ _ _ c.in_ok-separate.ensures.told (begins_now _ _ _ _ c.in_err-put.ensures.begun))

pub push_dots-returns-in_err-push_rest-clause-begun : goal.push_dots-returns-in_err-push_rest-clause-begun
push_dots-returns-in_err-push_rest-clause-begun g t c =
    on_err _ (begins_later _ _ _ _ _ c.in_ok-separate.ensures.told (begins_later _ _ _ _ _ c.in_ok-put.ensures.told c.in_err-push_rest.ensures.begun))
