use Rattle.std.proofs.Common.{◌≡◌, length, ◌⊎◌, ◌+◌, ◌≤◌, ◌<◌, drop, IfOk, subst, sym, ap, ◌∙◌, arith}
use denote.Param.Weighed.{most, at_most}
use Rattle.cue_syntax.specs.declared.tree.Expr.{size-Expr}
use Rattle.cue_syntax.specs.declared.tree.Declaration.{size-Declaration}
use Rattle.cue_syntax.specs.declared.tree.Declaration.TheViews.{sized-Field, sized-Struct, sized-List}
use Rattle.cue_lattice.specs.Limits.{step_limit}
use Rattle.cue_scope.specs.Limits as limits
use Rattle.cue_syntax.specs.Syntax as tree
use Rattle.cue_syntax.proofs.Views.{view-Struct, view-Ellipsis, view-List, view-Each}
use Rattle.std.proofs.lemmas.Result.{IfOk-weaker}
use Rattle.cue_eval.specs.Evaluated.{HasAnswersOf}
use Rattle.cue_scope.specs.Core.{list, followed_by}
use Rattle.cue_scope.specs.Meaning.{meaning_of_number, nest_in_labels}
use Rattle.cue_scope.proofs.Walking.{at_hand}
use Rattle.cue_eval.specs.Inner.Known.{core_of, parts_of, rest_of}
use Rattle.cue_eval.specs.Inner.Parts.{AreAdded}
use Rattle.cue_eval.specs.Refuses.{count_of_elements}
use Rattle.cue_eval.proofs.Rests.{alone}
use Rattle.cue_eval.specs.Inner.Ready.{all_definitions, members_of, AreKnown, IsReady, IsReadyRest, AreReadyElements, AreReadyFields, IsField}
use Rattle.cue_eval.proofs.LiteralTables.{struct_result, close_result, ElementsAnswer, elements_table, list_answers}
use Rattle.cue_eval.proofs.Walks.{entry_first, definition_first, field_first, Gathering, gathering_none, ellipsis_passed, definition_passed, field_ready, field_within, field_gathered, fields_gathered, field_made, nested_depth, within_depth, none_behind}
use Rattle.cue_eval.proofs.Joined.{part_pairable}
use Rattle.std.specs.Prelude.{IfSome}
use Rattle.cue_eval.specs.Inner.Written.{IsAllBut}
use Rattle.cue_eval.proofs.AllBut.{others_result}
use Rattle.cue_eval.proofs.Repeated.{Joining, joining_none, joined_ready, table_joined, scalar_joined, name_joined, named_same, joined_result}
use Rattle.cue_lattice.specs.Question.{SameAnswers}
use Rattle.cue_eval.specs.Inner.Gathered.{TreeRefusals, FurtherRefuse}
use Rattle.cue_eval.proofs.Gathering.{further_answers}
use Rattle.cue_eval.proofs.Listings.{none_counted, count_of, Listing, listing_none, element_ready, element_listed, elements_listed, all_listed, elements_few, rest_ready, elements_ready}
use Rattle.cue_eval.proofs.Regular.{fields_ready, struct_ready}
use Rattle.cue_eval.proofs.tables.TableBuilder.+rows.Goals as goal
use Rattle.cue_eval.proofs.tables.TableBuilder.+rows.Goals.{conjunction-then-is_scalar_part+in_ok-pair+in_ok-push, conjunction-else-is_scalar_part+in-Some-number_of+in_ok-push-in-Some-number_of, conjunction-else-is_scalar_part+in-None+in_ok-rows-in-None+in_ok-push-in-None, fields-in-Ellipsis, fields-in-Definition, fields-in-Field+in_ok-field-in-Field+in_ok-push-in-Field}

pub rows-literal-requires : goal.rows-literal-requires
rows-literal-requires t c = (
  let is = ap size-Expr c.in-Struct.is in
      let own = sized-Struct c.in-Struct.declarations c.in-Struct.comma in
      let same = ap (λ xs. most (λ d. size-Declaration d) xs) c.deref-in-Struct.ensures.value in
      omega (arith, c.decreases, is, own, same),
  subst (λ xs. AreReadyFields c.args.self.now (tree.entries xs)) (sym c.deref-in-Struct.ensures.value)
      (struct_ready c.args.self.now (tree.entries c.in-Struct.declarations.items) c.in-Struct.comma
      (subst (λ e. IsReady c.args.self.now e) (ap tree.expression c.in-Struct.is ∙ view-Struct c.in-Struct.declarations c.in-Struct.comma) c.requires)),
)

pub closed_literal-fields-requires : goal.closed_literal-fields-requires
closed_literal-fields-requires t c = (omega (arith, c.decreases), fields_ready c.args.self.now (tree.entries c.args.declarations.now) c.requires)

pub closed_literal-returns-clause-answers : goal.closed_literal-returns-clause-answers
closed_literal-returns-clause-answers t c =
    let ds = all_definitions c.args.self.now in
    close_result c.struct_of.result (members_of c.args.self.now (tree.entries c.args.declarations.now)) c.in_ok-fields.fields.items c.in_ok-labels.labels
    (c.in_ok-labels.ensures ds (meaning_of_number ds)) c.struct_of.ensures.answers c.in_ok-fields.ensures

pub literal-returns-clause-answers : goal.literal-returns-clause-answers
literal-returns-clause-answers t c =
    struct_result c.struct_of.result (members_of c.args.self.now (tree.entries c.args.declarations.now)) c.in_ok-fields.fields.items c.all-labels.result
    c.all-labels.ensures c.struct_of.ensures.answers c.in_ok-fields.ensures

pub conjunction-returns-in-Some-clause-answers : goal.conjunction-returns-in-Some-clause-answers
conjunction-returns-in-Some-clause-answers t c =
    let are : IsAllBut c.args.parts.now c.in-Some.valued = subst (λ found. IfSome found (IsAllBut c.args.parts.now)) c.in-Some.is c.in_ok-valued.ensures in
    others_result c.scalar_table.result c.args.self.now.pairs c.args.parts.now c.in-Some.valued are c.scalar_table.ensures.answers

pub conjunction-loop-part-init : goal.conjunction-loop-part-init
conjunction-loop-part-init t c = rw (c.new-tables.ensures.items, c.new-scalars.ensures.items, c.new-numbers.ensures.items) (joining_none c.args.self.now c.args.parts.now c.requires)

pub conjunction-pair-requires : goal.conjunction-pair-requires
conjunction-pair-requires t c =
    let left = at_hand c.args.parts.now c.loop-part.part-index c.part-item.result c.loop-part-test.true c.part-item.is in
    part_pairable c.args.self.now (tree.expression c.part-item.result) (c.is_scalar_part.ensures c.if-is_scalar_part.true)
    (joined_ready c.args.self.now c.loop-part.tables.items c.loop-part.scalars.items c.loop-part.numbers.items c.args.parts.now _ c.part-item.result _ c.loop-part.invariant left)

pub conjunction-rows-requires : goal.conjunction-rows-requires
conjunction-rows-requires t c =
    let left = at_hand c.args.parts.now c.loop-part.part-index c.part-item.result c.loop-part-test.true c.part-item.is in
    let can = joined_ready c.args.self.now c.loop-part.tables.items c.loop-part.scalars.items c.loop-part.numbers.items c.args.parts.now _ c.part-item.result _ c.loop-part.invariant left in (
      let among : size-Expr c.part-item.result ≤ most (λ e. size-Expr e) c.args.parts.now =
          subst (λ e. size-Expr e ≤ most (λ x. size-Expr x) c.args.parts.now) (sym c.part-item.is) (at_most (λ e. size-Expr e) c.args.parts.now c.loop-part.part-index c.part-item.result c.loop-part-test.true) in
          omega (arith, c.decreases, among),
      can,
    )

pub conjunction-loop-part-preserved : goal.conjunction-loop-part-preserved
conjunction-loop-part-preserved t c =
    let known = c.args.self.now in
    let all = c.args.parts.now in
    let rest = drop (c.loop-part.part-index + 1) all in
    let left = at_hand all c.loop-part.part-index c.part-item.result c.loop-part-test.true c.part-item.is in
    let tables = c.loop-part.tables.items in
    let scalars = c.loop-part.scalars.items in
    let numbers = c.loop-part.numbers.items in
    elim c.if-is_scalar_part.branch [
      | conjunction-then-is_scalar_part+in_ok-pair+in_ok-push w ↦
          rw (w.tables-is, w.scalars-is, w.numbers-is) (subst (λ vs. Joining known tables vs numbers all rest) (sym w.in_ok-push.ensures.items)
          (scalar_joined known tables scalars numbers all _ c.part-item.result rest w.in_ok-pair.field-0 c.loop-part.invariant left (c.is_scalar_part.ensures w.if-is_scalar_part.true) w.in_ok-pair.ensures))
      | conjunction-else-is_scalar_part+in-Some-number_of+in_ok-push-in-Some-number_of w ↦
          rw (w.tables-is, w.scalars-is, w.numbers-is) (subst (λ is. Joining known tables scalars is all rest) (sym w.in_ok-push-in-Some-number_of.ensures.items)
          (name_joined known tables scalars numbers all _ c.part-item.result rest w.in-Some-number_of.number c.loop-part.invariant left w.in-Some-number_of.ensures))
      | conjunction-else-is_scalar_part+in-None+in_ok-rows-in-None+in_ok-push-in-None w ↦
          rw (w.tables-is, w.scalars-is, w.numbers-is) (subst (λ xs. Joining known xs scalars numbers all rest) (sym w.in_ok-push-in-None.ensures.items)
          (table_joined known tables scalars numbers all _ c.part-item.result rest w.in_ok-rows-in-None.field-0 c.loop-part.invariant left w.in_ok-rows-in-None.ensures.answers))
    ]

pub conjunction-push_definitions-requires : goal.conjunction-push_definitions-requires
conjunction-push_definitions-requires t c =
    subst (λ is. AreKnown c.args.self.now is) (sym c.deref.ensures.value)
    (named_same c.args.self.now c.loop-part.numbers.items c.remove_repeats.result.items c.remove_repeats.ensures c.loop-part.invariant.named)

pub conjunction-returns-clause-answers : goal.conjunction-returns-clause-answers
conjunction-returns-clause-answers t c =
    let known = c.args.self.now in
    let with_scalars = c.push_scalars.new.tables.items in
    let tables = c.push_definitions.new.tables.items in
    let added = subst (λ is. AreAdded (all_definitions known) with_scalars is tables) c.deref.ensures.value c.in_ok-push_definitions.ensures in
    joined_result c.unify_all.result known c.loop-part.tables.items with_scalars tables c.loop-part.scalars.items c.loop-part.numbers.items c.remove_repeats.result.items c.args.parts.now _ c.loop-part.invariant
    (none_behind c.args.parts.now c.loop-part.part-index (let end = c.loop-part-test.false in omega arith)) c.in_ok-push_scalars.ensures c.remove_repeats.ensures added c.unify_all.ensures.refused

pub field-put_behind-requires-clause-depth : goal.field-put_behind-requires-clause-depth
field-put_behind-requires-clause-depth t c =
    let e = core_of c.args.self.now.pairs (tree.expression c.args.value.now) in
    let at = within_depth e c.in_ok-table.table c.in_ok-table.ensures.form c.in_ok-table.ensures.answers in
    let deeper = nested_depth c.args.chain.now e in
    let less = c.requires.depth in
    omega arith

pub field-returns : goal.field-returns
field-returns t c =
    let e = core_of c.args.self.now.pairs (tree.expression c.args.value.now) in
    field_made c.args.label.now (nest_in_labels c.args.chain.now e) c.in_ok-step.step c.put_behind.new.table c.mark.new.table c.in_ok-step.ensures c.requires.depth
    c.in_ok-put_behind.ensures.form (c.in_ok-put_behind.ensures.answers e c.in_ok-table.ensures.answers) c.mark.ensures.form c.in_ok-mark.ensures.answers

pub fields-loop-declaration-init : goal.fields-loop-declaration-init
fields-loop-declaration-init t c =
    let es = tree.entries c.args.declarations.now in
    subst (λ given. Gathering c.args.self.now given es es) (sym c.new-fields.ensures.items) (gathering_none c.args.self.now es c.requires)

pub fields-field-requires : goal.fields-field-requires
fields-field-requires t c =
    let left = field_first c.args.declarations.now c.loop-declaration.declaration-index c.declaration-item.result c.in-Field.label c.in-Field.chain c.in-Field.value c.loop-declaration-test.true c.declaration-item.is c.in-Field.is in
    let w = subst (λ z. Gathering c.args.self.now c.loop-declaration.fields.items (tree.entries c.args.declarations.now) z) left c.loop-declaration.invariant in
    let rest = tree.entries (drop (c.loop-declaration.declaration-index + 1) c.args.declarations.now) in
    let ready = field_ready c.args.self.now c.loop-declaration.fields.items (tree.entries c.args.declarations.now) rest c.in-Field.label c.in-Field.chain.items (tree.expression c.in-Field.value) w in
    let within = field_within c.args.self.now c.loop-declaration.fields.items (tree.entries c.args.declarations.now) rest c.in-Field.label c.in-Field.chain.items (tree.expression c.in-Field.value) w in
    let chain = c.deref.ensures.value in (
      let among : size-Declaration c.declaration-item.result ≤ most (λ e. size-Declaration e) c.args.declarations.now =
          subst (λ e. size-Declaration e ≤ most (λ x. size-Declaration x) c.args.declarations.now) (sym c.declaration-item.is) (at_most (λ e. size-Declaration e) c.args.declarations.now c.loop-declaration.declaration-index c.declaration-item.result c.loop-declaration-test.true) in
          let is = ap size-Declaration c.in-Field.is in
          let own = sized-Field c.in-Field.label c.in-Field.chain c.in-Field.value in
          omega (arith, c.decreases, among, is, own),
      (ready, subst (λ ls. limits.depth (nest_in_labels ls (core_of c.args.self.now.pairs (tree.expression c.in-Field.value))) < step_limit) (sym c.deref.ensures.value) within),
    )

pub fields-loop-declaration-preserved : goal.fields-loop-declaration-preserved
fields-loop-declaration-preserved t c =
    let known = c.args.self.now in
    let given = c.loop-declaration.fields.items in
    let ds = c.args.declarations.now in
    let i = c.loop-declaration.declaration-index in
    let all = tree.entries ds in
    let rest = tree.entries (drop (i + 1) ds) in
    elim c.match-declaration.branch [
      | fields-in-Ellipsis w ↦
          let left = entry_first ds i c.declaration-item.result tree.ellipsis c.loop-declaration-test.true c.declaration-item.is (ap tree.entry_tree w.in-Ellipsis.is ∙ view-Ellipsis) in
          rw w.fields-is (ellipsis_passed known given all rest (subst (λ z. Gathering known given all z) left c.loop-declaration.invariant))
      | fields-in-Definition w ↦
          let left = definition_first ds i c.declaration-item.result w.in-Definition.name w.in-Definition.from w.in-Definition.chain w.in-Definition.value c.loop-declaration-test.true c.declaration-item.is w.in-Definition.is in
          rw w.fields-is (definition_passed known given all rest w.in-Definition.name w.in-Definition.from w.in-Definition.chain.items (tree.expression w.in-Definition.value)
          (subst (λ z. Gathering known given all z) left c.loop-declaration.invariant))
      | fields-in-Field+in_ok-field-in-Field+in_ok-push-in-Field w ↦
          let left = field_first ds i c.declaration-item.result w.in-Field.label w.in-Field.chain w.in-Field.value c.loop-declaration-test.true c.declaration-item.is w.in-Field.is in
          let e = core_of known.pairs (tree.expression w.in-Field.value) in
          let made = subst (λ ls. IsField w.in-Field.label (nest_in_labels ls e) w.in_ok-field-in-Field.field) w.deref.ensures.value w.in_ok-field-in-Field.ensures in
          rw w.fields-is (subst (λ xs. Gathering known xs all rest) (sym w.in_ok-push-in-Field.ensures.items)
          (field_gathered known given all rest w.in-Field.label w.in-Field.chain.items (tree.expression w.in-Field.value) w.in_ok-field-in-Field.field
          (subst (λ z. Gathering known given all z) left c.loop-declaration.invariant) made))
    ]

pub fields-returns : goal.fields-returns
fields-returns t c =
    fields_gathered c.args.self.now c.loop-declaration.fields.items (tree.entries c.args.declarations.now) (tree.entries (drop c.loop-declaration.declaration-index c.args.declarations.now)) c.loop-declaration.invariant
    (ap tree.entries (none_behind c.args.declarations.now c.loop-declaration.declaration-index (let end = c.loop-declaration-test.false in omega arith)))

pub list-loop-element-init : goal.list-loop-element-init
list-loop-element-init t c =
    subst (λ given. Listing c.args.self.now given c.args.elements.now c.args.elements.now) (sym c.new-steps.ensures.items)
    (listing_none c.args.self.now c.args.elements.now c.requires)

pub list-rows-requires : goal.list-rows-requires
list-rows-requires t c =
    let left = at_hand c.args.elements.now c.loop-element.element-index c.element-item.result c.loop-element-test.true c.element-item.is in
    let can = element_ready c.args.self.now c.loop-element.steps.items c.args.elements.now _ c.element-item.result _ c.loop-element.invariant left in (
      let among : size-Expr c.element-item.result ≤ most (λ e. size-Expr e) c.args.elements.now =
          subst (λ e. size-Expr e ≤ most (λ x. size-Expr x) c.args.elements.now) (sym c.element-item.is) (at_most (λ e. size-Expr e) c.args.elements.now c.loop-element.element-index c.element-item.result c.loop-element-test.true) in
          omega (arith, c.decreases, among),
      can,
    )

pub list-overflow_cast-index : goal.list-overflow_cast-index
list-overflow_cast-index t c =
    let few = elements_few c.args.self.now c.args.elements.now c.requires in
    let counted = c.loop-element.invariant.counted in
    let len = c.len-index.ensures in
    omega arith

pub list-loop-element-preserved : goal.list-loop-element-preserved
list-loop-element-preserved t c =
    subst (λ xs. Listing c.args.self.now xs c.args.elements.now (drop (c.loop-element.element-index + 1) c.args.elements.now)) (sym c.in_ok-push.ensures.items)
    (element_listed c.args.self.now c.loop-element.steps.items c.args.elements.now _ c.element-item.result _ c.len-index.result c.in_ok-table.table c.loop-element.invariant
    (at_hand c.args.elements.now c.loop-element.element-index c.element-item.result c.loop-element-test.true c.element-item.is) (c.len-index.ensures ∙ c.loop-element.steps.ok.0) c.in_ok-table.ensures.form c.in_ok-table.ensures.answers)

pub list-list_of-requires-clause-count : goal.list-list_of-requires-clause-count
list-list_of-requires-clause-count t c =
    let few = elements_few c.args.self.now c.args.elements.now c.requires in
    let counted = c.loop-element.invariant.counted in
    omega arith

pub list-list_of-requires-clause-depth : goal.list-list_of-requires-clause-depth
list-list_of-requires-clause-depth t c = c.loop-element.invariant.deep

pub list-returns-clause-answers : goal.list-returns-clause-answers
list-returns-clause-answers t c =
    let known = c.args.self.now in
    let end = none_behind c.args.elements.now c.loop-element.element-index (let e = c.loop-element-test.false in omega arith) in
    let given = c.loop-element.steps.items in
    let counted = all_listed known given c.args.elements.now _ c.loop-element.invariant end in
    IfOk-weaker c.list_of.result _ _
    (λ table same. elements_table (parts_of known.pairs (tree.elements_of_list c.args.elements.now)) c.args.goes_on given table (length c.args.elements.now) counted same
    (elements_listed known given c.args.elements.now _ c.loop-element.invariant end)) c.list_of.ensures.answers

pub and_each-meet_rest-requires-clause-depth : goal.and_each-meet_rest-requires-clause-depth
and_each-meet_rest-requires-clause-depth t c =
    let ready = subst (λ rest. IsReadyRest c.args.self.now rest) (ap tree.rest_of_tree c.in-Each.is ∙ view-Each c.in-Each.each) c.requires.ready in
    let deep = ready.depth in
    let shallow = within_depth (core_of c.args.self.now.pairs (tree.expression c.in-Each.each.value)) c.in_ok-further-in-Each.further c.in_ok-further-in-Each.ensures.form
    (subst (λ e. HasAnswersOf (core_of c.args.self.now.pairs (tree.expression e)) c.in_ok-further-in-Each.further) c.deref.ensures c.in_ok-further-in-Each.ensures.answers) in
    omega (arith, deep, shallow)

pub and_each-returns-in_ok-meet_rest-in-Each-clause-answers : goal.and_each-returns-in_ok-meet_rest-in-Each-clause-answers
and_each-returns-in_ok-meet_rest-in-Each-clause-answers t c =
    let known = c.args.self.now in
    let e = core_of known.pairs (tree.expression c.in-Each.each.value) in
    subst (λ rest. SameAnswers (TreeRefusals c.meet_rest.new.self) (λ path question. TreeRefusals c.args.list path question ⊎ FurtherRefuse c.args.count (rest_of known.pairs rest) path question))
    (sym (ap tree.rest_of_tree c.in-Each.is ∙ view-Each c.in-Each.each))
    (further_answers c.args.count e c.args.list c.in_ok-further-in-Each.further c.meet_rest.new.self c.in_ok-meet_rest-in-Each.ensures.ok
    (subst (λ e. HasAnswersOf (core_of known.pairs (tree.expression e)) c.in_ok-further-in-Each.further) c.deref.ensures c.in_ok-further-in-Each.ensures.answers))

pub rows-list-requires : goal.rows-list-requires
rows-list-requires t c =
    let known = c.args.self.now in
    let ready = subst (λ e. IsReady known e) (ap tree.expression c.in-List.is ∙ view-List c.in-List.elements c.in-List.rest c.in-List.comma) c.requires in (
      let is = ap size-Expr c.in-List.is in
          let own = sized-List c.in-List.elements c.in-List.rest c.in-List.comma in
          let same = ap (λ xs. most (λ e. size-Expr e) xs) c.deref-in-List.ensures.value in
          omega (arith, c.decreases, is, own, same),
      subst (λ xs. AreReadyElements known (tree.elements_of_list xs)) (sym c.deref-in-List.ensures.value)
          (elements_ready known (tree.elements_of_list c.in-List.elements.items) (tree.rest_of_tree c.in-List.rest) c.in-List.comma ready),
    )

pub rows-and_each-requires : goal.rows-and_each-requires
rows-and_each-requires t c =
    let known = c.args.self.now in
    let es = tree.elements_of_list c.in-List.elements.items in
    let rest = tree.rest_of_tree c.in-List.rest in
    let ready = subst (λ e. IsReady known e) (ap tree.expression c.in-List.is ∙ view-List c.in-List.elements c.in-List.rest c.in-List.comma) c.requires in
    let few = elements_few known c.in-List.elements.items (elements_ready known es rest c.in-List.comma ready) in
    let counted = c.len.ensures ∙ c.in-List.elements.ok.0 in (
      let is = ap size-Expr c.in-List.is in
          let own = sized-List c.in-List.elements c.in-List.rest c.in-List.comma in
          omega (arith, c.decreases, is, own),
      (rest_ready known es rest c.in-List.comma ready, omega (arith, few, counted)),
    )

pub rows-returns-in_ok-list-in-List-clause-answers : goal.rows-returns-in_ok-list-in-List-clause-answers
rows-returns-in_ok-list-in-List-clause-answers t c =
    let known = c.args.self.now in
    let ds = all_definitions known in
    let es = c.in-List.elements.items in
    let cs = parts_of known.pairs (tree.elements_of_list es) in
    let tail = tree.rest_of_tree c.in-List.rest in
    let rest = rest_of known.pairs tail in
    let written = rw c.deref-in-List.ensures.value at c.in_ok-list-in-List.ensures.answers in
    let length_is = sym (c.len.ensures ∙ c.in-List.elements.ok.0) in
    let counted : c.len.result ≡ count_of_elements (alone cs) = sym length_is ∙ sym (count_of known es) in
    let same = subst (λ n. ElementsAnswer cs c.goes_on.result n c.in_ok-list-in-List.list) length_is written in
    subst (λ z. IfOk c.and_each.result (HasAnswersOf (core_of known.pairs z)))
    (sym (ap tree.expression c.in-List.is ∙ view-List c.in-List.elements c.in-List.rest c.in-List.comma))
    (IfOk-weaker c.and_each.result _ (HasAnswersOf (list (followed_by cs rest)))
    (λ all further. list_answers cs rest c.goes_on.result c.len.result c.in_ok-list-in-List.list all counted (sym (c.goes_on.ensures ds (meaning_of_number ds))) (none_counted known.pairs tail) same further) c.and_each.ensures.answers)
