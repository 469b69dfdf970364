use Rattle.std.proofs.Common.{sym, ap, subst, ◌∙◌}
use Rattle.cue_syntax.specs.Syntax as tree
use Rattle.cue_syntax.proofs.Views.{view-Name, view-Parenthesis, view-Struct, view-Close, view-List, view-GoesOn, view-Each, view-Conjunction, view-Disjunction}
use Rattle.cue_scope.specs.Kept.{nodes_kept}
use Rattle.cue_scope.specs.Measures as totals
use Rattle.cue_scope.specs.Uses.{uses, uses_of_elements, uses_of_rest}
use Rattle.cue_scope.specs.Measures.{IsMeasured, IsMeasureKnown}
use Rattle.cue_scope.proofs.Measuring.{known_first, measuring_more, part_at_hand, element_at_hand, term_at_hand, ellipsis_at_hand, field_at_hand, definition_at_hand, known_left, known_right, list_measured}
use Rattle.cue_scope.proofs.measure.KnownMeasures.+measure.Goals as goal
use Rattle.cue_scope.proofs.measure.KnownMeasures.+measure.Goals.{declarations-in-Ellipsis, declarations-in-Field, declarations-in-Definition}

pub parts-loop-part-preserved : goal.parts-loop-part-preserved
parts-loop-part-preserved t c = λ known.
    let w = part_at_hand c.args.self.now c.loop-part.all c.args.parts.now c.loop-part.part-index c.part-item.result (c.loop-part.invariant known) c.loop-part-test.true c.part-item.is in
    measuring_more _ _ c.expression.result c.join_beside-all.result _ _ _ _ _ w c.join_beside-all.ensures (c.expression.ensures (known_first _ _ _ _ _ _ w))

pub elements-loop-element-preserved : goal.elements-loop-element-preserved
elements-loop-element-preserved t c = λ known.
    let w = element_at_hand c.args.self.now c.loop-element.all c.args.elements.now c.loop-element.element-index c.element-item.result (c.loop-element.invariant known) c.loop-element-test.true c.element-item.is in
    measuring_more _ _ c.element.result c.join_beside-all.result _ _ _ _ _ w c.join_beside-all.ensures (c.element.ensures _ (c.expression.ensures (known_first _ _ _ _ _ _ w)))

pub terms-loop-term-preserved : goal.terms-loop-term-preserved
terms-loop-term-preserved t c = λ known.
    let w = term_at_hand c.args.self.now c.loop-term.all c.args.terms.now c.loop-term.term-index c.term-item.result (c.loop-term.invariant known) c.loop-term-test.true c.term-item.is in
    measuring_more _ _ c.term.result c.join_beside-all.result _ _ _ _ _ w c.join_beside-all.ensures (c.term.ensures _ (c.expression.ensures (known_first _ _ _ _ _ _ w)))

pub declarations-loop-declaration-preserved : goal.declarations-loop-declaration-preserved
declarations-loop-declaration-preserved t c = λ known.
    elim c.match-declaration.branch [
      | declarations-in-Ellipsis w ↦ rw w.all-is (ellipsis_at_hand c.args.self.now c.loop-declaration.all w.add_size-all.result c.args.declarations.now c.loop-declaration.declaration-index c.declaration-item.result
          (c.loop-declaration.invariant known) c.loop-declaration-test.true c.declaration-item.is w.in-Ellipsis.is w.add_size-all.ensures)
      | declarations-in-Field w ↦
          let v = field_at_hand c.args.self.now c.loop-declaration.all c.args.declarations.now c.loop-declaration.declaration-index c.declaration-item.result w.in-Field.label w.in-Field.chain w.in-Field.value
          (c.loop-declaration.invariant known) c.loop-declaration-test.true c.declaration-item.is w.in-Field.is in
          let behind = rw w.deref.ensures.value at (w.behind_chain.ensures _ (w.expression.ensures (known_first _ _ _ _ _ _ v))) in
          rw w.all-is (measuring_more _ _ w.field.result w.join_beside-all.result _ _ _ _ _ v w.join_beside-all.ensures (w.field.ensures _ behind))
      | declarations-in-Definition w ↦
          let v = definition_at_hand c.args.self.now c.loop-declaration.all c.args.declarations.now c.loop-declaration.declaration-index c.declaration-item.result w.in-Definition.name w.in-Definition.from w.in-Definition.chain w.in-Definition.value
          (c.loop-declaration.invariant known) c.loop-declaration-test.true c.declaration-item.is w.in-Definition.is in
          rw w.all-is (measuring_more _ _ w.only_terms.result w.join_beside-all-in-Definition.result _ _ _ _ _ v w.join_beside-all-in-Definition.ensures (w.only_terms.ensures _ (w.expression-in-Definition.ensures (known_first _ _ _ _ _ _ v))))
    ]

pub expression-returns-in-Struct : goal.expression-returns-in-Struct
expression-returns-in-Struct t c =
    let ds = nodes_kept c.args.self.now.definitions.now in
    let parts = rw c.deref-in-Struct.ensures.value at c.declarations.ensures in
    subst (λ z. IsMeasureKnown c.args.self.now (uses ds z) → IsMeasured c.literal.result (totals.total_measure ds z))
    (sym (ap tree.expression c.in-Struct.is ∙ view-Struct c.in-Struct.declarations c.in-Struct.comma)) (λ known. c.literal.ensures _ (parts known))

pub expression-returns-in-Close : goal.expression-returns-in-Close
expression-returns-in-Close t c =
    let ds = nodes_kept c.args.self.now.definitions.now in
    let parts = rw c.deref-in-Close.ensures.value at c.declarations-in-Close.ensures in
    subst (λ z. IsMeasureKnown c.args.self.now (uses ds z) → IsMeasured c.literal-in-Close.result (totals.total_measure ds z))
    (sym (ap tree.expression c.in-Close.is ∙ view-Close c.in-Close.from c.in-Close.declarations c.in-Close.inner_comma c.in-Close.comma)) (λ known. c.literal-in-Close.ensures _ (parts known))

pub expression-returns-in-List : goal.expression-returns-in-List
expression-returns-in-List t c =
    let ds = nodes_kept c.args.self.now.definitions.now in
    let es = tree.elements_of_list c.in-List.elements.items in
    let rest = tree.rest_of_tree c.in-List.rest in
    let parts = rw c.deref-in-List.ensures.value at c.elements.ensures in
    subst (λ z. IsMeasureKnown c.args.self.now (uses ds z) → IsMeasured c.literal-in-List.result (totals.total_measure ds z))
    (sym (ap tree.expression c.in-List.is ∙ view-List c.in-List.elements c.in-List.rest c.in-List.comma))
    (λ known. list_measured ds es rest c.in-List.comma c.literal-in-List.result
    (c.literal-in-List.ensures _ (c.join_beside.ensures _ _ (parts (known_left c.args.self.now (uses_of_elements ds es) (uses_of_rest ds rest) known)) (c.rest.ensures (known_right c.args.self.now (uses_of_elements ds es) (uses_of_rest ds rest) known)))))

pub expression-returns-in-Conjunction : goal.expression-returns-in-Conjunction
expression-returns-in-Conjunction t c =
    let ds = nodes_kept c.args.self.now.definitions.now in
    let parts = rw c.deref-in-Conjunction.ensures.value at c.parts.ensures in
    subst (λ z. IsMeasureKnown c.args.self.now (uses ds z) → IsMeasured c.add_size.result (totals.total_measure ds z))
    (sym (ap tree.expression c.in-Conjunction.is ∙ view-Conjunction c.in-Conjunction.parts)) (λ known. c.add_size.ensures _ (parts known))

pub expression-returns-in-Disjunction : goal.expression-returns-in-Disjunction
expression-returns-in-Disjunction t c =
    let ds = nodes_kept c.args.self.now.definitions.now in
    let parts = rw c.deref-in-Disjunction.ensures.value at c.terms.ensures in
    subst (λ z. IsMeasureKnown c.args.self.now (uses ds z) → IsMeasured c.add_size-in-Disjunction.result (totals.total_measure ds z))
    (sym (ap tree.expression c.in-Disjunction.is ∙ view-Disjunction c.in-Disjunction.terms)) (λ known. c.add_size-in-Disjunction.ensures _ (parts known))

pub expression-returns-in-Name : goal.expression-returns-in-Name
expression-returns-in-Name t c =
    let ds = nodes_kept c.args.self.now.definitions.now in
    subst (λ z. IsMeasureKnown c.args.self.now (uses ds z) → IsMeasured c.name.result (totals.total_measure ds z))
    (sym (ap tree.expression c.in-Name.is ∙ view-Name c.in-Name.name c.in-Name.from)) c.name.ensures

pub expression-returns-in-Parenthesis : goal.expression-returns-in-Parenthesis
expression-returns-in-Parenthesis t c =
    let ds = nodes_kept c.args.self.now.definitions.now in
    let inside = rw c.deref.ensures at c.expression.ensures in
    subst (λ z. IsMeasureKnown c.args.self.now (uses ds z) → IsMeasured c.expression.result (totals.total_measure ds z))
    (sym (ap tree.expression c.in-Parenthesis.is ∙ view-Parenthesis c.in-Parenthesis.inner c.in-Parenthesis.comma)) inside

pub rest-returns-in-GoesOn : goal.rest-returns-in-GoesOn
rest-returns-in-GoesOn t c =
    let ds = nodes_kept c.args.self.now.definitions.now in
    subst (λ z. IsMeasureKnown c.args.self.now (uses_of_rest ds z) → IsMeasured c.add_size.result (totals.total_of_rest ds z))
    (sym (ap tree.rest_of_tree c.in-GoesOn.is ∙ view-GoesOn)) (λ known. c.add_size.ensures totals.none c.none-in-GoesOn.ensures)

pub rest-returns-in-Each : goal.rest-returns-in-Each
rest-returns-in-Each t c =
    let ds = nodes_kept c.args.self.now.definitions.now in
    let inside = rw c.deref.ensures at c.expression.ensures in
    subst (λ z. IsMeasureKnown c.args.self.now (uses_of_rest ds z) → IsMeasured c.add_size-in-Each.result (totals.total_of_rest ds z))
    (sym (ap tree.rest_of_tree c.in-Each.is ∙ view-Each c.in-Each.each)) (λ known. c.add_size-in-Each.ensures _ (c.element.ensures _ (inside known)))
