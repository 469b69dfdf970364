use denote.Param.Weighed.{most, at_most}
use Rattle.cue_syntax.specs.declared.tree.Expr.{size-Expr}
use Rattle.cue_syntax.specs.declared.tree.Declaration.{size-Declaration}
use Rattle.cue_syntax.specs.declared.tree.Declaration.TheViews.{sized-List}
use Rattle.std.proofs.Common.{◌<◌, ◌≤◌, length, sym, ap, subst, ◌∙◌, arith, IfOk, refl}
use Rattle.cue_row.specs.Steps.{step_of}
use Rattle.std.proofs.lemmas.Result.{IfOk-weaker}
use Rattle.cue_lattice.specs.Limits.{step_limit}
use Rattle.cue_syntax.specs.Syntax as tree
use Rattle.cue_syntax.specs.Syntax.{entry_tree}
use Rattle.cue_syntax.proofs.Views.{view-Close, view-List, view-Each, view-Disjunction, view-Integer, view-Text, view-Bottom, view-Bound, view-OtherInteger, view-OtherText, view-Ellipsis, view-Field, view-Definition}
use Rattle.cue_scope.specs.Core.{struct, list, followed_by}
use Rattle.cue_scope.specs.Kept.{nodes_kept}
use Rattle.cue_scope.specs.Meaning.{meaning_of_number, nest_in_labels}
use Rattle.cue_table.specs.Depth.{tree_depth}
use Rattle.cue_eval.specs.Inner.Told.{DeclareBeyond, DeclaresLiterals, IsKnown, AreElementsKnown, IsRooted, IsRestKnown, meaning_in_scope, mean_members, mean_elements, mean_rest}
use Rattle.cue_eval.proofs.TellingNames.{nothing_told}
use Rattle.cue_eval.proofs.TellingDepth.{told_flat}
use Rattle.std.proofs.lemmas.Bool.{false≢true}
use Rattle.cue_eval.proofs.TellingFields.{untold, own_told, close_told}
use Rattle.cue_eval.proofs.TellingParts.{if_both, part_next, part_known, part_more, parts_all, element_next, element_known, element_more, elements_all, list_told, list_known, list_rest_known, elements_few, further_met, count_of}
use Rattle.cue_eval.proofs.TellingEntries.{entry_next, ellipsis_more, definition_more, field_known, field_flat, field_more, fields_all, field_size}
use Rattle.cue_eval.proofs.declares.LiteralScope.+told.Goals as goal
use Rattle.cue_eval.proofs.declares.LiteralScope.+told.Goals.{fields-in-Ellipsis, fields-in-Field+in_ok-value-in-Field+in_ok-below-in-Field+in_ok-step_to-in-Field+in_ok-push-in-Field, fields-in-Definition}

pub parts-expression-requires : goal.parts-expression-requires
parts-expression-requires t c =
    let next = part_next c.args.self.now c.args.whose c.loop-part.tables.items c.args.parts.now c.loop-part.part-index c.part-item.result c.loop-part.invariant c.loop-part-test.true c.part-item.is in (
      let among : size-Expr c.part-item.result ≤ most (λ e. size-Expr e) c.args.parts.now =
          subst (λ e. size-Expr e ≤ most (λ x. size-Expr x) c.args.parts.now) (sym c.part-item.is) (at_most (λ e. size-Expr e) c.args.parts.now c.loop-part.part-index c.part-item.result c.loop-part-test.true) in
          omega (arith, c.decreases, among),
      part_known _ _ _ _ _ _ next,
    )

pub parts-loop-part-preserved : goal.parts-loop-part-preserved
parts-loop-part-preserved t c =
    let next = part_next c.args.self.now c.args.whose c.loop-part.tables.items c.args.parts.now c.loop-part.part-index c.part-item.result c.loop-part.invariant c.loop-part-test.true c.part-item.is in
    rw c.in_ok-push.ensures.items (part_more _ _ _ _ _ _ _ next c.in_ok-expression.ensures)

pub parts-returns : goal.parts-returns
parts-returns t c =
    let all = c.args.parts.now in
    let end = c.loop-part-test.false in
    if_both c.unify_all.result _ _ _ (λ met form unified. parts_all c.args.self.now c.args.whose c.loop-part.tables.items all c.loop-part.part-index met c.loop-part.invariant end form unified)
    c.unify_all.ensures.form c.unify_all.ensures.refused

pub elements-expression-requires : goal.elements-expression-requires
elements-expression-requires t c =
    let next = element_next c.args.self.now c.args.whose c.loop-element.branches.items c.loop-element.index c.args.elements.now c.loop-element.element-index c.element-item.result c.loop-element.invariant c.loop-element-test.true c.element-item.is in (
      let among : size-Expr c.element-item.result ≤ most (λ e. size-Expr e) c.args.elements.now =
          subst (λ e. size-Expr e ≤ most (λ x. size-Expr x) c.args.elements.now) (sym c.element-item.is) (at_most (λ e. size-Expr e) c.args.elements.now c.loop-element.element-index c.element-item.result c.loop-element-test.true) in
          omega (arith, c.decreases, among),
      element_known _ _ _ _ _ _ _ next,
    )

pub elements-loop-element-preserved : goal.elements-loop-element-preserved
elements-loop-element-preserved t c =
    let next = element_next c.args.self.now c.args.whose c.loop-element.branches.items c.loop-element.index c.args.elements.now c.loop-element.element-index c.element-item.result c.loop-element.invariant c.loop-element-test.true c.element-item.is in
    rw c.in_ok-push.ensures.items (element_more _ _ _ _ _ _ _ _ _ next refl c.in_ok-expression.ensures)

pub elements-returns : goal.elements-returns
elements-returns t c =
    let all = c.args.elements.now in
    let end = c.loop-element-test.false in
    if_both c.of_branches.result _ _ _
    (λ table form of. elements_all c.args.self.now c.args.whose c.loop-element.branches.items c.loop-element.index all c.loop-element.element-index table c.loop-element.invariant end form of)
    c.of_branches.ensures.form c.of_branches.ensures.refused

pub fields-expression-requires : goal.fields-expression-requires
fields-expression-requires t c =
    let next = entry_next c.args.self.now c.args.whose c.loop-declaration.branches.items c.args.declarations.now c.loop-declaration.declaration-index c.declaration-item.result c.loop-declaration.invariant c.loop-declaration-test.true c.declaration-item.is in
    let view = ap entry_tree c.in-Field.is ∙ view-Field c.in-Field.label c.in-Field.chain c.in-Field.value in (
      let among : size-Declaration c.declaration-item.result ≤ most (λ e. size-Declaration e) c.args.declarations.now =
          subst (λ e. size-Declaration e ≤ most (λ x. size-Declaration x) c.args.declarations.now) (sym c.declaration-item.is) (at_most (λ e. size-Declaration e) c.args.declarations.now c.loop-declaration.declaration-index c.declaration-item.result c.loop-declaration-test.true) in
          let smaller = field_size c.declaration-item.result c.in-Field.label c.in-Field.chain c.in-Field.value c.in-Field.is in
          omega (arith, c.decreases, among, smaller),
      field_known _ _ _ _ _ _ c.in-Field.label c.in-Field.chain c.in-Field.value next view,
    )

pub fields-wrap_in_chain-requires : goal.fields-wrap_in_chain-requires
fields-wrap_in_chain-requires t c =
    let next = entry_next c.args.self.now c.args.whose c.loop-declaration.branches.items c.args.declarations.now c.loop-declaration.declaration-index c.declaration-item.result c.loop-declaration.invariant c.loop-declaration-test.true c.declaration-item.is in
    let view = ap entry_tree c.in-Field.is ∙ view-Field c.in-Field.label c.in-Field.chain c.in-Field.value in
    let flat = field_flat _ _ _ _ _ _ c.in-Field.label c.in-Field.chain c.in-Field.value c.in_ok-value-in-Field.value next view c.in_ok-value-in-Field.ensures in
    let same = ap length c.deref.ensures.value in
    omega (arith, flat, same)

pub fields-loop-declaration-preserved : goal.fields-loop-declaration-preserved
fields-loop-declaration-preserved t c =
    let next = entry_next c.args.self.now c.args.whose c.loop-declaration.branches.items c.args.declarations.now c.loop-declaration.declaration-index c.declaration-item.result c.loop-declaration.invariant c.loop-declaration-test.true c.declaration-item.is in
    elim c.match-declaration.branch [
      | fields-in-Ellipsis w ↦ rw w.branches-is (ellipsis_more _ _ _ _ _ _ next (ap entry_tree w.in-Ellipsis.is ∙ view-Ellipsis))
      | fields-in-Field+in_ok-value-in-Field+in_ok-below-in-Field+in_ok-step_to-in-Field+in_ok-push-in-Field w ↦
          let view = ap entry_tree w.in-Field.is ∙ view-Field w.in-Field.label w.in-Field.chain w.in-Field.value in
          let value = meaning_in_scope c.args.self.now (tree.expression w.in-Field.value) in
          let below = w.in_ok-below-in-Field.below in
          let flat = field_flat _ _ _ _ _ _ w.in-Field.label w.in-Field.chain w.in-Field.value w.in_ok-value-in-Field.value next view w.in_ok-value-in-Field.ensures in
          let same = ap length w.deref.ensures.value in
          let deep = w.in_ok-below-in-Field.ensures.depth in
          let few : tree_depth below < step_limit = omega (arith, flat, same, deep) in
          let told = subst (λ ch. DeclaresLiterals c.args.whose (nest_in_labels ch value) below) w.deref.ensures.value (w.in_ok-below-in-Field.ensures.told value w.in_ok-value-in-Field.ensures) in
          rw (w.branches-is, w.in_ok-push-in-Field.ensures.items)
          (field_more _ _ _ _ _ _ w.in-Field.label w.in-Field.chain w.in-Field.value w.in_ok-step_to-in-Field.field-0 below next view (ap step_of w.in_ok-step_to-in-Field.ensures) told few)
      | fields-in-Definition w ↦
          rw w.branches-is (definition_more _ _ _ _ _ _ w.in-Definition.name w.in-Definition.from w.in-Definition.chain w.in-Definition.value next
          (ap entry_tree w.in-Definition.is ∙ view-Definition w.in-Definition.name w.in-Definition.from w.in-Definition.chain w.in-Definition.value))
    ]

pub fields-returns : goal.fields-returns
fields-returns t c =
    let all = c.args.declarations.now in
    let end = c.loop-declaration-test.false in
    if_both c.of_branches.result _ _ _ (λ table form of. fields_all c.args.self.now c.args.whose c.loop-declaration.branches.items all c.loop-declaration.declaration-index table c.loop-declaration.invariant end form of)
    c.of_branches.ensures.form c.of_branches.ensures.refused

pub literal-returns-in_ok-declare_struct : goal.literal-returns-in_ok-declare_struct
literal-returns-in_ok-declare_struct t c =
    let ds = nodes_kept c.args.self.now.definitions.now in
    let ms = mean_members c.args.self.now (tree.entries c.args.declarations.now) in
    let table = c.in_ok-table.table in
    let row = c.in_ok-declare_struct.field-0 in
    IfOk-weaker c.at_root-then-is_declared_here.result (IsRooted table row) _
    (λ all rooted. own_told c.args.whose ms table all row c.in_ok-table.ensures
    (λ asked. let d = c.in_ok-declare_struct.ensures ds (meaning_of_number ds) asked in let o = c.is_declared_here.ensures.told c.if-is_declared_here.true ds (meaning_of_number ds) asked in (λ h. o.0 (d.0 h), λ h. d.1 (o.1 h))) rooted)
    c.at_root-then-is_declared_here.ensures

pub literal-returns-else-is_declared_here : goal.literal-returns-else-is_declared_here
literal-returns-else-is_declared_here t c =
    let ds = nodes_kept c.args.self.now.definitions.now in
    let ms = mean_members c.args.self.now (tree.entries c.args.declarations.now) in
    untold c.args.whose ms c.in_ok-table.table c.in_ok-table.ensures (c.is_declared_here.ensures.untold (λ h. false≢true (sym c.if-is_declared_here.false ∙ h)) ds (meaning_of_number ds))

pub expression-returns-in-Close : goal.expression-returns-in-Close
expression-returns-in-Close t c =
    let ms = mean_members c.args.self.now (tree.entries c.in-Close.declarations.items) in
    let told = rw c.deref-in-Close.ensures.value at c.literal-in-Close.ensures in
    subst (λ z. IfOk c.literal-in-Close.result (DeclaresLiterals c.args.whose (meaning_in_scope c.args.self.now z)))
    (sym (ap tree.expression c.in-Close.is ∙ view-Close c.in-Close.from c.in-Close.declarations c.in-Close.inner_comma c.in-Close.comma))
    (IfOk-weaker c.literal-in-Close.result (DeclaresLiterals c.args.whose (struct ms)) _ (λ table h. close_told c.args.whose ms table h) told)

pub expression-returns-in-Disjunction : goal.expression-returns-in-Disjunction
expression-returns-in-Disjunction t c =
    subst (λ z. DeclaresLiterals c.args.whose (meaning_in_scope c.args.self.now z) c.new.result) (sym (ap tree.expression c.in-Disjunction.is ∙ view-Disjunction c.in-Disjunction.field-0))
    (rw c.new.ensures (nothing_told c.args.whose _ (λ path asked h. h)))

pub expression-returns-in-Integer : goal.expression-returns-in-Integer
expression-returns-in-Integer t c =
    subst (λ z. DeclaresLiterals c.args.whose (meaning_in_scope c.args.self.now z) c.new-in-Integer.result) (sym (ap tree.expression c.in-Integer.is ∙ view-Integer c.in-Integer.field-0))
    (rw c.new-in-Integer.ensures (nothing_told c.args.whose _ (λ path asked h. h)))

pub expression-returns-in-Text : goal.expression-returns-in-Text
expression-returns-in-Text t c =
    subst (λ z. DeclaresLiterals c.args.whose (meaning_in_scope c.args.self.now z) c.new-in-Text.result) (sym (ap tree.expression c.in-Text.is ∙ view-Text c.in-Text.field-0))
    (rw c.new-in-Text.ensures (nothing_told c.args.whose _ (λ path asked h. h)))

pub expression-returns-in-Bottom : goal.expression-returns-in-Bottom
expression-returns-in-Bottom t c =
    subst (λ z. DeclaresLiterals c.args.whose (meaning_in_scope c.args.self.now z) c.new-in-Bottom.result) (sym (ap tree.expression c.in-Bottom.is ∙ view-Bottom))
    (rw c.new-in-Bottom.ensures (nothing_told c.args.whose _ (λ path asked h. h)))

pub expression-returns-in-Bound : goal.expression-returns-in-Bound
expression-returns-in-Bound t c =
    subst (λ z. DeclaresLiterals c.args.whose (meaning_in_scope c.args.self.now z) c.new-in-Bound.result) (sym (ap tree.expression c.in-Bound.is ∙ view-Bound c.in-Bound.field-0 c.in-Bound.field-1))
    (rw c.new-in-Bound.ensures (nothing_told c.args.whose _ (λ path asked h. h)))

pub expression-returns-in-OtherInteger : goal.expression-returns-in-OtherInteger
expression-returns-in-OtherInteger t c =
    subst (λ z. DeclaresLiterals c.args.whose (meaning_in_scope c.args.self.now z) c.new-in-OtherInteger.result) (sym (ap tree.expression c.in-OtherInteger.is ∙ view-OtherInteger c.in-OtherInteger.field-0))
    (rw c.new-in-OtherInteger.ensures (nothing_told c.args.whose _ (λ path asked h. h)))

pub expression-returns-in-OtherText : goal.expression-returns-in-OtherText
expression-returns-in-OtherText t c =
    subst (λ z. DeclaresLiterals c.args.whose (meaning_in_scope c.args.self.now z) c.new-in-OtherText.result) (sym (ap tree.expression c.in-OtherText.is ∙ view-OtherText c.in-OtherText.field-0))
    (rw c.new-in-OtherText.ensures (nothing_told c.args.whose _ (λ path asked h. h)))

pub expression-elements-requires : goal.expression-elements-requires
expression-elements-requires t c =
    let self = c.args.self.now in
    let known = subst (λ e. IsKnown self e) (ap tree.expression c.in-List.is ∙ view-List c.in-List.elements c.in-List.rest c.in-List.comma) c.requires in (
      let is = ap size-Expr c.in-List.is in
          let own = sized-List c.in-List.elements c.in-List.rest c.in-List.comma in
          let same = ap (λ xs. most (λ e. size-Expr e) xs) c.deref-in-List.ensures.value in
          omega (arith, c.decreases, is, own, same),
      subst (λ xs. AreElementsKnown self (tree.elements_of_list xs)) (sym c.deref-in-List.ensures.value)
          (list_known self (tree.elements_of_list c.in-List.elements.items) (tree.rest_of_tree c.in-List.rest) c.in-List.comma known),
    )

pub expression-and_each-requires : goal.expression-and_each-requires
expression-and_each-requires t c =
    let self = c.args.self.now in
    let es = tree.elements_of_list c.in-List.elements.items in
    let rest = tree.rest_of_tree c.in-List.rest in
    let known = subst (λ e. IsKnown self e) (ap tree.expression c.in-List.is ∙ view-List c.in-List.elements c.in-List.rest c.in-List.comma) c.requires in
    let few = elements_few self c.in-List.elements.items (list_known self es rest c.in-List.comma known) in
    let counted = c.len.ensures ∙ c.in-List.elements.ok.0 in (
      let is = ap size-Expr c.in-List.is in
          let own = sized-List c.in-List.elements c.in-List.rest c.in-List.comma in
          omega (arith, c.decreases, is, own),
      (list_rest_known self es rest c.in-List.comma known, omega (arith, few, counted)),
    )

pub expression-returns-in_ok-list-in-List : goal.expression-returns-in_ok-list-in-List
expression-returns-in_ok-list-in-List t c =
    let self = c.args.self.now in
    let es = mean_elements self (tree.elements_of_list c.in-List.elements.items) in
    let told = rw c.deref-in-List.ensures.value at c.in_ok-list-in-List.ensures in
    let counted = count_of self c.in-List.elements.items ∙ sym (c.len.ensures ∙ c.in-List.elements.ok.0) in
    subst (λ z. IfOk c.and_each.result (DeclaresLiterals c.args.whose (meaning_in_scope self z)))
    (sym (ap tree.expression c.in-List.is ∙ view-List c.in-List.elements c.in-List.rest c.in-List.comma))
    (IfOk-weaker c.and_each.result _ (DeclaresLiterals c.args.whose (list (followed_by es (mean_rest self (tree.rest_of_tree c.in-List.rest)))))
    (λ all further. list_told self c.args.whose es (mean_rest self (tree.rest_of_tree c.in-List.rest)) c.len.result c.in_ok-list-in-List.list all counted told further) c.and_each.ensures)

pub and_each-meet_rest-requires-clause-depth : goal.and_each-meet_rest-requires-clause-depth
and_each-meet_rest-requires-clause-depth t c =
    let known = subst (λ rest. IsRestKnown c.args.self.now rest) (ap tree.rest_of_tree c.in-Each.is ∙ view-Each c.in-Each.each) c.requires.known in
    let flat = known.flat in
    let deep = told_flat c.args.whose (meaning_in_scope c.args.self.now (tree.expression c.in-Each.each.value)) c.in_ok-further-in-Each.further
    (subst (λ e. DeclaresLiterals c.args.whose (meaning_in_scope c.args.self.now (tree.expression e)) c.in_ok-further-in-Each.further) c.deref.ensures c.in_ok-further-in-Each.ensures) in
    omega (arith, flat, deep)

pub and_each-returns-in_ok-meet_rest-in-Each : goal.and_each-returns-in_ok-meet_rest-in-Each
and_each-returns-in_ok-meet_rest-in-Each t c =
    let e = meaning_in_scope c.args.self.now (tree.expression c.in-Each.each.value) in
    subst (λ rest. DeclareBeyond c.args.whose c.args.count (mean_rest c.args.self.now rest) c.args.list c.meet_rest.new.self) (sym (ap tree.rest_of_tree c.in-Each.is ∙ view-Each c.in-Each.each))
    (further_met c.args.whose c.args.count e c.args.list c.in_ok-further-in-Each.further c.meet_rest.new.self c.meet_rest.ensures.form
    (subst (λ x. DeclaresLiterals c.args.whose (meaning_in_scope c.args.self.now (tree.expression x)) c.in_ok-further-in-Each.further) c.deref.ensures c.in_ok-further-in-Each.ensures) c.in_ok-meet_rest-in-Each.ensures.ok)
