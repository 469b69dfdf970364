use Rattle.cue_scope.proofs.Measuring.{known_first, measuring_more, ellipsis_in_file, field_in_file, definition_in_file}
use Rattle.cue_scope.proofs.measure.KnownMeasures.file.Goals as goal
use Rattle.cue_scope.proofs.measure.KnownMeasures.file.Goals.{in-Ellipsis, in-Field, in-Definition}

pub loop-declaration-preserved : goal.loop-declaration-preserved
loop-declaration-preserved c = λ known.
    elim c.match-declaration.branch [
      | in-Ellipsis w ↦ rw w.all-is (ellipsis_in_file c.args.self.now c.loop-declaration.all c.args.declarations.now c.loop-declaration.declaration-index c.declaration-item.result
          (c.loop-declaration.invariant known) c.loop-declaration-test.true c.declaration-item.is w.in-Ellipsis.is)
      | in-Field w ↦
          let v = field_in_file c.args.self.now c.loop-declaration.all c.args.declarations.now c.loop-declaration.declaration-index c.declaration-item.result w.in-Field.label w.in-Field.chain w.in-Field.value
          (c.loop-declaration.invariant known) c.loop-declaration-test.true c.declaration-item.is w.in-Field.is in
          let behind = rw w.deref.ensures.value at (w.behind_chain.ensures _ (w.expression.ensures (known_first _ _ _ _ _ _ v))) in
          rw w.all-is (measuring_more _ _ w.field.result w.join_beside-all.result _ _ _ _ _ v w.join_beside-all.ensures (w.field.ensures _ behind))
      | in-Definition w ↦
          let v = definition_in_file c.args.self.now c.loop-declaration.all c.args.declarations.now c.loop-declaration.declaration-index c.declaration-item.result w.in-Definition.name w.in-Definition.from w.in-Definition.chain w.in-Definition.value
          (c.loop-declaration.invariant known) c.loop-declaration-test.true c.declaration-item.is w.in-Definition.is in
          rw w.all-is (measuring_more _ _ w.only_terms.result w.join_beside-all-in-Definition.result _ _ _ _ _ v w.join_beside-all-in-Definition.ensures (w.only_terms.ensures _ (w.expression-in-Definition.ensures (known_first _ _ _ _ _ _ v))))
    ]
