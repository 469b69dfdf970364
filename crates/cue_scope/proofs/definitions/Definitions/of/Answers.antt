use Rattle.std.proofs.Common.{◌∙◌, ◌+◌, ◌++◌, drop, sym, ap, arith}
use Rattle.cue_syntax.specs.Syntax.{entries}
use Rattle.cue_scope.specs.Definitions.{definitions, repeats_after}
use Rattle.cue_scope.specs.Listed.{definition_list}
use Rattle.cue_scope.proofs.Reading.{next_declaration, definition_read, field_passed, ellipsis_passed, all_with_next, repeats_with_next}
use Rattle.cue_scope.proofs.definitions.Definitions.of.Goals as goal
use Rattle.cue_scope.proofs.definitions.Definitions.of.Goals.{in-Definition+in_ok-add-in-Definition, in-Field, in-Ellipsis}

pub loop-declaration-preserved : goal.loop-declaration-preserved
loop-declaration-preserved c =
    let next = next_declaration c.args.declarations.now c.loop-declaration.declaration-index c.declaration-item.result (omega arith) c.declaration-item.is in
    let rest = entries (drop (c.loop-declaration.declaration-index + 1) c.args.declarations.now) in
    elim c.match-declaration.branch [
      | in-Definition+in_ok-add-in-Definition w ↦
          let left = ap definitions next ∙ definition_read c.declaration-item.result w.in-Definition.name w.as_str.result.now w.in-Definition.from w.in-Definition.chain w.deref.result.now w.in-Definition.value rest
          w.in-Definition.is w.as_str.ensures.bytes w.deref.ensures.value in
          rw (w.list-is, w.numbers-is)
          (record {
            numbered = w.in_ok-add-in-Definition.ensures.numbered;
            all = all_with_next _ _ _ _ _ _ w.in_ok-add-in-Definition.ensures.added left c.loop-declaration.invariant.all;
            repeats = repeats_with_next _ _ _ _ _ _ w.in_ok-add-in-Definition.ensures.added left w.in_ok-add-in-Definition.ensures.unknown c.loop-declaration.invariant.repeats;
          })
      | in-Field w ↦
          let left = ap definitions next ∙ field_passed c.declaration-item.result w.in-Field.label w.in-Field.chain w.in-Field.value rest w.in-Field.is in
          rw (w.list-is, w.numbers-is)
          (record {
            numbered = c.loop-declaration.invariant.numbered;
            all = ap (λ z. definition_list c.loop-declaration.list.items ++ z) (sym left) ∙ c.loop-declaration.invariant.all;
            repeats = ap (repeats_after (definition_list c.loop-declaration.list.items)) (sym left) ∙ c.loop-declaration.invariant.repeats;
          })
      | in-Ellipsis w ↦
          let left = ap definitions next ∙ ellipsis_passed c.declaration-item.result rest w.in-Ellipsis.is in
          rw (w.list-is, w.numbers-is)
          (record {
            numbered = c.loop-declaration.invariant.numbered;
            all = ap (λ z. definition_list c.loop-declaration.list.items ++ z) (sym left) ∙ c.loop-declaration.invariant.all;
            repeats = ap (repeats_after (definition_list c.loop-declaration.list.items)) (sym left) ∙ c.loop-declaration.invariant.repeats;
          })
    ]
