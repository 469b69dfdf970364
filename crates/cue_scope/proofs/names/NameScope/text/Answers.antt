use Rattle.std.proofs.lemmas.Result.{err_from_is_err_and}
use Rattle.cue_scope.specs.Scopes.{scope_of, definitions_at}
use Rattle.cue_scope.proofs.TextWalks.{text_ellipsis, text_field, text_definition, text_stops_field, text_stops_definition}
use Rattle.cue_scope.proofs.names.NameScope.text.Goals as goal
use Rattle.cue_scope.proofs.names.NameScope.text.Goals.{in-Ellipsis, in-Field+in_ok-look_up_value-in-Field, in-Definition+in_ok-look_up_value-in-Definition+in_ok-push-in-Definition}

pub returns-in_err-look_up_value-in-Field-clause-refused :
    goal.returns-in_err-look_up_value-in-Field-clause-refused
returns-in_err-look_up_value-in-Field-clause-refused c =
    let p = err_from_is_err_and c.from_residual.result c.from_residual.ensures.1 in
    let stopped = rw c.deref.ensures.value at c.in_err-look_up_value-in-Field.ensures.stopped in
    rw (p.1, p.2) (text_stops_field c.in_err-look_up_value-in-Field.field-0.0 (definitions_at c.args.self.now) (scope_of c.args.self.now.scope) c.args.declarations.now c.loop-declaration.of_definitions.items c.loop-declaration.of_fields.items
    c.loop-declaration.declaration-index c.declaration-item.result c.in-Field.label c.in-Field.chain c.in-Field.value c.loop-declaration.invariant c.loop-declaration-test.true c.declaration-item.is c.in-Field.is stopped)

pub returns-in_err-look_up_value-in-Definition-clause-refused :
    goal.returns-in_err-look_up_value-in-Definition-clause-refused
returns-in_err-look_up_value-in-Definition-clause-refused c =
    let p = err_from_is_err_and c.from_residual-in_err-look_up_value-in-Definition.result c.from_residual-in_err-look_up_value-in-Definition.ensures.1 in
    let stopped = rw c.deref-in-Definition.ensures.value at c.in_err-look_up_value-in-Definition.ensures.stopped in
    rw (p.1, p.2) (text_stops_definition c.in_err-look_up_value-in-Definition.field-0.0 (definitions_at c.args.self.now) (scope_of c.args.self.now.scope) c.args.declarations.now c.loop-declaration.of_definitions.items c.loop-declaration.of_fields.items
    c.loop-declaration.declaration-index c.declaration-item.result c.in-Definition.name c.in-Definition.from c.in-Definition.chain c.in-Definition.value
    c.loop-declaration.invariant c.loop-declaration-test.true c.declaration-item.is c.in-Definition.is stopped)

pub loop-declaration-preserved : goal.loop-declaration-preserved
loop-declaration-preserved c =
    elim c.match-declaration.branch [
      | in-Ellipsis w ↦ rw (w.of_definitions-is, w.of_fields-is) (text_ellipsis (definitions_at c.args.self.now) (scope_of c.args.self.now.scope) c.args.declarations.now c.loop-declaration.of_definitions.items c.loop-declaration.of_fields.items
          c.loop-declaration.declaration-index c.declaration-item.result c.loop-declaration.invariant c.loop-declaration-test.true c.declaration-item.is w.in-Ellipsis.is)
      | in-Field+in_ok-look_up_value-in-Field w ↦
          let walked = rw w.deref.ensures.value at w.in_ok-look_up_value-in-Field.ensures.walked in
          rw (w.of_definitions-is, w.of_fields-is) (text_field (definitions_at c.args.self.now) (scope_of c.args.self.now.scope) c.args.declarations.now c.loop-declaration.of_definitions.items c.loop-declaration.of_fields.items w.look_up_value.new.uses.items
          c.loop-declaration.declaration-index c.declaration-item.result w.in-Field.label w.in-Field.chain w.in-Field.value
          c.loop-declaration.invariant c.loop-declaration-test.true c.declaration-item.is w.in-Field.is walked)
      | in-Definition+in_ok-look_up_value-in-Definition+in_ok-push-in-Definition w ↦
          let walked = rw (w.deref-in-Definition.ensures.value, w.new-uses.ensures.items) at w.in_ok-look_up_value-in-Definition.ensures.walked in
          rw (w.of_definitions-is, w.of_fields-is) (text_definition (definitions_at c.args.self.now) (scope_of c.args.self.now.scope) c.args.declarations.now c.loop-declaration.of_definitions.items w.push.new.values.items c.loop-declaration.of_fields.items
          w.look_up_value-in-Definition.new.uses c.loop-declaration.declaration-index c.declaration-item.result w.in-Definition.name w.in-Definition.from w.in-Definition.chain w.in-Definition.value
          c.loop-declaration.invariant c.loop-declaration-test.true c.declaration-item.is w.in-Definition.is walked w.in_ok-push-in-Definition.ensures.pushed)
    ]
