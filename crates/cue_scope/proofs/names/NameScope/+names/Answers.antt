use Rattle.std.proofs.Common.{subst, IfErr, OnOk}
use Rattle.cue_syntax.specs.Syntax as tree
use Rattle.cue_scope.specs.Names as naming
use Rattle.cue_scope.specs.Names.{Scope}
use Rattle.cue_scope.specs.Uses as using
use Rattle.cue_scope.specs.Scopes.{scope_of, definitions_at, IsWalked, IsScopeStopped}
use Rattle.cue_scope.proofs.Walking.{walking_more, walking_stops, element_at_hand, term_at_hand, ellipsis_passed, field_at_hand, definition_at_hand}
use Rattle.std.proofs.lemmas.Result.{err_from_is_err_and}
use Rattle.cue_scope.proofs.Scoping.{behind_labels}
use Rattle.cue_scope.proofs.names.NameScope.+names.Goals as goal
use Rattle.cue_scope.proofs.names.NameScope.+names.Goals.{declarations-in-Ellipsis, declarations-in-Field+in_ok-look_up_value-in-Field, declarations-in-Definition+in_ok-look_up_value-in-Definition}

pub look_up_value-returns-clause-walked : goal.look_up_value-returns-clause-walked
look_up_value-returns-clause-walked t c =
    let same = behind_labels c.args.chain.now (scope_of c.args.self.now.scope) in
    let P : Scope → Type 0 = λ s. OnOk c.expression.result (IsWalked (naming.faults (definitions_at c.args.self.now) s (tree.expression c.args.value.now))
    (using.uses (definitions_at c.args.self.now) (tree.expression c.args.value.now)) c.args.uses.now.items c.expression.new.uses.items) in
    subst P same c.expression.ensures.walked

pub look_up_value-returns-clause-stopped : goal.look_up_value-returns-clause-stopped
look_up_value-returns-clause-stopped t c =
    let same = behind_labels c.args.chain.now (scope_of c.args.self.now.scope) in
    let P : Scope → Type 0 = λ s. IfErr c.expression.result (IsScopeStopped (naming.faults (definitions_at c.args.self.now) s (tree.expression c.args.value.now))) in
    subst P same c.expression.ensures.stopped

pub elements-returns-in_err-expression-clause-stopped :
    goal.elements-returns-in_err-expression-clause-stopped
elements-returns-in_err-expression-clause-stopped t c =
    let w = element_at_hand (definitions_at c.args.self.now) (scope_of c.args.self.now.scope) c.args.elements.now c.args.uses.now.items c.loop-element.uses.items
    c.loop-element.element-index c.element-item.result c.loop-element.invariant c.loop-element-test.true c.element-item.is in
    let p = err_from_is_err_and c.from_residual.result c.from_residual.ensures.1 in
    rw (p.1, p.2) (walking_stops _ _ _ _ _ _ _ _ w c.in_err-expression.ensures.stopped)

pub terms-returns-in_err-expression-clause-stopped :
    goal.terms-returns-in_err-expression-clause-stopped
terms-returns-in_err-expression-clause-stopped t c =
    let w = term_at_hand (definitions_at c.args.self.now) (scope_of c.args.self.now.scope) c.args.terms.now c.args.uses.now.items c.loop-term.uses.items
    c.loop-term.term-index c.term-item.result c.loop-term.invariant c.loop-term-test.true c.term-item.is in
    let p = err_from_is_err_and c.from_residual.result c.from_residual.ensures.1 in
    rw (p.1, p.2) (walking_stops _ _ _ _ _ _ _ _ w c.in_err-expression.ensures.stopped)

pub terms-loop-term-preserved : goal.terms-loop-term-preserved
terms-loop-term-preserved t c =
    let w = term_at_hand (definitions_at c.args.self.now) (scope_of c.args.self.now.scope) c.args.terms.now c.args.uses.now.items c.loop-term.uses.items
    c.loop-term.term-index c.term-item.result c.loop-term.invariant c.loop-term-test.true c.term-item.is in
    walking_more _ _ _ _ _ _ _ _ _ w c.in_ok-expression.ensures.walked

pub declarations-returns-in_err-look_up_value-in-Field-clause-stopped :
    goal.declarations-returns-in_err-look_up_value-in-Field-clause-stopped
declarations-returns-in_err-look_up_value-in-Field-clause-stopped t c =
    let w = field_at_hand (definitions_at c.args.self.now) (scope_of c.args.self.now.scope) c.args.declarations.now c.args.uses.now.items c.loop-declaration.uses.items
    c.loop-declaration.declaration-index c.declaration-item.result c.in-Field.label c.in-Field.chain c.in-Field.value c.loop-declaration.invariant c.loop-declaration-test.true c.declaration-item.is c.in-Field.is in
    let p = err_from_is_err_and c.from_residual.result c.from_residual.ensures.1 in
    let stopped = rw c.deref.ensures.value at c.in_err-look_up_value-in-Field.ensures.stopped in
    rw (p.1, p.2) (walking_stops _ _ _ _ _ _ _ _ w stopped)

pub declarations-returns-in_err-look_up_value-in-Definition-clause-stopped :
    goal.declarations-returns-in_err-look_up_value-in-Definition-clause-stopped
declarations-returns-in_err-look_up_value-in-Definition-clause-stopped t c =
    let w = definition_at_hand (definitions_at c.args.self.now) (scope_of c.args.self.now.scope) c.args.declarations.now c.args.uses.now.items c.loop-declaration.uses.items
    c.loop-declaration.declaration-index c.declaration-item.result c.in-Definition.name c.in-Definition.from c.in-Definition.chain c.in-Definition.value
    c.loop-declaration.invariant c.loop-declaration-test.true c.declaration-item.is c.in-Definition.is in
    let p = err_from_is_err_and c.from_residual-in_err-look_up_value-in-Definition.result c.from_residual-in_err-look_up_value-in-Definition.ensures.1 in
    let stopped = rw c.deref-in-Definition.ensures.value at c.in_err-look_up_value-in-Definition.ensures.stopped in
    rw (p.1, p.2) (walking_stops _ _ _ _ _ _ _ _ w stopped)

pub declarations-loop-declaration-preserved : goal.declarations-loop-declaration-preserved
declarations-loop-declaration-preserved t c =
    elim c.match-declaration.branch [
      | declarations-in-Ellipsis w ↦ rw w.uses-is (ellipsis_passed (definitions_at c.args.self.now) (scope_of c.args.self.now.scope) c.args.declarations.now c.args.uses.now.items c.loop-declaration.uses.items
          c.loop-declaration.declaration-index c.declaration-item.result c.loop-declaration.invariant c.loop-declaration-test.true c.declaration-item.is w.in-Ellipsis.is)
      | declarations-in-Field+in_ok-look_up_value-in-Field w ↦
          let v = field_at_hand (definitions_at c.args.self.now) (scope_of c.args.self.now.scope) c.args.declarations.now c.args.uses.now.items c.loop-declaration.uses.items
          c.loop-declaration.declaration-index c.declaration-item.result w.in-Field.label w.in-Field.chain w.in-Field.value c.loop-declaration.invariant c.loop-declaration-test.true c.declaration-item.is w.in-Field.is in
          let walked = rw w.deref.ensures.value at w.in_ok-look_up_value-in-Field.ensures.walked in
          rw w.uses-is (walking_more _ _ _ _ _ _ _ _ _ v walked)
      | declarations-in-Definition+in_ok-look_up_value-in-Definition w ↦
          let v = definition_at_hand (definitions_at c.args.self.now) (scope_of c.args.self.now.scope) c.args.declarations.now c.args.uses.now.items c.loop-declaration.uses.items
          c.loop-declaration.declaration-index c.declaration-item.result w.in-Definition.name w.in-Definition.from w.in-Definition.chain w.in-Definition.value
          c.loop-declaration.invariant c.loop-declaration-test.true c.declaration-item.is w.in-Definition.is in
          let walked = rw w.deref-in-Definition.ensures.value at w.in_ok-look_up_value-in-Definition.ensures.walked in
          rw w.uses-is (walking_more _ _ _ _ _ _ _ _ _ v walked)
    ]
