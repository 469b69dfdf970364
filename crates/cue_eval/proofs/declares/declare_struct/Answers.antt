use Rattle.std.proofs.Common.{◌↔◌, Bool, List, ℕ, true, ◌∷◌, [], ap, subst, ◌∙◌, arith, refl}
use Rattle.cue_lattice.specs.OneOf.{OneOf}
use Rattle.cue_sets.specs.Texts.{RefusesText}
use Rattle.cue_syntax.specs.Syntax.{entry_tree}
use Rattle.cue_syntax.proofs.Views.{view-Ellipsis, view-Field, view-Definition}
use Rattle.cue_eval.proofs.TellingEntries.{label_next, dots_declare, field_declares, definition_declares, all_declared}
use Rattle.cue_eval.proofs.declares.declare_struct.Goals as goal
use Rattle.cue_eval.proofs.declares.declare_struct.Goals.{in-Ellipsis+in_ok-push-in-Ellipsis, in-Field+in_ok-but-in-Field+in_ok-push-in-Field, in-Definition}

pub loop-declaration-preserved : goal.loop-declaration-preserved
loop-declaration-preserved c =
    let next = label_next c.loop-declaration.sets.items c.args.declarations.now c.loop-declaration.declaration-index c.declaration-item.result c.loop-declaration.invariant c.loop-declaration-test.true c.declaration-item.is in
    elim c.match-declaration.branch [
      | in-Ellipsis+in_ok-push-in-Ellipsis w ↦
          rw (w.sets-is, w.in_ok-push-in-Ellipsis.ensures.items) (dots_declare _ _ _ _ _ next (ap entry_tree w.in-Ellipsis.is ∙ view-Ellipsis) w.none.ensures)
      | in-Field+in_ok-but-in-Field+in_ok-push-in-Field w ↦
          rw (w.sets-is, w.in_ok-push-in-Field.ensures.items) (field_declares _ _ _ _ _ w.in-Field.label w.in-Field.chain w.in-Field.value next (ap entry_tree w.in-Field.is ∙ view-Field w.in-Field.label w.in-Field.chain w.in-Field.value)
          (w.in_ok-but-in-Field.ensures ∙ ap (λ t. (true, t ∷ [])) w.label_text.ensures))
      | in-Definition w ↦ rw w.sets-is (definition_declares _ _ _ _ w.in-Definition.name w.in-Definition.from w.in-Definition.chain w.in-Definition.value next (ap entry_tree w.in-Definition.is ∙ view-Definition w.in-Definition.name w.in-Definition.from w.in-Definition.chain w.in-Definition.value))
    ]

pub returns : goal.returns
returns c = λ ds meaning asked.
    all_declared c.loop-declaration.sets.items c.args.declarations.now c.loop-declaration.declaration-index _ c.loop-declaration.invariant (let a = c.loop-declaration-test.false in omega (arith, a)) refl
    (λ l. subst (λ xs. RefusesText c.in_ok-meet_all.field-0 l ↔ OneOf (λ (set : Bool × List (List ℕ)). RefusesText set l) xs) c.deref.ensures.value (c.in_ok-meet_all.ensures l)) ds meaning asked
