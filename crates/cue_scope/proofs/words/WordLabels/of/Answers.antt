use Rattle.std.proofs.Common.{◌≡◌, ◌||◌, ◌+◌, Bool, List, false, drop, get_or, sym, subst}
use Rattle.cue_syntax.specs.Syntax.{entries}
use Rattle.cue_scope.specs.Names.{has_label, is_unquoted}
use Rattle.cue_scope.proofs.WordNumbers.{definition_labels, ellipsis_labels, field_labels, hidden_all, hidden_more, hidden_passed}
use Rattle.cue_scope.proofs.words.WordLabels.of.Goals as goal
use Rattle.cue_scope.proofs.words.WordLabels.of.Goals.{in-Ellipsis, in-Definition, in-Field}

pub loop-declaration-preserved : goal.loop-declaration-preserved
loop-declaration-preserved c = λ t at is.
    let ds = c.args.declarations.now in
    let i = c.loop-declaration.declaration-index in
    let before = get_or c.loop-declaration.hidden at false in
    let left = has_label t (entries (drop i ds)) in
    let rest = has_label t (entries (drop (i + 1) ds)) in
    let all = has_label t (entries ds) in
    let so_far = c.loop-declaration.invariant t at is in
    let Passes : List Bool → Type 0 = λ (h : List Bool). (get_or h at false || rest) ≡ all in
    elim c.match-declaration.branch [
      | in-Ellipsis w ↦ subst Passes (sym w.hidden-is) (hidden_passed before left rest all so_far
          (ellipsis_labels t ds i c.declaration-item.result c.loop-declaration-test.true c.declaration-item.is w.in-Ellipsis.is))
      | in-Definition w ↦ subst Passes (sym w.hidden-is) (hidden_passed before left rest all so_far
          (definition_labels t ds i c.declaration-item.result c.loop-declaration-test.true c.declaration-item.is _ _ _ _ w.in-Definition.is))
      | in-Field w ↦ subst Passes (sym w.hidden-is) (hidden_more before (get_or w.hide.new.hidden at false) (is_unquoted t w.in-Field.label.name) left rest all so_far
          (w.hide.ensures t at is)
          (field_labels t ds i c.declaration-item.result c.loop-declaration-test.true c.declaration-item.is w.in-Field.label w.in-Field.chain w.in-Field.value w.in-Field.is))
    ]

pub invariant_of-result : goal.invariant_of-result
invariant_of-result c = record {
  told = λ t at is. hidden_all t c.args.declarations.now c.loop-declaration.declaration-index (get_or c.loop-declaration.hidden at false) (c.loop-declaration.invariant t at is)
      c.loop-declaration-test.false;
}
