use Rattle.std.proofs.Common.{◌≤◌, ◌↔◌}
use Rattle.cue_table.specs.Spans.{branches_of_spans}
use Rattle.cue_table.specs.Tree.{below}
use Rattle.cue_table.specs.Size.{tree_size, children_size}
use Rattle.cue_policies.specs.Inner.Forms.{AreForms}
use Rattle.cue_policies.proofs.forms.+is_form.Given as goal

abbrev pub decreases-is_form : goal.decreases-is_form
decreases-is_form l = tree_size l.branch.now

-- what is left decides the others
abbrev pub invariant-loop-span : goal.invariant-loop-span
invariant-loop-span l = record {
  left : AreForms l.in_list (below l.branch) ↔ AreForms l.in_list (branches_of_spans l.span-iterator);
  smaller : children_size (branches_of_spans l.span-iterator) ≤ children_size (below l.branch);
}
