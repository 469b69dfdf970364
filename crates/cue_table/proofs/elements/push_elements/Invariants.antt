use Rattle.std.proofs.Common.{◌≡◌, ◌-◌}
use Rattle.cue_table.specs.Inner.Join.{join_children}
use Rattle.cue_table.specs.Inner.View.{branches}
use Rattle.cue_table.proofs.RestBegins.{all_but}
use Rattle.cue_table.proofs.elements.push_elements.Given as goal

-- the elements before this one stand behind the others
abbrev pub invariant-loop-number : goal.invariant-loop-number
invariant-loop-number g l = branches l.children.items ≡ join_children (branches l.initial.children.items) (all_but l.run.first (l.number - l.run.first) l.run.node)
