use Rattle.std.proofs.Common.{sym, ap, ◌∙◌}
use Rattle.cue_lattice.specs.Path.{label}
use Rattle.cue_table.specs.Tree.{step_into}
use Rattle.cue_policies.proofs.Gathering.{add_some}
use Rattle.cue_policies.proofs.below.add_at.Goals as goal

pub returns : goal.returns
returns c =
    add_some c.args.found.now.items c.push.new.self.items c.args.part.now c.args.role c.args.label.now c.in-Some.branch
    (ap (λ t. step_into c.args.part.now.branch (label t)) (sym c.in_ok-copy.ensures.text) ∙ sym c.in-Some.ensures.branch) c.in_ok-push-in-Some.ensures.items
