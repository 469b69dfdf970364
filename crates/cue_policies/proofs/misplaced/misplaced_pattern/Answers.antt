use Rattle.std.proofs.Common.{false}
use Rattle.cue_policies.specs.Inner.Forms.{IsForm}
use Rattle.cue_policies.specs.Inner.Misplaced.{IsMisplacedUp}
use Rattle.cue_policies.specs.Misplaced.{first_steps}
use Rattle.cue_policies.proofs.FormWalks.{well_formed}
use Rattle.cue_policies.proofs.Misplacing.{some_is, none_is, path_is}
use Rattle.cue_policies.proofs.misplaced.misplaced_pattern.Goals as goal

pub returns-in-None-clause-none : goal.returns-in-None-clause-none
returns-in-None-clause-none c =
    let walk = well_formed c.root-root.result (rw c.root-root.ensures.branch c.root-root.ensures.form) in
    rw (← c.root-root.ensures.branch) (walk.0 (none_is c.in_ok-find_in.field-0 (IsForm false c.root-root.result) c.in-None.is c.in_ok-find_in.ensures.none))

pub returns-in-Some-clause-some : goal.returns-in-Some-clause-some
returns-in-Some-clause-some c =
    let found = some_is c.in_ok-find_in.field-0 c.in-Some.path (λ up. IsMisplacedUp false c.root-root.result (first_steps up.items)) c.in-Some.is c.in_ok-find_in.ensures.some in
    path_is c.args.policy.now c.root-root.result c.in-Some.path.items c.reverse.new.self.items c.root-root.ensures.branch found c.reverse.ensures.items
