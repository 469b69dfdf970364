use Rattle.cue_policies.proofs.Calls.{fields_low}
use Rattle.cue_policies.proofs.Whole.{view_refuses, view_fit}
use Rattle.cue_policies.proofs.view.join_parts.Goals as goal

pub of_branches-requires : goal.of_branches-requires
of_branches-requires c = fields_low c.args.parts.now c.args.fields.items c.requires.fields

pub returns-clause-refused : goal.returns-clause-refused
returns-clause-refused c =
    view_refuses c.args.parts.now c.args.fields.items c.in_ok-view.view c.in_ok-of_branches.field-0 c.meet_with.new.self c.requires.sound c.requires.fields c.in_ok-view.ensures.refused
    c.in_ok-of_branches.ensures.refused c.in_ok-meet_with.ensures.ok

pub returns-clause-fit : goal.returns-clause-fit
returns-clause-fit c = λ top limited.
    view_fit top c.args.parts.now c.args.fields.items c.in_ok-view.view c.in_ok-of_branches.field-0 c.meet_with.new.self c.requires.sound c.requires.depth c.requires.fields c.in_ok-view.ensures.refused
    c.in_ok-of_branches.ensures.refused c.in_ok-meet_with.ensures.ok c.in_ok-view.ensures.form c.in_ok-of_branches.ensures.form c.in_ok-meet_with.ensures.form limited (c.in_ok-view.ensures.fit top limited)
