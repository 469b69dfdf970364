use Rattle.std.proofs.Common.{◌∙◌, Some, ap, sym}
use Rattle.cue_policies.proofs.Branches.{rest_answer}
use Rattle.cue_policies.proofs.Calls.{rest_added}
use Rattle.cue_policies.proofs.place.with_rest.Goals as goal

pub returns-in_ok-meet_rest-in-Some-clause-refused : goal.returns-in_ok-meet_rest-in-Some-clause-refused
returns-in_ok-meet_rest-in-Some-clause-refused c =
    rest_added c.args.branch.now c.in_ok-to_table-in-Some.field-0 c.args.table c.meet_rest.new.self c.fixed.result
    (sym c.in-Some.ensures.rest ∙ ap (λ t. Some t) (sym c.in_ok-to_table-in-Some.ensures)) c.fixed.ensures.fixed
    (rest_answer c.args.table c.meet_rest.new.self c.in_ok-to_table-in-Some.field-0 c.fixed.result c.in_ok-meet_rest-in-Some.ensures.ok)
