use Rattle.std.proofs.Common.{◌++◌, map, refl, ap, ◌∙◌, arith, string_bytes}
use Rattle.std.specs.List.{flat_map}
use Rattle.std.proofs.lemmas.List.{take_rest}
use Rattle.cue_row.specs.Inner.PathText.{dot_and_step}
use Rattle.cue_row.specs.Steps.{step_of}
use Rattle.cue_row.proofs.Texts.{path_by_steps}
use Rattle.cue_row.proofs.spelling.push_steps.Goals as goal

pub returns-in_ok-push_rest-in-len1-up-clause-written : goal.returns-in_ok-push_rest-in-len1-up-clause-written
returns-in_ok-push_rest-in-len1-up-clause-written c =
    let steps = c.args.steps.now in
    path_by_steps steps c.first-item.result (map step_of steps) _ _ _ refl (omega arith) c.first-item.is c.in_ok-push_step-in-len1-up.ensures.written
    (c.in_ok-push_rest-in-len1-up.ensures.written ∙ ap (λ rest. string_bytes c.push_step.new.out ++ flat_map dot_and_step rest) (take_rest steps 1))
