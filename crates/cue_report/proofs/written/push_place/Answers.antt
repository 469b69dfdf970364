use Rattle.std.proofs.Common.{◌-◌, arith, length, take, string_bytes}
use Rattle.cue_report.proofs.Texts.{ends, path_written}
use Rattle.cue_report.proofs.written.push_place.Goals as goal

pub returns-in_ok-push_step-in-len1-up : goal.returns-in_ok-push_step-in-len1-up
returns-in_ok-push_step-in-len1-up c =
    let steps = c.args.steps.now in
    path_written steps (take (length steps - 1) steps) c.last-item.result (string_bytes c.args.out.now) (string_bytes c.push_above.new.out) (string_bytes c.push_step.new.out)
    (ends steps c.last-item.result (omega arith) c.last-item.is) c.in_ok-push_above-in-len1-up.ensures c.in_ok-push_step-in-len1-up.ensures
