use Rattle.std.proofs.Common.{ap, refl, ◌∙◌}
use Rattle.std.specs.List.{flat_map}
use Rattle.cue_device.proofs.Telling.{on_err, tells_first, tells_next, tells_part, tells_all}
use Rattle.cue_table.specs.Tree.{below}
use Rattle.cue_print.specs.Spelled.{line}
use Rattle.cue_print.proofs.Fields.{first_field, no_field_left, all_fields, first_line}
use Rattle.cue_print.proofs.Walk.{all_small, others_small}
use Rattle.cue_print.proofs.file.push_lines.Goals as goal

pub loop-label-init : goal.loop-label-init
loop-label-init g c =
    let all = c.into_iter-label-iterator.ensures.into_iter_gives ∙ c.labels-label-items.ensures.list in
    record {
      small = all_small c.args.branch.now _ all;
      telling = tells_first _ _ _ (ap (flat_map line) (all_fields (below c.args.branch.now) _ all));
    }

pub loop-label-preserved : goal.loop-label-preserved
loop-label-preserved g c =
    record {
      small = others_small _ _ _ _ c.in-Some.ensures.steps c.loop-label.invariant.small;
      telling = tells_next _ _ _ _ _ _ _ refl
          (tells_next _ _ _ _ _ _ _ (first_line _ _ _ (first_field _ _ _ c.in-Some.ensures.steps)) c.loop-label.invariant.telling c.in_ok-push_field.ensures.told)
          c.in_ok-put.ensures.told;
    }

pub returns-in_err-push_field-clause-begun : goal.returns-in_err-push_field-clause-begun
returns-in_err-push_field-clause-begun g c =
    on_err _ (tells_part _ _ _ _ _ _ _ (first_line _ _ _ (first_field _ _ _ c.in-Some.ensures.steps)) c.loop-label.invariant.telling c.in_err-push_field.ensures.begun)

pub returns-in_err-put-clause-begun : goal.returns-in_err-put-clause-begun
returns-in_err-put-clause-begun g c =
    on_err _ (tells_part _ _ _ _ _ _ _ refl
    (tells_next _ _ _ _ _ _ _ (first_line _ _ _ (first_field _ _ _ c.in-Some.ensures.steps)) c.loop-label.invariant.telling c.in_ok-push_field.ensures.told)
    c.in_err-put.ensures.begun)

pub returns-clause-told : goal.returns-clause-told
returns-clause-told g c =
    tells_all _ _ _ _ (ap (flat_map line) (no_field_left _ c.in-None.ensures.steps.0)) c.loop-label.invariant.telling
