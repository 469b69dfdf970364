use Rattle.std.proofs.Common.{◌≡◌, ◌+◌, ◌∷◌, ◌∙◌, drop, sym, ap, None}
use Rattle.std.proofs.lemmas.List.{drop_all, drop_more}
use Rattle.cue_table.specs.Inner.Join.{join_children}
use Rattle.cue_table.specs.Inner.View.{branches, run_branches}
use Rattle.cue_table.specs.Tree.{node, no_rest}
use Rattle.cue_table.proofs.Joined.{join_none}
use Rattle.cue_table.proofs.Stretches.{run_pushed}
use Rattle.cue_table.proofs.elements.list_of_runs.Goals as goal

pub loop-run-preserved : goal.loop-run-preserved
loop-run-preserved g c =
    let all = c.args.runs.now in
    let at = c.loop-run.run-index in
    let left = drop_more all at c.run-item.result c.loop-run-test.true ∙ ap (λ r. r ∷ drop (at + 1) all) (sym c.run-item.is) in
    run_pushed all (drop at all) (drop (at + 1) all) c.run-item.result c.loop-run.children.items c.push_elements.new.children.items left c.in_ok-push_elements.ensures c.loop-run.invariant

pub returns : goal.returns
returns g c =
    let own = branches c.loop-run.children.items in
    let all : own ≡ run_branches c.args.runs.now = sym (join_none own) ∙ ap (λ rs. join_children own (run_branches rs)) (sym (drop_all c.loop-run.run-index c.args.runs.now c.loop-run-test.false)) ∙ c.loop-run.invariant in
    ap (λ cs. node None cs no_rest) all
