use Rattle.std.proofs.Common.{refl, sym, ap, subst, ◌∙◌, length}
use Rattle.cue_table.specs.Form.{IsRowKept}
use Rattle.cue_table.specs.Inner.Rests.{IsLastRun, RepeatsRest}
use Rattle.cue_table.specs.Inner.View.{run_branches}
use Rattle.cue_table.proofs.Settling.{Settles, settles_popped, settles_end}
use Rattle.cue_table.proofs.rest.settle_rest.Goals as goal

pub loop-first-preserved : goal.loop-first-preserved
loop-first-preserved g c =
    let P = IsRowKept g.R.Narrow.refuses g.R.Narrow.is_value in
    subst (λ n. Settles P c.args.fixed c.args.node (run_branches c.args.runs.items) c.pop.new.self.items n) (sym c.from-from.ensures)
    (settles_popped P c.args.fixed c.args.node (run_branches c.args.runs.items) c.loop-first.runs.items c.pop.new.self.items c.pop.result c.loop-first.from c.in-Some.first _ _
    c.loop-first.invariant (subst (λ rs. IsLastRun rs c.loop-first.from c.args.node c.in-Some.first) c.deref.ensures.value c.in-Some.ensures.some) c.pop.ensures.items
    (ap length (sym c.deref.ensures.value) ∙ c.deref.ensures.len) c.pop.ensures.cases)

pub returns : goal.returns
returns g c =
    settles_end (IsRowKept g.R.Narrow.refuses g.R.Narrow.is_value) c.args.fixed c.args.node (run_branches c.args.runs.items) c.loop-first.runs.items c.loop-first.from _ c.loop-first.invariant
    (λ r. c.in_default.ensures.none (subst (λ rs. RepeatsRest c.loop-first.from c.args.node (run_branches rs)) (sym c.deref.ensures.value) r))
    c.requires.taken c.requires.rest refl refl refl
