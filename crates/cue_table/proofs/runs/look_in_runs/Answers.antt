use Rattle.std.proofs.Common.{◌+◌, sym, ap, subst, ◌∙◌, arith}
use Rattle.cue_lattice.specs.Path.{index}
use Rattle.cue_table.specs.declared.node.ElementRun.{ElementRun}
use Rattle.cue_table.specs.Tree.{find}
use Rattle.cue_table.specs.Inner.Alike.{AreAlike}
use Rattle.cue_table.specs.Inner.View.{last_of, run_branches}
use Rattle.cue_table.proofs.Gaps.{get_any}
use Rattle.cue_table.proofs.RunPlaces.{alike_run, alike_gap, behind_gap, run_found, run_missing}
use Rattle.cue_table.proofs.runs.look_in_runs.Goals as goal

pub returns-in-Ok-clause-node : goal.returns-in-Ok-clause-node
returns-in-Ok-clause-node g c = sym (run_found c.args.runs.now c.args.number c.in-Ok.at c.index-runs-at.result c.requires c.in-Ok.ensures)

pub returns-in-Ok-clause-alike : goal.returns-in-Ok-clause-alike
returns-in-Ok-clause-alike g c =
    subst (λ n. AreAlike c.args.number (n + 1) (λ i. find (index i) (run_branches c.args.runs.now)))
    (sym (c.from.ensures ∙ c.last.ensures ∙ ap (λ (r : ElementRun _ _). last_of r.first r.more) c.index-runs-at-in-Ok.is))
    (alike_run c.args.runs.now c.args.number c.in-Ok.at c.index-runs-at-in-Ok.result c.requires c.in-Ok.ensures)

pub returns-in-Err-clause-node : goal.returns-in-Err-clause-node
returns-in-Err-clause-node g c = sym (run_missing c.args.runs.now c.args.number c.in-Err.at c.requires c.in-Err.ensures)

pub returns-in-Err-clause-alike : goal.returns-in-Err-clause-alike
returns-in-Err-clause-alike g c =
    let runs = c.args.runs.now in
    let at = c.in-Err.at in
    let first = c.from-in-Err.ensures in
    alike_gap runs c.args.number at c.from-in-Err.result c.requires c.in-Err.ensures
    (let low = behind_gap runs c.args.number at c.index-runs-at-in-Err.result c.in-Err.ensures c.if-at-runs.true in omega (arith, low, first))
    (λ d l. omega (arith, first, ap (λ (r : ElementRun _ _). r.first) (get_any runs at d c.index-runs-at-in-Err.result l)))

pub returns-in-Err-2-clause-node : goal.returns-in-Err-2-clause-node
returns-in-Err-2-clause-node g c = sym (run_missing c.args.runs.now c.args.number c.in-Err.at c.requires c.in-Err.ensures)

pub returns-in-Err-2-clause-alike : goal.returns-in-Err-2-clause-alike
returns-in-Err-2-clause-alike g c =
    alike_gap c.args.runs.now c.args.number c.in-Err.at _ c.requires c.in-Err.ensures (omega (arith, c.ranges.number.fits))
    (λ d l. absurd (omega (arith, l, c.if-at-runs.false)))
