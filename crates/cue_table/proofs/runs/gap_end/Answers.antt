use Rattle.std.proofs.Common.{◌+◌, suc, drop, get_or, ap, sym, subst, ◌∙◌, arith}
use Rattle.cue_lattice.specs.Path.{index}
use Rattle.cue_row.specs.Steps.{step_of}
use Rattle.cue_table.specs.Tree.{child, find}
use Rattle.cue_table.specs.Inner.Alike.{AreAlike}
use Rattle.cue_table.specs.Inner.Child.{Child}
use Rattle.cue_table.specs.Inner.View.{branches}
use Rattle.cue_table.proofs.Gaps.{alike_alone, alike_before, alike_onward}
use Rattle.cue_table.proofs.Owned.{past_at}
use Rattle.cue_table.proofs.runs.gap_end.Goals as goal

pub returns-in-Label : goal.returns-in-Label
returns-in-Label g c =
    subst (λ n. AreAlike c.args.number (n + 1) (λ i. find (index i) (branches c.args.children.now))) (sym c.from.ensures) (alike_alone c.args.number (λ i. find (index i) (branches c.args.children.now)))

pub returns-in-Index : goal.returns-in-Index
returns-in-Index g c =
    let cs = c.args.children.now in
    let at = c.args.at in
    let d = c.index-children-at.result in
    subst (λ n. AreAlike c.args.number n (λ i. find (index i) (branches cs))) (sym c.from-in-Index.ensures)
    (alike_before cs (drop (suc at) cs) c.args.number at c.in-Index.next (get_or cs at d).node c.requires.rise c.requires.gap
    (past_at at cs d (omega (arith, c.if-at-children.false)) ∙ ap (λ s. child (step_of s) (get_or cs at d).node (branches (drop (suc at) cs))) (ap (λ (x : Child _). x.step) (sym c.index-children-at.is) ∙ sym c.step.ensures ∙ c.in-Index.is)))

pub returns-then-at-children : goal.returns-then-at-children
returns-then-at-children g c =
    alike_onward c.args.children.now c.args.number c.args.at _ c.requires.gap (omega (arith, c.if-at-children.true)) (omega (arith, c.ranges.number.fits))
