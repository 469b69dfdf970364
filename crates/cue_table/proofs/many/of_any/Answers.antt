use Rattle.std.proofs.Common.{◌≡◌, All, List, sym, subst}
use Rattle.cue_row.specs.declared.step.Step as program
use Rattle.cue_table.specs.Inner.Child.{Child}
use Rattle.cue_table.proofs.many.of_any.Goals as goal

pub of_one_step-requires-clause-step : goal.of_one_step-requires-clause-step
of_one_step-requires-clause-step g c =
    let same = subst (λ (cs : List (Child g.row.R.Denot)). All (λ (child : Child g.row.R.Denot). child.step ≡ c.in-Some.step.now) cs) c.deref.ensures.value c.in-Some.ensures in
    subst (λ (step : program.Step). All (λ (child : Child g.row.R.Denot). child.step ≡ step) c.args.children.items) (sym c.in_ok-own.ensures) same
