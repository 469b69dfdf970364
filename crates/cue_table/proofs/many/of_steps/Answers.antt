use Rattle.std.proofs.Common.{map, rules, subst}
use Rattle.std.proofs.lemmas.List.Sorted.{All-permutation, IsPermutation-map}
use Rattle.std.proofs.lemmas.Result.{IfOk-weaker}
use Rattle.cue_table.specs.Inner.Form.{StepsRise}
use Rattle.cue_table.specs.Inner.Given.{given_of, IsBranch}
use Rattle.cue_table.specs.Inner.View.{branches}
use Rattle.cue_table.proofs.ByHalves.{branches_permuted}
use Rattle.cue_table.proofs.Rising.{rising_given}
use Rattle.cue_table.proofs.many.of_steps.Goals as goal

pub of_rising-requires-clause-branches : goal.of_rising-requires-clause-branches
of_rising-requires-clause-branches g c =
    All-permutation (IsBranch g.R.Narrow.refuses g.R.Narrow.is_value) c.args.children.items c.in_ok-sorted.sorted.items c.in_ok-sorted.ensures c.requires

pub met_together-requires : goal.met_together-requires
met_together-requires g c =
    All-permutation (IsBranch g.R.Narrow.refuses g.R.Narrow.is_value) c.args.children.items c.in_ok-sorted.sorted.items c.in_ok-sorted.ensures c.requires

pub returns-then-is_rising-clause-refused : goal.returns-then-is_rising-clause-refused
returns-then-is_rising-clause-refused g c =
    let rises = subst (λ xs. StepsRise (branches xs)) c.deref.ensures.value (c.if-is_rising.ensures.0 (search rules)) in
    branches_permuted g.R.Narrow.refuses c.of_rising.result (map given_of c.args.children.items) (map given_of c.in_ok-sorted.sorted.items)
    (IsPermutation-map given_of c.args.children.items c.in_ok-sorted.sorted.items c.in_ok-sorted.ensures)
    (rising_given g.R.Narrow.refuses c.in_ok-sorted.sorted.items c.of_rising.result rises c.of_rising.ensures.same)

pub returns-clause-refused : goal.returns-clause-refused
returns-clause-refused g c =
    let moved = IsPermutation-map given_of c.args.children.items c.in_ok-sorted.sorted.items c.in_ok-sorted.ensures in
    IfOk-weaker c.met_together.result _ _ (λ table h. branches_permuted g.R.Narrow.refuses table (map given_of c.args.children.items) (map given_of c.in_ok-sorted.sorted.items) moved h) c.met_together.ensures.refused
