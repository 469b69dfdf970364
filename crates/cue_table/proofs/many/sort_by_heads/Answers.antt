use Rattle.std.proofs.Common.{map, subst, sym}
use Rattle.std.specs.List.Sorted.{IsPermutation}
use Rattle.std.proofs.lemmas.List.Sorted.{IsPermutation-map}
use Rattle.std.proofs.lemmas.Result.{IfOk-weaker}
use Rattle.cue_table.proofs.many.sort_by_heads.Goals as goal

pub returns : goal.returns
returns g c =
    let headed = c.in_ok-headed.headed.items in
    let sorted = c.sort_unstable_by.new.self.items in
    let moved = subst (λ xs. IsPermutation xs (map (λ one. one.1) sorted)) c.in_ok-headed.ensures (IsPermutation-map (λ one. one.1) headed sorted c.sort_unstable_by.ensures.permutation) in
    IfOk-weaker c.without_heads.result _ _ (λ children is. subst (λ xs. IsPermutation c.args.children.items xs) (sym is) moved) c.without_heads.ensures
