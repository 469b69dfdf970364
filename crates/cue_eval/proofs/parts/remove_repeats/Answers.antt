use Rattle.std.proofs.Common.{◌≡◌, ◌↔◌, ℕ, List, sym, subst}
use Rattle.std.proofs.Math.Dec.{eqb}
use Rattle.std.specs.List.{dedup}
use Rattle.std.proofs.lemmas.List.Filters.{dedup_is}
use Rattle.cue_scope.specs.Graph.{IsNodeIn}
use Rattle.cue_eval.proofs.Repeated.{same_numbers}
use Rattle.cue_eval.proofs.parts.remove_repeats.Goals as goal

pub returns : goal.returns
returns c i =
    let sorted = c.sort_unstable.new.self.items in
    let each = c.dedup.new.self.items in
    let is : each ≡ dedup eqb sorted = dedup_is eqb sorted each c.dedup.ensures.filtered in
    subst (λ (xs : List ℕ). IsNodeIn i xs ↔ IsNodeIn i c.args.numbers.items) (sym is) (same_numbers c.args.numbers.items sorted i c.sort_unstable.ensures.permutation)
