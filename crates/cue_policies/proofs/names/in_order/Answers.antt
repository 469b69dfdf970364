use Rattle.std.proofs.Common.{◌≡◌, rules}
use Rattle.std.specs.Cmp.Lexicographic.{slice_cmp}
use Rattle.std.specs.Ordering.{nat_cmp, is_lt}
use Rattle.std.proofs.lemmas.Cmp.{nat_list_cmp_total}
use Rattle.std.proofs.lemmas.Fn.{always_returns_same, dedup_same}
use Rattle.std.proofs.lemmas.List.Sorted.{ranks_by}
use Rattle.cue_policies.proofs.InOrder.{same_text, kept_order, kept_same}
use Rattle.cue_policies.proofs.names.in_order.Goals as goal

pub returns-clause-order : goal.returns-clause-order
returns-clause-order c =
    let up = c.in_ok-sort_by.ensures.sorted (λ x y. is_lt (slice_cmp nat_cmp x y)) (ranks_by nat_list_cmp_total (λ a. a)) (always_returns_same _ (λ a r. is_lt r ≡ is_lt (slice_cmp nat_cmp a.0.now a.1.0.now)) _ (λ a r q k. search rules)) in
    kept_order c.sort_by.new.self.items c.dedup_by.new.self.items up (dedup_same _ same_text _ (λ x y b f x' y' k. search rules) _ _ c.dedup_by.ensures.filtered)

pub returns-clause-same : goal.returns-clause-same
returns-clause-same c = λ text.
    kept_same c.args.texts.items c.sort_by.new.self.items c.dedup_by.new.self.items text c.sort_by.ensures.permutation (dedup_same _ same_text _ (λ x y b f x' y' k. search rules) _ _ c.dedup_by.ensures.filtered)
