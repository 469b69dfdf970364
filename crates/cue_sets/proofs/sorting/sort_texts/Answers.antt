use Rattle.std.proofs.Common.{◌≡◌, ◌∷◌, sym, ◌∙◌, ap, length, rules}
use Rattle.std.specs.List.Sorted.{IsSortedBy}
use Rattle.std.specs.Vec.Iter.{into_iter_items}
use Rattle.std.proofs.lemmas.Bool.{false≢true}
use Rattle.std.proofs.lemmas.Cmp.{nat_list_cmp_total}
use Rattle.std.proofs.lemmas.List.Sorted.{ranks_by}
use Rattle.std.proofs.lemmas.Fn.{always_returns_same}
use Rattle.cue_sets.proofs.Ordered.{is_below, AreOrdered-first, AreOrdered-same, AreOrdered-apart, AreOrdered-all, is_listed-permutation}
use Rattle.cue_sets.proofs.sorting.sort_texts.Goals as goal

pub loop-text-init : goal.loop-text-init
loop-text-init c =
    let sorted = c.sort_unstable_by.new.self.items in
    let by : IsSortedBy is_below sorted = c.sort_unstable_by.ensures.sorted is_below (ranks_by nat_list_cmp_total (λ x. x)) (always_returns_same _ _ _ (λ a r f k. search rules)) in
    let is : sorted ≡ c.in-Some.held ∷ into_iter_items c.into_iter-text-iterator.result =
    sym c.into_iter-rest.ensures.rest ∙ c.in-Some.ensures.items ∙ ap (λ rest. c.in-Some.held ∷ into_iter_items rest) (sym c.into_iter-text-iterator.ensures.into_iter_gives) in
    rw c.in_ok-sorted.ensures.items
    (AreOrdered-first _ _ sorted c.args.texts.items is by (λ t. is_listed-permutation c.args.texts.items sorted t c.sort_unstable_by.ensures.permutation))

pub loop-text-preserved-then-not-same : goal.loop-text-preserved-then-not-same
loop-text-preserved-then-not-same c =
    let is : into_iter_items c.loop-text.text-iterator ≡ c.in-Some-text.text ∷ into_iter_items c.next-in-loop-text.new.self = search rules in
    rw c.in_ok-push.ensures.items
    (AreOrdered-apart c.loop-text.sorted.items c.loop-text.held c.in-Some-text.text _ _ c.args.texts.items is c.loop-text.invariant
    (λ same. false≢true (sym c.if-not-same.true ∙ c.same.ensures.1 same)))

pub loop-text-preserved-else-not-same : goal.loop-text-preserved-else-not-same
loop-text-preserved-else-not-same c =
    let is : into_iter_items c.loop-text.text-iterator ≡ c.in-Some-text.text ∷ into_iter_items c.next-in-loop-text.new.self = search rules in
    AreOrdered-same c.loop-text.sorted.items c.loop-text.held c.in-Some-text.text _ _ c.args.texts.items is c.loop-text.invariant (c.same.ensures.0 c.if-not-same.false)

pub loop-text-preserved : goal.loop-text-preserved
loop-text-preserved c =
    let is : into_iter_items c.loop-text.text-iterator ≡ c.in-Some-text.text ∷ into_iter_items c.next-in-loop-text.new.self = search rules in
    AreOrdered-same c.loop-text.sorted.items c.loop-text.held c.in-Some-text.text _ _ c.args.texts.items is c.loop-text.invariant (c.same.ensures.0 c.if-not-same.false)

pub returns-clause-ascending : goal.returns-clause-ascending
returns-clause-ascending c =
    let none : length (into_iter_items c.loop-text.text-iterator) ≡ 0 = search rules in
    rw c.in_ok-push-2.ensures.items (AreOrdered-all c.loop-text.sorted.items c.loop-text.held _ c.args.texts.items none c.loop-text.invariant).0

pub returns-clause-listed : goal.returns-clause-listed
returns-clause-listed c =
    let none : length (into_iter_items c.loop-text.text-iterator) ≡ 0 = search rules in
    rw c.in_ok-push-2.ensures.items (AreOrdered-all c.loop-text.sorted.items c.loop-text.held _ c.args.texts.items none c.loop-text.invariant).1
