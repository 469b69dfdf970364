use Rattle.std.proofs.Common.{◌≤◌, ◌^◌, Some, sym, subst, arith}
use Rattle.std.proofs.lemmas.List.Elements.{All-nil}
use Rattle.std.specs.BinaryHeap.{heap_items}
use Rattle.cue_eval.specs.Inner.Adding.{AreFew}
use Rattle.cue_eval.proofs.Bounds.{bounded, kept_below, kept_on, nowhere_bounded, pushed_few, pushed_there}
use Rattle.cue_eval.proofs.left_out.ClosingPlace.stretch_starts.Goals as goal

pub returns-then-has_no_elements-clause-first : goal.returns-then-has_no_elements-clause-first
returns-then-has_no_elements-clause-first c = pushed_there 0 (heap_items c.new-bounds.result) (heap_items c.push.new.self) c.in_ok-push.ensures.permutation

pub returns-then-has_no_elements-clause-few : goal.returns-then-has_no_elements-clause-few
returns-then-has_no_elements-clause-few c =
    pushed_few 0 (heap_items c.new-bounds.result) (heap_items c.push.new.self) (omega arith) (subst AreFew (sym c.new-bounds.ensures.items) (All-nil (λ b. b ≤ 2 ^ 32))) c.in_ok-push.ensures.permutation

pub push_bounds-requires-clause-few : goal.push_bounds-requires-clause-few
push_bounds-requires-clause-few c =
    pushed_few 0 (heap_items c.new-bounds.result) (heap_items c.push.new.self) (omega arith) (subst AreFew (sym c.new-bounds.ensures.items) (All-nil (λ b. b ≤ 2 ^ 32))) c.in_ok-push.ensures.permutation

pub returns-then-has_no_elements-clause-alike : goal.returns-then-has_no_elements-clause-alike
returns-then-has_no_elements-clause-alike c = nowhere_bounded c.args.self.now (heap_items c.push.new.self) (c.has_no_elements.ensures c.if-has_no_elements.true)

pub returns-clause-first : goal.returns-clause-first
returns-clause-first c =
    c.in_ok-push_bounds_below-2.ensures.kept 0 (c.in_ok-push_bounds_below.ensures.kept 0 (c.in_ok-push_bounds.ensures.kept 0
    (pushed_there 0 (heap_items c.new-bounds.result) (heap_items c.push.new.self) c.in_ok-push.ensures.permutation)))

pub returns-clause-alike : goal.returns-clause-alike
returns-clause-alike c =
    let place = c.args.self.now in
    let one = heap_items c.push_bounds.new.bounds in
    let two = heap_items c.push_bounds_below.new.bounds in
    let all = heap_items c.push_bounds_below-2.new.bounds in
    let last = c.in_ok-push_bounds_below-2.ensures in
    bounded place all
    (kept_below (Some place.own) one all (kept_on one two all c.in_ok-push_bounds_below.ensures.kept last.kept) c.in_ok-push_bounds.ensures.alike)
    (kept_below place.dots two all last.kept c.in_ok-push_bounds_below.ensures.alike) last.alike
