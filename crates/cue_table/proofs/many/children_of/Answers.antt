use Rattle.std.proofs.Common.{◌∷◌, ◌++◌, ◌∙◌, [], map, ap, sym, suc, arith}
use Rattle.std.specs.Prelude.{filter}
use Rattle.std.specs.Vec.Iter.{into_iter_items}
use Rattle.std.proofs.lemmas.List.Elements.{All-nil, All-same, All-push}
use Rattle.cue_table.specs.Inner.Given.{given_of, has_rows, IsBranch}
use Rattle.cue_table.proofs.Rising.{made_more, made_none, made_branch}
use Rattle.cue_table.proofs.many.children_of.Goals as goal

pub loop-step-init : goal.loop-step-init
loop-step-init g c =
    let P = IsBranch g.R.Narrow.refuses g.R.Narrow.is_value in
    let none = c.in_ok-children.ensures.items in
    let all = c.into_iter-step-iterator.ensures.into_iter_gives.0 in
    record {
      same = ap (λ xs. map given_of xs ++ filter has_rows (into_iter_items c.into_iter-step-iterator.result)) none ∙ ap (filter has_rows) all;
      made = All-same P c.in_ok-children.children.items [] none (All-nil P);
      low = rw all c.requires;
    }

pub loop-step-preserved-in_ok-push : goal.loop-step-preserved-in_ok-push
loop-step-preserved-in_ok-push g c =
    let P = IsBranch g.R.Narrow.refuses g.R.Narrow.is_value in
    let first = c.in-Some.ensures.steps.0 in
    let some = sym c.has_rows.ensures ∙ c.if-has_rows.true in
    let node = c.in_ok-new.ensures.node in
    let low = (rw first at c.loop-step.invariant.low) 0 (c.in-Some.step, c.in-Some.table) (omega arith) in
    let one = made_branch g.R.Narrow.refuses g.R.Narrow.is_value c.in_ok-new.field-0 c.into_root.result c.in-Some.table node c.into_root.ensures.same c.into_root.ensures.form some low in
    record {
      same = made_more c.loop-step.children.items c.push.new.self.items c.in_ok-new.field-0 (into_iter_items c.loop-step.step-iterator) (into_iter_items c.next.new.self) c.args.given.items (c.in-Some.step, c.in-Some.table)
          first some (λ i. (c.in_ok-new.ensures.step i, (node ∙ c.into_root.ensures.same) i)) c.in_ok-push.ensures.items c.loop-step.invariant.same;
      made = All-same P c.push.new.self.items (c.loop-step.children.items ++ c.in_ok-new.field-0 ∷ []) c.in_ok-push.ensures.items (All-push P c.loop-step.children.items c.in_ok-new.field-0 c.loop-step.invariant.made one);
      low = λ k d less. (rw first at c.loop-step.invariant.low) (suc k) d (omega arith);
    }

pub loop-step-preserved-else-has_rows : goal.loop-step-preserved-else-has_rows
loop-step-preserved-else-has_rows g c = record {
  same = made_none c.loop-step.children.items (into_iter_items c.loop-step.step-iterator) (into_iter_items c.next.new.self) c.args.given.items (c.in-Some.step, c.in-Some.table)
      c.in-Some.ensures.steps.0 (sym c.has_rows.ensures ∙ c.if-has_rows.false) c.loop-step.invariant.same;
  made = c.loop-step.invariant.made;
  low = λ k d less. (rw c.in-Some.ensures.steps.0 at c.loop-step.invariant.low) (suc k) d (omega arith);
}

pub loop-step-preserved-else-has_rows-2 : goal.loop-step-preserved-else-has_rows-2
loop-step-preserved-else-has_rows-2 g c = record {
  same = made_none c.loop-step.children.items (into_iter_items c.loop-step.step-iterator) (into_iter_items c.next.new.self) c.args.given.items (c.in-Some.step, c.in-Some.table)
      c.in-Some.ensures.steps.0 (sym c.has_rows.ensures ∙ c.if-has_rows.false) c.loop-step.invariant.same;
  made = c.loop-step.invariant.made;
  low = λ k d less. (rw c.in-Some.ensures.steps.0 at c.loop-step.invariant.low) (suc k) d (omega arith);
}

pub loop-step-preserved : goal.loop-step-preserved
loop-step-preserved g c = record {
  same = made_none c.loop-step.children.items (into_iter_items c.loop-step.step-iterator) (into_iter_items c.next.new.self) c.args.given.items (c.in-Some.step, c.in-Some.table)
      c.in-Some.ensures.steps.0 (sym c.has_rows.ensures ∙ c.if-has_rows.false) c.loop-step.invariant.same;
  made = c.loop-step.invariant.made;
  low = λ k d less. (rw c.in-Some.ensures.steps.0 at c.loop-step.invariant.low) (suc k) d (omega arith);
}
