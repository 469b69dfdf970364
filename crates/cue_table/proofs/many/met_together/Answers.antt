use Rattle.std.proofs.Common.{◌∷◌, ◌++◌, ◌∙◌, [], None, ap, sym, subst, arith}
use Rattle.std.specs.Vec.Iter.{into_iter_items}
use Rattle.std.proofs.lemmas.List.Elements.{All-nil, All-rest, All-same, All-push}
use Rattle.cue_row.specs.Steps.{step_of}
use Rattle.cue_table.specs.Form.{AreBranches, IsRowKept}
use Rattle.cue_table.specs.Inner.Form.{StepsRise}
use Rattle.cue_table.specs.Inner.Given.{IsBranch}
use Rattle.cue_table.specs.Inner.View.{branches}
use Rattle.cue_table.specs.Inner.RowList.{last_cmp}
use Rattle.cue_table.specs.Tree.{node, no_rest}
use Rattle.cue_table.proofs.Finding.{branches_rise}
use Rattle.cue_table.proofs.Hanging.{RefuseTogether, hangs_none, hangs_last, hangs_beside, hangs_all, hung_met}
use Rattle.cue_table.proofs.Last.{form_more}
use Rattle.cue_table.proofs.Rising.{rising_form, is_last}
use Rattle.cue_table.proofs.many.met_together.Goals as goal

pub loop-child-init : goal.loop-child-init
loop-child-init g c =
    let P = IsBranch g.R.Narrow.refuses g.R.Narrow.is_value in
    let none = c.in_ok-front.ensures.items in
    let all = c.into_iter-child-iterator.ensures.into_iter_gives.0 in
    record {
      rise = subst (λ xs. StepsRise (branches xs)) (sym none) tt;
      made = All-same P c.in_ok-front.front.items [] none (All-nil P);
      left = rw all c.requires;
      all = hangs_none g.R.Narrow.refuses (node None (branches c.in_ok-front.front.items) no_rest) c.new-others.result.items (into_iter_items c.into_iter-child-iterator.result) c.args.children.items
          (ap (λ xs. node None (branches xs) no_rest) none) c.new-others.ensures.items all;
    }

pub of_branch-requires : goal.of_branch-requires
of_branch-requires g c = (rw c.in-Some.ensures.steps.0 at c.loop-child.invariant.left) 0 c.in-Some.child (omega arith)

pub loop-child-preserved-in_ok-push : goal.loop-child-preserved-in_ok-push
loop-child-preserved-in_ok-push g c =
    let refuses = g.R.Narrow.refuses in
    let P = IsRowKept refuses g.R.Narrow.is_value in
    let B = IsBranch refuses g.R.Narrow.is_value in
    let front = c.loop-child.front.items in
    let more = c.push.new.self.items in
    let first = c.in-Some.ensures.steps.0 in
    let one = (rw first at c.loop-child.invariant.left) 0 c.in-Some.child (omega arith) in
    let pushed = c.in_ok-push.ensures.items in
    let low = ap (λ s. last_cmp (step_of s) (branches front)) (sym c.step.ensures) ∙ ap (λ xs. last_cmp (step_of c.step.result.now) (branches xs)) (sym c.deref.ensures.value)
    ∙ sym c.last_against.ensures ∙ is_last c.last_against.result c.is_lt.result c.is_lt.ensures c.if-is_lt.true in
    let formed = form_more P front c.in-Some.child low (rising_form refuses g.R.Narrow.is_value front c.loop-child.invariant.made c.loop-child.invariant.rise) one.0 one.1 in
    let all : AreBranches P (branches more) = subst (λ xs. AreBranches P (branches xs)) (sym pushed) formed in
    record {
      rise = branches_rise P (branches more) all;
      made = All-same B more (front ++ c.in-Some.child ∷ []) pushed (All-push B front c.in-Some.child c.loop-child.invariant.made one);
      left = All-rest B c.in-Some.child (into_iter_items c.next.new.self) (into_iter_items c.loop-child.child-iterator) first c.loop-child.invariant.left;
      all = hangs_last refuses (node None (branches front) no_rest) (node None (branches more) no_rest) c.loop-child.others.items (into_iter_items c.loop-child.child-iterator) (into_iter_items c.next.new.self) c.args.children.items c.in-Some.child
          first (hung_met refuses P front more c.in-Some.child pushed all) c.loop-child.invariant.all;
    }

pub loop-child-preserved : goal.loop-child-preserved
loop-child-preserved g c =
    let B = IsBranch g.R.Narrow.refuses g.R.Narrow.is_value in
    let first = c.in-Some.ensures.steps.0 in
    record {
      rise = c.loop-child.invariant.rise;
      made = c.loop-child.invariant.made;
      left = All-rest B c.in-Some.child (into_iter_items c.next.new.self) (into_iter_items c.loop-child.child-iterator) first c.loop-child.invariant.left;
      all = hangs_beside g.R.Narrow.refuses (node None (branches c.loop-child.front.items) no_rest) c.in_ok-of_branch.field-0 c.loop-child.others.items c.push-else-is_lt.new.self.items (into_iter_items c.loop-child.child-iterator) (into_iter_items c.next.new.self)
          c.args.children.items c.in-Some.child first c.in_ok-of_branch.ensures c.in_ok-push-2.ensures.items c.loop-child.invariant.all;
    }

pub returns-clause-refused : goal.returns-clause-refused
returns-clause-refused g c =
    let refuses = g.R.Narrow.refuses in
    let others = c.loop-child.others.items in
    let rest = into_iter_items c.loop-child.child-iterator in
    let all = c.args.children.items in
    hangs_all refuses c.of_rising-table.result c.in_ok-unify_all.field-0 c.meet_with.new.self others rest all (sym c.loop-child.child-iterator.rest.ok.0 ∙ c.in-None.ensures.steps.0)
    c.in_ok-unify_all.ensures.refused c.in_ok-meet_with.ensures.ok (subst (λ table. RefuseTogether refuses table others rest all) (sym c.of_rising-table.ensures.same) c.loop-child.invariant.all)
