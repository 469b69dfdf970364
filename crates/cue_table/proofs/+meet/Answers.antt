use Rattle.std.proofs.Common.{add-one, arith, take, refl, ap, subst, sym, ◌∙◌, ◌≡◌, [], Some}
use Rattle.std.proofs.lemmas.List.{nil_from_length}
use Rattle.std.proofs.lemmas.Result.{on_ok_weaker, IfOk-weaker}
use Rattle.std.specs.Option.{option_map}
use Rattle.std.specs.Vec.Iter.{into_iter_items}
use Rattle.cue_lattice.specs.Path.{index, label}
use Rattle.cue_row.specs.Steps.{step_of}
use Rattle.cue_table.specs.Depth.{tree_depth, children_depth}
use Rattle.cue_table.specs.Form.{IsRowKept, IsTableRow, IsTree, AreBranches, AreWithinDepth}
use Rattle.cue_table.specs.Inner.Form.{StepsRise}
use Rattle.cue_table.specs.Meet.{IsMet, IsUnion}
use Rattle.cue_table.specs.Inner.Meet.{IsMerge}
use Rattle.cue_table.specs.Refuses.{RowRefuses}
use Rattle.cue_table.specs.Tree.{find, node, no_rest, rest_below, rest_at}
use Rattle.cue_table.specs.Inner.Changes.{IsChange, IsFound, or_old}
use Rattle.cue_table.specs.Inner.Place.{IsPlace, IsGap}
use Rattle.cue_table.specs.Inner.Parts.{or_row}
use Rattle.cue_table.specs.Inner.Rests.{AreElementsMet, AreMetRests, IsBranch}
use Rattle.cue_table.specs.Inner.View.{branches, rest_in, run_branches}
use Rattle.cue_table.proofs.Aligning.{merged_within, no_rest_there}
use Rattle.cue_table.proofs.Changing.{adds, alters, at_form, first_form, first_smaller, goes_end, goes_on, goes_past, met_at, met_same, put_in, stays}
use Rattle.cue_table.proofs.Fields.{fields_depth, form_take}
use Rattle.cue_table.proofs.Finding.{branches_rise}
use Rattle.cue_table.proofs.Merging.{merge_stay, met_taken}
use Rattle.cue_table.proofs.MetBranches.{met_nodes, met_still, none_is}
use Rattle.cue_table.proofs.Nearing.{passed}
use Rattle.cue_table.proofs.Nodes.{branches_form}
use Rattle.cue_table.proofs.Owned.{own_only}
use Rattle.cue_table.proofs.Sides.{at_found, at_next, at_own}
use Rattle.cue_table.proofs.Sweeping.{list_form, list_met, rest_branch, rest_depth, step_branch, step_depth, met_as, no_tree, stretch_at, sweeps_end, sweeps_gap, sweeps_run, sweeps_start}
use Rattle.cue_table.proofs.+meet.Goals as goal
use Rattle.cue_table.proofs.+meet.Goals.{meet::meet_own-in-Some+in-Some-1, meet::meet_own-in-Some+in-None-1, meet::meet_own-in_default}

-- ---- the elements of two places
pub lists::meet_elements-meet_found-requires : goal.lists::meet_elements-meet_found-requires
lists::meet_elements-meet_found-requires g t c κs within =
    let P = IsRowKept g.R.Narrow.refuses g.R.Narrow.is_value in
    let deep = rest_depth c.args.right.now _ c.rest-2.ensures in
    (omega (arith, c.decreases, deep), (within.0, (within.1, (rest_branch P c.args.left.now _ c.requires.left c.rest.ensures, rest_branch P c.args.right.now _ c.requires.right c.rest-2.ensures))))

pub lists::meet_elements-new-on_left-requires : goal.lists::meet_elements-new-on_left-requires
lists::meet_elements-new-on_left-requires g t c = c.requires.left

pub lists::meet_elements-loop-at-init : goal.lists::meet_elements-loop-at-init
lists::meet_elements-loop-at-init g t c = record {
  sweeps = sweeps_start g.R.Narrow.refuses g.R.Narrow.is_value c.args.left.now c.args.right.now c.max-fixed.result c.new-runs.result.items c.new-runs.ensures.items;
  further = refl;
  on_left = λ l. c.new-on_left.ensures;
  on_right = λ l. c.new-on_right.ensures;
}

pub lists::meet_elements-meet_element-requires : goal.lists::meet_elements-meet_element-requires
lists::meet_elements-meet_element-requires g t c κs within =
    let r = g.R.Narrow.refuses in
    let P = IsRowKept r g.R.Narrow.is_value in
    let same = sym c.loop-at.invariant.further in
    let left = c.loop-at.invariant.on_left c.loop-at-test.true in
    let right = c.loop-at.invariant.on_right c.loop-at-test.true in
    let first = c.index_of-first.ensures.same in (
      omega (arith, c.decreases, ap tree_depth right.place),
      (
        within.0,
        (
          within.1,
          (
            subst (IsTree P) (sym left.place) c.requires.left,
            (
              subst (IsTree P) (sym right.place) c.requires.right,
              (
                at_own c.args.left.now c.loop-at.at _ _ left first,
                (
                  at_own c.args.right.now c.loop-at.at _ _ right first,
                  (
                    subst (IsBranch P) same c.in_ok-further.ensures.form,
                    met_as r _ _ _ _ c.loop-at.further-1 (c.rest.ensures ∙ ap (λ n. rest_at (rest_below n)) (sym left.place)) (c.rest-2.ensures ∙ ap (λ n. rest_at (rest_below n)) (sym right.place)) (subst (AreMetRests r _ _) same c.in_ok-further.ensures.refused),
                  ),
                ),
              ),
            ),
          ),
        ),
      ),
    )

pub lists::meet_elements-settle_rest-requires-clause-taken : goal.lists::meet_elements-settle_rest-requires-clause-taken
lists::meet_elements-settle_rest-requires-clause-taken g t c =
    let branch = subst (IsBranch (IsRowKept g.R.Narrow.refuses g.R.Narrow.is_value)) (sym c.loop-at.invariant.further ∙ c.in-Some-further.is) c.in_ok-further.ensures.form in
    branch.0

pub lists::meet_elements-settle_rest-requires-clause-rest : goal.lists::meet_elements-settle_rest-requires-clause-rest
lists::meet_elements-settle_rest-requires-clause-rest g t c =
    let branch = subst (IsBranch (IsRowKept g.R.Narrow.refuses g.R.Narrow.is_value)) (sym c.loop-at.invariant.further ∙ c.in-Some-further.is) c.in_ok-further.ensures.form in
    branch.1

pub lists::meet_elements-unreachable-requires : goal.lists::meet_elements-unreachable-requires
lists::meet_elements-unreachable-requires g t c =
    let none = c.in_ok-further.ensures.there (sym c.loop-at.invariant.further ∙ c.in-None.is) in
    c.requires.rest (no_tree _ (sym c.rest.ensures ∙ none.0), no_tree _ (sym c.rest-2.ensures ∙ none.1))

pub lists::meet_elements-loop-at-preserved-in_ok-push : goal.lists::meet_elements-loop-at-preserved-in_ok-push
lists::meet_elements-loop-at-preserved-in_ok-push g t c =
    let r = g.R.Narrow.refuses in
    let v = g.R.Narrow.is_value in
    let left = c.args.left.now in
    let right = c.args.right.now in
    let first = c.index_of-first.ensures.same in
    let on_left = c.loop-at.invariant.on_left c.loop-at-test.true in
    let on_right = c.loop-at.invariant.on_right c.loop-at-test.true in
    let alike = stretch_at r left right c.max-fixed.result c.index_of-first.result c.loop-at.at c.alike_end-end.result c.loop-at.on_left c.loop-at.on_right c.in_ok-element.element on_left on_right first
    c.alike_end-end.ensures.low c.alike_end-end.ensures.left c.alike_end-end.ensures.right c.in_ok-element.ensures.refused in
    record {
      sweeps = sweeps_run r v left right c.max-fixed.result c.loop-at.runs.items c.push.new.self.items _ c.loop-at.at c.alike_end-end.result c.in_ok-element.element c.loop-at.invariant.sweeps alike c.in_ok-element.ensures.form c.in-Some.is
          c.in_ok-push.ensures.items first (omega (arith, first, c.index_of-last.ensures.same)) (omega (arith, c.index_of-last.ensures.same, c.index_of-last.ensures.word));
      further = c.loop-at.invariant.further;
      on_left = at_next left c.loop-at.at c.alike_end-end.result c.max-fixed.result c.loop-at.on_left _ on_left c.alike_end-end.ensures.left_on;
      on_right = at_next right c.loop-at.at c.alike_end-end.result c.max-fixed.result c.loop-at.on_right _ on_right c.alike_end-end.ensures.right_on;
    }

pub lists::meet_elements-loop-at-preserved : goal.lists::meet_elements-loop-at-preserved
lists::meet_elements-loop-at-preserved g t c =
    let r = g.R.Narrow.refuses in
    let v = g.R.Narrow.is_value in
    let left = c.args.left.now in
    let right = c.args.right.now in
    let on_left = c.loop-at.invariant.on_left c.loop-at-test.true in
    let on_right = c.loop-at.invariant.on_right c.loop-at-test.true in
    let alike = stretch_at r left right c.max-fixed.result c.index_of-first.result c.loop-at.at c.alike_end-end.result c.loop-at.on_left c.loop-at.on_right c.in_ok-element.element on_left on_right c.index_of-first.ensures.same
    c.alike_end-end.ensures.low c.alike_end-end.ensures.left c.alike_end-end.ensures.right c.in_ok-element.ensures.refused in
    record {
      sweeps = sweeps_gap r v left right c.max-fixed.result c.loop-at.runs.items c.loop-at.at c.alike_end-end.result c.in_ok-element.element c.loop-at.invariant.sweeps alike c.in_default.is;
      further = c.loop-at.invariant.further;
      on_left = at_next left c.loop-at.at c.alike_end-end.result c.max-fixed.result c.loop-at.on_left _ on_left c.alike_end-end.ensures.left_on;
      on_right = at_next right c.loop-at.at c.alike_end-end.result c.max-fixed.result c.loop-at.on_right _ on_right c.alike_end-end.ensures.right_on;
    }

pub lists::meet_elements-returns : goal.lists::meet_elements-returns
lists::meet_elements-returns g t c =
    let r = g.R.Narrow.refuses in
    sweeps_end r g.R.Narrow.is_value c.args.left.now c.args.right.now c.max-fixed.result c.loop-at.at c.loop-at.runs.items (option_map (λ node. node.now) c.rest.result) (option_map (λ node. node.now) c.rest-2.result) c.in-Some-further.node c.settle_rest.result c.loop-at.invariant.sweeps c.loop-at-test.false
    c.requires.left c.requires.right (omega (arith, c.fixed_from.ensures.number, c.max-fixed.ensures)) (omega (arith, c.fixed_from-2.ensures.number, c.max-fixed.ensures)) c.rest.ensures c.rest-2.ensures
    (subst (λ o. AreMetRests r (option_map (λ node. node.now) c.rest.result) (option_map (λ node. node.now) c.rest-2.result) o) (sym c.loop-at.invariant.further ∙ c.in-Some-further.is) c.in_ok-further.ensures.refused) c.settle_rest.ensures

-- ---- an element of two places
pub lists::meet_element-meet_found-requires : goal.lists::meet_element-meet_found-requires
lists::meet_element-meet_found-requires g t c κs within =
    let P = IsRowKept g.R.Narrow.refuses g.R.Narrow.is_value in
    let left = at_found c.args.left.now.place.now c.args.first c.args.left.now c.requires.left in
    let right = at_found c.args.right.now.place.now c.args.first c.args.right.now c.requires.right in
    let deep = step_depth c.args.right.now.place.now (index c.args.first) _ right in
    (omega (arith, c.decreases, deep), (within.0, (within.1, (step_branch P c.args.left.now.place.now (index c.args.first) _ c.requires.left_form left, step_branch P c.args.right.now.place.now (index c.args.first) _ c.requires.right_form right))))

pub lists::meet_element-returns-clause-refused : goal.lists::meet_element-returns-clause-refused
lists::meet_element-returns-clause-refused g t c =
    let left = at_found c.args.left.now.place.now c.args.first c.args.left.now c.requires.left in
    let right = at_found c.args.right.now.place.now c.args.first c.args.right.now c.requires.right in
    IfOk-weaker c.meet_found.result _ _ (λ o. met_as g.R.Narrow.refuses _ _ _ _ o left right) c.meet_found.ensures.refused

pub lists::meet_element-returns-then-is_as_rest-2-clause-refused : goal.lists::meet_element-returns-then-is_as_rest-2-clause-refused
lists::meet_element-returns-then-is_as_rest-2-clause-refused g t c =
    let r = g.R.Narrow.refuses in
    let one = sym (c.is_as_rest.ensures c.if-is_as_rest.true) in
    let other = sym (c.is_as_rest-then-is_as_rest.ensures c.if-is_as_rest-2.true) in
    IfOk-weaker c.copy_found.result _ _
    (λ o here. subst (AreMetRests r _ _) (sym here) (met_as r _ _ _ _ c.args.further.now one other c.requires.refused))
    c.copy_found.ensures

-- ---- what changes in a list of branches
pub changes::change_by-place_from-requires-clause-rise : goal.changes::change_by-place_from-requires-clause-rise
changes::change_by-place_from-requires-clause-rise g t c = branches_rise (IsRowKept g.R.Narrow.refuses g.R.Narrow.is_value) (branches c.args.left.now) c.requires.left

pub changes::change_by-unify_with-requires : goal.changes::change_by-unify_with-requires
changes::change_by-unify_with-requires g t c κs within =
    let place : IsPlace c.args.left.now (step_of c.args.other.step) c.in-Ok.kept = subst (λ s. IsPlace c.args.left.now (step_of s) c.in-Ok.kept) c.step.ensures c.in-Ok.ensures in
    (omega (arith, c.decreases), (within.0, (within.1, (at_form g.R.Narrow.refuses g.R.Narrow.is_value c.args.left.now c.in-Ok.kept c.branch_at.result.now c.requires.left place.in_range c.branch_at.ensures, c.requires.right))))

pub changes::change_by-returns-in_default : goal.changes::change_by-returns-in_default
changes::change_by-returns-in_default g t c =
    let r = g.R.Narrow.refuses in
    let place : IsPlace c.args.left.now (step_of c.args.other.step) c.in-Ok.kept = subst (λ s. IsPlace c.args.left.now (step_of s) c.in-Ok.kept) c.step.ensures c.in-Ok.ensures in
    let d = c.branch_at.result.now in (
      stays r g.R.Narrow.is_value c.args.left.now c.args.other d c.in-Ok.kept place c.branch_at.ensures
          (subst (λ met. IsMet r d.node c.args.other.node (or_old met d).node) c.in_default.is c.in_ok-child-in-Ok.ensures.refused),
      rw add-one (passed c.args.left.now (step_of c.args.other.step) c.in-Ok.kept place),
    )

pub changes::change_by-returns-in-Err : goal.changes::change_by-returns-in-Err
changes::change_by-returns-in-Err g t c =
    adds g.R.Narrow.refuses g.R.Narrow.is_value c.args.left.now c.args.other c.in-Err.kept c.requires.left (subst (λ s. IsGap c.args.left.now (step_of s) c.in-Err.kept) c.step.ensures c.in-Err.ensures)

pub changes::change_by-returns-in-Some : goal.changes::change_by-returns-in-Some
changes::change_by-returns-in-Some g t c =
    let r = g.R.Narrow.refuses in
    let v = g.R.Narrow.is_value in
    let place : IsPlace c.args.left.now (step_of c.args.other.step) c.in-Ok.kept = subst (λ s. IsPlace c.args.left.now (step_of s) c.in-Ok.kept) c.step.ensures c.in-Ok.ensures in
    let d = c.branch_at.result.now in
    let e = c.in-Some.child in
    alters r v c.args.left.now c.args.other d e c.in-Ok.kept c.requires.left place c.branch_at.ensures
    (subst (λ met. (or_old met d).step ≡ d.step) c.in-Some.is c.in_ok-child-in-Ok.ensures.step)
    (subst (λ met. IsTree (IsRowKept r v) (or_old met d).node) c.in-Some.is c.in_ok-child-in-Ok.ensures.form)
    (subst (λ met. IsMet r d.node c.args.other.node (or_old met d).node) c.in-Some.is c.in_ok-child-in-Ok.ensures.refused)

pub changes::unify_with-unify_child-requires : goal.changes::unify_with-unify_child-requires
changes::unify_with-unify_child-requires g t c κs within =
    let deep = ap tree_depth c.in_ok-node.ensures in
    (omega (arith, c.decreases, deep), (within.0, (within.1, (c.requires.left, subst (IsTree (IsRowKept g.R.Narrow.refuses g.R.Narrow.is_value)) (sym c.in_ok-node.ensures) c.requires.right))))

pub changes::unify_with-returns-then-is_same_leaf-clause-refused : goal.changes::unify_with-returns-then-is_same_leaf-clause-refused
changes::unify_with-returns-then-is_same_leaf-clause-refused g t c = met_same g.R.Narrow.refuses c.args.left.now.node c.args.other.node (c.is_same_leaf.ensures c.if-is_same_leaf.true)

pub changes::unify_with-returns-clause-refused : goal.changes::unify_with-returns-clause-refused
changes::unify_with-returns-clause-refused g t c =
    let r = g.R.Narrow.refuses in
    let left = c.args.left.now in
    IfOk-weaker c.unify_child.result _ _ (λ met h. subst (λ n. IsMet r left.node n (or_old met left).node) c.in_ok-node.ensures h) c.unify_child.ensures.refused

pub changes::changes-change_by-requires : goal.changes::changes-change_by-requires
changes::changes-change_by-requires g t c κs within =
    let r = g.R.Narrow.refuses in
    let v = g.R.Narrow.is_value in
    let left = c.args.left.now in
    let right = c.args.right.items in
    let rest = c.loop-other.rest.now in
    let all = into_iter_items c.loop-other.others in
    let others = into_iter_items c.next.new.self in
    let begun = c.loop-other.invariant in
    let first = c.in-Some.ensures.items in
    let deep = first_smaller r v left right rest all others c.loop-other.past c.loop-other.changes.items c.in-Some.other begun first in
    let form = first_form r v left right rest all others c.loop-other.past c.loop-other.changes.items c.in-Some.other begun first in
    (omega (arith, c.decreases, deep), (within.0, (within.1, (begun.rest_form, (form, begun.ahead c.in-Some.other others first)))))

pub changes::changes-skip_change-rest-requires : goal.changes::changes-skip_change-rest-requires
changes::changes-skip_change-rest-requires g t c =
    let r = g.R.Narrow.refuses in
    let change : IsChange r (IsRowKept r g.R.Narrow.is_value) c.loop-other.rest.now c.in-Some.other (Some c.in-New.change) =
    subst (IsFound r (IsRowKept r g.R.Narrow.is_value) c.loop-other.rest.now c.in-Some.other) c.in-New.is c.in_ok-count.ensures in
    (change.fit [] tt).0

pub changes::changes-loop-other-preserved : goal.changes::changes-loop-other-preserved
changes::changes-loop-other-preserved g t c =
    goes_on g.R.Narrow.refuses g.R.Narrow.is_value c.args.left.now c.args.right.items c.loop-other.rest.now (into_iter_items c.loop-other.others) (into_iter_items c.next.new.self) c.skip_change-rest.result.now c.loop-other.past c.loop-other.changes.items c.push.new.self.items c.in-Some.other c.in-New.change c.in_ok-count.field-0
    c.loop-other.invariant c.in-Some.ensures.items c.in_ok-count.ensures c.in-New.is c.skip_change-rest.ensures c.in_ok-push-in-New.ensures.items

pub changes::changes-loop-other-preserved-in-Same : goal.changes::changes-loop-other-preserved-in-Same
changes::changes-loop-other-preserved-in-Same g t c =
    goes_past g.R.Narrow.refuses g.R.Narrow.is_value c.args.left.now c.args.right.items c.loop-other.rest.now (into_iter_items c.loop-other.others) (into_iter_items c.next.new.self) c.loop-other.past c.in-Same.count c.loop-other.changes.items c.in-Some.other c.in_ok-count.field-0
    c.loop-other.invariant c.in-Some.ensures.items c.in_ok-count.ensures c.in-Same.is

pub changes::changes-returns-clause-fit : goal.changes::changes-returns-clause-fit
changes::changes-returns-clause-fit g t c =
    (goes_end g.R.Narrow.refuses g.R.Narrow.is_value c.args.left.now c.args.right.items c.loop-other.rest.now (into_iter_items c.loop-other.others) c.loop-other.past c.loop-other.changes.items c.loop-other.invariant (sym c.loop-other.others.rest.ok.0 ∙ c.in_default.ensures.cases.0)).0

pub changes::changes-returns-clause-union : goal.changes::changes-returns-clause-union
changes::changes-returns-clause-union g t c =
    (goes_end g.R.Narrow.refuses g.R.Narrow.is_value c.args.left.now c.args.right.items c.loop-other.rest.now (into_iter_items c.loop-other.others) c.loop-other.past c.loop-other.changes.items c.loop-other.invariant (sym c.loop-other.others.rest.ok.0 ∙ c.in_default.ensures.cases.0)).1

-- ---- two branches that may be there
pub lists::meet_whole-returns-clause-form : goal.lists::meet_whole-returns-clause-form
lists::meet_whole-returns-clause-form g t c = subst (IsTree (IsRowKept g.R.Narrow.refuses g.R.Narrow.is_value)) (sym c.in_ok-node_or.ensures) c.in_ok-met.ensures.form

pub lists::meet_whole-returns-clause-refused : goal.lists::meet_whole-returns-clause-refused
lists::meet_whole-returns-clause-refused g t c =
    let r = g.R.Narrow.refuses in
    subst (IsMet r c.args.left.now c.args.right.now) (sym c.in_ok-node_or.ensures)
    (subst (λ n. IsMet r c.args.left.now n (or_old c.in_ok-met.met c.args.left.now)) c.in_ok-copy.ensures c.in_ok-met.ensures.refused)

pub lists::meet_found-returns-in_ok-meet_whole-in-Some-Some-clause-form : goal.lists::meet_found-returns-in_ok-meet_whole-in-Some-Some-clause-form
lists::meet_found-returns-in_ok-meet_whole-in-Some-Some-clause-form g t c =
    let left = subst (λ o. IsBranch (IsRowKept g.R.Narrow.refuses g.R.Narrow.is_value) (option_map (λ node. node.now) o)) c.in-Some-Some.is-0 c.requires.left in
    (met_taken g.R.Narrow.refuses g.R.Narrow.is_value c.in-Some-Some.node.now c.in-Some-Some.other.now c.in_ok-meet_whole-in-Some-Some.field-0 left.0 left.1 c.in_ok-meet_whole-in-Some-Some.ensures.refused, c.in_ok-meet_whole-in-Some-Some.ensures.form)

-- ---- two places of which one has a rest
pub lists::meet_lists-field_count-requires : goal.lists::meet_lists-field_count-requires
lists::meet_lists-field_count-requires g t c =
    subst (λ cs. StepsRise (branches cs)) (sym c.deref-2.ensures.value)
    (branches_rise (IsRowKept g.R.Narrow.refuses g.R.Narrow.is_value) (branches c.left.inside.children.items) (branches_form (IsRowKept g.R.Narrow.refuses g.R.Narrow.is_value) c.left.inside c.args.left.now c.left.view_is c.requires.left))

pub lists::meet_lists-field_count-requires-2 : goal.lists::meet_lists-field_count-requires-2
lists::meet_lists-field_count-requires-2 g t c =
    subst (λ cs. StepsRise (branches cs)) (sym c.deref-4.ensures.value)
    (branches_rise (IsRowKept g.R.Narrow.refuses g.R.Narrow.is_value) (branches c.right.inside.children.items) (branches_form (IsRowKept g.R.Narrow.refuses g.R.Narrow.is_value) c.right.inside c.args.right.now c.right.view_is c.requires.right))

pub lists::meet_lists-meet_below-requires : goal.lists::meet_lists-meet_below-requires
lists::meet_lists-meet_below-requires g t c κs within =
    let P = IsRowKept g.R.Narrow.refuses g.R.Narrow.is_value in
    let own = c.in_ok-children.ensures ∙ c.split_at.ensures.front ∙ ap (take c.field_count.result) c.deref.ensures.value in
    let deep = fields_depth c.right.inside c.args.right.now c.field_count-2.result c.right.view_is in
    let others = c.in_ok-others.ensures ∙ c.split_at-2.ensures.front ∙ ap (take c.field_count-2.result) c.deref-3.ensures.value in
    let cut = ap (λ cs. children_depth (branches cs)) others in (
      omega (arith, c.decreases, deep, cut),
      (
        within.0,
        (
          within.1,
          (
            subst (λ cs. AreBranches P (branches cs)) (sym own) (form_take P c.left.inside.children.items c.field_count.result (branches_form P c.left.inside c.args.left.now c.left.view_is c.requires.left)),
            subst (λ cs. AreBranches P (branches cs)) (sym others) (form_take P c.right.inside.children.items c.field_count-2.result (branches_form P c.right.inside c.args.right.now c.right.view_is c.requires.right)),
          ),
        ),
      ),
    )

pub lists::meet_lists-returns-clause-form : goal.lists::meet_lists-returns-clause-form
lists::meet_lists-returns-clause-form g t c =
    let r = g.R.Narrow.refuses in
    let P = IsRowKept r g.R.Narrow.is_value in
    let made = c.in_ok-new.field-0.value in
    let elements = subst (λ o. AreElementsMet r P c.args.left.now c.args.right.now o) (sym c.in_ok-new.ensures.ok) c.in_ok-onward.ensures in
    let own = c.in_ok-children.ensures ∙ c.split_at.ensures.front ∙ ap (take c.field_count.result) (c.deref.ensures.value ∙ sym c.deref-2.ensures.value) in
    let others = c.in_ok-others.ensures ∙ c.split_at-2.ensures.front ∙ ap (take c.field_count-2.result) (c.deref-3.ensures.value ∙ sym c.deref-4.ensures.value) in
    let merge : IsMerge r P (branches c.in_ok-children.children.items) (branches c.in_ok-others.others.items) (branches c.meet_below.new.left.items) = c.in_ok-meet_below.ensures.ok in
    let within =
    merged_within r g.R.Narrow.is_value 0 (branches c.in_ok-children.children.items) (branches c.in_ok-others.others.items) (branches c.meet_below.new.left.items)
    (subst (λ cs. AreWithinDepth 0 (branches cs)) (sym own) c.field_count.ensures.within) (subst (λ cs. AreWithinDepth 0 (branches cs)) (sym others) c.field_count-2.ensures.within) merge in
    list_form P c.in_ok-row-2.row (branches c.meet_below.new.left.items) (run_branches made.runs.items) made.from made.node
    (subst (IsTableRow P) (sym c.in_ok-row-2.ensures) c.in_ok-row.ensures.form) merge.form within elements.form elements.indexes elements.rest

pub lists::meet_lists-returns-clause-refused : goal.lists::meet_lists-returns-clause-refused
lists::meet_lists-returns-clause-refused g t c =
    let r = g.R.Narrow.refuses in
    let P = IsRowKept r g.R.Narrow.is_value in
    let made = c.in_ok-new.field-0.value in
    let elements = subst (λ o. AreElementsMet r P c.args.left.now c.args.right.now o) (sym c.in_ok-new.ensures.ok) c.in_ok-onward.ensures in
    let own = c.in_ok-children.ensures ∙ c.split_at.ensures.front ∙ ap (take c.field_count.result) (c.deref.ensures.value ∙ sym c.deref-2.ensures.value) in
    let others = c.in_ok-others.ensures ∙ c.split_at-2.ensures.front ∙ ap (take c.field_count-2.result) (c.deref-3.ensures.value ∙ sym c.deref-4.ensures.value) in
    let merge : IsMerge r P (branches c.in_ok-children.children.items) (branches c.in_ok-others.others.items) (branches c.meet_below.new.left.items) = c.in_ok-meet_below.ensures.ok in
    let within =
    merged_within r g.R.Narrow.is_value 0 (branches c.in_ok-children.children.items) (branches c.in_ok-others.others.items) (branches c.meet_below.new.left.items)
    (subst (λ cs. AreWithinDepth 0 (branches cs)) (sym own) c.field_count.ensures.within) (subst (λ cs. AreWithinDepth 0 (branches cs)) (sym others) c.field_count-2.ensures.within) merge in
    list_met r P c.left.inside c.right.inside c.args.left.now c.args.right.now c.in_ok-children.children.items c.in_ok-others.others.items c.in_ok-row-2.row (branches c.meet_below.new.left.items) made c.left.view_is c.right.view_is
    (λ text. ap (λ cs. find (label text) (branches cs)) own ∙ c.field_count.ensures.same text ∙ ap (λ cs. find (label text) (branches cs)) c.deref-2.ensures.value)
    (λ text. ap (λ cs. find (label text) (branches cs)) others ∙ c.field_count-2.ensures.same text ∙ ap (λ cs. find (label text) (branches cs)) c.deref-4.ensures.value)
    (subst (λ o. IsUnion (RowRefuses r c.left.inside.row) (RowRefuses r c.right.inside.row) (RowRefuses r o)) (sym c.in_ok-row-2.ensures)
    (subst (λ o. IsUnion (RowRefuses r c.left.inside.row) (RowRefuses r o) (RowRefuses r (or_row c.in_ok-row.row c.left.inside.row))) c.in_ok-copy_row.ensures c.in_ok-row.ensures.refused))
    merge within elements

-- ---- a place that takes another one over
pub meet::meet_own-returns-then-is_empty-clause-ok : goal.meet::meet_own-returns-then-is_empty-clause-ok
meet::meet_own-returns-then-is_empty-clause-ok g t c =
    let r = g.R.Narrow.refuses in
    let P = IsRowKept r g.R.Narrow.is_value in
    let cs = c.left.inside.children.items in
    let left : rest_in c.left.inside.rest ≡ no_rest = ap rest_below c.left.view_is ∙ c.requires.left_rest in
    let right : rest_in c.right.inside.rest ≡ no_rest = ap rest_below c.right.view_is ∙ c.requires.right_rest in
    let own = own_only (branches cs) c.left.inside.rest left in
    let nothing = nil_from_length c.right.inside.children.items (grind (arith, c.is_empty.ensures, c.if-is_empty.true, c.right.inside.children.ok.0)) in
    let merge : IsMerge r P (branches cs) (branches c.right.inside.children.items) (branches cs) = subst (λ xs. IsMerge r P (branches cs) (branches xs) (branches cs)) (sym nothing) (merge_stay r P (branches cs) (branches_form P c.left.inside c.args.left.now c.left.view_is c.requires.left)) in
    on_ok_weaker c.narrow_row.result
    (λ met. met_nodes r P c.left.inside c.right.inside c.args.left.now c.args.right _ c.narrow_row.new.left (branches cs) c.left.view_is c.right.view_is left right met merge (λ i. node c.narrow_row.new.left (own i) (left i))) c.narrow_row.ensures.ok

pub meet::meet_own-returns-clause-ok : goal.meet::meet_own-returns-clause-ok
meet::meet_own-returns-clause-ok g t c =
    let cs = c.meet_below.new.left.items in
    let left : rest_in c.left.inside.rest ≡ no_rest = ap rest_below c.left.view_is ∙ c.requires.left_rest in
    let right : rest_in c.right.inside.rest ≡ no_rest = ap rest_below c.right.view_is ∙ c.requires.right_rest in
    let own = own_only (branches cs) c.left.inside.rest left in
    let met = met_nodes g.R.Narrow.refuses (IsRowKept g.R.Narrow.refuses g.R.Narrow.is_value) c.left.inside c.right.inside c.args.left.now c.args.right c.match-met-2.left (or_row c.in_ok-met.met c.left.inside.row) (branches cs) c.left.view_is c.right.view_is
    left right c.in_ok-met.ensures.refused c.in_ok-meet_below.ensures.ok in
    elim c.match-met-2.branch [
      | meet::meet_own-in-Some+in-Some-1 w ↦ met (w.left-is ∙ (λ i. node (or_row (sym w.in-Some.is i) c.left.inside.row) (own i) (left i)))
      | meet::meet_own-in-Some+in-None-1 w ↦ met (w.left-is ∙ (λ i. node (or_row (sym w.in-Some.is i) c.left.inside.row) (own i) (left i)))
      | meet::meet_own-in_default w ↦ met (w.left-is ∙ (λ i. node (or_row (sym w.in_default.is i) c.left.inside.row) (own i) (left i)))
    ]

pub meet::meet_one-place-requires : goal.meet::meet_one-place-requires
meet::meet_one-place-requires g t c = rw c.deref.ensures.value (branches_rise (IsRowKept g.R.Narrow.refuses g.R.Narrow.is_value) (branches c.args.left.now.items) c.requires.left)

pub meet::meet_one-meet_child-requires : goal.meet::meet_one-meet_child-requires
meet::meet_one-meet_child-requires g t c κs within =
    let r = g.R.Narrow.refuses in
    let v = g.R.Narrow.is_value in
    let place : IsPlace c.args.left.now.items (step_of c.args.other.step) c.in-Ok.at = subst (λ s. IsPlace c.args.left.now.items (step_of s) c.in-Ok.at) c.step.ensures (rw c.deref.ensures.value at c.in-Ok.ensures) in
    let mine = c.requires.right in
    let deep = ap tree_depth c.in_ok-node-in-Ok.ensures in
    (omega (arith, c.decreases, deep), (within.0, (within.1, (at_form r v c.args.left.now.items c.in-Ok.at c.index_mut.result.now c.requires.left place.in_range c.index_mut.ensures.value, subst (IsTree (IsRowKept r v)) (sym c.in_ok-node-in-Ok.ensures) mine.2))))

pub meet::meet_one-returns-in_ok-node-in-Ok-clause-ok : goal.meet::meet_one-returns-in_ok-node-in-Ok-clause-ok
meet::meet_one-returns-in_ok-node-in-Ok-clause-ok g t c =
    let r = g.R.Narrow.refuses in
    let place : IsPlace c.args.left.now.items (step_of c.args.other.step) c.in-Ok.at = subst (λ s. IsPlace c.args.left.now.items (step_of s) c.in-Ok.at) c.step.ensures (rw c.deref.ensures.value at c.in-Ok.ensures) in
    on_ok_weaker c.meet_child.result
    (λ met. met_at r g.R.Narrow.is_value c.args.left.now.items c.args.other c.index_mut.result.now c.meet_child.new.left c.in-Ok.at c.requires.left c.requires.right place c.index_mut.ensures.value
    c.meet_child.ensures.step c.meet_child.ensures.form (subst (λ n. IsMet r c.index_mut.result.now.node n c.meet_child.new.left.node) c.in_ok-node-in-Ok.ensures met)) c.meet_child.ensures.ok

pub meet::meet_one-returns-in-Err-clause-ok : goal.meet::meet_one-returns-in-Err-clause-ok
meet::meet_one-returns-in-Err-clause-ok g t c =
    let gap : IsGap c.args.left.now.items (step_of c.args.other.step) c.in-Err.at = subst (λ s. IsGap c.args.left.now.items (step_of s) c.in-Err.at) c.step.ensures (rw c.deref.ensures.value at c.in-Err.ensures) in
    on_ok_weaker c.insert.result (put_in g.R.Narrow.refuses g.R.Narrow.is_value c.args.left.now.items c.insert.new.children.items c.args.other c.in-Err.at c.requires.left c.requires.right gap) c.insert.ensures.ok

-- ---- a place that stays as it is, or another one
pub meet::meet_nodes-returns-then-is_none-2-clause-refused : goal.meet::meet_nodes-returns-then-is_none-2-clause-refused
meet::meet_nodes-returns-then-is_none-2-clause-refused g t c =
    let r = g.R.Narrow.refuses in
    let P = IsRowKept r g.R.Narrow.is_value in
    let a = c.left.inside in
    let b = c.right.inside in
    let list = c.in_ok-children.children in
    let none = none_is list c.is_none-then-is_none.result c.if-is_none-2.true c.is_none-then-is_none.ensures in
    let after = or_old (option_map (λ list. list.items) list) c.deref.result.now in
    met_still r P a b c.args.left.now c.args.right c.in_ok-row.row (branches after) c.left.view_is c.right.view_is (no_rest_there a.rest (sym c.if-is_some.ensures)) (no_rest_there b.rest (sym c.if-is_some-2.ensures))
    (none_is c.in_ok-row.row c.is_none.result c.if-is_none.true c.is_none.ensures)
    (ap (λ l. branches (or_old (option_map (λ list. list.items) l) c.deref.result.now)) none ∙ ap branches c.deref.ensures.value) c.in_ok-row.ensures.refused
    (subst (λ cs. IsMerge r P (branches cs) (branches b.children.items) (branches after)) c.deref.ensures.value c.in_ok-children.ensures)

pub meet::meet_nodes-returns-clause-refused : goal.meet::meet_nodes-returns-clause-refused
meet::meet_nodes-returns-clause-refused g t c =
    let r = g.R.Narrow.refuses in
    let a = c.left.inside in
    let b = c.right.inside in
    let left = no_rest_there a.rest (sym c.if-is_some.ensures) in
    let right = no_rest_there b.rest (sym c.if-is_some-2.ensures) in
    let items = c.in_ok-children_or.ensures ∙ ap (or_old (option_map (λ list. list.items) c.in_ok-children.children)) c.deref-2.ensures.value in
    met_nodes r (IsRowKept r g.R.Narrow.is_value) a b c.args.left.now c.args.right _ c.in_ok-row_or.field-0 (branches c.in_ok-children_or.field-0.items) c.left.view_is c.right.view_is left right
    (subst (λ row. IsUnion (RowRefuses r a.row) (RowRefuses r b.row) (RowRefuses r row)) (sym c.in_ok-row_or.ensures) c.in_ok-row.ensures.refused)
    (subst (λ cs. IsMerge r (IsRowKept r g.R.Narrow.is_value) (branches a.children.items) (branches b.children.items) (branches cs)) (sym items)
    (subst (λ cs. IsMerge r (IsRowKept r g.R.Narrow.is_value) (branches cs) (branches b.children.items) (branches (or_old (option_map (λ list. list.items) c.in_ok-children.children) cs))) c.deref.ensures.value c.in_ok-children.ensures)) refl
