use Rattle.std.proofs.Common.{refl, subst, arith}
use Rattle.cue_table.specs.Form.{IsRowKept, IsTreeTaken, IsTree}
use Rattle.cue_table.specs.Tree.{if_not_empty}
use Rattle.cue_table.proofs.ByHalves.{is_there}
use Rattle.cue_table.proofs.Resting.{taken_form}
use Rattle.cue_table.proofs.elements.run_of.Goals as goal

pub overflow_cast-result : goal.overflow_cast-result
overflow_cast-result g c = omega (arith, c.requires.order, c.requires.few)

pub overflow_sub-result : goal.overflow_sub-result
overflow_sub-result g c = c.requires.order

pub overflow_cast-result-2 : goal.overflow_cast-result-2
overflow_cast-result-2 g c = omega (arith, c.requires.few)

pub same-node : goal.same-node
same-node g c = refl

pub returns-clause-some : goal.returns-clause-some
returns-clause-some g c =
    let tree = c.into_root-node.result in
    let there : IsTreeTaken tree = taken_form tree (is_there (λ node. node.now) c.non_empty.result (if_not_empty tree) c.is_none.result c.if-is_none.false c.is_none.ensures c.non_empty.ensures) in
    record {
      begins = refl;
      ends = omega (arith, c.requires.order);
      is = c.into_root-node.ensures.same;
      taken = subst IsTreeTaken c.into_root-node.ensures.same there;
      form = subst (IsTree (IsRowKept g.R.Narrow.refuses g.R.Narrow.is_value)) c.into_root-node.ensures.same c.into_root-node.ensures.form;
    }
