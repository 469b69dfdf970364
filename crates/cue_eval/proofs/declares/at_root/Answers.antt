use Rattle.std.proofs.Common.{subst}
use Rattle.cue_table.specs.Meet.{IsAdded}
use Rattle.cue_eval.specs.Telling.{DeclaredRefuses}
use Rattle.cue_eval.proofs.declares.at_root.Goals as goal

pub returns : goal.returns
returns c = record {
  form = c.add-2.ensures.form;
  added = subst (λ p. IsAdded DeclaredRefuses c.args.table p c.args.row.now c.add-2.new.self) c.root.ensures c.in_ok-add.ensures.ok;
}
