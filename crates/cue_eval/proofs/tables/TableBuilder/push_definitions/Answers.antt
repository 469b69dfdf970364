use Rattle.std.proofs.Common.{◌+◌, take, sym, subst}
use Rattle.cue_scope.proofs.Nodes.{in_at}
use Rattle.cue_eval.specs.Inner.Parts.{AreAdded}
use Rattle.cue_eval.specs.Inner.Ready.{all_definitions}
use Rattle.cue_eval.proofs.Repeated.{added_more, added_all}
use Rattle.cue_eval.proofs.tables.TableBuilder.push_definitions.Goals as goal

pub copy_definition-requires : goal.copy_definition-requires
copy_definition-requires c = c.requires.tables _ (in_at c.args.numbers.now c.loop-number.number-index c.loop-number-test.true)

pub loop-number-preserved : goal.loop-number-preserved
loop-number-preserved c =
    let ds = all_definitions c.args.self.now in
    let k = c.loop-number.number-index in
    subst (λ xs. AreAdded ds c.args.tables.now.items (take (k + 1) c.args.numbers.now) xs) (sym c.in_ok-push.ensures.items)
    (added_more ds c.args.tables.now.items c.loop-number.tables.items c.args.numbers.now k c.in_ok-copy_definition.field-0 c.loop-number.invariant c.loop-number-test.true c.in_ok-copy_definition.ensures.answers)

pub returns : goal.returns
returns c = added_all (all_definitions c.args.self.now) c.args.tables.now.items c.loop-number.tables.items c.args.numbers.now c.loop-number.number-index c.loop-number-test.false c.loop-number.invariant
