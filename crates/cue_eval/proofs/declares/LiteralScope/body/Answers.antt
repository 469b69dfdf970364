use Rattle.std.proofs.Common.{arith}
use Rattle.std.proofs.lemmas.Result.{IfOk-weaker}
use Rattle.cue_syntax.specs.Syntax as tree
use Rattle.cue_eval.specs.Inner.Told.{meaning_in_scope}
use Rattle.cue_eval.proofs.TellingDepth.{told_flat, nested_depth}
use Rattle.cue_eval.proofs.TellingParts.{known_same}
use Rattle.cue_eval.proofs.declares.LiteralScope.body.Goals as goal

pub expression-requires : goal.expression-requires
expression-requires c =
    let deep = nested_depth c.args.chain.now (meaning_in_scope c.args.self.now (tree.expression c.args.value.now)) in
    known_same c.args.self.now _ _ _ _ _ c.requires (omega arith) (omega (arith, deep))

pub wrap_in_chain-requires : goal.wrap_in_chain-requires
wrap_in_chain-requires c =
    let value = meaning_in_scope c.args.self.now (tree.expression c.args.value.now) in
    let deep = nested_depth c.args.chain.now value in
    let flat = told_flat c.args.whose value c.in_ok-table.table c.in_ok-table.ensures in
    let limit = c.requires.flat in
    omega (arith, deep, flat, limit)

pub returns : goal.returns
returns c =
    let value = meaning_in_scope c.args.self.now (tree.expression c.args.value.now) in
    IfOk-weaker c.wrap_in_chain.result _ _ (λ all f. f value c.in_ok-table.ensures) c.wrap_in_chain.ensures.told
