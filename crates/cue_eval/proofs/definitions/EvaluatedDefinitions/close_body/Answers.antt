use Rattle.std.proofs.Common.{sym, ap, subst}
use Rattle.cue_scope.specs.Kept.{nodes_kept}
use Rattle.cue_scope.specs.Listed.{definition_of}
use Rattle.cue_scope.specs.Meaning.{meaning_of_number, meant, nest_in_labels}
use Rattle.cue_eval.specs.Inner.Adding.{IsClosedBody}
use Rattle.cue_eval.specs.Inner.Finding.{IsDefinable}
use Rattle.cue_eval.specs.Inner.Told.{DeclaresLiterals}
use Rattle.cue_eval.specs.declared.declares.LiteralSelection.TheVariants as whoses
use Rattle.std.proofs.lemmas.Result.{IfOk-weaker}
use Rattle.cue_eval.proofs.Defining.{findable_of, chain_within, chain_flat, body_known}
use Rattle.cue_eval.proofs.definitions.EvaluatedDefinitions.close_body.Goals as goal

pub body-requires : goal.body-requires
body-requires c =
    let d = definition_of c.args.definition.now in
    body_known c.args.self.now c.literal_scope-sight.result d c.literal_scope-sight.ensures.dots
    (subst (λ ds. IsDefinable ds d c.args.self.now) (sym (ap nodes_kept c.literal_scope-sight.ensures.definitions)) c.requires)

pub body-requires-2 : goal.body-requires-2
body-requires-2 c = findable_of (nodes_kept c.args.definitions.now) (definition_of c.args.definition.now) c.args.self.now c.requires

pub put_behind-requires-clause-form : goal.put_behind-requires-clause-form
put_behind-requires-clause-form c = c.in_ok-rows.ensures.body.form

pub put_behind-requires-clause-depth : goal.put_behind-requires-clause-depth
put_behind-requires-clause-depth c =
    chain_within (nodes_kept c.args.definitions.now) (definition_of c.args.definition.now) c.args.self.now c.in_ok-rows.field-0.rows c.requires c.in_ok-rows.ensures.body.form c.in_ok-rows.ensures.body.answers

pub wrap_in_chain-requires : goal.wrap_in_chain-requires
wrap_in_chain-requires c =
    chain_flat (nodes_kept c.args.definitions.now) (definition_of c.args.definition.now) c.args.self.now whoses.Dotted c.in_ok-rows.field-0.dots c.requires c.in_ok-rows.ensures.body.dots

pub returns-clause-closed : goal.returns-clause-closed
returns-clause-closed c =
    let ds = nodes_kept c.args.definitions.now in
    let d = definition_of c.args.definition.now in
    let e = meant ds (meaning_of_number ds) d.value in
    let own = subst (λ zs. DeclaresLiterals whoses.Own (nest_in_labels d.chain (meant zs (meaning_of_number zs) d.value)) c.in_ok-own.own) (ap nodes_kept c.literal_scope-sight.ensures.definitions) c.in_ok-own.ensures in
    IfOk-weaker c.close.result _ (IsClosedBody (nest_in_labels d.chain e))
    (λ closed h. h (nest_in_labels d.chain e) own (c.in_ok-dots.ensures.told e c.in_ok-rows.ensures.body.dots) (c.in_ok-put_behind.ensures.answers e c.in_ok-rows.ensures.body.answers)) c.close.ensures
