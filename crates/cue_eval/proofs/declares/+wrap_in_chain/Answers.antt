use Rattle.std.proofs.Common.{sym, subst}
use Rattle.std.proofs.lemmas.Result.{IfOk-weaker}
use Rattle.cue_scope.specs.Meaning.{nest_in_labels}
use Rattle.cue_eval.specs.Inner.Told.{DeclaresLiterals}
use Rattle.cue_eval.proofs.declares.+wrap_in_chain.Goals as goal

pub returns-in_ok-below-in-Some-clause-told : goal.returns-in_ok-below-in-Some-clause-told
returns-in_ok-below-in-Some-clause-told t c =
    IfOk-weaker c.one_field.result _ _
    (λ all f x h. subst (λ ch. DeclaresLiterals c.args.whose (nest_in_labels ch x) all) (sym c.in-Some.ensures.cases.0) (f (nest_in_labels c.in-Some.rest.now x) (c.in_ok-below-in-Some.ensures.told x h)))
    c.one_field.ensures.told
