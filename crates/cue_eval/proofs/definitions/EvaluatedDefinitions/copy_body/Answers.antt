use Rattle.std.proofs.Common.{sym, ap, subst}
use Rattle.cue_scope.specs.Kept.{nodes_kept}
use Rattle.cue_scope.specs.Meaning.{meaning_of_number, meant}
use Rattle.cue_syntax.specs.Syntax as tree
use Rattle.cue_eval.specs.Evaluated.{HasAnswersOf}
use Rattle.cue_eval.specs.Inner.Finding.{IsFindable}
use Rattle.cue_eval.specs.Inner.Told.{DeclaresLiterals}
use Rattle.cue_eval.specs.declared.declares.LiteralSelection.TheVariants.{Dotted}
use Rattle.cue_eval.proofs.Taking.{findable_ready, findable_known}
use Rattle.cue_eval.proofs.definitions.EvaluatedDefinitions.copy_body.Goals as goal

pub rows-requires : goal.rows-requires
rows-requires c =
    let e = tree.expression c.args.expression.now in
    findable_ready c.args.self.now c.tables.result e c.tables.ensures.pairs c.tables.ensures.tables
    (subst (λ ds. IsFindable ds e c.args.self.now) (sym (ap nodes_kept c.tables.ensures.definitions)) c.requires)

pub expression-requires : goal.expression-requires
expression-requires c =
    let e = tree.expression c.args.expression.now in
    findable_known c.args.self.now c.literal_scope.result e c.literal_scope.ensures.dots
    (subst (λ ds. IsFindable ds e c.args.self.now) (sym (ap nodes_kept c.literal_scope.ensures.definitions)) c.requires)

pub returns : goal.returns
returns c =
    let e = tree.expression c.args.expression.now in
    record {
      form = c.in_ok-rows.ensures.form;
      answers = subst (λ ds. HasAnswersOf (meant ds (meaning_of_number ds) e) c.in_ok-rows.rows) (ap nodes_kept c.tables.ensures.definitions) c.in_ok-rows.ensures.answers;
      dots = subst (λ ds. DeclaresLiterals Dotted (meant ds (meaning_of_number ds) e) c.in_ok-dots.dots) (ap nodes_kept c.literal_scope.ensures.definitions) c.in_ok-dots.ensures;
    }
