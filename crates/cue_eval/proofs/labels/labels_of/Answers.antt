use Rattle.std.proofs.Common.{◌≡◌, Some, sym, ap, subst, ◌∙◌}
use Rattle.std.specs.Prelude.{IfSome}
use Rattle.cue_scope.specs.Meaning.{meant_members}
use Rattle.cue_syntax.specs.Syntax.{entries}
use Rattle.cue_eval.proofs.LabelLists.{labels_left_out}
use Rattle.cue_eval.proofs.labels.labels_of.Goals as goal

pub returns : goal.returns
returns c = λ ds meaning.
    let ms = meant_members ds meaning (entries c.args.declarations.now) in
    let listed = subst (λ found. IfSome found (λ set. set ≡ Some c.into_texts-labels.result.1.items)) c.unwrap.ensures c.listing.ensures.some in
    labels_left_out ms c.in_ok-collect_labels.field-0 c.unwrap.result (sym (c.has_ellipsis.ensures ds meaning) ∙ c.if-has_ellipsis.false) (c.in_ok-collect_labels.ensures ds meaning)
    (listed ∙ ap Some c.into_texts-labels.ensures.texts)
