use Rattle.std.proofs.Common.{Result, Ok, Err, IfOk}
use Rattle.cue_replica.proofs.OneAnswer.{shown_by}
use Rattle.cue_replica.specs.declared.question.SiteQuestion.TheVariants as questions
use Rattle.cue_net.specs.Printed.{IsPrintedExport}
use Rattle.cue_net.proofs.serving.export_answer.Goals as goal

if_ok : {T E : Type 0} (r : Result T E) (P Q : T → Type 0) → ((x : T) → P x → Q x) → IfOk r P → IfOk r Q
if_ok (Ok x) P Q f p = f x p
if_ok (Err e) P Q f p = tt

pub returns : goal.returns
returns c = if_ok c.to_printed.result _ (IsPrintedExport c.args.site.now)
    (λ shown says. shown_by c.args.site.now questions.Export c.in_ok-told.told shown c.in_ok-told.ensures.tells says) c.to_printed.ensures.prints
