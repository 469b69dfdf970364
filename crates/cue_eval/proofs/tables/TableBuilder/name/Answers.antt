use Rattle.std.proofs.Common.{◌≡◌, sym, subst}
use Rattle.std.specs.Prelude.{IfOk}
use Rattle.cue_scalars.specs.Values.{pair_of_value}
use Rattle.cue_scope.specs.Meaning.{meaning_of_number, meant_name}
use Rattle.cue_eval.specs.Evaluated.{HasAnswersOf}
use Rattle.cue_eval.specs.Pairs.{pair}
use Rattle.cue_eval.specs.Inner.Ready.{all_definitions}
use Rattle.cue_eval.proofs.Leaves.{word_result}
use Rattle.cue_eval.proofs.tables.TableBuilder.name.Goals as goal

pub returns-in_ok-valued-in-Plain-clause-answers : goal.returns-in_ok-valued-in-Plain-clause-answers
returns-in_ok-valued-in-Plain-clause-answers c =
    let ds = all_definitions c.args.self.now in
    let v = c.in_ok-valued-in-Plain.valued in
    let is = subst (λ n. pair_of_value v ≡ pair (meant_name ds (meaning_of_number ds) n)) c.in-Plain.is c.in_ok-valued-in-Plain.ensures in
    subst (λ n. IfOk c.scalar_table.result (HasAnswersOf (meant_name ds (meaning_of_number ds) n))) (sym c.in-Plain.is)
    (word_result c.scalar_table.result c.in-Plain.field-0 v is c.scalar_table.ensures.answers)
