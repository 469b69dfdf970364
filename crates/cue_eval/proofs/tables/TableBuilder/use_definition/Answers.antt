use Rattle.std.proofs.Common.{sym, subst}
use Rattle.std.specs.Option.{option_map_or}
use Rattle.std.specs.Prelude.{IfOk}
use Rattle.cue_scope.specs.Core.{bottom}
use Rattle.cue_scope.specs.Definitions.{number_of_name}
use Rattle.cue_scope.specs.Meaning.{meaning_of_number}
use Rattle.cue_scope.proofs.Measuring.{use_listed}
use Rattle.cue_eval.specs.Evaluated.{HasAnswersOf}
use Rattle.cue_eval.specs.Inner.Ready.{all_definitions}
use Rattle.cue_eval.proofs.Leaves.{unknown_result}
use Rattle.cue_eval.proofs.tables.TableBuilder.use_definition.Goals as goal

pub returns-in-None-clause-answers : goal.returns-in-None-clause-answers
returns-in-None-clause-answers c =
    let ds = all_definitions c.args.self.now in
    unknown_result c.scalar_table.result (meaning_of_number ds) (number_of_name c.args.name.now ds) c.bottom_value.result (sym c.in-None.ensures) c.bottom_value.ensures c.scalar_table.ensures.answers

pub copy_definition-requires : goal.copy_definition-requires
copy_definition-requires c = c.requires.tables c.in-Some.number (use_listed (number_of_name c.args.name.now (all_definitions c.args.self.now)) c.in-Some.number c.in-Some.ensures)

pub returns-in-Some-clause-answers : goal.returns-in-Some-clause-answers
returns-in-Some-clause-answers c =
    let ds = all_definitions c.args.self.now in
    subst (λ n. IfOk c.copy_definition.result (HasAnswersOf (option_map_or (meaning_of_number ds) n bottom))) c.in-Some.ensures c.copy_definition.ensures.answers
