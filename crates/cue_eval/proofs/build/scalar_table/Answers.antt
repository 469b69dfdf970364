use Rattle.cue_scalars.specs.Values.{pair_of_value}
use Rattle.cue_eval.specs.Places.{ScalarRefuses}
use Rattle.cue_eval.proofs.Gathering.{row_alone}
use Rattle.cue_eval.proofs.build.scalar_table.Goals as goal

pub returns-clause-answers : goal.returns-clause-answers
returns-clause-answers c = row_alone c.table_of.result c.in_ok-scalar_row.field-0 (ScalarRefuses (pair_of_value c.args.valued)) c.table_of.ensures.answers c.in_ok-scalar_row.ensures
