use Rattle.std.proofs.Common.{◌⊎◌}
use Rattle.cue_eval.specs.Inner.Gathered.{LabelsRefuse}
use Rattle.cue_eval.specs.Places.{StructRefuses}
use Rattle.cue_eval.proofs.Gathering.{literal_answers}
use Rattle.cue_eval.proofs.build.struct_of.Goals as goal

pub returns-clause-answers : goal.returns-clause-answers
returns-clause-answers c = literal_answers c.args.fields.items c.in_ok-table.table c.add_row.new.table c.in_ok-struct_row.field-0 (λ question. StructRefuses question ⊎ LabelsRefuse c.args.labels question)
    c.in_ok-table.ensures.refused c.in_ok-add_row.ensures.answers c.in_ok-struct_row.ensures
