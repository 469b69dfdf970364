use Rattle.std.proofs.Common.{sym, ◌∙◌}
use Rattle.std.specs.Prelude.{codes}
use Rattle.std.specs.Str.{bytes_eq}
use Rattle.cue_eval.proofs.Leaves.{hidden_top, hidden_result}
use Rattle.cue_eval.proofs.tables.TableBuilder.use_hidden.Goals as goal

pub returns-then-eq-clause-answers : goal.returns-then-eq-clause-answers
returns-then-eq-clause-answers c = hidden_top (bytes_eq c.args.name.now (codes "_")) c.new.result (sym c.eq.ensures ∙ c.if-eq.true) c.new.ensures

pub returns-clause-answers : goal.returns-clause-answers
returns-clause-answers c = hidden_result c.scalar_table.result (bytes_eq c.args.name.now (codes "_")) c.bottom_value.result (sym c.eq.ensures ∙ c.if-eq.false) c.bottom_value.ensures c.scalar_table.ensures.answers
