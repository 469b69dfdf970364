use Rattle.std.proofs.lemmas.Result.{on_ok_weaker}
use Rattle.cue_eval.proofs.Gathering.{rooted_answers}
use Rattle.cue_eval.proofs.build.add_row.Goals as goal

pub returns-clause-answers : goal.returns-clause-answers
returns-clause-answers c = on_ok_weaker c.meet_row.result (rooted_answers c.args.table.now c.meet_row.new.self c.args.row) c.meet_row.ensures.ok
