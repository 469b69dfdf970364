use Rattle.cue_eval.proofs.ClosedBodies.{closed_answers}
use Rattle.cue_eval.proofs.TellingNames.{told_dots}
use Rattle.cue_eval.proofs.close.close.Goals as goal

pub returns : goal.returns
returns c = λ body own_told dotted answers. record {
  form = c.meet_with.ensures.form;
  answers = closed_answers body c.args.own.now c.args.dots c.args.rows own_told dotted answers c.in_ok-sets.sets c.meet_with.new.self c.in_ok-sets.ensures c.in_ok-meet_with.ensures.ok;
  dots = told_dots body c.args.dots dotted;
}
