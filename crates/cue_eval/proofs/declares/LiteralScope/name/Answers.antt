use Rattle.cue_eval.proofs.TellingNames.{word_told, hidden_told, use_told_own}
use Rattle.cue_eval.proofs.declares.LiteralScope.name.Goals as goal

pub returns-in-Plain : goal.returns-in-Plain
returns-in-Plain c = rw (c.in-Plain.is, c.new.ensures) (word_told c.args.whose c.in-Plain.field-0)

pub returns-in-Hidden : goal.returns-in-Hidden
returns-in-Hidden c = rw (c.in-Hidden.is, c.new-in-Hidden.ensures) (hidden_told c.args.whose c.in-Hidden.field-0)

pub returns-in-Own : goal.returns-in-Own
returns-in-Own c = rw (c.in-Own.is, c.in-Definition.is, c.new-in-Own.ensures) (use_told_own _ _)
