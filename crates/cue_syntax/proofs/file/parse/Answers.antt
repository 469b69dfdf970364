use Rattle.cue_syntax.proofs.RefusalsFit.{refused_fits, refused_left, tree_answered, tree_refused}
use Rattle.cue_syntax.proofs.file.parse.Goals as goal

pub refusal-requires : goal.refusal-requires
refusal-requires c = refused_left c.in-Err.ensures.refused

pub returns-in-Ok-clause-accepted : goal.returns-in-Ok-clause-accepted
returns-in-Ok-clause-accepted c = tree_answered c.in-Ok.file c.in-Ok.ensures.spelled

pub returns-in-Err-clause-refused : goal.returns-in-Err-clause-refused
returns-in-Err-clause-refused c = refused_fits c.in-Err.ensures.refused c.refusal.ensures

pub returns-in-Err-clause-accepted : goal.returns-in-Err-clause-accepted
returns-in-Err-clause-accepted c = tree_refused c.in-Err.ensures.refused c.refusal.ensures
