use Rattle.cue_syntax.proofs.OneTree as lemmas
use Rattle.cue_syntax.proofs.spelling.one_tree.Goals as goal

pub returns : goal.returns
returns c = lemmas.one_tree
