use Rattle.cue_policies.proofs.ViewLaws.{no_labels, plain_unified}
use Rattle.cue_policies.proofs.laws.views_without_patterns.Goals as goal

pub returns-clause-unified : goal.returns-clause-unified
returns-clause-unified c = plain_unified

pub returns-clause-labels : goal.returns-clause-labels
returns-clause-labels c = no_labels
