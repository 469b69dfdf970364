use Rattle.cue_policies.proofs.Unions.{empty_formed, met_formed, unified_formed}
use Rattle.cue_policies.proofs.laws.policies_stay_well_formed.Goals as goal

pub returns-clause-empty : goal.returns-clause-empty
returns-clause-empty c = empty_formed

pub returns-clause-met : goal.returns-clause-met
returns-clause-met c = met_formed

pub returns-clause-unified : goal.returns-clause-unified
returns-clause-unified c = unified_formed
