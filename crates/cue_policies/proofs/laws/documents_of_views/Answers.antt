use Rattle.cue_policies.proofs.ViewLaws.{admitted_meet, layers_admit, meeting_are_admitted, some_admitted}
use Rattle.cue_policies.proofs.laws.documents_of_views.Goals as goal

pub returns-clause-layers : goal.returns-clause-layers
returns-clause-layers c = layers_admit

pub returns-clause-admitted : goal.returns-clause-admitted
returns-clause-admitted c = admitted_meet

pub returns-clause-meeting : goal.returns-clause-meeting
returns-clause-meeting c = meeting_are_admitted

pub returns-clause-some : goal.returns-clause-some
returns-clause-some c = some_admitted
