-- What is printed of a run that was not stopped.
use Rattle.std.specs.Prelude.{◌⊎◌, ℕ, List}
use Rattle.cue_program.specs.Outlets.{Passage}
use Rattle.cue_program.specs.declared.SiteQuestion.{SiteQuestion}
use Rattle.cue_replica.specs.Language.{Table}
use Rattle.cue_layers_command.specs.Faults.{EndsByLayersFault}
use Rattle.cue_layers_command.specs.Runs.{LayersRunWorld, EndsByLayersAnswer, IsFaultTo, IsSiteTo, IsTextTo}
use Rattle.cue_layers_command.specs.Runs.{EndsByText, revision_line}
use Rattle.cue_layers_command.specs.Words.{ArgumentsMeaning}
use Rattle.cue_layers_command.specs.declared.fault.LayersCommandError.{LayersCommandError}
use Rattle.cue_layers_command.specs.declared.reply.LayersReply.{LayersReply}
use Rattle.cue_layers_command.specs.declared.reply.LayersReply.TheVariants as replies

-- it is what is asked for
abbrev pub IsReplyTo : ArgumentsMeaning → LayersRunWorld → LayersReply → Type 0
IsReplyTo what at (replies.Text bytes code) = IsTextTo what at bytes.items code
IsReplyTo what at (replies.Revision revision) = IsTextTo what at (revision_line revision) 0
IsReplyTo what at (replies.Site question table) = IsSiteTo what at question table

-- how a run ends that prints it
abbrev pub EndsByLayersReply : LayersReply → Passage → Passage → ℕ → Type 0
EndsByLayersReply (replies.Text bytes code) out faults status =
    EndsByText bytes.items code out faults status
EndsByLayersReply (replies.Revision revision) out faults status =
    EndsByText (revision_line revision) 0 out faults status
EndsByLayersReply (replies.Site question table) out faults status =
    EndsByLayersAnswer question table out faults status

-- how a run ends that does what is asked for
abbrev pub IsEnd : ArgumentsMeaning → LayersRunWorld → Passage → Passage → ℕ → Type 0
IsEnd what at out faults status =
    ((bytes : List ℕ) × (code : ℕ) × IsTextTo what at bytes code
    × EndsByText bytes code out faults status)
    ⊎ ((question : SiteQuestion) × (table : Table) × IsSiteTo what at question table
    × EndsByLayersAnswer question table out faults status)
    ⊎ ((fault : LayersCommandError) × IsFaultTo what at fault × EndsByLayersFault fault status out faults)
