-- What is printed of a run that was not stopped.
use Rattle.std.specs.Prelude.{◌≡◌, ◌⊎◌, ℕ, List, Some}
use Rattle.cue_replica.specs.Answers.{code_of}
use Rattle.cue_program.specs.Inputs.{IsUnified, inputs_of}
use Rattle.cue_program.specs.Outlets.{AddsBytes, BreaksAfter, IsOutputUntouched, Passage}
use Rattle.cue_command.specs.Faults.{IsComplaint}
use Rattle.cue_command.specs.Runs.{RunWorld, IsAnswerTo, EndsByAnswer}
use Rattle.cue_command.specs.Words.{WordsMeaning, asking, meaning_of_words}
use Rattle.cue_command.specs.declared.acting.Reply.{Reply}
use Rattle.cue_command.specs.declared.acting.Reply.TheVariants as replies

-- what is asked for: an answer, or the site that is asked
abbrev pub IsReplyTo : WordsMeaning → RunWorld → Reply → Type 0
IsReplyTo what at (replies.Answer answer) = IsAnswerTo what at answer
IsReplyTo (asking question files) at (replies.Site of table) =
    (of ≡ question) × IsUnified (inputs_of at.held files at.input) table × at.OnlyReads
IsReplyTo _ at (replies.Site of table) = ⊥

-- the words ask for it
abbrev pub IsReplyToWords : List (List ℕ) → RunWorld → Reply → Type 0
IsReplyToWords words at reply =
    (what : WordsMeaning) × (meaning_of_words words ≡ Some what) × IsReplyTo what at reply

-- how a run ends that prints it
abbrev pub EndsByReply : Reply → Passage → Passage → ℕ → Type 0
EndsByReply (replies.Answer answer) out faults status =
    ((status ≡ code_of answer.status) × AddsBytes out answer.bytes.items × IsOutputUntouched faults)
    ⊎ ((status ≡ 4) × BreaksAfter out answer.bytes.items × IsComplaint faults)
EndsByReply (replies.Site question table) out faults status =
    EndsByAnswer question table out faults status
