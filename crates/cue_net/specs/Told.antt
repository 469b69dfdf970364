-- What replies tell.
use Rattle.std.specs.Prelude.{◌≡◌, ◌⊎◌, ℕ, ◌+◌, List, [], ◌∷◌, ◌++◌, length, All, Any, Result, Ok}
use Rattle.std.specs.Prelude.{Err}
use Rattle.cue_lattice.specs.Refusal.{refusal_at}
use Rattle.cue_lattice.specs.declared.refusal.Refusal.{Refusal}
use Rattle.cue_replica.specs.declared.question.SiteQuestion.TheVariants as questions
use Rattle.cue_replica.specs.declared.question.Status.{Status}
use Rattle.cue_replica.specs.declared.answers.Answer.{Answer}
use Rattle.cue_replica.specs.Answers.{HasBytesAndStatus, line_end}
use Rattle.cue_net.specs.declared.halt.NetError.{NetError}
use Rattle.cue_net.specs.declared.halt.NetError.TheVariants as halts
use Rattle.cue_net.specs.Halts.{IsMemoryNetError}
use Rattle.cue_net.specs.Replies.{acceptance_reply, refusal_reply, ReplyRefuses, IsReplyUnreadable, ReplyHasExport}
use Rattle.cue_net.specs.Replies.{IsNoInputReply, IsNoExportReply}

-- each input is accepted
abbrev pub AllRepliesAccept : List (List ℕ) → Type 0
AllRepliesAccept replies = All (λ reply. reply ≡ acceptance_reply []) replies

-- the input of this number, from 1, is the first that is refused, and why
pub record IsFirstRefusal (replies : List (List ℕ)) (why : Refusal) (number : ℕ) : Type 0 where
  pub before : List (List ℕ)
  pub after : List (List ℕ)
  pub replies_are : replies ≡ before ++ refusal_reply why ∷ after
  pub told : IsReplyUnreadable why.kind → ⊥
  pub accepted : AllRepliesAccept before
  pub counted : number ≡ length before + 1

-- the answer is that of this status and text, as it is printed
abbrev pub IsPrinted : Answer → Status → List ℕ → Type 0
IsPrinted answer status text = HasBytesAndStatus answer (text ++ line_end questions.Export status) status

-- What the replies to inputs, and the last one, to the question for the export, tell.
abbrev pub ReportReplies : List (List ℕ) → List ℕ → Result Answer NetError → Type 0
ReportReplies replies last (Ok answer) =
    AllRepliesAccept replies × ((status : Status) × (text : List ℕ) × ReplyHasExport last status text
    × IsPrinted answer status text)
ReportReplies replies last (Err (halts.RefusedInput why number)) = IsFirstRefusal replies why number
ReportReplies replies last (Err (halts.RefusedExport kind)) =
    AllRepliesAccept replies × ((place : ℕ) × ReplyRefuses last (refusal_at kind place))
ReportReplies replies last (Err halts.Device) = Any IsNoInputReply replies ⊎ IsNoExportReply last
ReportReplies replies last (Err (halts.Refused kind)) = IsMemoryNetError (halts.Refused kind)
