-- What the body of a reply's frame says.
use Rattle.std.specs.Prelude.{◌≡◌, ◌≢◌, ◌⊎◌, ℕ, List, [], ◌∷◌, Option, Some, None, IsUtf8}
use Rattle.std.specs.Int.{w64, to_be_bytes}
use Rattle.cue_lattice.specs.Refusal.{number_of, refusal_at}
use Rattle.cue_lattice.specs.declared.refusal.Kind.{Kind}
use Rattle.cue_lattice.specs.declared.refusal.Kind.TheVariants as kinds
use Rattle.cue_lattice.specs.declared.refusal.Refusal.{Refusal}
use Rattle.cue_replica.specs.declared.question.Status.{Status}
use Rattle.cue_replica.specs.Answers.{code_of}
use Rattle.cue_net.specs.declared.reply.Verdict.{Verdict}
use Rattle.cue_net.specs.declared.reply.Verdict.TheVariants as verdicts
use Rattle.cue_net.specs.declared.reply.ExportReply.{ExportReply}
use Rattle.cue_net.specs.declared.reply.ExportReply.TheVariants as exports

-- a byte 0 and what is told
abbrev pub acceptance_reply : List ℕ → List ℕ
acceptance_reply told = 0 ∷ told

-- the number of a refusal and its place, in eight bytes from the highest to the lowest
abbrev pub refusal_reply : Refusal → List ℕ
refusal_reply why = number_of why.kind ∷ to_be_bytes w64 why.place

-- no site refuses a frame so: these end a connection, or are told of a reader
abbrev pub IsReplyUnreadable : Kind → Type 0
IsReplyUnreadable kind =
    (kind ≡ kinds.FrameTooLong) ⊎ (kind ≡ kinds.TurnsUsed) ⊎ (kind ≡ kinds.Device)
    ⊎ (kind ≡ kinds.Memory) ⊎ (kind ≡ kinds.Failed)

-- the reply refuses its request so
abbrev pub ReplyRefuses : List ℕ → Refusal → Type 0
ReplyRefuses reply why = (reply ≡ refusal_reply why) × (IsReplyUnreadable why.kind → ⊥)

abbrev pub ReplySays : List ℕ → Verdict → Type 0
ReplySays reply (verdicts.Accepted told) = reply ≡ acceptance_reply told.now
ReplySays reply (verdicts.Refused why) = ReplyRefuses reply why

-- no site replies so
pub record IsNoReply (reply : List ℕ) : Type 0 where
  pub accepted : (told : List ℕ) → reply ≢ acceptance_reply told
  pub refused : (why : Refusal) → ReplyRefuses reply why → ⊥

-- the reply to an input: why it is refused, where it is
abbrev pub ReplySaysOfInput : List ℕ → Option Refusal → Type 0
ReplySaysOfInput reply None = reply ≡ acceptance_reply []
ReplySaysOfInput reply (Some why) = ReplyRefuses reply why

-- no site replies so to an input
pub record IsNoInputReply (reply : List ℕ) : Type 0 where
  pub accepted : reply ≢ acceptance_reply []
  pub refused : (why : Refusal) → ReplyRefuses reply why → ⊥

-- the reply that tells an export with this status: the status, and the JSON or the lines
pub record ReplyHasExport (reply : List ℕ) (status : Status) (text : List ℕ) : Type 0 where
  pub told : reply ≡ acceptance_reply (code_of status ∷ text)
  pub utf8 : IsUtf8 text

-- the reply to the question for the export
abbrev pub ReplySaysOfExport : List ℕ → ExportReply → Type 0
ReplySaysOfExport reply (exports.Told status text) = ReplyHasExport reply status text.now
ReplySaysOfExport reply (exports.Refused kind) = (place : ℕ) × ReplyRefuses reply (refusal_at kind place)

-- no site replies so to that question
pub record IsNoExportReply (reply : List ℕ) : Type 0 where
  pub told : (status : Status) (text : List ℕ) → ReplyHasExport reply status text → ⊥
  pub refused : (why : Refusal) → ReplyRefuses reply why → ⊥
