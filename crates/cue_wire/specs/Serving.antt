-- What a frame does to a site's table, and its reply.
use Rattle.std.specs.Prelude.{◌≡◌, ◌≢◌, ◌≤◌, ◌<◌, ◌⊎◌, ℕ, List, [], ◌∷◌, ◌++◌, length}
use Rattle.std.specs.Int.{w64, to_be_bytes}
use Rattle.cue_lattice.specs.declared.refusal.Refusal.{Refusal}
use Rattle.cue_lattice.specs.declared.refusal.Kind.TheVariants as kinds
use Rattle.cue_lattice.specs.Refusal.{number_of, refusal_at, memory}
use Rattle.cue_replica.specs.declared.world.Outcome.{Outcome}
use Rattle.cue_replica.specs.declared.world.Outcome.TheVariants.{Accepted, Refused}
use Rattle.cue_replica.specs.Language.{Table}
use Rattle.cue_replica.specs.World.{SubmitsText, TakesState}
use Rattle.cue_replica.specs.declared.question.SiteQuestion.{SiteQuestion}
use Rattle.cue_replica.specs.declared.question.SiteQuestion.TheVariants as questions
use Rattle.cue_replica.specs.declared.question.Status.{Status}
use Rattle.cue_replica.specs.Answers.{IsAnswer, code_of}
use Rattle.cue_wire.specs.Frames.{frame_of, frame_limit}
use Rattle.cue_wire.specs.Requests.{Request, text, state, ask, IsRequest, IsNoRequest}

-- the replies to what was refused, and to what was accepted with what is told
abbrev pub refused_reply : Refusal → List ℕ
refused_reply why = frame_of (number_of why.kind ∷ to_be_bytes w64 why.place)

abbrev pub accepted_reply : List ℕ → List ℕ
accepted_reply told_bytes = frame_of (0 ∷ told_bytes)

-- What is handed in is accepted, or refused for another cause than memory, and the reply says so.
abbrev pub IsHandedRequest : (Table → Table → Outcome → Type 0) → Table → Table → List ℕ → Type 0
IsHandedRequest Step before after reply =
    (Step before after Accepted × (reply ≡ accepted_reply []))
    ⊎ ((why : Refusal) × (why ≢ memory) × Step before after (Refused why)
    × (reply ≡ refused_reply why))

-- what a reply tells of an answer: its bytes, after the status where it is that of an export
abbrev pub told_bytes : SiteQuestion → List ℕ → Status → List ℕ
told_bytes questions.Export bytes status = code_of status ∷ bytes
told_bytes questions.Print bytes status = bytes
told_bytes questions.Report bytes status = bytes
told_bytes questions.State bytes status = bytes

-- the reply that a frame can't hold what is asked for
abbrev pub reply_too_long : List ℕ
reply_too_long = refused_reply (refusal_at kinds.ReplyTooLong 0)

-- The reply tells this, or that a frame can't hold it.
abbrev pub IsReply : List ℕ → List ℕ → Type 0
IsReply what reply =
    ((length what < frame_limit) × (reply ≡ accepted_reply what))
    ⊎ ((frame_limit ≤ length what) × (reply ≡ reply_too_long))

-- no frame holds an answer to the question
abbrev pub IsReplyTooLong : SiteQuestion → Table → Type 0
IsReplyTooLong question table =
    (bytes : List ℕ) (status : Status) → IsAnswer question table bytes status
    → frame_limit ≤ length (told_bytes question bytes status)

-- The reply to a question about the table: what is told of an answer; or that no frame holds one.
abbrev pub IsRequestAnswered : SiteQuestion → Table → List ℕ → Type 0
IsRequestAnswered question table reply =
    ((bytes : List ℕ) × (status : Status) × IsAnswer question table bytes status
    × IsReply (told_bytes question bytes status) reply)
    ⊎ (IsReplyTooLong question table × (reply ≡ reply_too_long))

abbrev pub AnswersRequests : Request → Table → Table → List ℕ → Type 0
AnswersRequests (text t) before after reply = IsHandedRequest (SubmitsText t) before after reply
AnswersRequests (state bytes) before after reply = IsHandedRequest (TakesState bytes) before after reply
AnswersRequests (ask question) before after reply = (after ≡ before) × IsRequestAnswered question before reply

-- The frame of this body turns the table into the other, and has this reply.
abbrev pub Serves : List ℕ → Table → Table → List ℕ → Type 0
Serves body before after reply =
    ((request : Request) × IsRequest body request × AnswersRequests request before after reply)
    ⊎ (IsNoRequest body × (after ≡ before)
    × (reply ≡ refused_reply (refusal_at kinds.BadRequest 0)))

-- so do all these frames, one after the other
unfoldable pub ServesAll : List (List ℕ) → Table → Table → List ℕ → Type 0
ServesAll [] before after replies = (after ≡ before) × (replies ≡ [])
ServesAll (body ∷ bodies) before after replies =
    (between : Table) × (first rest : List ℕ) × Serves body before between first
    × ServesAll bodies between after rest × (replies ≡ first ++ rest)
