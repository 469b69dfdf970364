-- What a client sends, and what it makes of its stream of replies.
use Rattle.std.specs.Prelude.{ℕ, List, map, string_bytes, Vec}
use Rattle.std.specs.Global.{Global}
use Rattle.cue_replica.specs.declared.question.SiteQuestion.TheVariants as questions
use Rattle.cue_wire.specs.declared.request.Request as requests
use Rattle.cue_wire.specs.declared.request.Request.TheVariants as asked
use Rattle.cue_wire.specs.Frames.{AreFrames, IsUnfinished, IsBody, frame_of}
use Rattle.cue_wire.specs.Requests.{Request, text, state, ask, body_of_request}

-- the request that a value of the program is
abbrev pub request_of_client : requests.Request → Request
request_of_client (asked.Text t) = text (string_bytes t)
request_of_client (asked.State bytes) = state bytes.items
request_of_client asked.AskState = ask questions.State
request_of_client asked.AskExport = ask questions.Export
request_of_client asked.AskReport = ask questions.Report
request_of_client asked.AskPrint = ask questions.Print

abbrev pub request_body : requests.Request → List ℕ
request_body request = body_of_request (request_of_client request)

-- a frame can hold it
abbrev pub IsSendable : requests.Request → Type 0
IsSendable request = IsBody (request_body request)

-- its frame
abbrev pub request_frame : requests.Request → List ℕ
request_frame request = frame_of (request_body request)

-- What a client has to send, the bodies of the whole replies that it was fed, and the rest, the
-- bytes behind them.
pub record ClientExchange : Type 0 where
  pub outgoing : List ℕ
  pub replies : List (List ℕ)
  pub rest : List ℕ

-- The client was fed this stream, and its replies are all whole frames of it.
pub record ClientHasTaken (exchange : ClientExchange) (stream : List ℕ) : Type 0 where
  pub frames : AreFrames stream exchange.replies exchange.rest
  pub unfinished : IsUnfinished exchange.rest

-- the bytes of each
abbrev pub all_items : List (Vec ℕ Global) → List (List ℕ)
all_items vectors = map (λ vector. vector.items) vectors
