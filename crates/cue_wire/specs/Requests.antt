-- What the body of a request's frame says.
use Rattle.std.specs.Prelude.{◌≡◌, ℕ, List, [], ◌∷◌, ⊤}
use Rattle.std.specs.Str.{IsUtf8}
use Rattle.cue_replica.specs.declared.question.SiteQuestion.{SiteQuestion}
use Rattle.cue_replica.specs.declared.question.SiteQuestion.TheVariants as questions

-- a text or state bytes are handed to the site, or it is asked something
pub data Request : Type 0 where
  text : List ℕ → Request
  state : List ℕ → Request
  ask : SiteQuestion → Request

abbrev pub question_byte : SiteQuestion → ℕ
question_byte questions.State = 3
question_byte questions.Export = 4
question_byte questions.Report = 5
question_byte questions.Print = 6

abbrev pub body_of_request : Request → List ℕ
body_of_request (text t) = 1 ∷ t
body_of_request (state bytes) = 2 ∷ bytes
body_of_request (ask question) = question_byte question ∷ []

-- a text is UTF-8
abbrev pub IsSpelled : Request → Type 0
IsSpelled (text t) = IsUtf8 t
IsSpelled (state bytes) = ⊤
IsSpelled (ask question) = ⊤

abbrev pub IsRequest : List ℕ → Request → Type 0
IsRequest body request = (body ≡ body_of_request request) × IsSpelled request

abbrev pub IsNoRequest : List ℕ → Type 0
IsNoRequest body = (request : Request) → IsRequest body request → ⊥
