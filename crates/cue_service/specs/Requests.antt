-- What a request asks for.
use Rattle.std.specs.Prelude.{◌≡◌, ◌≢◌, ◌⊎◌, ◌++◌, ℕ, List, [], ◌∷◌, codes, Option, Some, if◌then◌else◌}
use Rattle.std.specs.List.{AllByRecursion}
use Rattle.std.specs.Str.{bytes_eq}
use Rattle.cue_lattice.specs.World.{Piece, text, state}
use Rattle.cue_replica.specs.declared.question.SiteQuestion.TheVariants as questions
use Rattle.http.specs.declared.request.Request.{Request}
use Rattle.http.specs.Request.{head_of, body_of}
use Rattle.http_header.specs.FieldValue.{FieldValue}
use Rattle.http_header.specs.HeaderMap.{get}
use Rattle.http_uri.specs.Uri.{uri_path, uri_query}
use Rattle.cue_service.specs.declared.route.Route.{Route}
use Rattle.cue_service.specs.declared.route.Route.TheVariants.{Ask, Pieces, Take, Health, Metrics, Page, OtherMethod, Unknown}
use Rattle.cue_service.specs.declared.route.PieceKind.{PieceKind}
use Rattle.cue_service.specs.declared.route.PieceKind.TheVariants as hands

abbrev pub path_of : Request (List ℕ) → List ℕ
path_of request = uri_path (head_of request).uri

-- the request reads
abbrev pub IsReadRequest : Request (List ℕ) → Type 0
IsReadRequest request =
    ((head_of request).method ≡ codes "GET") ⊎ ((head_of request).method ≡ codes "HEAD")

-- it hands something in
abbrev pub IsWriting : Request (List ℕ) → Type 0
IsWriting request = (head_of request).method ≡ codes "POST"

-- it asks for what is at a path
abbrev pub AsksForPath : List ℕ → Request (List ℕ) → Type 0
AsksForPath path request = IsReadRequest request × (path_of request ≡ path)

-- it hands something to a path
abbrev pub HandsToPath : List ℕ → Request (List ℕ) → Type 0
HandsToPath path request = IsWriting request × (path_of request ≡ path)

-- the paths that can be read
abbrev pub read_paths : List (List ℕ)
read_paths =
    codes "/export" ∷ codes "/print" ∷ codes "/report" ∷ codes "/state" ∷ codes "/pieces"
    ∷ codes "/healthz" ∷ codes "/metrics" ∷ codes "/" ∷ []

-- the paths to which something can be handed
abbrev pub written_paths : List (List ℕ)
written_paths = codes "/fragments" ∷ codes "/state" ∷ []

-- a path is none of these
abbrev pub IsNoneOf : List (List ℕ) → List ℕ → Type 0
IsNoneOf paths path = AllByRecursion (λ other. path ≢ other) paths

-- What a request asks for. It asks for nothing by another method, and neither where nothing can
-- be read at its path, or handed to it.
abbrev pub IsRoute : Route → Request (List ℕ) → Type 0
IsRoute (Ask questions.Export) request = AsksForPath (codes "/export") request
IsRoute (Ask questions.Print) request = AsksForPath (codes "/print") request
IsRoute (Ask questions.Report) request = AsksForPath (codes "/report") request
IsRoute (Ask questions.State) request = AsksForPath (codes "/state") request
IsRoute Pieces request = AsksForPath (codes "/pieces") request
IsRoute (Take hands.Text) request = HandsToPath (codes "/fragments") request
IsRoute (Take hands.State) request = HandsToPath (codes "/state") request
IsRoute Health request = AsksForPath (codes "/healthz") request
IsRoute Metrics request = AsksForPath (codes "/metrics") request
IsRoute Page request = AsksForPath (codes "/") request
IsRoute OtherMethod request = (¬ IsReadRequest request) × (¬ IsWriting request)
IsRoute Unknown request =
    (IsReadRequest request × IsNoneOf read_paths (path_of request))
    ⊎ (IsWriting request × IsNoneOf written_paths (path_of request))

-- the piece that bytes are
abbrev pub piece_of_bytes : PieceKind → List ℕ → Piece
piece_of_bytes hands.Text bytes = text bytes
piece_of_bytes hands.State bytes = state bytes

-- the piece that a request hands in: a state at /state, and else a text
abbrev pub piece_in : Request (List ℕ) → Piece
piece_in request =
    if bytes_eq (path_of request) (codes "/state") then state (body_of request) else text (body_of request)

-- what stands behind the question mark of a request
abbrev pub query_of : Request (List ℕ) → Option (List ℕ)
query_of request = uri_query (head_of request).uri

-- the request asks for what is behind this
abbrev pub AsksBehind : List ℕ → Request (List ℕ) → Type 0
AsksBehind place request = query_of request ≡ Some (codes "after=" ++ place)

-- this holds of the first field of this name
abbrev pub HasField : List ℕ → (List ℕ → Type 0) → Request (List ℕ) → Type 0
HasField name holds request =
    (field : FieldValue) × (get (head_of request).headers name ≡ Some field) × holds field.bytes

-- the body of the request is encoded
abbrev pub HasEncodedBody : Request (List ℕ) → Type 0
HasEncodedBody request =
    (field : FieldValue) × (get (head_of request).headers (codes "content-encoding") ≡ Some field)
