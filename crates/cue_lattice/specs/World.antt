-- Sites that take texts and pass their states on. A world is told by sets of pieces: which texts
-- and which foreign states each site has accepted, directly or inside the states that it took, and
-- which each message was made of. A list of pieces stands for the set of its members.
use Rattle.std.specs.Prelude.{◌≡◌, ◌↔◌, ◌⊎◌, ℕ, ◌<◌, ◌^◌, List, [], ◌∷◌, ◌++◌, length, replicate}
use Rattle.std.specs.Prelude.{slice_get, slice_set, unwrap_or}
use Rattle.std.specs.List.{AllByRecursion}
use Rattle.cue_lattice.specs.declared.refusal.Refusal.{Refusal}
use Rattle.cue_lattice.specs.Refusal.{memory}
use Rattle.cue_lattice.specs.OneOf.{OneOf}
use Rattle.cue_lattice.specs.Question.{Refusals, OneRefuses, SameAnswers}
use Rattle.cue_lattice.specs.Document.{Document, IsDocument}
use Rattle.cue_lattice.specs.Meets.{Meets}

-- What a site can accept from outside: a text, or state bytes handed in from outside the world. The
-- same text twice is one piece.
pub data Piece : Type 0 where
  text : List ℕ → Piece
  state : List ℕ → Piece

-- What a language and a format of states make of texts, bytes and tables. A site may one day read
-- two versions of states, so the bytes that it reads are apart from those that it writes.
pub record Meaning (T : Type 0) : Type 1 where
  pub IsValid : T → Type 0  -- the table is a valid one
  pub table_refuses : T → Refusals  -- what a table refuses
  pub IsLegal : List ℕ → Type 0  -- the text is one of the language
  pub text_refuses : List ℕ → Refusals  -- what a legal text refuses
  pub text_admits : List ℕ → Document → Type 0  -- which documents a legal text admits
  pub IsTextFault : List ℕ → Refusal → Type 0  -- why a text that is not legal may be refused
  pub IsState : List ℕ → Type 0  -- a site reads the bytes as those of a valid table
  pub state_refuses : List ℕ → Refusals  -- what that table refuses
  pub state_admits : List ℕ → Document → Type 0  -- which documents that table admits
  pub IsStateFault : List ℕ → Refusal → Type 0  -- why other bytes may be refused
  pub IsTextRefusedAtOnce : List ℕ → Type 0  -- the text has a fault that is found with no memory
  pub IsStateRefusedAtOnce : List ℕ → Type 0  -- and so have the bytes
  pub written : T → List ℕ  -- the bytes that a site writes for a valid table

-- What every meaning must keep to.
pub record IsSoundLanguage (T : Type 0) (m : Meaning T) : Type 0 where
  -- a legal text has no fault, so that nothing but want of memory refuses it
  pub no_text_fault : (t : List ℕ) (why : Refusal) → m.IsLegal t → m.IsTextFault t why → ⊥
  -- the bytes of a state have none either
  pub no_state_fault : (bytes : List ℕ) (why : Refusal) → m.IsState bytes
      → m.IsStateFault bytes why → ⊥
  -- out of memory is no fault of a text or of bytes
  pub memory_apart : (bytes : List ℕ)
      → (m.IsTextFault bytes memory ⊎ m.IsStateFault bytes memory) → ⊥
  -- what is refused before any memory is wanted has a fault, and so is no legal text and no state
  pub text_at_once : (t : List ℕ) → m.IsTextRefusedAtOnce t → (why : Refusal) × m.IsTextFault t why
  pub state_at_once : (bytes : List ℕ) → m.IsStateRefusedAtOnce bytes
      → (why : Refusal) × m.IsStateFault bytes why
  -- sites read what they write, with the same answers, as far as a memory can hold it
  pub reads_own : (table : T) → m.IsValid table → length (m.written table) < 2 ^ 64 →
      m.IsState (m.written table)
      × SameAnswers (m.state_refuses (m.written table)) (m.table_refuses table)
  -- valid tables with equal answers are equal, so that the answers tell the bytes and every report
  pub one_table : (a b : T) → m.IsValid a → m.IsValid b
      → SameAnswers (m.table_refuses a) (m.table_refuses b) → a ≡ b

-- What is refused is exact against documents: a text, and a state, admits just the documents that
-- meet what it refuses.
pub record IsExactOnDocuments (T : Type 0) (m : Meaning T) : Type 0 where
  pub of_texts : (t : List ℕ) (d : Document) → IsDocument d
      → m.text_admits t d ↔ Meets (m.text_refuses t) d
  pub of_states : (bytes : List ℕ) (d : Document) → IsDocument d
      → m.state_admits bytes d ↔ Meets (m.state_refuses bytes) d

-- what a piece refuses
abbrev pub piece_refuses : {T : Type 0} → Meaning T → Piece → Refusals
piece_refuses m (text t) = m.text_refuses t
piece_refuses m (state b) = m.state_refuses b

-- what a set of pieces refuses: what one of them refuses
abbrev pub pieces_refuse : {T : Type 0} → Meaning T → List Piece → Refusals
pieces_refuse m = OneRefuses (piece_refuses m)

-- which documents a piece admits
abbrev pub piece_admits : {T : Type 0} → Meaning T → Piece → Document → Type 0
piece_admits m (text t) = m.text_admits t
piece_admits m (state b) = m.state_admits b

-- the document is one, and each piece of the set admits it
pub record IsAdmitted {T : Type 0} (m : Meaning T) (pieces : List Piece) (d : Document)
    : Type 0 where
  pub is : IsDocument d
  pub by_each : AllByRecursion (λ piece. piece_admits m piece d) pieces

-- the piece is in the set
abbrev pub IsInSet : List Piece → Piece → Type 0
IsInSet pieces piece = OneOf (λ member. member ≡ piece) pieces

-- one set of pieces, in whatever order and however often they came
abbrev pub SamePieces : List Piece → List Piece → Type 0
SamePieces a b = (piece : Piece) → IsInSet a piece ↔ IsInSet b piece

-- one whole call on one site
pub data Event : Type 0 where
  submit : (site : ℕ) (t : List ℕ) → Event  -- a text is handed in
  send : (site : ℕ) → Event  -- the site's state becomes the next message
  -- the site takes a message: late, again, in any order, or never
  deliver : (site message : ℕ) → Event
  foreign : (site : ℕ) (bytes : List ℕ) → Event  -- the site is handed bytes from outside

pub data Outcome : Type 0 where
  accepted : Outcome
  sent : ℕ → Outcome  -- the number of the message
  refused : Refusal → Outcome
  no_such : Outcome  -- there is no such site or message

-- the set of each site and of each message
pub record Sets : Type 0 where
  pub sites : List (List Piece)
  pub messages : List (List Piece)

-- at the start each site has accepted nothing, and there is no message
abbrev pub start_sets : ℕ → Sets
start_sets sites = record { sites = replicate sites []; messages = [] }

-- the set of a site, and of a message
abbrev pub pieces_at : List (List Piece) → ℕ → List Piece
pieces_at sets number = unwrap_or (slice_get sets number) []

-- a site accepts more pieces
abbrev pub add : Sets → ℕ → List Piece → Sets
add sets site pieces =
    record {
      sites = slice_set sets.sites site (pieces_at sets.sites site ++ pieces);
      messages = sets.messages;
    }

-- the sets after an event with this outcome
abbrev pub sets_after : Sets → Event → Outcome → Sets
sets_after sets (submit site t) accepted = add sets site (text t ∷ [])
sets_after sets (send site) (sent number) =
    record { sites = sets.sites; messages = sets.messages ++ pieces_at sets.sites site ∷ [] }
sets_after sets (deliver site message) accepted = add sets site (pieces_at sets.messages message)
sets_after sets (foreign site bytes) accepted = add sets site (state bytes ∷ [])
sets_after sets event outcome = sets

-- the sets after a whole list of events
abbrev pub reach_sets : Sets → List Event → List Outcome → Sets
reach_sets sets [] outcomes = sets
reach_sets sets (event ∷ events) [] = sets
reach_sets sets (event ∷ events) (outcome ∷ outcomes) = reach_sets (sets_after sets event outcome) events outcomes

-- the site and the message that an event names are there
abbrev pub IsThere : Sets → Event → Type 0
IsThere sets (submit site t) = site < length sets.sites
IsThere sets (send site) = site < length sets.sites
IsThere sets (deliver site message) = (site < length sets.sites) × (message < length sets.messages)
IsThere sets (foreign site bytes) = site < length sets.sites

-- What an event may come to where they are there and memory suffices. A site's own message is never
-- refused.
abbrev pub IsAnswerOutcome : {T : Type 0} → Meaning T → Sets → Event → Outcome → Type 0
IsAnswerOutcome m sets (submit site t) accepted = m.IsLegal t
IsAnswerOutcome m sets (submit site t) (refused why) = m.IsTextFault t why
IsAnswerOutcome m sets (send site) (sent number) = number ≡ length sets.messages
IsAnswerOutcome m sets (deliver site message) accepted = Unit {0}
IsAnswerOutcome m sets (foreign site bytes) accepted = m.IsState bytes
IsAnswerOutcome m sets (foreign site bytes) (refused why) = m.IsStateFault bytes why
IsAnswerOutcome m sets event outcome = ⊥

-- what the event hands in from outside is refused before any memory is wanted
abbrev pub IsRefusedAtOnce : {T : Type 0} → Meaning T → Event → Type 0
IsRefusedAtOnce m (submit site t) = m.IsTextRefusedAtOnce t
IsRefusedAtOnce m (foreign site bytes) = m.IsStateRefusedAtOnce bytes
IsRefusedAtOnce m event = ⊥

-- Memory may run out at any event, but hides no fault that is found with none.
abbrev pub IsStarved : {T : Type 0} → Meaning T → Event → Outcome → Type 0
IsStarved m event outcome = (outcome ≡ refused memory) × ¬ IsRefusedAtOnce m event

-- what an event may come to
abbrev pub IsEventOutcome : {T : Type 0} → Meaning T → Sets → Event → Outcome → Type 0
IsEventOutcome m sets event outcome =
    (IsThere sets event × (IsAnswerOutcome m sets event outcome ⊎ IsStarved m event outcome))
    ⊎ ((IsThere sets event → ⊥) × (outcome ≡ no_such))

-- each event has one outcome, and one that it may have at its moment
abbrev pub AreOutcomes : {T : Type 0} → Meaning T → Sets → List Event → List Outcome → Type 0
AreOutcomes m sets [] [] = Unit {0}
AreOutcomes m sets (event ∷ events) (outcome ∷ outcomes) =
    IsEventOutcome m sets event outcome × AreOutcomes m (sets_after sets event outcome) events outcomes
AreOutcomes m sets events outcomes = ⊥

-- R holds of each two elements at one place, and there are as many of the one as of the other
abbrev pub AllAlong : {X Y : Type 0} → (X → Y → Type 0) → List X → List Y → Type 0
AllAlong R [] [] = Unit {0}
AllAlong R (x ∷ xs) (y ∷ ys) = R x y × AllAlong R xs ys
AllAlong R xs ys = ⊥

-- a site's table is valid, and the unification of exactly these pieces: it refuses what one of them
-- refuses
abbrev pub IsUnified : {T : Type 0} → Meaning T → T → List Piece → Type 0
IsUnified m table pieces =
    m.IsValid table × SameAnswers (m.table_refuses table) (pieces_refuse m pieces)

-- a message has the bytes that a site writes for the table that is the unification of exactly these
-- pieces
abbrev pub IsMessageOf : {T : Type 0} → Meaning T → List ℕ → List Piece → Type 0
IsMessageOf {T} m bytes pieces = (table : T) × IsUnified m table pieces × (bytes ≡ m.written table)
