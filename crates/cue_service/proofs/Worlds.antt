-- Calls that are answered, as events of a world.
use Rattle.std.proofs.Common.{◌≡◌, ◌≢◌, ◌⊎◌, ◌<◌, ◌^◌, ℕ, zero, suc, List, [], ◌∷◌, ◌++◌, length, Some, refl, sym, ap, ◌∙◌, subst, inl, inr, ⊎_elim, arith, codes, get_or}
use Rattle.std.specs.Prelude.{slice_get, slice_set}
use Rattle.std.specs.Str.{bytes_eq}
use Rattle.std.proofs.lemmas.Bool.{cases_Bool, false≢true}
use Rattle.std.proofs.lemmas.Slice.Eq.{bytes_eq-Decides}
use Rattle.cue_lattice.specs.Question.{Refusals, SameAnswers}
use Rattle.cue_lattice.specs.World as world
use Rattle.cue_lattice.specs.World.{Piece, Sets, IsUnified, IsMessageOf, IsSoundLanguage, piece_refuses, pieces_at, pieces_refuse, reach_sets, text, state}
use Rattle.cue_replica.specs.Accepted.{IsAcceptable}
use Rattle.cue_replica.specs.Language.{Table, language}
use Rattle.cue_replica.specs.Replica.{AddsRefusals}
use Rattle.cue_replica.proofs.Adding.{one_piece, unified_more}
use Rattle.cue_replica.proofs.Along.{length-along, along_at, along_set, along_push, set_same, found_within}
use Rattle.cue_replica.specs.declared.question.SiteQuestion.{SiteQuestion}
use Rattle.cue_replica.specs.declared.question.SiteQuestion.TheVariants as questions
use Rattle.http.specs.declared.request.Request.{Request}
use Rattle.http.specs.Request.{head_of}
use Rattle.http_server.specs.declared.response.Response.{Response}
use Rattle.http_server.specs.Response.{IsResponse}
use Rattle.http_server.specs.Exchange.{Call}
use Rattle.cue_service.specs.declared.desk.SiteCore.{SiteCore}
use Rattle.cue_service.specs.declared.site.Site.{Site}
use Rattle.cue_service.specs.declared.route.Route.{Route}
use Rattle.cue_service.specs.declared.route.Route.TheVariants.{Ask, Pieces, Take, Health, Metrics, Page, OtherMethod, Unknown}
use Rattle.cue_service.specs.declared.route.PieceKind.{PieceKind}
use Rattle.cue_service.specs.declared.route.PieceKind.TheVariants as hands
use Rattle.cue_service.specs.Requests.{IsRoute, path_of}
use Rattle.cue_service.specs.Answering.{AnswersRequest, AnswersAs, IsAsked, IsSame, IsSpared, IsPieceTaken, LeavesUnanswered, GathersPieces}
use Rattle.cue_service.specs.Refusals.{bytes_in}
use Rattle.cue_service.specs.Statuses.{place_fields}
use Rattle.cue_service.specs.Promise.{acknowledged_by}
use Rattle.cue_service.specs.Worlds.{IsSiteWorld, IsStateAnswer, AreSiteEventsOf, SiteEventsLeadTo, TookOver, IsPieceIn, TookPieces, AreCallsEvents, AreGathersEvents, AreGatheredPiecesEvents}
use Rattle.cue_service.proofs.Rounds.{Moves, moved}

-- a site accepts pieces
accepts : (tables : List Table) (messages : List (List ℕ)) (sets : Sets) (site : ℕ) (before after : Table) (added : Refusals) (more : List Piece)
    → IsSiteWorld tables messages sets → slice_get tables site ≡ Some before → AddsRefusals before added after → language.IsValid after
    → SameAnswers added (pieces_refuse language more) → IsSiteWorld (slice_set tables site after) messages (world.add sets site more)
accepts tables messages sets site before after added more w found adds valid same =
    let here = along_at (IsUnified language) tables sets.sites site before [] w.sites found in
    record {
      sites = along_set (IsUnified language) tables sets.sites site after (pieces_at sets.sites site ++ more) w.sites
          (unified_more before after added (pieces_at sets.sites site) more here adds valid same);
      sent = w.sent;
    }

-- the world as it was
kept : (tables : List Table) (messages : List (List ℕ)) (sets : Sets) (site : ℕ) (before after : Table)
    → IsSiteWorld tables messages sets → slice_get tables site ≡ Some before → after ≡ before → IsSiteWorld (slice_set tables site after) messages sets
kept tables messages sets site before after w found same =
    subst (λ ts. IsSiteWorld ts messages sets) (sym (ap (λ (t : Table). slice_set tables site t) same ∙ set_same tables site before found)) w

there : (tables : List Table) (messages : List (List ℕ)) (sets : Sets) (site : ℕ) (before : Table) → IsSiteWorld tables messages sets → slice_get tables site ≡ Some before → site < length sets.sites
there tables messages sets site before w found =
    let within = found_within tables site before found in
    omega (arith, within, length-along (IsUnified language) tables sets.sites w.sites)

-- no event
nothing : (tables : List Table) (messages messages' : List (List ℕ)) (sets : Sets) (site : ℕ) (before after : Table) (events : List world.Event)
    → IsSiteWorld tables messages sets → slice_get tables site ≡ Some before → after ≡ before → events ≡ [] → messages' ≡ messages
    → SiteEventsLeadTo sets events (slice_set tables site after) messages'
nothing tables messages messages' sets site before after events w found same none kept_messages =
    subst (λ es. SiteEventsLeadTo sets es (slice_set tables site after) messages') (sym none)
    (subst (λ ms. SiteEventsLeadTo sets [] (slice_set tables site after) ms) (sym kept_messages)
    ([], tt, kept tables messages sets site before after w found same))

-- a text is taken
takes_text : (tables : List Table) (messages : List (List ℕ)) (sets : Sets) (site : ℕ) (before after : Table) (t : List ℕ)
    → IsSiteWorld tables messages sets → slice_get tables site ≡ Some before → language.IsLegal t → AddsRefusals before (language.text_refuses t) after → language.IsValid after
    → SiteEventsLeadTo sets (world.submit site t ∷ []) (slice_set tables site after) messages
takes_text tables messages sets site before after t w found legal adds valid = (
  world.accepted ∷ [],
  (inl (there tables messages sets site before w found, inl legal), tt),
  accepts tables messages sets site before after (language.text_refuses t) (world.text t ∷ []) w found adds valid (one_piece (world.text t)),
)

-- bytes from outside are taken
takes_foreign : (tables : List Table) (messages : List (List ℕ)) (sets : Sets) (site : ℕ) (before after : Table) (bytes : List ℕ)
    → IsSiteWorld tables messages sets → slice_get tables site ≡ Some before → language.IsState bytes → AddsRefusals before (language.state_refuses bytes) after → language.IsValid after
    → SiteEventsLeadTo sets (world.foreign site bytes ∷ []) (slice_set tables site after) messages
takes_foreign tables messages sets site before after bytes w found is_state adds valid = (
  world.accepted ∷ [],
  (inl (there tables messages sets site before w found, inl is_state), tt),
  accepts tables messages sets site before after (language.state_refuses bytes) (world.state bytes ∷ []) w found adds valid (one_piece (world.state bytes)),
)

-- a message is read as the unification of its pieces
read_back : IsSoundLanguage Table language → (bytes : List ℕ) (pieces : List Piece) → length bytes < 2 ^ 64 → IsMessageOf language bytes pieces
    → language.IsState bytes × SameAnswers (language.state_refuses bytes) (pieces_refuse language pieces)
read_back sound bytes pieces held sent =
    let own = sound.reads_own sent.0 sent.1.0 (subst (λ (b : List ℕ). length b < 2 ^ 64) sent.2 held) in
    let P : List ℕ → Type 0 = λ b. language.IsState b × SameAnswers (language.state_refuses b) (pieces_refuse language pieces) in
    subst P (sym sent.2) (
      own.0,
      λ path question.
          let o = own.1 path question in
          let u = sent.1.1 path question in
          (λ h. u.0 (o.0 h), λ h. o.1 (u.1 h)),
    )

message_there : (tables : List Table) (messages : List (List ℕ)) (sets : Sets) (site number : ℕ) (before : Table) (bytes : List ℕ)
    → IsSiteWorld tables messages sets → slice_get tables site ≡ Some before → slice_get messages number ≡ Some bytes
    → (site < length sets.sites) × (number < length sets.messages)
message_there tables messages sets site number before bytes w found sent =
    let within = found_within messages number bytes sent in
    (there tables messages sets site before w found, omega (arith, within, length-along (IsMessageOf language) messages sets.messages w.sent))

-- a message is taken
takes_message : IsSoundLanguage Table language → (tables : List Table) (messages : List (List ℕ)) (sets : Sets) (site number : ℕ) (before after : Table) (bytes : List ℕ)
    → IsSiteWorld tables messages sets → slice_get tables site ≡ Some before → slice_get messages number ≡ Some bytes → length bytes < 2 ^ 64
    → AddsRefusals before (language.state_refuses bytes) after → language.IsValid after
    → SiteEventsLeadTo sets (world.deliver site number ∷ []) (slice_set tables site after) messages
takes_message sound tables messages sets site number before after bytes w found sent fits adds valid =
    let known = along_at (IsMessageOf language) messages sets.messages number bytes [] w.sent sent in
    let back = read_back sound bytes (pieces_at sets.messages number) fits known in
    let within = found_within messages number bytes sent in (
      world.accepted ∷ [],
      (inl ((there tables messages sets site before w found, omega (arith, within, length-along (IsMessageOf language) messages sets.messages w.sent)), inl tt), tt),
      accepts tables messages sets site before after (language.state_refuses bytes) (pieces_at sets.messages number) w found adds valid back.1,
    )

-- the state is sent
sends : (tables : List Table) (messages : List (List ℕ)) (sets : Sets) (site : ℕ) (before : Table)
    → IsSiteWorld tables messages sets → slice_get tables site ≡ Some before
    → SiteEventsLeadTo sets (world.send site ∷ []) (slice_set tables site before) (messages ++ language.written before ∷ [])
sends tables messages sets site before w found =
    let here = along_at (IsUnified language) tables sets.sites site before [] w.sites found in
    let next : IsSiteWorld tables (messages ++ language.written before ∷ []) (world.sets_after sets (world.send site) (world.sent (length sets.messages))) =
    record {
      sites = w.sites;
      sent = along_push (IsMessageOf language) messages sets.messages (language.written before) (pieces_at sets.sites site) w.sent (before, here, refl);
    } in (
      world.sent (length sets.messages) ∷ [],
      (inl (there tables messages sets site before w found, inl refl), tt),
      kept tables (messages ++ language.written before ∷ []) (world.sets_after sets (world.send site) (world.sent (length sets.messages))) site before before next found refl,
    )

-- some events, and then more
then : (sets : Sets) (now later : List world.Event) (tables tables' : List Table) (messages messages' : List (List ℕ))
    → (first : SiteEventsLeadTo sets now tables messages) → SiteEventsLeadTo (reach_sets sets now first.0) later tables' messages' → SiteEventsLeadTo sets (now ++ later) tables' messages'
then sets [] later tables tables' messages messages' first second = with_none first second
  where
    with_none : (first : SiteEventsLeadTo sets [] tables messages) → SiteEventsLeadTo (reach_sets sets [] first.0) later tables' messages' → SiteEventsLeadTo sets later tables' messages'
    with_none first second = second
then sets (event ∷ now) later tables tables' messages messages' ([], bad, w) second = absurd bad
then sets (event ∷ now) later tables tables' messages messages' (outcome ∷ outcomes, good, w) second =
    let rest = then (world.sets_after sets event outcome) now later tables tables' messages messages' (outcomes, good.1, w) second in
    (outcome ∷ rest.0, (good.0, rest.1), rest.2)

set_again : {X : Type 0} (xs : List X) (i : ℕ) (x y : X) → slice_set (slice_set xs i x) i y ≡ slice_set xs i y
set_again [] i x y = refl
set_again (z ∷ xs) zero x y = refl
set_again (z ∷ xs) (suc i) x y = ap (λ zs. z ∷ zs) (set_again xs i x y)

get_again : {X : Type 0} (xs : List X) (i : ℕ) (x y : X) → slice_get xs i ≡ Some x → slice_get (slice_set xs i y) i ≡ Some y
get_again [] i x y e = cc
get_again (z ∷ xs) zero x y e = refl
get_again (z ∷ xs) (suc i) x y e = get_again xs i x y e

-- bytes that are of no message behind the first, and not of that
not_sent : (bytes message : List ℕ) (messages : List (List ℕ)) → (message ≡ bytes → ⊥) → ((number : ℕ) → slice_get messages number ≢ Some bytes)
    → (number : ℕ) → slice_get (message ∷ messages) number ≢ Some bytes
not_sent bytes message messages other none zero = λ e. other cc
not_sent bytes message messages other none (suc number) = none number

-- bytes are those of a message, or of none
message_or_not : (bytes : List ℕ) (messages : List (List ℕ))
    → ((number : ℕ) × (slice_get messages number ≡ Some bytes)) ⊎ ((number : ℕ) → slice_get messages number ≢ Some bytes)
message_or_not bytes [] = inr (λ number e. cc)
message_or_not bytes (message ∷ messages) = elim (cases_Bool (bytes_eq message bytes)) [
  | inl e ↦ inl (0, ap (λ (b : List ℕ). Some b) ((bytes_eq-Decides message bytes).0 e))
  | inr e ↦ elim (message_or_not bytes messages) [
    | inl sent ↦ inl (suc sent.0, sent.1)
    | inr none ↦ inr (not_sent bytes message messages (λ same. false≢true (sym e ∙ (bytes_eq-Decides message bytes).1 same)) none)
  ]
]

-- state bytes are taken
takes_state : IsSoundLanguage Table language → (tables : List Table) (messages : List (List ℕ)) (sets : Sets) (site : ℕ) (before after : Table) (bytes : List ℕ)
    → IsSiteWorld tables messages sets → slice_get tables site ≡ Some before → length bytes < 2 ^ 64 → language.IsState bytes → AddsRefusals before (language.state_refuses bytes) after → language.IsValid after
    → TookOver site bytes messages tables sets after
takes_state sound tables messages sets site before after bytes w found fits is_state adds valid = by (message_or_not bytes messages)
  where
    by : ((number : ℕ) × (slice_get messages number ≡ Some bytes)) ⊎ ((number : ℕ) → slice_get messages number ≢ Some bytes) → TookOver site bytes messages tables sets after
    by (inl sent) = record {
      events = world.deliver site sent.0 ∷ [];
      are = inl (sent.0, sent.1, refl);
      comes = takes_message sound tables messages sets site sent.0 before after bytes w found sent.1 fits adds valid;
    }
    by (inr none) = record {
      events = world.foreign site bytes ∷ [];
      are = inr (none, refl);
      comes = takes_foreign tables messages sets site before after bytes w found is_state adds valid;
    }

-- what one call does to a world
record Called (site : ℕ) (call : Call) (messages : List (List ℕ)) (tables : List Table) (sets : Sets) (after : Table) : Type 0 where
  events : List world.Event
  messages' : List (List ℕ)
  are : AreSiteEventsOf site call messages events messages'
  comes : SiteEventsLeadTo sets events (slice_set tables site after) messages'

-- a piece is taken
takes_piece : IsSoundLanguage Table language → (tables : List Table) (messages : List (List ℕ)) (sets : Sets) (site : ℕ) (old new : SiteCore) (call : Call) (piece : Piece)
    → IsSiteWorld tables messages sets → slice_get tables site ≡ Some old.board → length (bytes_in piece) < 2 ^ 64 → IsAcceptable piece
    → AddsRefusals old.board (piece_refuses language piece) new.board → language.IsValid new.board → acknowledged_by call ≡ piece ∷ []
    → Called site call messages tables sets new.board
takes_piece sound tables messages sets site old new call (text t) w found fits acceptable adds valid is = record {
  events = world.submit site t ∷ [];
  messages' = messages;
  are = inl (text t, is, refl, refl);
  comes = takes_text tables messages sets site old.board new.board t w found acceptable adds valid;
}
takes_piece sound tables messages sets site old new call (state bytes) w found fits acceptable adds valid is =
    let done = takes_state sound tables messages sets site old.board new.board bytes w found fits acceptable adds valid in
    record {
      events = done.events;
      messages' = messages;
      are = inl (state bytes, is, done.are, refl);
      comes = done.comes;
    }

-- words that differ
other_at : (i : ℕ) (a b : List ℕ) → get_or a i 0 ≢ get_or b i 0 → a ≢ b
other_at i a b differ e = differ (ap (λ (l : List ℕ). get_or l i 0) e)

other_path : (path : List ℕ) (request : Request (List ℕ)) (response : Response) → path_of request ≡ path → path ≢ codes "/state" → ¬ IsStateAnswer (request, response)
other_path path request response is differ asked = differ (sym is ∙ asked.0.1)

other_status : (code : ℕ) (request : Request (List ℕ)) (response : Response) → response.status ≡ code → code ≢ 200 → ¬ IsStateAnswer (request, response)
other_status code request response is differ asked = differ (sym is ∙ asked.1)

-- a call that changes nothing sends the state, or is no event
abbrev is_quiet : SiteCore → Request (List ℕ) → Response → Type 0
is_quiet old request response = (IsStateAnswer (request, response) × (response.body.items ≡ language.written old.board)) ⊎ (¬ IsStateAnswer (request, response))

asked_quiet : (question : SiteQuestion) (old new : SiteCore) (request : Request (List ℕ)) (response : Response) → IsRoute (Ask question) request → IsAsked old.rules.limit question old.board request (place_fields question old.pieces) response → is_quiet old request response
asked_quiet question old new request response route (inl known) = inr (other_status 304 request response known.answer.status (omega arith))
asked_quiet question old new request response route (inr (inr long)) = inr (other_status 507 request response long.answer.0 (omega arith))
asked_quiet questions.Export old new request response route (inr (inl told)) = inr (other_path (codes "/export") request response route.1 (other_at 1 _ _ (omega arith)))
asked_quiet questions.Print old new request response route (inr (inl told)) = inr (other_path (codes "/print") request response route.1 (other_at 1 _ _ (omega arith)))
asked_quiet questions.Report old new request response route (inr (inl told)) = inr (other_path (codes "/report") request response route.1 (other_at 1 _ _ (omega arith)))
asked_quiet questions.State old new request response route (inr (inl told)) = inl ((route, told.answer.status), told.answer.body ∙ told.whole.0)

quiet : (route : Route) (old new : SiteCore) (request : Request (List ℕ)) (response : Response) → IsRoute route request → AnswersAs route old request response new → is_quiet old request response
quiet (Ask question) old new request response is a = asked_quiet question old new request response is a.1
quiet Pieces old new request response is a = inr (other_path (codes "/pieces") request response is.1 (other_at 1 _ _ (omega arith)))
quiet (Take hand) old new request response is a = inr (posted hand is)
  where
    method : (hand : PieceKind) → IsRoute (Take hand) request → (head_of request).method ≡ codes "POST"
    method hands.Text r = r.0
    method hands.State r = r.0

    posted : (hand : PieceKind) → IsRoute (Take hand) request → ¬ IsStateAnswer (request, response)
    posted hand r asked = ⊎_elim (λ e. other_at 0 (codes "GET") (codes "POST") (omega arith) (sym e ∙ method hand r)) (λ e. other_at 0 (codes "HEAD") (codes "POST") (omega arith) (sym e ∙ method hand r)) asked.0.0
quiet Health old new request response is a = inr (other_path (codes "/healthz") request response is.1 (other_at 1 _ _ (omega arith)))
quiet Metrics old new request response is a = inr (other_path (codes "/metrics") request response is.1 (other_at 1 _ _ (omega arith)))
quiet Page old new request response is a = inr (other_path (codes "/") request response is.1 (other_at 1 _ _ (omega arith)))
quiet OtherMethod old new request response is a = inr (other_status 405 request response a.1.status (omega arith))
quiet Unknown old new request response is a = inr (other_status 404 request response a.1.status (omega arith))

is_quiet_call : (old new : SiteCore) (request : Request (List ℕ)) (response : Response) → AnswersRequest old request response new → is_quiet old request response
is_quiet_call old new request response answers = by answers.2
  where
    by : AnswersAs answers.0 old request response new ⊎ (LeavesUnanswered answers.0 old new × IsResponse 507 [] [] response) → is_quiet old request response
    by (inl told) = quiet answers.0 old new request response answers.1 told
    by (inr wanting) = inr (other_status 507 request response wanting.1.status (omega arith))

-- one call
one_call : IsSoundLanguage Table language → (site : ℕ) (old new : SiteCore) (request : Request (List ℕ)) (response : Response) (messages : List (List ℕ)) (tables : List Table) (sets : Sets)
    → AnswersRequest old request response new → slice_get tables site ≡ Some old.board → IsSiteWorld tables messages sets
    → Called site (request, response) messages tables sets new.board
one_call sound site old new request response messages tables sets answers found w = by (moved old new request response answers)
  where
    still : IsSpared old new → acknowledged_by (request, response) ≡ [] → is_quiet old request response → Called site (request, response) messages tables sets new.board
    still same none (inl sent) = record {
      events = world.send site ∷ [];
      messages' = messages ++ response.body.items ∷ [];
      are = inr (none, inl (sent.0, refl, refl));
      comes = subst (λ (t : Table). SiteEventsLeadTo sets (world.send site ∷ []) (slice_set tables site t) (messages ++ response.body.items ∷ [])) (sym same.table)
          (subst (λ (b : List ℕ). SiteEventsLeadTo sets (world.send site ∷ []) (slice_set tables site old.board) (messages ++ b ∷ [])) (sym sent.1) (sends tables messages sets site old.board w found));
    }
    still same none (inr other) = record {
      events = [];
      messages' = messages;
      are = inr (none, inr (other, refl, refl));
      comes = nothing tables messages messages sets site old.board new.board [] w found same.table refl refl;
    }

    by : Moves old request response new → Called site (request, response) messages tables sets new.board
    by (inl taken) = takes_piece sound tables messages sets site old new (request, response) taken.0 w found taken.1.fits taken.1.acceptable taken.1.adds taken.1.valid taken.2
    by (inr (inl known)) = takes_piece sound tables messages sets site old new (request, response) known.0 w found known.1.fits known.1.acceptable known.1.adds known.1.valid known.2
    by (inr (inr same)) = still same.0 same.1 (is_quiet_call old new request response answers)

pub are_calls_events : {D : Type 0} → IsSoundLanguage Table language → (seen : D → List ℕ) (may_leave : D → List ℕ → Type 0) → AreCallsEvents seen may_leave
are_calls_events {D = D} sound seen may_leave number old called [] messages tables sets same found w = record {
  events = [];
  messages' = messages;
  are = (refl, refl);
  comes = nothing tables messages messages sets number old.desk.board called.desk.board [] w found (ap (λ (s : Site D). s.desk.board) same) refl refl;
}
are_calls_events {D = D} sound seen may_leave number old called (call ∷ calls) messages tables sets chain found w =
    let between = chain.0.desk.board in
    let here = one_call sound number old.desk chain.0.desk call.0 call.1 messages tables sets chain.1.answer found w in
    let next = are_calls_events sound seen may_leave number chain.0 called calls here.messages' (slice_set tables number between) (reach_sets sets here.events here.comes.0) chain.2 (get_again tables number old.desk.board between found) here.comes.2 in
    record {
      events = here.events ++ next.events;
      messages' = next.messages';
      are = (here.events, next.events, here.messages', here.are, next.are, refl);
      comes = then sets here.events next.events (slice_set tables number between) (slice_set tables number called.desk.board) here.messages' next.messages' here.comes
          (subst (λ ts. SiteEventsLeadTo (reach_sets sets here.events here.comes.0) next.events ts next.messages') (set_again tables number between called.desk.board) next.comes);
    }

pub are_gathers_events : {D : Type 0} → IsSoundLanguage Table language → (seen : D → List ℕ) (may_leave : D → List ℕ → Type 0) → AreGathersEvents seen may_leave
are_gathers_events sound seen may_leave number old new bytes messages tables sets gathers found w = by gathers.gathers
  where
    by : IsPieceTaken (state bytes) old.desk new.desk ⊎ IsSame old.desk new.desk → (new.desk.board ≡ old.desk.board) ⊎ TookOver number bytes messages tables sets new.desk.board
    by (inl taken) = inr (takes_state sound tables messages sets number old.desk.board new.desk.board bytes w found taken.fits taken.acceptable taken.adds taken.valid)
    by (inr same) = inl same.table

-- one piece of another site is taken
record TookPiece (site : ℕ) (piece : Piece) (messages : List (List ℕ)) (tables : List Table) (sets : Sets) (after : Table) : Type 0 where
  events : List world.Event
  are : IsPieceIn site piece messages events
  comes : SiteEventsLeadTo sets events (slice_set tables site after) messages

took_piece : IsSoundLanguage Table language → (tables : List Table) (messages : List (List ℕ)) (sets : Sets) (site : ℕ) (old new : SiteCore) (piece : Piece)
    → IsSiteWorld tables messages sets → slice_get tables site ≡ Some old.board → IsPieceTaken piece old new → TookPiece site piece messages tables sets new.board
took_piece sound tables messages sets site old new (text t) w found taken = record {
  events = world.submit site t ∷ [];
  are = refl;
  comes = takes_text tables messages sets site old.board new.board t w found taken.acceptable taken.adds taken.valid;
}
took_piece sound tables messages sets site old new (state bytes) w found taken =
    let done = takes_state sound tables messages sets site old.board new.board bytes w found taken.fits taken.acceptable taken.adds taken.valid in
    record { events = done.events; are = done.are; comes = done.comes }

-- pieces of another site are taken, one after the other
took_pieces : IsSoundLanguage Table language → (pieces : List Piece) (site : ℕ) (old new : SiteCore) (messages : List (List ℕ)) (tables : List Table) (sets : Sets)
    → GathersPieces pieces old new → slice_get tables site ≡ Some old.board → IsSiteWorld tables messages sets
    → TookPieces site pieces messages tables sets new.board
took_pieces sound [] site old new messages tables sets same found w = record {
  events = [];
  are = refl;
  comes = nothing tables messages messages sets site old.board new.board [] w found same.table refl refl;
}
took_pieces sound (piece ∷ pieces) site old new messages tables sets gathers found w = elim gathers.1 [
  | inl taken ↦
      let between = gathers.0.board in
      let first = took_piece sound tables messages sets site old gathers.0 piece w found taken in
      let rest = took_pieces sound pieces site gathers.0 new messages (slice_set tables site between) (reach_sets sets first.events first.comes.0) gathers.2 (get_again tables site old.board between found) first.comes.2 in
      record {
        events = first.events ++ rest.events;
        are = inr (first.events, rest.events, first.are, rest.are, refl);
        comes = then sets first.events rest.events (slice_set tables site between) (slice_set tables site new.board) messages messages first.comes
            (subst (λ ts. SiteEventsLeadTo (reach_sets sets first.events first.comes.0) rest.events ts messages) (set_again tables site between new.board) rest.comes);
      }
  | inr same ↦
      let rest = took_pieces sound pieces site gathers.0 new messages tables sets gathers.2 (found ∙ ap (λ (t : Table). Some t) (sym same.table)) w in
      record { events = rest.events; are = inl rest.are; comes = rest.comes }
]

pub are_pieces_events : {D : Type 0} → IsSoundLanguage Table language → (seen : D → List ℕ) (may_leave : D → List ℕ → Type 0) → AreGatheredPiecesEvents seen may_leave
are_pieces_events sound seen may_leave number old new pieces messages tables sets gathers found w = took_pieces sound pieces number old.desk new.desk messages tables sets gathers.gathers found w
