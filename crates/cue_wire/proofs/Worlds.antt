-- Frames that are served, as events of a world.
use Rattle.std.proofs.Common.{◌≡◌, ◌≢◌, ◌⊎◌, ◌<◌, ◌^◌, ℕ, zero, suc, List, [], ◌∷◌, ◌++◌, length, Some, All, refl, sym, ap, ◌∙◌, subst, inl, inr, ⊎_elim, arith}
use Rattle.std.specs.Prelude.{slice_get, slice_set}
use Rattle.std.specs.Str.{bytes_eq}
use Rattle.std.proofs.lemmas.Bool.{cases_lt, cases_Bool, false≢true}
use Rattle.std.proofs.lemmas.Slice.Eq.{bytes_eq-Decides}
use Rattle.std.proofs.lemmas.List.Elements.{All-head, All-tail}
use Rattle.cue_lattice.specs.Question.{Refusals, SameAnswers}
use Rattle.cue_lattice.specs.World as world
use Rattle.cue_lattice.specs.World.{Piece, Sets, IsUnified, IsMessageOf, IsSoundLanguage, pieces_at, pieces_refuse, reach_sets}
use Rattle.cue_replica.specs.declared.world.Outcome as steps
use Rattle.cue_replica.specs.Language.{Table, language}
use Rattle.cue_replica.specs.Replica.{AddsRefusals}
use Rattle.cue_replica.specs.World.{SubmitsText, TakesState}
use Rattle.cue_replica.proofs.Adding.{one_piece, unified_more}
use Rattle.cue_replica.proofs.Along.{length-along, along_at, along_set, along_push, set_same, found_within}
use Rattle.cue_replica.specs.declared.question.SiteQuestion.TheVariants as questions
use Rattle.cue_wire.specs.Frames.{frame_limit, IsBody}
use Rattle.cue_wire.specs.Requests.{Request, text, state, ask, body_of_request, IsRequest}
use Rattle.cue_wire.specs.Serving.{AnswersRequests, IsHandedRequest, Serves, ServesAll}
use Rattle.cue_wire.specs.Worlds.{IsWireWorld, IsHandedByFrame, ReplyTells, IsSent, IsNothing, AreWireEventsOf, ServesIn, ServesAllIn, WireEventsLeadTo, AreEvents}

-- a site accepts pieces
accepts : (tables : List Table) (messages : List (List ℕ)) (sets : Sets) (site : ℕ) (before after : Table) (added : Refusals) (more : List Piece)
    → IsWireWorld tables messages sets → slice_get tables site ≡ Some before → AddsRefusals before added after → language.IsValid after
    → SameAnswers added (pieces_refuse language more) → IsWireWorld (slice_set tables site after) messages (world.add sets site more)
accepts tables messages sets site before after added more w found adds valid same =
    let here = along_at (IsUnified language) tables sets.sites site before [] w.sites found in
    record {
      sites = along_set (IsUnified language) tables sets.sites site after (pieces_at sets.sites site ++ more) w.sites
          (unified_more before after added (pieces_at sets.sites site) more here adds valid same);
      sent = w.sent;
    }

-- the world as it was
kept : (tables : List Table) (messages : List (List ℕ)) (sets : Sets) (site : ℕ) (before after : Table)
    → IsWireWorld tables messages sets → slice_get tables site ≡ Some before → after ≡ before → IsWireWorld (slice_set tables site after) messages sets
kept tables messages sets site before after w found same =
    subst (λ ts. IsWireWorld ts messages sets) (sym (ap (λ (t : Table). slice_set tables site t) same ∙ set_same tables site before found)) w

there : (tables : List Table) (messages : List (List ℕ)) (sets : Sets) (site : ℕ) (before : Table) → IsWireWorld tables messages sets → slice_get tables site ≡ Some before → site < length sets.sites
there tables messages sets site before w found =
    let within = found_within tables site before found in
    omega (arith, within, length-along (IsUnified language) tables sets.sites w.sites)

-- no event
nothing : (tables : List Table) (messages messages' : List (List ℕ)) (sets : Sets) (site : ℕ) (before after : Table) (events : List world.Event) (outcomes : List world.Outcome)
    → IsWireWorld tables messages sets → slice_get tables site ≡ Some before → after ≡ before → IsNothing messages events outcomes messages'
    → WireEventsLeadTo sets events outcomes (slice_set tables site after) messages'
nothing tables messages messages' sets site before after events outcomes w found same none =
    subst (λ es. WireEventsLeadTo sets es outcomes (slice_set tables site after) messages') (sym none.0)
    (subst (λ os. WireEventsLeadTo sets [] os (slice_set tables site after) messages') (sym none.1)
    (subst (λ ms. WireEventsLeadTo sets [] [] (slice_set tables site after) ms) (sym none.2)
    (tt, kept tables messages sets site before after w found same)))

-- a text
submits : (tables : List Table) (messages : List (List ℕ)) (sets : Sets) (site : ℕ) (before after : Table) (t reply : List ℕ) (outcome : world.Outcome)
    → IsWireWorld tables messages sets → slice_get tables site ≡ Some before → ReplyTells (SubmitsText t) before after outcome reply
    → WireEventsLeadTo sets (world.submit site t ∷ []) (outcome ∷ []) (slice_set tables site after) messages
submits tables messages sets site before after t reply world.accepted w found done = (
  (inl (there tables messages sets site before w found, inl done.0.0), tt),
  accepts tables messages sets site before after (language.text_refuses t) (world.text t ∷ []) w found done.0.1 done.0.2 (one_piece (world.text t)),
)
submits tables messages sets site before after t reply (world.refused why) w found told = (
  (inl (there tables messages sets site before w found, inl (⊎_elim (λ m. absurd (told.0 m.0)) (λ fault. fault) told.1.1)), tt),
  kept tables messages sets site before after w found told.1.0,
)
submits tables messages sets site before after t reply (world.sent number) w found told = absurd told
submits tables messages sets site before after t reply world.no_such w found told = absurd told

-- bytes from outside
takes_foreign : (tables : List Table) (messages : List (List ℕ)) (sets : Sets) (site : ℕ) (before after : Table) (bytes reply : List ℕ) (outcome : world.Outcome)
    → IsWireWorld tables messages sets → slice_get tables site ≡ Some before → ReplyTells (TakesState bytes) before after outcome reply
    → WireEventsLeadTo sets (world.foreign site bytes ∷ []) (outcome ∷ []) (slice_set tables site after) messages
takes_foreign tables messages sets site before after bytes reply world.accepted w found done = (
  (inl (there tables messages sets site before w found, inl done.0.0), tt),
  accepts tables messages sets site before after (language.state_refuses bytes) (world.state bytes ∷ []) w found done.0.1 done.0.2 (one_piece (world.state bytes)),
)
takes_foreign tables messages sets site before after bytes reply (world.refused why) w found told = (
  (inl (there tables messages sets site before w found, inl (⊎_elim (λ m. absurd (told.0 m.0)) (λ fault. fault) told.1.1)), tt),
  kept tables messages sets site before after w found told.1.0,
)
takes_foreign tables messages sets site before after bytes reply (world.sent number) w found told = absurd told
takes_foreign tables messages sets site before after bytes reply world.no_such w found told = absurd told

-- a message is read as the unification of its pieces
read_back : IsSoundLanguage Table language → (bytes : List ℕ) (pieces : List Piece) → length bytes < 2 ^ 64 → IsMessageOf language bytes pieces
    → language.IsState bytes × SameAnswers (language.state_refuses bytes) (pieces_refuse language pieces)
read_back sound bytes pieces held sent =
    let own = sound.reads_own sent.0 sent.1.0 (subst (λ (b : List ℕ). length b < 2 ^ 64) sent.2 held) in
    let P : List ℕ → Type 0 = λ b. language.IsState b × SameAnswers (language.state_refuses b) (pieces_refuse language pieces) in
    subst P (sym sent.2) (
      own.0,
      λ path question.
          let o = own.1 path question in
          let u = sent.1.1 path question in
          (λ h. u.0 (o.0 h), λ h. o.1 (u.1 h)),
    )

message_there : (tables : List Table) (messages : List (List ℕ)) (sets : Sets) (site number : ℕ) (before : Table) (bytes : List ℕ)
    → IsWireWorld tables messages sets → slice_get tables site ≡ Some before → slice_get messages number ≡ Some bytes
    → (site < length sets.sites) × (number < length sets.messages)
message_there tables messages sets site number before bytes w found sent =
    let within = found_within messages number bytes sent in
    (there tables messages sets site before w found, omega (arith, within, length-along (IsMessageOf language) messages sets.messages w.sent))

-- a message
takes_message : IsSoundLanguage Table language → (tables : List Table) (messages : List (List ℕ)) (sets : Sets) (site number : ℕ) (before after : Table) (bytes reply : List ℕ) (outcome : world.Outcome)
    → IsWireWorld tables messages sets → slice_get tables site ≡ Some before → slice_get messages number ≡ Some bytes → length bytes < 2 ^ 64
    → ReplyTells (TakesState bytes) before after outcome reply
    → WireEventsLeadTo sets (world.deliver site number ∷ []) (outcome ∷ []) (slice_set tables site after) messages
takes_message sound tables messages sets site number before after bytes reply world.accepted w found sent held done =
    let known = along_at (IsMessageOf language) messages sets.messages number bytes [] w.sent sent in
    let back = read_back sound bytes (pieces_at sets.messages number) held known in (
      (inl (message_there tables messages sets site number before bytes w found sent, inl tt), tt),
      accepts tables messages sets site before after (language.state_refuses bytes) (pieces_at sets.messages number) w found done.0.1 done.0.2 back.1,
    )
takes_message sound tables messages sets site number before after bytes reply (world.refused why) w found sent held told =
    let known = along_at (IsMessageOf language) messages sets.messages number bytes [] w.sent sent in
    let back = read_back sound bytes (pieces_at sets.messages number) held known in
    absurd (⊎_elim (λ m. told.0 m.0) (λ fault. sound.no_state_fault bytes why back.0 fault) told.1.1)
takes_message sound tables messages sets site number before after bytes reply (world.sent n) w found sent held told = absurd told
takes_message sound tables messages sets site number before after bytes reply world.no_such w found sent held told = absurd told

-- state bytes
takes : IsSoundLanguage Table language → (tables : List Table) (messages : List (List ℕ)) (sets : Sets) (site : ℕ) (before after : Table) (bytes reply : List ℕ) (events : List world.Event) (outcome : world.Outcome)
    → IsWireWorld tables messages sets → slice_get tables site ≡ Some before → length bytes < 2 ^ 64 → ReplyTells (TakesState bytes) before after outcome reply
    → IsHandedByFrame site bytes messages events → WireEventsLeadTo sets events (outcome ∷ []) (slice_set tables site after) messages
takes sound tables messages sets site before after bytes reply events outcome w found held told (inl is) =
    subst (λ es. WireEventsLeadTo sets es (outcome ∷ []) (slice_set tables site after) messages) (sym is.2)
    (takes_message sound tables messages sets site is.0 before after bytes reply outcome w found is.1 held told)
takes sound tables messages sets site before after bytes reply events outcome w found held told (inr is) =
    subst (λ es. WireEventsLeadTo sets es (outcome ∷ []) (slice_set tables site after) messages) (sym is.1) (takes_foreign tables messages sets site before after bytes reply outcome w found told)

-- a state is asked for
sends : (tables : List Table) (messages messages' : List (List ℕ)) (sets : Sets) (site : ℕ) (before after : Table) (events : List world.Event) (outcomes : List world.Outcome)
    → IsWireWorld tables messages sets → slice_get tables site ≡ Some before → after ≡ before
    → IsSent site (language.written before) messages events outcomes messages' → WireEventsLeadTo sets events outcomes (slice_set tables site after) messages'
sends tables messages messages' sets site before after events outcomes w found same (inr long) =
    nothing tables messages messages' sets site before after events outcomes w found same (long.1, long.2, long.3)
sends tables messages messages' sets site before after events outcomes w found same (inl sent) =
    let here = along_at (IsUnified language) tables sets.sites site before [] w.sites found in
    let next : IsWireWorld tables (messages ++ language.written before ∷ []) (world.sets_after sets (world.send site) (world.sent (length messages))) =
    record {
      sites = w.sites;
      sent = along_push (IsMessageOf language) messages sets.messages (language.written before) (pieces_at sets.sites site) w.sent (before, here, refl);
    } in
    subst (λ es. WireEventsLeadTo sets es outcomes (slice_set tables site after) messages') (sym sent.1)
    (subst (λ os. WireEventsLeadTo sets (world.send site ∷ []) os (slice_set tables site after) messages') (sym sent.2)
    (subst (λ ms. WireEventsLeadTo sets (world.send site ∷ []) (world.sent (length messages) ∷ []) (slice_set tables site after) ms) (sym sent.3) (
      (inl (there tables messages sets site before w found, inl (length-along (IsMessageOf language) messages sets.messages w.sent)), tt),
      kept tables (messages ++ language.written before ∷ []) (world.sets_after sets (world.send site) (world.sent (length messages))) site before after next found same,
    )))

-- a request is no longer than its body
fits_state : (body bytes : List ℕ) → IsBody body → body ≡ body_of_request (state bytes) → length bytes < 2 ^ 64
fits_state body bytes fits is = omega (arith, fits, ap length is)

-- one frame
one_frame : IsSoundLanguage Table language → (site : ℕ) (body : List ℕ) (before after : Table) (reply : List ℕ) (messages : List (List ℕ)) (events : List world.Event) (outcomes : List world.Outcome)
    (messages' : List (List ℕ)) (tables : List Table) (sets : Sets) → ServesIn site body before after reply messages events outcomes messages'
    → IsBody body → slice_get tables site ≡ Some before → IsWireWorld tables messages sets
    → WireEventsLeadTo sets events outcomes (slice_set tables site after) messages'
one_frame sound site body before after reply messages events outcomes messages' tables sets (inr none) fits found w =
    nothing tables messages messages' sets site before after events outcomes w found none.1 none.3
one_frame sound site body before after reply messages events outcomes messages' tables sets (inl some) fits found w =
    requested some.0 some.1 some.2 some.3
  where
    requested : (request : Request) → IsRequest body request → AnswersRequests request before after reply
        → AreWireEventsOf site request before after reply messages events outcomes messages' → WireEventsLeadTo sets events outcomes (slice_set tables site after) messages'
    requested (text t) is answers are =
        subst (λ es. WireEventsLeadTo sets es outcomes (slice_set tables site after) messages') (sym are.0)
        (subst (λ os. WireEventsLeadTo sets (world.submit site t ∷ []) os (slice_set tables site after) messages') (sym are.1.1)
        (subst (λ ms. WireEventsLeadTo sets (world.submit site t ∷ []) (are.1.0 ∷ []) (slice_set tables site after) ms) (sym are.2)
        (submits tables messages sets site before after t reply are.1.0 w found are.1.2)))
    requested (state bytes) is answers are =
        subst (λ os. WireEventsLeadTo sets events os (slice_set tables site after) messages') (sym are.1.1)
        (subst (λ ms. WireEventsLeadTo sets events (are.1.0 ∷ []) (slice_set tables site after) ms) (sym are.2)
        (takes sound tables messages sets site before after bytes reply events are.1.0 w found (fits_state body bytes fits is.0) are.1.2 are.0))
    requested (ask questions.State) is answers are = sends tables messages messages' sets site before after events outcomes w found answers.0 are
    requested (ask questions.Export) is answers are = nothing tables messages messages' sets site before after events outcomes w found answers.0 are
    requested (ask questions.Report) is answers are = nothing tables messages messages' sets site before after events outcomes w found answers.0 are
    requested (ask questions.Print) is answers are = nothing tables messages messages' sets site before after events outcomes w found answers.0 are

-- some events, and then more
then : (sets : Sets) (now later : List world.Event) (told others : List world.Outcome) (tables tables' : List Table) (messages messages' : List (List ℕ))
    → WireEventsLeadTo sets now told tables messages → WireEventsLeadTo (reach_sets sets now told) later others tables' messages' → WireEventsLeadTo sets (now ++ later) (told ++ others) tables' messages'
then sets [] later [] others tables tables' messages messages' first second = second
then sets [] later (outcome ∷ told) others tables tables' messages messages' (bad, w) second = absurd bad
then sets (event ∷ now) later [] others tables tables' messages messages' (bad, w) second = absurd bad
then sets (event ∷ now) later (outcome ∷ told) others tables tables' messages messages' (good, w) second =
    let rest = then (world.sets_after sets event outcome) now later told others tables tables' messages messages' (good.1, w) second in
    ((good.0, rest.0), rest.1)

set_again : {X : Type 0} (xs : List X) (i : ℕ) (x y : X) → slice_set (slice_set xs i x) i y ≡ slice_set xs i y
set_again [] i x y = refl
set_again (z ∷ xs) zero x y = refl
set_again (z ∷ xs) (suc i) x y = ap (λ zs. z ∷ zs) (set_again xs i x y)

get_again : {X : Type 0} (xs : List X) (i : ℕ) (x y : X) → slice_get xs i ≡ Some x → slice_get (slice_set xs i y) i ≡ Some y
get_again [] i x y e = cc
get_again (z ∷ xs) zero x y e = refl
get_again (z ∷ xs) (suc i) x y e = get_again xs i x y e

all_frames : IsSoundLanguage Table language → (site : ℕ) (bodies : List (List ℕ)) (before after : Table) (replies : List ℕ) (messages : List (List ℕ)) (events : List world.Event) (outcomes : List world.Outcome)
    (messages' : List (List ℕ)) (tables : List Table) (sets : Sets) → ServesAllIn site bodies before after replies messages events outcomes messages'
    → All IsBody bodies → slice_get tables site ≡ Some before → IsWireWorld tables messages sets
    → WireEventsLeadTo sets events outcomes (slice_set tables site after) messages'
unfolding ServesAllIn
all_frames sound site [] before after replies messages events outcomes messages' tables sets served fits found w =
    nothing tables messages messages' sets site before after events outcomes w found served.0 served.2
all_frames sound site (body ∷ bodies) before after replies messages events outcomes messages' tables sets (between, first, rest, now, later, told, others, middle, one, more, joined, are, told_are) fits found w =
    let here = one_frame sound site body before between first messages now told middle tables sets one (All-head IsBody body bodies fits) found w in
    let next = all_frames sound site bodies between after rest middle later others messages' (slice_set tables site between) (reach_sets sets now told) more (All-tail IsBody body bodies fits)
    (get_again tables site before between found) here.1 in
    subst (λ es. WireEventsLeadTo sets es outcomes (slice_set tables site after) messages') (sym are)
    (subst (λ os. WireEventsLeadTo sets (now ++ later) os (slice_set tables site after) messages') (sym told_are)
    (then sets now later told others (slice_set tables site between) (slice_set tables site after) middle messages' here
    (subst (λ ts. WireEventsLeadTo (reach_sets sets now told) later others ts messages') (set_again tables site between after) next)))

-- bytes that are of no message behind the first, and not of that
not_sent : (bytes message : List ℕ) (messages : List (List ℕ)) → (message ≡ bytes → ⊥) → ((number : ℕ) → slice_get messages number ≢ Some bytes)
    → (number : ℕ) → slice_get (message ∷ messages) number ≢ Some bytes
not_sent bytes message messages other none zero = λ e. other cc
not_sent bytes message messages other none (suc number) = none number

-- bytes are those of a message, or of none
message_or_not : (bytes : List ℕ) (messages : List (List ℕ))
    → ((number : ℕ) × (slice_get messages number ≡ Some bytes)) ⊎ ((number : ℕ) → slice_get messages number ≢ Some bytes)
message_or_not bytes [] = inr (λ number e. cc)
message_or_not bytes (message ∷ messages) = elim (cases_Bool (bytes_eq message bytes)) [
  | inl e ↦ inl (0, ap (λ (b : List ℕ). Some b) ((bytes_eq-Decides message bytes).0 e))
  | inr e ↦ elim (message_or_not bytes messages) [
    | inl sent ↦ inl (suc sent.0, sent.1)
    | inr none ↦ inr (not_sent bytes message messages (λ same. false≢true (sym e ∙ (bytes_eq-Decides message bytes).1 same)) none)
  ]
]

-- what is handed in has an outcome, which the reply tells
some_outcome : (Step : Table → Table → steps.Outcome → Type 0) (before after : Table) (reply : List ℕ) → IsHandedRequest Step before after reply
    → (outcome : world.Outcome) × ReplyTells Step before after outcome reply
some_outcome Step before after reply (inl done) = (world.accepted, done)
some_outcome Step before after reply (inr told) = (world.refused told.0, (told.1, told.2, told.3))

-- each frame is events, whatever messages there are
some_events : (site : ℕ) (request : Request) (before after : Table) (reply : List ℕ) (messages : List (List ℕ)) → AnswersRequests request before after reply
    → (events : List world.Event) × (outcomes : List world.Outcome) × (messages' : List (List ℕ)) × AreWireEventsOf site request before after reply messages events outcomes messages'
some_events site (text t) before after reply messages answers =
    let told = some_outcome (SubmitsText t) before after reply answers in
    (world.submit site t ∷ [], told.0 ∷ [], messages, (refl, (told.0, refl, told.1), refl))
some_events site (state bytes) before after reply messages answers =
    let told = some_outcome (TakesState bytes) before after reply answers in
    elim (message_or_not bytes messages) [
      | inl sent ↦ (world.deliver site sent.0 ∷ [], told.0 ∷ [], messages, (inl (sent.0, sent.1, refl), (told.0, refl, told.1), refl))
      | inr none ↦ (world.foreign site bytes ∷ [], told.0 ∷ [], messages, (inr (none, refl), (told.0, refl, told.1), refl))
    ]
some_events site (ask questions.State) before after reply messages answers = elim (cases_lt (length (language.written before)) frame_limit) [
  | inl short ↦ (world.send site ∷ [], world.sent (length messages) ∷ [], messages ++ language.written before ∷ [], inl (short, refl, refl, refl))
  | inr long ↦ ([], [], messages, inr (long, refl, refl, refl))
]
some_events site (ask questions.Export) before after reply messages answers = ([], [], messages, (refl, refl, refl))
some_events site (ask questions.Report) before after reply messages answers = ([], [], messages, (refl, refl, refl))
some_events site (ask questions.Print) before after reply messages answers = ([], [], messages, (refl, refl, refl))

some_frame : (site : ℕ) (body : List ℕ) (before after : Table) (reply : List ℕ) (messages : List (List ℕ)) → Serves body before after reply
    → (events : List world.Event) × (outcomes : List world.Outcome) × (messages' : List (List ℕ)) × ServesIn site body before after reply messages events outcomes messages'
some_frame site body before after reply messages (inl some) =
    let are = some_events site some.0 before after reply messages some.2 in
    (are.0, are.1, are.2, inl (some.0, some.1, some.2, are.3))
some_frame site body before after reply messages (inr none) = ([], [], messages, inr (none.0, none.1, none.2, (refl, refl, refl)))

some_frames : (site : ℕ) (bodies : List (List ℕ)) (before after : Table) (replies : List ℕ) (messages : List (List ℕ)) → ServesAll bodies before after replies
    → (events : List world.Event) × (outcomes : List world.Outcome) × (messages' : List (List ℕ)) × ServesAllIn site bodies before after replies messages events outcomes messages'
unfolding ServesAll ServesAllIn
some_frames site [] before after replies messages served = ([], [], messages, (served.0, served.1, (refl, refl, refl)))
some_frames site (body ∷ bodies) before after replies messages (between, first, rest, one, more, joined) =
    let here = some_frame site body before between first messages one in
    let next = some_frames site bodies between after rest here.2 more in
    (here.0 ++ next.0, here.1 ++ next.1, next.2, (between, first, rest, here.0, next.0, here.1, next.1, here.2, here.3, next.3, joined, refl, refl))

pub are_events : IsSoundLanguage Table language → AreEvents
are_events sound = record { some = some_frames; sites = all_frames sound }
