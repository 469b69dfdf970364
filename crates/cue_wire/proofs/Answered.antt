-- What handing something in comes to, by what the call answered and the reply that was added.
use Rattle.std.proofs.Common.{◌≡◌, ◌≢◌, ◌⊎◌, inl, inr, ⊎_elim, refl, List, [], ◌++◌, ℕ, Result, Ok, Err, OnOk, subst, sym, ap, ◌∙◌}
use Rattle.std.proofs.Common.{OnErr, IfErr, Some, length, arith, ◌≤◌}
use Rattle.std.proofs.lemmas.List.{length-append}
use Rattle.cue_lattice.specs.declared.refusal.Refusal.{Refusal}
use Rattle.cue_lattice.specs.Refusal.{memory}
use Rattle.cue_replica.specs.declared.world.Outcome.{Outcome}
use Rattle.cue_replica.specs.declared.world.Outcome.TheVariants.{Accepted, Refused}
use Rattle.cue_replica.specs.Language.{Table, language}
use Rattle.cue_replica.specs.Replica.{AddsRefusals}
use Rattle.cue_replica.specs.World.{SubmitsText, TakesState}
use Rattle.cue_replica.specs.declared.question.SiteQuestion.{SiteQuestion}
use Rattle.cue_replica.specs.declared.question.SiteQuestion.TheVariants as questions
use Rattle.cue_replica.specs.declared.question.Status.{Status}
use Rattle.cue_replica.specs.declared.question.Status.TheVariants as statuses
use Rattle.cue_replica.specs.Answers.{WritesAnswerPrefix, IsAnswer, WritesAnswer}
use Rattle.cue_wire.specs.Frames.{frame_limit}
use Rattle.cue_wire.specs.Serving.{accepted_reply, refused_reply, reply_too_long, told_bytes, IsHandedRequest, IsReply, IsRequestAnswered, IsReplyTooLong}

-- The step happened by what the call answered, where that wasn't want of memory.
abbrev pub Happened : (Table → Table → Outcome → Type 0) → Table → Table → Result (Unit {0}) Refusal → Type 0
Happened Step before after (Ok u) = Step before after Accepted
Happened Step before after (Err why) = why ≢ memory → Step before after (Refused why)

pub submitted : (t : List ℕ) (before after : Table) (taken : Result (Unit {0}) Refusal)
    → OnOk taken (language.IsLegal t) → OnOk taken (AddsRefusals before (language.text_refuses t) after) → language.IsValid after
    → OnErr taken (after ≡ before) → IfErr taken (λ why. ((why ≡ memory) × ¬ language.IsTextRefusedAtOnce t) ⊎ language.IsTextFault t why)
    → Happened (SubmitsText t) before after taken
submitted t before after (Ok u) legal adds valid same refused = (legal, adds, valid)
submitted t before after (Err why) legal adds valid same refused =
    λ other. (same, ⊎_elim (λ m. absurd (other m.0)) (λ fault. inr fault) refused)

pub took : (bytes : List ℕ) (before after : Table) (taken : Result (Unit {0}) Refusal)
    → OnOk taken (language.IsState bytes) → OnOk taken (AddsRefusals before (language.state_refuses bytes) after) → language.IsValid after
    → OnErr taken (after ≡ before) → IfErr taken (λ why. ((why ≡ memory) × ¬ language.IsStateRefusedAtOnce bytes) ⊎ language.IsStateFault bytes why)
    → Happened (TakesState bytes) before after taken
took bytes before after (Ok u) is adds valid same refused = (is, adds, valid)
took bytes before after (Err why) is adds valid same refused =
    λ other. (same, ⊎_elim (λ m. absurd (other m.0)) (λ fault. inr fault) refused)

-- a reply that was added to what was handed in
abbrev pub AddedTo : List ℕ → List ℕ → Result (Unit {0}) Refusal → Type 0
AddedTo old new (Ok u) = new ≡ old ++ accepted_reply []
AddedTo old new (Err why) = (why ≢ memory) × (new ≡ old ++ refused_reply why)

pub added_to : (old new : List ℕ) (taken : Result (Unit {0}) Refusal)
    → OnOk taken (new ≡ old ++ accepted_reply [])
    → IfErr taken (λ why. (why ≢ memory) × (new ≡ old ++ refused_reply why))
    → AddedTo old new taken
added_to old new (Ok u) ok err = ok
added_to old new (Err why) ok err = err

pub handed : (Step : Table → Table → Outcome → Type 0) (before after : Table) (taken : Result (Unit {0}) Refusal) (old new : List ℕ)
    → Happened Step before after taken → AddedTo old new taken
    → (reply : List ℕ) × IsHandedRequest Step before after reply × (new ≡ old ++ reply)
handed Step before after (Ok u) old new did added = (accepted_reply [], inl (did, refl), added)
handed Step before after (Err why) old new did added = (refused_reply why, inr (why, added.0, did added.0, refl), added.1)

-- The reply to what was handed in was added to what stood there before.
pub served : {E : Type 0} (Step : Table → Table → Outcome → Type 0) (P : List ℕ → Type 0) (before after : Table)
    (taken : Result (Unit {0}) Refusal) (r : Result (Unit {0}) E) (start old new : List ℕ) → old ≡ start
    → ((reply : List ℕ) → IsHandedRequest Step before after reply → P reply) → Happened Step before after taken
    → OnOk r (OnOk taken (new ≡ old ++ accepted_reply []))
    → OnOk r (IfErr taken (λ why. (why ≢ memory) × (new ≡ old ++ refused_reply why)))
    → OnOk r ((x : List ℕ) × P x × (new ≡ start ++ x))
served Step P before after taken (Err e) start old new is serves did ok err = tt
served Step P before after taken (Ok u) start old new is serves did ok err =
    let reply = handed Step before after taken old new did (added_to old new taken ok err) in
    (reply.0, serves reply.0 reply.1, subst (λ (s : List ℕ). new ≡ s ++ reply.0) is reply.2)

-- The state of a site was told as the reply.
pub answered_state : {E : Type 0} (question : SiteQuestion) (table : Table) (old new : List ℕ) (r : Result (Unit {0}) E) → question ≡ questions.State
    → OnOk r ((reply : List ℕ) × IsReply (language.written table) reply × (new ≡ old ++ reply))
    → OnOk r ((reply : List ℕ) × IsRequestAnswered question table reply × (new ≡ old ++ reply))
answered_state question table old new (Err x) is h = tt
answered_state question table old new (Ok u) is h =
    (h.0, subst (λ q. IsRequestAnswered q table h.0) (sym is) (inl (language.written table, statuses.Done, (refl, refl), h.1)), h.2)

-- An answer was told as the reply.
pub answered : {E : Type 0} (question : SiteQuestion) (table : Table) (bytes : List ℕ) (status : Status) (old new : List ℕ) (r : Result (Unit {0}) E)
    → IsAnswer question table bytes status
    → OnOk r ((reply : List ℕ) × IsReply (told_bytes question bytes status) reply × (new ≡ old ++ reply))
    → OnOk r ((reply : List ℕ) × IsRequestAnswered question table reply × (new ≡ old ++ reply))
answered question table bytes status old new (Ok u) is h = (h.0, inl (bytes, status, is, h.1), h.2)
answered question table bytes status old new (Err x) is h = tt

-- what is told of an answer is no shorter than it
told_long : (question : SiteQuestion) (bytes : List ℕ) (status : Status) → length bytes ≤ length (told_bytes question bytes status)
told_long questions.Export bytes status = omega arith
told_long questions.Print bytes status = omega arith
told_long questions.Report bytes status = omega arith
told_long questions.State bytes status = omega arith

-- a page that is full of the front of each answer
pub too_long_by : (question : SiteQuestion) (table : Table) (page : List ℕ) → frame_limit ≤ length page → WritesAnswerPrefix question table (Some []) (Some page) → IsReplyTooLong question table
too_long_by question table page full begun bytes status is =
    let b = begun bytes status is in
    let all = ap length b.whole ∙ length-append b.front b.back in
    let there : length page ≡ length b.front = ap length b.added in
    omega (arith, told_long question bytes status)

-- No frame holds an answer, and the reply says so.
pub answered_long : {E : Type 0} (question : SiteQuestion) (table : Table) (page old new : List ℕ) (r : Result (Unit {0}) E) → frame_limit ≤ length page
    → WritesAnswerPrefix question table (Some []) (Some page) → OnOk r (new ≡ old ++ reply_too_long)
    → OnOk r ((reply : List ℕ) × IsRequestAnswered question table reply × (new ≡ old ++ reply))
answered_long question table page old new (Ok u) full begun h = (reply_too_long, inr (too_long_by question table page full begun, refl), h)
answered_long question table page old new (Err x) full begun h = tt

-- an answer on a page
pub on_page : (question : SiteQuestion) (table : Table) (status : Status) (page : List ℕ) → WritesAnswer question table status (Some []) (Some page) → IsAnswer question table page status
on_page question table status page told_bytes = subst (λ bytes. IsAnswer question table bytes status) (sym told_bytes.2) told_bytes.1
