-- What is answered is what the site replies.
use Rattle.std.proofs.Common.{◌≡◌, ℕ, List, [], ◌∷◌, ◌++◌, length, map, drop, get_or, All, refl, ap, sym, ◌∙◌, subst, arith, append-nil, inl, inr, flat_map}
use Rattle.std.proofs.lemmas.List.Concat.{flat_map-append}
use Rattle.std.proofs.lemmas.List.Elements.{All-nil, All-cons, All-head, All-tail, All-append, All-map}
use Rattle.std.proofs.lemmas.List.Folds.{flat_map-map}
use Rattle.cue_lattice.specs.Refusal.{refusal_at}
use Rattle.cue_lattice.specs.declared.refusal.Kind.TheVariants as kinds
use Rattle.cue_replica.specs.declared.question.SiteQuestion.{SiteQuestion}
use Rattle.cue_replica.specs.declared.question.SiteQuestion.TheVariants as questions
use Rattle.cue_replica.specs.declared.question.Status.{Status}
use Rattle.cue_replica.specs.declared.question.Status.TheVariants as statuses
use Rattle.cue_replica.specs.declared.answers.Answer.{Answer}
use Rattle.cue_replica.specs.Answers.{IsAnswer, line_end, code_of}
use Rattle.cue_replica.specs.Language.{Table}
use Rattle.cue_wire.specs.declared.request.Request as requests
use Rattle.cue_wire.specs.declared.request.Request.TheVariants as asked
use Rattle.cue_wire.specs.Clients.{request_of_client, request_body, request_frame}
use Rattle.cue_wire.specs.Frames.{frame_of, IsBody, AreFrames}
use Rattle.cue_wire.specs.Requests.{Request, text, state, ask, body_of_request, question_byte}
use Rattle.cue_wire.specs.Serving.{Serves, ServesAll, AnswersRequests, IsReply, refused_reply, accepted_reply}
use Rattle.cue_wire.specs.Serving as serving
use Rattle.cue_wire.proofs.Readings.{are_readings}
use Rattle.cue_net.specs.Printed.{IsPrintedExport}
use Rattle.cue_net.specs.Replies.{acceptance_reply, refusal_reply, ReplyHasExport}
use Rattle.cue_net.specs.Told.{AllRepliesAccept, IsPrinted}
use Rattle.cue_net.specs.Truth.{SiteAccepts, AcceptsAll, AreTrue}

same_question : (a b : SiteQuestion) → question_byte a ≡ question_byte b → a ≡ b
same_question questions.State questions.State is = refl
same_question questions.State questions.Export is = absurd (omega (arith, is))
same_question questions.State questions.Report is = absurd (omega (arith, is))
same_question questions.State questions.Print is = absurd (omega (arith, is))
same_question questions.Export questions.State is = absurd (omega (arith, is))
same_question questions.Export questions.Export is = refl
same_question questions.Export questions.Report is = absurd (omega (arith, is))
same_question questions.Export questions.Print is = absurd (omega (arith, is))
same_question questions.Report questions.State is = absurd (omega (arith, is))
same_question questions.Report questions.Export is = absurd (omega (arith, is))
same_question questions.Report questions.Report is = refl
same_question questions.Report questions.Print is = absurd (omega (arith, is))
same_question questions.Print questions.State is = absurd (omega (arith, is))
same_question questions.Print questions.Export is = absurd (omega (arith, is))
same_question questions.Print questions.Report is = absurd (omega (arith, is))
same_question questions.Print questions.Print is = refl

same_status : (a b : Status) → code_of a ≡ code_of b → a ≡ b
same_status statuses.Done statuses.Done is = refl
same_status statuses.Done statuses.Conflicts is = absurd (omega (arith, is))
same_status statuses.Done statuses.Incomplete is = absurd (omega (arith, is))
same_status statuses.Conflicts statuses.Done is = absurd (omega (arith, is))
same_status statuses.Conflicts statuses.Conflicts is = refl
same_status statuses.Conflicts statuses.Incomplete is = absurd (omega (arith, is))
same_status statuses.Incomplete statuses.Done is = absurd (omega (arith, is))
same_status statuses.Incomplete statuses.Conflicts is = absurd (omega (arith, is))
same_status statuses.Incomplete statuses.Incomplete is = refl

first_byte : List ℕ → ℕ
first_byte bytes = get_or bytes 0 0

-- a body says one request
same_request : (a b : Request) → body_of_request a ≡ body_of_request b → a ≡ b
unfolding first_byte
same_request (text t) (text u) is = ap text (ap (drop 1) is)
same_request (text t) (state u) is = absurd (omega (arith, ap first_byte is))
same_request (text t) (ask questions.State) is = absurd (omega (arith, ap first_byte is))
same_request (text t) (ask questions.Export) is = absurd (omega (arith, ap first_byte is))
same_request (text t) (ask questions.Report) is = absurd (omega (arith, ap first_byte is))
same_request (text t) (ask questions.Print) is = absurd (omega (arith, ap first_byte is))
same_request (state t) (text u) is = absurd (omega (arith, ap first_byte is))
same_request (state t) (state u) is = ap state (ap (drop 1) is)
same_request (state t) (ask questions.State) is = absurd (omega (arith, ap first_byte is))
same_request (state t) (ask questions.Export) is = absurd (omega (arith, ap first_byte is))
same_request (state t) (ask questions.Report) is = absurd (omega (arith, ap first_byte is))
same_request (state t) (ask questions.Print) is = absurd (omega (arith, ap first_byte is))
same_request (ask questions.State) (text u) is = absurd (omega (arith, ap first_byte is))
same_request (ask questions.Export) (text u) is = absurd (omega (arith, ap first_byte is))
same_request (ask questions.Report) (text u) is = absurd (omega (arith, ap first_byte is))
same_request (ask questions.Print) (text u) is = absurd (omega (arith, ap first_byte is))
same_request (ask questions.State) (state u) is = absurd (omega (arith, ap first_byte is))
same_request (ask questions.Export) (state u) is = absurd (omega (arith, ap first_byte is))
same_request (ask questions.Report) (state u) is = absurd (omega (arith, ap first_byte is))
same_request (ask questions.Print) (state u) is = absurd (omega (arith, ap first_byte is))
same_request (ask a) (ask b) is = ap ask (same_question a b (ap first_byte is))

Framed : List ℕ → Type 0
Framed reply = (body : List ℕ) × (reply ≡ frame_of body) × IsBody body

-- what is told is a frame
told_framed : (what reply : List ℕ) → IsReply what reply → Framed reply
unfolding Framed
told_framed what reply (inl fits) = (acceptance_reply what, fits.1, omega (arith, fits.0))
told_framed what reply (inr long) = (refusal_reply (refusal_at kinds.ReplyTooLong 0), long.1, omega arith)

-- each reply is a frame
answers_framed : (request : Request) (before after : Table) (reply : List ℕ) → AnswersRequests request before after reply → Framed reply
unfolding Framed
answers_framed (text t) before after reply (inl a) = (acceptance_reply [], a.1, omega arith)
answers_framed (text t) before after reply (inr a) = (refusal_reply a.0, a.3, omega arith)
answers_framed (state bytes) before after reply (inl a) = (acceptance_reply [], a.1, omega arith)
answers_framed (state bytes) before after reply (inr a) = (refusal_reply a.0, a.3, omega arith)
answers_framed (ask question) before after reply (same, inl (bytes, status, tells, is)) = told_framed (serving.told_bytes question bytes status) reply is
answers_framed (ask question) before after reply (same, inr (long, is)) = (refusal_reply (refusal_at kinds.ReplyTooLong 0), is, omega arith)

reply_framed : (body : List ℕ) (before after : Table) (reply : List ℕ) → Serves body before after reply → Framed reply
unfolding Framed
reply_framed body before after reply (inl s) = answers_framed s.0 before after reply s.2
reply_framed body before after reply (inr s) = (refusal_reply (refusal_at kinds.BadRequest 0), s.2, omega arith)

-- each body has its reply
ServesEach : List (List ℕ) → List (List ℕ) → Table → Table → Type 0
ServesEach [] [] before after = after ≡ before
ServesEach (body ∷ bodies) (reply ∷ replies) before after = (between : Table) × Serves body before between (frame_of reply) × ServesEach bodies replies between after
ServesEach [] (reply ∷ replies) before after = ⊥
ServesEach (body ∷ bodies) [] before after = ⊥

each_served : (bodies : List (List ℕ)) (before after : Table) (bytes : List ℕ) → ServesAll bodies before after bytes
    → (replies : List (List ℕ)) × (bytes ≡ flat_map frame_of replies) × All IsBody replies × ServesEach bodies replies before after
unfolding ServesAll ServesEach Framed
each_served [] before after bytes s = ([], s.1, All-nil IsBody, s.0)
each_served (body ∷ bodies) before after bytes s =
    let f = reply_framed body before s.0 s.1 s.3 in
    let t = each_served bodies s.0 after s.2 s.4 in (
      f.0 ∷ t.0,
      s.5 ∙ ap (λ zs. zs ++ s.2) f.1 ∙ ap (λ zs. frame_of f.0 ++ zs) t.1,
      All-cons IsBody f.0 t.0 f.2 t.2,
      (s.0, subst (Serves body before s.0) f.1 s.3, t.3),
    )

accepts_answer : (request : Request) (before after : Table) → AnswersRequests request before after (frame_of (acceptance_reply [])) → SiteAccepts request before after
accepts_answer (text t) before after (inl a) = a.0
accepts_answer (text t) before after (inr a) = absurd (omega (arith, ap length a.3))
accepts_answer (state bytes) before after (inl a) = a.0
accepts_answer (state bytes) before after (inr a) = absurd (omega (arith, ap length a.3))
accepts_answer (ask question) before after a = a.0

-- an input that is told to be accepted is
accepts_one : (request : Request) (before after : Table) → Serves (body_of_request request) before after (frame_of (acceptance_reply [])) → SiteAccepts request before after
accepts_one request before after (inl s) =
    accepts_answer request before after (subst (λ r. AnswersRequests r before after (frame_of (acceptance_reply []))) (sym (same_request request s.0 s.1.0)) s.2)
accepts_one request before after (inr s) = absurd (omega (arith, ap length s.2))

asks_export : List ℕ
asks_export = request_body asked.AskExport

accepts_all : (inputs : List requests.Request) (replies : List (List ℕ)) (last : List ℕ) (before after : Table)
    → ServesEach (map request_body inputs ++ asks_export ∷ []) (replies ++ last ∷ []) before after → AllRepliesAccept replies → length replies ≡ length inputs
    → (between : Table) × AcceptsAll inputs before between × Serves asks_export between after (frame_of last)
unfolding ServesEach AcceptsAll
accepts_all [] [] last before after s accept same = (before, refl, subst (λ t. Serves asks_export before t (frame_of last)) (sym s.2) s.1)
accepts_all (input ∷ inputs) (reply ∷ replies) last before after s accept same =
    let t = accepts_all inputs replies last s.0 after s.2 (All-tail (λ r. r ≡ acceptance_reply []) reply replies accept) (omega (arith, same)) in
    let first = subst (λ r. Serves (request_body input) before s.0 (frame_of r)) (All-head (λ r. r ≡ acceptance_reply []) reply replies accept) s.1 in
    (t.0, (s.0, accepts_one (request_of_client input) before s.0 first, t.1), t.2)
accepts_all [] (reply ∷ replies) last before after s accept same = absurd (omega (arith, same))
accepts_all (input ∷ inputs) [] last before after s accept same = absurd (omega (arith, same))

fifth : List ℕ → ℕ
fifth bytes = get_or bytes 4 1

answered_so : (before after : Table) (last : List ℕ) (status : Status) (told : List ℕ) (answer : Answer)
    → AnswersRequests (ask questions.Export) before after (frame_of last) → ReplyHasExport last status told → IsPrinted answer status told → (after ≡ before) × IsPrintedExport after answer
unfolding fifth
answered_so before after last status told answer (same, inl (bytes, ended, says, inl fits)) tells shown =
    let both : acceptance_reply (code_of status ∷ told) ≡ acceptance_reply (code_of ended ∷ bytes) = sym tells.told ∙ ap (drop 4) fits.1 in
    let code : status ≡ ended = same_status status ended (ap (λ l. get_or l 1 0) both) in
    let kept : told ≡ bytes = ap (drop 2) both in (
      same,
      (
        bytes,
        subst (λ t. IsAnswer questions.Export t bytes answer.status) (sym same) (subst (IsAnswer questions.Export before bytes) (sym (shown.1 ∙ code)) says),
        shown.0 ∙ ap (λ b. b ++ line_end questions.Export status) kept ∙ ap (λ x. bytes ++ line_end questions.Export x) (sym shown.1),
      ),
    )
answered_so before after last status told answer (same, inl (bytes, ended, says, inr long)) tells shown =
    absurd (omega (arith, ap fifth (sym (ap frame_of tells.told) ∙ long.1)))
answered_so before after last status told answer (same, inr (long, is)) tells shown =
    absurd (omega (arith, ap fifth (sym (ap frame_of tells.told) ∙ is)))

-- an export that is told is the site's
told_export : (before after : Table) (last : List ℕ) (status : Status) (told : List ℕ) (answer : Answer)
    → Serves asks_export before after (frame_of last) → ReplyHasExport last status told → IsPrinted answer status told → (after ≡ before) × IsPrintedExport after answer
unfolding asks_export fifth
told_export before after last status told answer (inr s) tells shown =
    absurd (omega (arith, ap fifth (sym (ap frame_of tells.told) ∙ s.2)))
told_export before after last status told answer (inl s) tells shown =
    answered_so before after last status told answer
    (subst (λ r. AnswersRequests r before after (frame_of last)) (sym (same_request (ask questions.Export) s.0 s.1.0)) s.2) tells shown

pub are_true : AreTrue
unfolding asks_export
are_true inputs talk replies last answer before after rest are told served is_last =
    let front = map request_body inputs in
    let bodies = front ++ asks_export ∷ [] in
    let sent : AreFrames talk.sent bodies [] = record {
      whole = are.sent ∙ ap (λ zs. zs ++ request_frame asked.AskExport) (sym (flat_map-map frame_of request_body inputs))
          ∙ ap (λ zs. flat_map frame_of front ++ zs) (sym (append-nil (frame_of asks_export)))
          ∙ sym (flat_map-append frame_of front (asks_export ∷ [])) ∙ sym (append-nil (flat_map frame_of bodies));
      short = All-append IsBody front (asks_export ∷ []) (All-map IsBody request_body inputs are.fits) (All-cons IsBody asks_export [] (omega arith) (All-nil IsBody));
    } in
    let one = are_readings.once talk.sent served.bodies bodies rest [] served.frames is_last sent (inl (inl (omega arith))) in
    let each = each_served served.bodies before after served.replies served.tables in
    let heard : AreFrames talk.heard each.0 [] = record { whole = served.added ∙ each.1 ∙ sym (append-nil (flat_map frame_of each.0)); short = each.2 } in
    let two = are_readings.once talk.heard each.0 (replies ++ last ∷ []) [] are.rest heard (inl (inl (omega arith))) are.heard (inl are.unfinished) in
    let s = subst (λ bs. ServesEach bs (replies ++ last ∷ []) before after) one.0 (subst (λ rs. ServesEach served.bodies rs before after) two.0 each.3) in
    let a = accepts_all inputs replies last before after s told.0 are.count in
    let e = told_export a.0 after last told.1.0 told.1.1 answer a.2 told.1.2 told.1.3 in
    (subst (AcceptsAll inputs before) (sym e.0) a.1, e.1)
