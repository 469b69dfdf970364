-- Calls, and rounds of them.
use Rattle.std.proofs.Common.{◌≡◌, ◌≢◌, ◌⊎◌, ◌==◌, ℕ, List, [], ◌∷◌, ◌++◌, refl, sym, ap, ◌∙◌, subst, inl, inr, append_assoc, append-nil, true, false, Bool, codes, arith, if◌then◌else◌, ⊎_elim}
use Rattle.std.proofs.lemmas.Bool.Decides.{nat_tests}
use Rattle.std.specs.Str.{bytes_eq}
use Rattle.http.specs.declared.request.Request.{Request}
use Rattle.http.specs.Request.{body_of}
use Rattle.http_server.specs.declared.response.Response.{Response}
use Rattle.http_server.specs.Response.{IsResponse}
use Rattle.http_server.specs.Exchange.{Call, Chain}
use Rattle.cue_lattice.specs.World.{Piece, IsInSet, text, state}
use Rattle.cue_lattice.specs.declared.refusal.Kind.{Kind}
use Rattle.cue_lattice.specs.declared.refusal.Kind.TheVariants as kinds
use Rattle.cue_journal.specs.Blocks.{recovered_pieces}
use Rattle.cue_journal.specs.Batches.{batch_bytes}
use Rattle.cue_journal.specs.Pairs.{is_whole, HasSameEntries}
use Rattle.cue_journal.specs.declared.pair.JournalPair.{JournalPair}
use Rattle.cue_service.specs.declared.site.Site.{Site}
use Rattle.cue_service.specs.declared.desk.SiteCore.{SiteCore}
use Rattle.cue_service.specs.declared.route.Route.{Route}
use Rattle.cue_service.specs.declared.route.Route.TheVariants.{Ask, Pieces, Take, Health, Metrics, Page, OtherMethod, Unknown}
use Rattle.cue_service.specs.declared.route.PieceKind.{PieceKind}
use Rattle.cue_service.specs.declared.route.PieceKind.TheVariants as hands
use Rattle.cue_service.specs.Requests.{IsRoute, piece_of_bytes, piece_in}
use Rattle.cue_service.specs.Answering.{AnswersRequest, AnswersAs, IsAsked, IsSame, IsPieceTaken, IsTagKnown, IsSpared, LeavesUnanswered, GathersPieces}
use Rattle.cue_service.specs.Statuses.{place_fields, status_of_answer, status_of_refusal}
use Rattle.cue_service.specs.Listing.{AreListed, AnswersWithPieces}
use Rattle.cue_service.specs.Sites.{AnswersAt, IsConsistent, Settles, Leaves}
use Rattle.cue_service.specs.Promise.{acknowledged_by, acknowledged_pieces, AreSomeOf}
use Rattle.cue_replica.specs.declared.question.SiteQuestion.{SiteQuestion}
use Rattle.cue_replica.specs.declared.question.SiteQuestion.TheVariants as questions
use Rattle.cue_replica.specs.declared.question.Status.{Status}
use Rattle.cue_replica.specs.declared.question.Status.TheVariants as statuses
use Rattle.cue_service.proofs.Alike.{read_back}
use Rattle.cue_service.proofs.Consistent.{same_consistent, still_consistent, taken_consistent, known_consistent}
use Rattle.cue_service.proofs.Listing.{listed_less}
use Rattle.cue_service.proofs.Pulls.{entry_has}
use Rattle.cue_service.proofs.Sparing.{spared, unanswered}
use Rattle.cue_journal.specs.Listed.{Listed}
use Rattle.cue_service.specs.Entries.{entry_of, piece_of_entry, StandFor}
use Rattle.std.specs.List.{Contains}

not_acknowledged : (request : Request (List ℕ)) (response : Response) → response.status ≢ 204 → acknowledged_by (request, response) ≡ []
not_acknowledged request response other = grind (arith, nat_tests)

is_acknowledged : (request : Request (List ℕ)) (response : Response) → response.status ≡ 204 → acknowledged_by (request, response) ≡ piece_in request ∷ []
is_acknowledged request response is = ap (λ n. if n == 204 then piece_in request ∷ [] else []) is

handed_in : (hand : PieceKind) (request : Request (List ℕ)) → IsRoute (Take hand) request → piece_in request ≡ piece_of_bytes hand (body_of request)
handed_in hands.Text request route = ap (λ path. if bytes_eq path (codes "/state") then state (body_of request) else text (body_of request)) route.1
handed_in hands.State request route = ap (λ path. if bytes_eq path (codes "/state") then state (body_of request) else text (body_of request)) route.1

-- what is told has another status
told_status : (question : SiteQuestion) (status : Status) → status_of_answer question status ≢ 204
told_status questions.Export statuses.Done = omega arith
told_status questions.Export statuses.Conflicts = omega arith
told_status questions.Export statuses.Incomplete = omega arith
told_status questions.Print status = omega arith
told_status questions.Report status = omega arith
told_status questions.State status = omega arith

-- so has what is refused
refused_status : (kind : Kind) → status_of_refusal kind ≢ 204
refused_status kinds.TooLong = omega arith
refused_status kinds.Memory = omega arith
refused_status kinds.BadCharacter = omega arith
refused_status kinds.BadString = omega arith
refused_status kinds.BadNumber = omega arith
refused_status kinds.IntRange = omega arith
refused_status kinds.TextTooLong = omega arith
refused_status kinds.Syntax = omega arith
refused_status kinds.Nesting = omega arith
refused_status (kinds.LeftOut form) = omega arith
refused_status kinds.UnknownName = omega arith
refused_status kinds.FieldReference = omega arith
refused_status kinds.Repeated = omega arith
refused_status kinds.Cycle = omega arith
refused_status kinds.TooLarge = omega arith
refused_status kinds.TooDeep = omega arith
refused_status kinds.NotScalar = omega arith
refused_status kinds.Version = omega arith
refused_status kinds.NotState = omega arith
refused_status kinds.FrameTooLong = omega arith
refused_status kinds.BadRequest = omega arith
refused_status kinds.TurnsUsed = omega arith
refused_status kinds.Device = omega arith
refused_status kinds.ReplyTooLong = omega arith
refused_status kinds.Failed = omega arith

-- a call takes in the piece that it acknowledges, or it is known, or the call changes nothing
abbrev pub Moves : SiteCore → Request (List ℕ) → Response → SiteCore → Type 0
Moves old request response new =
    ((piece : Piece) × IsPieceTaken piece old new × (acknowledged_by (request, response) ≡ piece ∷ []))
    ⊎ (((piece : Piece) × IsTagKnown piece old new × (acknowledged_by (request, response) ≡ piece ∷ []))
    ⊎ (IsSpared old new × (acknowledged_by (request, response) ≡ [])))

nothing : (old new : SiteCore) (request : Request (List ℕ)) (response : Response) (code : ℕ) → IsSame old new → response.status ≡ code → code ≢ 204 → Moves old request response new
nothing old new request response code same is other = inr (inr (spared old new same, not_acknowledged request response (λ e. other (sym is ∙ e))))

handed_to : (hand : PieceKind) (old new : SiteCore) (request : Request (List ℕ)) (response : Response) → IsRoute (Take hand) request → response.status ≡ 204
    → IsPieceTaken (piece_of_bytes hand (body_of request)) old new ⊎ IsTagKnown (piece_of_bytes hand (body_of request)) old new → Moves old request response new
handed_to hand old new request response is done (inl taken) =
    inl (piece_of_bytes hand (body_of request), taken, is_acknowledged request response done ∙ ap (λ (p : Piece). p ∷ []) (handed_in hand request is))
handed_to hand old new request response is done (inr known) =
    inr (inl (piece_of_bytes hand (body_of request), known, is_acknowledged request response done ∙ ap (λ (p : Piece). p ∷ []) (handed_in hand request is)))

asked : (question : SiteQuestion) (old new : SiteCore) (request : Request (List ℕ)) (response : Response) → IsSame old new → IsAsked old.rules.limit question old.board request (place_fields question old.pieces) response → Moves old request response new
asked question old new request response same (inl known) = nothing old new request response 304 same known.answer.status (omega arith)
asked question old new request response same (inr (inl told)) = nothing old new request response _ same told.answer.status (told_status question told.told.status)
asked question old new request response same (inr (inr long)) = nothing old new request response 507 same long.answer.0 (omega arith)

told_pieces : (old new : SiteCore) (request : Request (List ℕ)) (response : Response) → IsSame old new → AnswersWithPieces old.pieces request response → Moves old request response new
told_pieces old new request response same (inl told) = nothing old new request response 200 same told.head.0 (omega arith)
told_pieces old new request response same (inr (inl gone)) = nothing old new request response 410 same gone.answer.status (omega arith)
told_pieces old new request response same (inr (inr none)) = nothing old new request response 400 same none.answer.status (omega arith)

not_204 : ◌≡◌ {A = ℕ} 413 204 → ⊥
not_204 e = absurd (omega (arith, e))

moves : (route : Route) (old new : SiteCore) (request : Request (List ℕ)) (response : Response) → IsRoute route request → AnswersAs route old request response new → Moves old request response new
moves (Ask question) old new request response is a = asked question old new request response a.0 a.1
moves Pieces old new request response is a = told_pieces old new request response a.0 a.1
moves (Take hand) old new request response is (inl (inl barred)) = nothing old new request response 401 barred.same barred.answer.status (omega arith)
moves (Take hand) old new request response is (inl (inr encoded)) = nothing old new request response 415 encoded.same encoded.answer.status (omega arith)
moves (Take hand) old new request response is (inr (inl done)) = handed_to hand old new request response is done.answer.status done.done
moves (Take hand) old new request response is (inr (inr (inr (inl full)))) = nothing old new request response 507 full.same full.answer.0 (omega arith)
moves (Take hand) old new request response is (inr (inr (inr (inr costly)))) =
    inr (inr (costly.same, not_acknowledged request response (λ e. not_204 (sym costly.answer.0 ∙ e))))
moves (Take hand) old new request response is (inr (inr (inl refused))) =
    inr (inr (refused.same, not_acknowledged request response (λ e. refused_status refused.why.kind (sym refused.answer.0 ∙ e))))
moves Health old new request response is a = nothing old new request response 200 a.0 a.1.status (omega arith)
moves Metrics old new request response is a = nothing old new request response 200 a.0 a.1.0 (omega arith)
moves Page old new request response is a = nothing old new request response 200 a.0 a.1.0 (omega arith)
moves OtherMethod old new request response is a = nothing old new request response 405 a.0 a.1.status (omega arith)
moves Unknown old new request response is a = nothing old new request response 404 a.0 a.1.status (omega arith)

moved_unanswered : (route : Route) (old new : SiteCore) (request : Request (List ℕ)) (response : Response) (code : ℕ) → LeavesUnanswered route old new → response.status ≡ code → code ≢ 204
    → Moves old request response new
moved_unanswered route old new request response code same is other = inr (inr (unanswered route old new same, not_acknowledged request response (λ e. other (sym is ∙ e))))

pub moved : (old new : SiteCore) (request : Request (List ℕ)) (response : Response) → AnswersRequest old request response new → Moves old request response new
moved old new request response answers = by answers.2
  where
    by : AnswersAs answers.0 old request response new ⊎ (LeavesUnanswered answers.0 old new × IsResponse 507 [] [] response) → Moves old request response new
    by (inl told) = moves answers.0 old new request response answers.1 told
    by (inr wanting) = moved_unanswered answers.0 old new request response 507 wanting.0 wanting.1.status (omega arith)

has_left : (xs ys : List Piece) (piece : Piece) → IsInSet xs piece → IsInSet (xs ++ ys) piece
has_left [] ys piece has = absurd has
has_left (x ∷ xs) ys piece (inl is) = inl is
has_left (x ∷ xs) ys piece (inr has) = inr (has_left xs ys piece has)

has_right : (xs ys : List Piece) (piece : Piece) → IsInSet ys piece → IsInSet (xs ++ ys) piece
has_right [] ys piece has = has
has_right (x ∷ xs) ys piece has = inr (has_right xs ys piece has)

has_split : (xs ys : List Piece) (piece : Piece) → IsInSet (xs ++ ys) piece → IsInSet xs piece ⊎ IsInSet ys piece
has_split [] ys piece has = inr has
has_split (x ∷ xs) ys piece (inl is) = inl (inl is)
has_split (x ∷ xs) ys piece (inr has) = ⊎_elim (λ first. inl (inr first)) (λ second. inr second) (has_split xs ys piece has)

some_append : (some others pieces more : List Piece) → AreSomeOf some pieces → AreSomeOf others more → AreSomeOf (some ++ others) (pieces ++ more)
some_append some others [] more none second = subst (λ (l : List Piece). AreSomeOf (l ++ others) more) (sym none) second
some_append some others (piece ∷ pieces) more (inl first) second = inl (first.0 ++ others, ap (λ (l : List Piece). l ++ others) first.1, some_append first.0 others pieces more first.2 second)
some_append some others (piece ∷ pieces) more (inr rest) second = inr (some_append some others pieces more rest second)

-- what is listed of pieces that were acknowledged
abbrev pub IsListedOf : List Piece → List Piece → Listed → Type 0
IsListedOf accepted acked listed =
    (more : List Piece) × AreSomeOf more acked × ((piece : Piece) → IsInSet acked piece → IsInSet (accepted ++ more) piece) × AreListed (accepted ++ more) listed

-- a piece that is kept was accepted
known_has : (accepted : List Piece) (listed : Listed) (piece : Piece) → AreListed accepted listed → Contains listed.kept (entry_of piece) → IsInSet accepted piece
known_has accepted listed piece are known =
    let kept = subst (λ (l : List (List ℕ)). Contains l (entry_of piece)) are.kept known in
    let found = entry_has listed.given_up accepted kept.0 (entry_of piece) kept.1 kept.2 in
    subst (IsInSet accepted) (sym (read_back found.0) ∙ ap piece_of_entry found.2 ∙ read_back piece) found.1

listed_taken : (accepted : List Piece) (piece : Piece) (listed : Listed) → AreListed (accepted ++ piece ∷ []) listed → IsListedOf accepted (piece ∷ []) listed
listed_taken accepted piece listed are = (piece ∷ [], inl ([], refl, refl), λ one has. has_right accepted (piece ∷ []) one has, are)

has_kept : (accepted : List Piece) (piece : Piece) → IsInSet accepted piece → (one : Piece) → IsInSet (piece ∷ []) one → IsInSet (accepted ++ []) one
has_kept accepted piece has one (inl is) = has_left accepted [] one (subst (IsInSet accepted) is has)
has_kept accepted piece has one (inr never) = absurd never

listed_as_before : (accepted : List Piece) (listed : Listed) → AreListed accepted listed → AreListed (accepted ++ []) listed
listed_as_before accepted listed are = subst (λ (l : List Piece). AreListed l listed) (sym (append-nil accepted)) are

listed_known : (accepted : List Piece) (piece : Piece) (listed : Listed) → IsInSet accepted piece → AreListed accepted listed → IsListedOf accepted (piece ∷ []) listed
listed_known accepted piece listed has are = ([], inr refl, λ one found. has_kept accepted piece has one found, listed_as_before accepted listed are)

listed_none : (accepted : List Piece) (listed : Listed) → AreListed accepted listed → IsListedOf accepted [] listed
listed_none accepted listed are = ([], refl, λ one has. absurd has, listed_as_before accepted listed are)

one_listed : (old new : SiteCore) (request : Request (List ℕ)) (response : Response) (accepted : List Piece) → AnswersRequest old request response new
    → AreListed accepted old.pieces → IsListedOf accepted (acknowledged_by (request, response)) new.pieces
one_listed old new request response accepted answers before = by (moved old new request response answers)
  where
    P : List Piece → Type 0
    P acked = IsListedOf accepted acked new.pieces

    by : Moves old request response new → P (acknowledged_by (request, response))
    by (inl taken) = subst P (sym taken.2) (listed_taken accepted taken.0 new.pieces (taken.1.listed accepted before))
    by (inr (inl known)) = subst P (sym known.2) (listed_known accepted known.0 new.pieces (known_has accepted old.pieces known.0 before known.1.kept) (subst (AreListed accepted) (sym known.1.same.pieces) before))
    by (inr (inr same)) = subst P (sym same.1) (listed_none accepted new.pieces (listed_less old.pieces new.pieces same.0.pieces accepted before))

pub listed_still : {D : Type 0} (seen : D → List ℕ) (may_leave : D → List ℕ → Type 0) (old called : Site D) (calls : List Call) (accepted : List Piece) → AreListed accepted old.desk.pieces → Chain (AnswersAt seen may_leave) old calls called
    → IsListedOf accepted (acknowledged_pieces calls) called.desk.pieces
listed_still {D} seen may_leave old called [] accepted before same = (
  [],
  refl,
  λ other has. absurd has,
  subst (λ (s : Site D). AreListed (accepted ++ []) s.desk.pieces) (sym same) (subst (λ (l : List Piece). AreListed l old.desk.pieces) (sym (append-nil accepted)) before),
)
listed_still seen may_leave old called (call ∷ calls) accepted before chain =
    let here = one_listed old.desk chain.0.desk call.0 call.1 accepted chain.1.answer before in
    let rest = listed_still seen may_leave chain.0 called calls (accepted ++ here.0) here.3 chain.2 in
    let joined : (accepted ++ here.0) ++ rest.0 ≡ accepted ++ (here.0 ++ rest.0) = append_assoc accepted here.0 rest.0 in (
      here.0 ++ rest.0,
      some_append here.0 rest.0 (acknowledged_by call) (acknowledged_pieces calls) here.1 rest.1,
      λ other has. subst (λ (l : List Piece). IsInSet l other) joined
          (⊎_elim (λ first. has_left (accepted ++ here.0) rest.0 other (here.2 other first)) (λ second. rest.2 other second) (has_split (acknowledged_by call) (acknowledged_pieces calls) other has)),
      subst (λ (l : List Piece). AreListed l called.desk.pieces) joined rest.3,
    )

module _ {D : Type 0} (seen : D → List ℕ) (may_leave : D → List ℕ → Type 0) where
  -- the same site over files that were given room
  abbrev pub roomed : Site D → JournalPair D → Site D
  roomed old files = record { desk = old.desk; files = files; snapshots = old.snapshots; fault = old.fault }

  pub roomed_consistent : (old : Site D) (files : JournalPair D) (on_disk pieces : List Piece) → HasSameEntries seen may_leave old.files files
      → IsConsistent seen may_leave old on_disk pieces → IsConsistent seen may_leave (roomed old files) on_disk pieces
  roomed_consistent old files on_disk pieces same before =
      let entries = sym (same.entries before.ready) in
      record {
        ready = same.ready before.ready;
        batch = before.batch;
        held = before.held;
        disk = subst (λ (l : List (List ℕ)). StandFor l on_disk) entries before.disk;
        all = subst (λ (l : List (List ℕ)). StandFor (l ++ recovered_pieces (batch_bytes old.desk.batch)) pieces) entries before.all;
      }

  moved_site : (old new : Site D) (request : Request (List ℕ)) (response : Response) (on_disk pieces : List Piece) → Moves old.desk request response new.desk → new.files ≡ old.files
      → IsConsistent seen may_leave old on_disk pieces → IsConsistent seen may_leave new on_disk (pieces ++ acknowledged_by (request, response))
  moved_site old new request response on_disk pieces moves files before = by moves
    where
      P : List Piece → Type 0
      P more = IsConsistent seen may_leave new on_disk (pieces ++ more)

      by : Moves old.desk request response new.desk → P (acknowledged_by (request, response))
      by (inl taken) = subst P (sym taken.2) (taken_consistent seen may_leave old new on_disk pieces taken.0 taken.1 files before)
      by (inr (inl known)) = subst P (sym known.2) (known_consistent seen may_leave old new on_disk pieces known.0 known.1 files before)
      by (inr (inr same)) = subst P (sym same.1) (subst (IsConsistent seen may_leave new on_disk) (sym (append-nil pieces)) (still_consistent seen may_leave old new on_disk pieces same.0.table same.0.waits files before))

  one_call : (old new : Site D) (request : Request (List ℕ)) (response : Response) (on_disk pieces : List Piece) → AnswersAt seen may_leave old request response new
      → IsConsistent seen may_leave old on_disk pieces → IsConsistent seen may_leave new on_disk (pieces ++ acknowledged_by (request, response))
  one_call old new request response on_disk pieces call before =
      moved_site (roomed old new.files) new request response on_disk pieces (moved old.desk new.desk request response call.answer) refl
      (roomed_consistent old new.files on_disk pieces call.files before)

  pub held : (old called : Site D) (calls : List Call) (on_disk pieces : List Piece) → IsConsistent seen may_leave old on_disk pieces → Chain (AnswersAt seen may_leave) old calls called
      → IsConsistent seen may_leave called on_disk (pieces ++ acknowledged_pieces calls)
  held old called [] on_disk pieces before same =
      subst (λ (s : Site D). IsConsistent seen may_leave s on_disk (pieces ++ [])) (sym same) (subst (IsConsistent seen may_leave old on_disk) (sym (append-nil pieces)) before)
  held old called (call ∷ calls) on_disk pieces before chain =
      subst (IsConsistent seen may_leave called on_disk) (append_assoc pieces (acknowledged_by call) (acknowledged_pieces calls))
      (held chain.0 called calls on_disk (pieces ++ acknowledged_by call) (one_call old chain.0 call.0 call.1 on_disk pieces chain.1 before) chain.2)

  -- what is taken of pieces that come
  pub gathered : (pulled : List Piece) (old new : Site D) (on_disk pieces accepted : List Piece) → GathersPieces pulled old.desk new.desk → new.files ≡ old.files
      → IsConsistent seen may_leave old on_disk pieces → AreListed accepted old.desk.pieces
      → (taken : List Piece) × AreSomeOf taken pulled × IsConsistent seen may_leave new on_disk (pieces ++ taken) × AreListed (accepted ++ taken) new.desk.pieces
  gathered [] old new on_disk pieces accepted same files before listed = (
    [],
    refl,
    subst (IsConsistent seen may_leave new on_disk) (sym (append-nil pieces)) (same_consistent seen may_leave old new on_disk pieces same files before),
    subst (λ (l : List Piece). AreListed l new.desk.pieces) (sym (append-nil accepted)) (subst (AreListed accepted) (sym same.pieces) listed),
  )
  gathered (piece ∷ pulled) old new on_disk pieces accepted gathers files before listed =
      let mid : Site D = record { desk = gathers.0; files = old.files; snapshots = old.snapshots; fault = old.fault } in
      elim gathers.1 [
        | inl taken ↦
            let rest = gathered pulled mid new on_disk (pieces ++ piece ∷ []) (accepted ++ piece ∷ []) gathers.2 files
            (taken_consistent seen may_leave old mid on_disk pieces piece taken refl before) (taken.listed accepted listed) in (
              piece ∷ rest.0,
              inl (rest.0, refl, rest.1),
              subst (IsConsistent seen may_leave new on_disk) (append_assoc pieces (piece ∷ []) rest.0) rest.2,
              subst (λ (l : List Piece). AreListed l new.desk.pieces) (append_assoc accepted (piece ∷ []) rest.0) rest.3,
            )
        | inr same ↦
            let rest = gathered pulled mid new on_disk pieces accepted gathers.2 files
            (same_consistent seen may_leave old mid on_disk pieces same refl before) (subst (AreListed accepted) (sym same.pieces) listed) in
            (rest.0, inr rest.1, rest.2, rest.3)
      ]

  pub stands : (old called new : Site D) (calls : List Call) (on_disk pieces : List Piece) → IsConsistent seen may_leave old on_disk pieces → Chain (AnswersAt seen may_leave) old calls called
      → Settles seen may_leave called true new → IsConsistent seen may_leave new (pieces ++ acknowledged_pieces calls) (pieces ++ acknowledged_pieces calls)
  stands old called new calls on_disk pieces before chain settles = settles.consistent on_disk _ refl (held old called calls on_disk pieces before chain)

  pub survives : (old called new : Site D) (calls : List Call) (verdict : Bool) (on_disk pieces : List Piece) → IsConsistent seen may_leave old on_disk pieces
      → Chain (AnswersAt seen may_leave) old calls called → Settles seen may_leave called verdict new → Leaves seen may_leave new on_disk (pieces ++ acknowledged_pieces calls)
  survives old called new calls verdict on_disk pieces before chain settles = settles.crash on_disk _ (held old called calls on_disk pieces before chain)

  whole_kept : (old called : Site D) (calls : List Call) → Chain (AnswersAt seen may_leave) old calls called → is_whole called.files ≡ is_whole old.files
  whole_kept old called [] same = ap (λ (s : Site D). is_whole s.files) same
  whole_kept old called (call ∷ calls) chain = whole_kept chain.0 called calls chain.2 ∙ chain.1.files.whole

  pub once : (before after called new : Site D) (calls : List Call) (verdict : Bool) → Settles seen may_leave before false after → Chain (AnswersAt seen may_leave) after calls called
      → Settles seen may_leave called verdict new → verdict ≡ false
  once before after called new calls false failed chain settles = refl
  once before after called new calls true failed chain settles =
      absurd (not_both_ways (is_whole after.files) (failed.broken_after refl) (sym (whole_kept after called calls chain) ∙ settles.whole_before refl))
    where
      not_both_ways : (b : Bool) → b ≡ false → b ≡ true → ⊥
      not_both_ways b broken whole = cc
