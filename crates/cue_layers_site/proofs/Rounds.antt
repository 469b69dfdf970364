-- Calls, and rounds of them.
use Rattle.std.proofs.Common.{◌≡◌, ◌≢◌, ℕ, Bool, List, [], ◌∷◌, ◌++◌, refl, sym, ap, ◌∙◌, subst, inl, inr, true, false, codes, arith}
use Rattle.http.specs.declared.request.Request.{Request}
use Rattle.http_server.specs.declared.response.Response.{Response}
use Rattle.http_server.specs.Exchange.{Call, Chain}
use Rattle.cue_lattice.specs.World.{Piece}
use Rattle.cue_policies.specs.declared.kind.LayerKind.{LayerKind}
use Rattle.cue_replica.specs.Language.{Table}
use Rattle.cue_journal.specs.Pairs.{is_whole}
use Rattle.cue_layers.specs.declared.layer.Layer.{Layer}
use Rattle.cue_layers.specs.Maps.{IsJoin}
use Rattle.cue_service.specs.Requests.{IsReadRequest}
use Rattle.cue_layers_site.specs.declared.access.WriteAccess.{WriteAccess}
use Rattle.cue_layers_site.specs.declared.route.LayersRoute.{LayersRoute}
use Rattle.cue_layers_site.specs.declared.route.LayersRoute.TheVariants.{Put, Remove, Names, Show, View, Sync, Join}
use Rattle.cue_layers_site.specs.declared.site.LayeredSite.{LayeredSite}
use Rattle.cue_layers_site.specs.declared.store.LayersStore.{LayersStore}
use Rattle.cue_layers_site.specs.Answering.{AnswersAs, AnswersLayers, IsPutDone, IsJoinDone, IsOtherwise}
use Rattle.cue_layers_site.specs.Promise.{IsPutBy, MayChange, AreAcknowledgedBy, IsLayerOfPieces, AreLayersHeld, LayersStand, LayersSurvive, ArePulled}
use Rattle.cue_layers_site.specs.Requests.{IsLayersRoute}
use Rattle.cue_layers_site.specs.Sites.{AnswersLayered, IsServedHere}
use Rattle.cue_layers_site.specs.Stores.{IsStoreSame, IsKept, LeavesMaps, SettlesLayers}
use Rattle.cue_layers_site.proofs.Joins.{joined_more, joined_none}
use Rattle.cue_layers_site.proofs.Kept.{same_kept, added_kept}
use Rattle.cue_layers_site.proofs.Routes.{reads_other, reads_view, get_put, get_delete, get_post, head_put, head_delete, head_post}

-- who reads changes nothing
no_change : (request : Request (List ℕ)) → IsReadRequest request → (route : LayersRoute) → IsLayersRoute route request → MayChange route → ⊥
no_change request reads (Put kind) asks may = reads_other request reads (codes "PUT") asks.0 get_put head_put
no_change request reads (Remove kind) asks may = reads_other request reads (codes "DELETE") asks.0 get_delete head_delete
no_change request reads Join asks may = reads_other request reads (codes "POST") asks.0 get_post head_post
no_change request reads (Names kind) asks may = may
no_change request reads (Show kind) asks may = may
no_change request reads (View question) asks may = may
no_change request reads Sync asks may = may

here : (route : LayersRoute) (map : List Layer) → MayChange route → IsServedHere route map
here (Put kind) map may = tt
here (Remove kind) map may = tt
here Join map may = tt
here (Names kind) map may = absurd may
here (Show kind) map may = absurd may
here (View question) map may = absurd may
here Sync map may = absurd may

module _ {D : Type 0} (seen : D → List ℕ) (may_leave : D → List ℕ → Type 0) where
  -- a call acknowledged some layers, which were joined to the map; the disk stands for what it did
  abbrev pub Moves : LayersStore D → Request (List ℕ) → Response → LayersStore D → Type 0
  Moves old request response new =
      (on_disk : List Layer) → IsKept seen may_leave old on_disk
      → IsKept seen may_leave new on_disk × ((layers : List Layer) × AreAcknowledgedBy (request, response) layers × IsJoin old.map layers new.map)

  same_moves : (old new : LayersStore D) (request : Request (List ℕ)) (response : Response) → IsStoreSame seen may_leave old new
      → ((route : LayersRoute) → IsLayersRoute route request → MayChange route → response.status ≢ 204) → Moves old request response new
  same_moves old new request response same none on_disk before = (
    same_kept seen may_leave old new on_disk same before,
    ([], inr (refl, none), subst (IsJoin old.map []) (sym same.map) (joined_none old.map before.all.2.is_map)),
  )

  otherwise_moves : (old new : LayersStore D) (request : Request (List ℕ)) (response : Response) → IsOtherwise seen may_leave old response new → Moves old request response new
  otherwise_moves old new request response other = same_moves old new request response other.same (λ route asks may. other.answer)

  put_moves : (kind : LayerKind) (pieces : List Piece) (old new : LayersStore D) (request : Request (List ℕ)) (response : Response) (route : LayersRoute) → IsLayersRoute route request
      → (done : IsPutDone seen may_leave kind pieces old request response new)
      → ((layer : Layer) → IsLayerOfPieces kind done.name pieces layer → IsPutBy route request (layer ∷ [])) → Moves old request response new
  put_moves kind pieces old new request response route asks done by on_disk before =
      let layer : Layer = record { kind = kind; name = done.name; revision = done.revision; content = done.put.content } in (
        added_kept seen may_leave old new on_disk done.more done.added before,
        (
          layer ∷ [],
          inl (route, asks, done.answer.status, by layer (record { kind_is = refl; name_is = refl; says = done.put.refuses })),
          done.put.joined,
        ),
      )

  join_moves : (old new : LayersStore D) (request : Request (List ℕ)) (response : Response) → IsLayersRoute Join request → IsJoinDone seen may_leave old request response new → Moves old request response new
  join_moves old new request response asks done on_disk before = (
    added_kept seen may_leave old new on_disk done.more done.added before,
    (done.more, inl (Join, asks, done.answer.status, done.bytes), done.added.joined),
  )

  moves : (route : LayersRoute) (commons : Table) (access : WriteAccess) (old new : LayersStore D) (request : Request (List ℕ)) (response : Response) → IsLayersRoute route request
      → AnswersAs seen may_leave route commons access old request response new → Moves old request response new
  moves (Put kind) commons access old new request response asks (inl done) =
      put_moves kind (done.1.0 ∷ []) old new request response (Put kind) asks done.1.2 (λ layer is. (done.1.2.name, done.1.0, layer, done.1.2.names, done.1.1, is, refl))
  moves (Put kind) commons access old new request response asks (inr other) = same_moves old new request response other.same (λ route asks may. other.other)
  moves (Remove kind) commons access old new request response asks (inl done) =
      put_moves kind [] old new request response (Remove kind) asks done.1 (λ layer is. (done.1.name, layer, done.1.names, is, refl))
  moves (Remove kind) commons access old new request response asks (inr other) = same_moves old new request response other.same (λ route asks may. other.other)
  moves Join commons access old new request response asks (inl done) = join_moves old new request response asks done.1
  moves Join commons access old new request response asks (inr other) = same_moves old new request response other.same (λ route asks may. other.other)
  moves (Names kind) commons access old new request response asks other = otherwise_moves old new request response other
  moves (Show kind) commons access old new request response asks other = otherwise_moves old new request response other
  moves (View question) commons access old new request response asks told =
      same_moves old new request response told.0 (λ route is may. absurd (no_change request (reads_view question request asks) route is may))
  moves Sync commons access old new request response asks told =
      same_moves old new request response told.0 (λ route is may. absurd (no_change request asks.0 route is may))

  answered : (route : LayersRoute) (commons : Table) (access : WriteAccess) (old new : LayersStore D) (request : Request (List ℕ)) (response : Response) → IsLayersRoute route request
      → AnswersLayers seen may_leave route commons access old request response new → Moves old request response new
  answered route commons access old new request response asks (inl told) = moves route commons access old new request response asks told
  answered route commons access old new request response asks (inr wanting) =
      same_moves old new request response wanting.0 (λ other is may done. absurd (omega (arith, sym wanting.1.status ∙ done)))

  pub pulled : ArePulled seen may_leave
  pulled old new bytes true on_disk before (more, is, inl added) = added_kept seen may_leave old new on_disk more added before
  pulled old new bytes true on_disk before (more, is, inr still) = same_kept seen may_leave old new on_disk still.1 before
  pulled old new bytes false on_disk before pulls = same_kept seen may_leave old new on_disk pulls before

  -- whether a call has failed is as before
  whole_same : (route : LayersRoute) (commons : Table) (access : WriteAccess) (old new : LayersStore D) (request : Request (List ℕ)) (response : Response)
      → AnswersAs seen may_leave route commons access old request response new → is_whole new.files ≡ is_whole old.files
  whole_same (Put kind) commons access old new request response (inl done) = done.1.2.added.files.whole
  whole_same (Put kind) commons access old new request response (inr other) = other.same.files.whole
  whole_same (Remove kind) commons access old new request response (inl done) = done.1.added.files.whole
  whole_same (Remove kind) commons access old new request response (inr other) = other.same.files.whole
  whole_same Join commons access old new request response (inl done) = done.1.added.files.whole
  whole_same Join commons access old new request response (inr other) = other.same.files.whole
  whole_same (Names kind) commons access old new request response other = other.same.files.whole
  whole_same (Show kind) commons access old new request response other = other.same.files.whole
  whole_same (View question) commons access old new request response told = told.0.files.whole
  whole_same Sync commons access old new request response told = told.0.files.whole

  whole_answered : (route : LayersRoute) (commons : Table) (access : WriteAccess) (old new : LayersStore D) (request : Request (List ℕ)) (response : Response)
      → AnswersLayers seen may_leave route commons access old request response new → is_whole new.files ≡ is_whole old.files
  whole_answered route commons access old new request response (inl told) = whole_same route commons access old new request response told
  whole_answered route commons access old new request response (inr wanting) = wanting.0.files.whole

module _ {S D : Type 0} (seen : D → List ℕ) (may_leave : D → List ℕ → Type 0) (answers : S → Request (List ℕ) → Response → S → Type 0) (commons : S → Table) (lets_write : S → Request (List ℕ) → Type 0) where
  abbrev Answers : LayeredSite S D → Request (List ℕ) → Response → LayeredSite S D → Type 0
  Answers = AnswersLayered seen may_leave answers commons lets_write

  one_call : (old new : LayeredSite S D) (request : Request (List ℕ)) (response : Response) → Answers old request response new → Moves seen may_leave old.store request response new.store
  one_call old new request response (inl inside) = λ on_disk before. (
    subst (λ (s : LayersStore D). IsKept seen may_leave s on_disk) (sym inside.store) before,
    (
      [],
      inr (refl, λ route asks may. absurd (inside.none route asks (here route old.store.map may))),
      subst (λ (s : LayersStore D). IsJoin old.store.map [] s.map) (sym inside.store) (joined_none old.store.map before.all.2.is_map),
    ),
  )
  one_call old new request response (inr served) = answered seen may_leave served.route (commons old.inner) served.access old.store new.store request response served.asks served.answer

  pub held : AreLayersHeld seen may_leave Answers
  held old called [] on_disk before same = (
    subst (λ (s : LayeredSite S D). IsKept seen may_leave s.store on_disk) (sym same) before,
    ([], refl, subst (λ (s : LayeredSite S D). IsJoin old.store.map [] s.store.map) (sym same) (joined_none old.store.map before.all.2.is_map)),
  )
  held old called (call ∷ calls) on_disk before chain =
      let now = one_call old chain.0 call.0 call.1 chain.1 on_disk before in
      let rest = held chain.0 called calls on_disk now.0 chain.2 in (
        rest.0,
        (now.1.0 ++ rest.1.0, (now.1.0, rest.1.0, now.1.1, rest.1.1, refl), joined_more old.store.map now.1.0 chain.0.store.map rest.1.0 called.store.map now.1.2 rest.1.2),
      )

  pub stand : LayersStand seen may_leave Answers
  stand old called new calls on_disk before chain settles =
      (subst (IsKept seen may_leave new) settles.same (settles.kept on_disk refl (held old called calls on_disk before chain).0), settles.same)

  pub survive : LayersSurvive seen may_leave Answers
  survive old called new calls verdict on_disk before chain settles =
      subst (λ (m : List Layer). LeavesMaps seen may_leave new on_disk m) settles.same (settles.crash on_disk (held old called calls on_disk before chain).0)

  whole_call : (old new : LayeredSite S D) (request : Request (List ℕ)) (response : Response) → Answers old request response new → is_whole new.store.files ≡ is_whole old.store.files
  whole_call old new request response (inl inside) = ap (λ (s : LayersStore D). is_whole s.files) inside.store
  whole_call old new request response (inr served) = whole_answered seen may_leave served.route (commons old.inner) served.access old.store new.store request response served.answer

  whole_kept : (old called : LayeredSite S D) (calls : List Call) → Chain Answers old calls called → is_whole called.store.files ≡ is_whole old.store.files
  whole_kept old called [] same = ap (λ (s : LayeredSite S D). is_whole s.store.files) same
  whole_kept old called (call ∷ calls) chain = whole_kept chain.0 called calls chain.2 ∙ whole_call old chain.0 call.0 call.1 chain.1

  pub once : (before : LayersStore D) (after called : LayeredSite S D) (new : LayersStore D) (calls : List Call) (verdict : Bool) → SettlesLayers seen may_leave before false after.store
      → Chain Answers after calls called → SettlesLayers seen may_leave called.store verdict new → verdict ≡ false
  once before after called new calls false failed chain settles = refl
  once before after called new calls true failed chain settles =
      absurd (not_both_ways (is_whole after.store.files) (failed.broken_after refl) (sym (whole_kept after called calls chain) ∙ settles.whole_before refl))
    where
      not_both_ways : (b : Bool) → b ≡ false → b ≡ true → ⊥
      not_both_ways b broken whole = cc
