-- What a request asks for, by its method and its path.
use Rattle.std.proofs.Common.{◌≡◌, ◌⊎◌, inl, inr, ℕ, List, codes}
use Rattle.http.specs.declared.request.Request.{Request}
use Rattle.http.specs.Request.{head_of}
use Rattle.cue_replica.specs.declared.question.SiteQuestion.TheVariants as questions
use Rattle.cue_service.specs.declared.route.Route.{Route}
use Rattle.cue_service.specs.declared.route.Route.TheVariants.{Ask, Pieces, Take, Health, Metrics, Page, OtherMethod, Unknown}
use Rattle.cue_service.specs.declared.route.PieceKind.TheVariants as hands
use Rattle.cue_service.specs.Requests.{IsRoute, path_of}
use Rattle.cue_service.specs.Inner.Routes.{IsReadAt, IsWrittenAt}

pub reads : (route : Route) (request : Request (List ℕ)) → IsReadAt route (path_of request) → ((head_of request).method ≡ codes "GET") ⊎ ((head_of request).method ≡ codes "HEAD") → IsRoute route request
reads (Ask questions.Export) request at method = (method, at)
reads (Ask questions.Print) request at method = (method, at)
reads (Ask questions.Report) request at method = (method, at)
reads (Ask questions.State) request at method = (method, at)
reads Pieces request at method = (method, at)
reads (Take hand) request at method = absurd at
reads Health request at method = (method, at)
reads Metrics request at method = (method, at)
reads Page request at method = (method, at)
reads OtherMethod request at method = absurd at
reads Unknown request at method = inl (method, at)

pub writes : (route : Route) (request : Request (List ℕ)) → IsWrittenAt route (path_of request) → (head_of request).method ≡ codes "POST" → IsRoute route request
writes (Ask question) request at method = absurd at
writes Pieces request at method = absurd at
writes (Take hands.Text) request at method = (method, at)
writes (Take hands.State) request at method = (method, at)
writes Health request at method = absurd at
writes Metrics request at method = absurd at
writes Page request at method = absurd at
writes OtherMethod request at method = absurd at
writes Unknown request at method = inr (method, at)
