-- What stands at a path, for those who read and for those who write.
use Rattle.std.specs.Prelude.{◌≡◌, ℕ, List, codes}
use Rattle.cue_replica.specs.declared.question.SiteQuestion.TheVariants as questions
use Rattle.cue_service.specs.declared.route.Route.{Route}
use Rattle.cue_service.specs.declared.route.Route.TheVariants.{Ask, Pieces, Take, Health, Metrics, Page, OtherMethod, Unknown}
use Rattle.cue_service.specs.declared.route.PieceKind.TheVariants as hands
use Rattle.cue_service.specs.Requests.{read_paths, written_paths, IsNoneOf}

abbrev pub IsReadAt : Route → List ℕ → Type 0
IsReadAt (Ask questions.Export) path = path ≡ codes "/export"
IsReadAt (Ask questions.Print) path = path ≡ codes "/print"
IsReadAt (Ask questions.Report) path = path ≡ codes "/report"
IsReadAt (Ask questions.State) path = path ≡ codes "/state"
IsReadAt Pieces path = path ≡ codes "/pieces"
IsReadAt (Take hand) path = ⊥
IsReadAt Health path = path ≡ codes "/healthz"
IsReadAt Metrics path = path ≡ codes "/metrics"
IsReadAt Page path = path ≡ codes "/"
IsReadAt OtherMethod path = ⊥
IsReadAt Unknown path = IsNoneOf read_paths path

abbrev pub IsWrittenAt : Route → List ℕ → Type 0
IsWrittenAt (Ask question) path = ⊥
IsWrittenAt Pieces path = ⊥
IsWrittenAt (Take hands.Text) path = path ≡ codes "/fragments"
IsWrittenAt (Take hands.State) path = path ≡ codes "/state"
IsWrittenAt Health path = ⊥
IsWrittenAt Metrics path = ⊥
IsWrittenAt Page path = ⊥
IsWrittenAt OtherMethod path = ⊥
IsWrittenAt Unknown path = IsNoneOf written_paths path
