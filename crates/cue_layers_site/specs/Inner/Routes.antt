-- What is read at a path.
use Rattle.std.specs.Prelude.{◌≡◌, ℕ, List, codes}
use Rattle.cue_replica.specs.declared.question.SiteQuestion.TheVariants as questions
use Rattle.cue_layers_site.specs.declared.route.LayersRoute.{LayersRoute}
use Rattle.cue_layers_site.specs.declared.route.LayersRoute.TheVariants.{Put, Remove, Names, Show, View, Sync, Join}
use Rattle.cue_layers_site.specs.Requests.{IsNamePath, list_path}

abbrev pub IsReadPath : LayersRoute → List ℕ → Type 0
IsReadPath (Put kind) path = ⊥
IsReadPath (Remove kind) path = ⊥
IsReadPath (Names kind) path = path ≡ list_path kind
IsReadPath (Show kind) path = IsNamePath kind path
IsReadPath (View questions.Export) path = path ≡ codes "/export"
IsReadPath (View questions.Report) path = path ≡ codes "/report"
IsReadPath (View questions.Print) path = path ≡ codes "/print"
IsReadPath (View questions.State) path = ⊥
IsReadPath Sync path = path ≡ codes "/sync"
IsReadPath Join path = ⊥
