-- What sources refuse: layers and policies, with their tables.
use Rattle.std.specs.Prelude.{List, map}
use Rattle.cue_lattice.specs.Path.{Path}
use Rattle.cue_lattice.specs.Question.{Refusals}
use Rattle.cue_policies.specs.Laws.{LawParts}
use Rattle.cue_policies.specs.Tables.{TablesRefuse}
use Rattle.cue_why.specs.Finding.{Makes}
use Rattle.cue_why.specs.declared.source.LayerSource.{LayerSource}

-- each source, with its kind and its table
abbrev pub tables_of : List LayerSource → LawParts
tables_of = map (λ source. (source.kind, source.table.now))

-- what the view of sources refuses
abbrev pub SourcesRefuse : List LayerSource → Refusals
SourcesRefuse sources = TablesRefuse (tables_of sources)

-- some sources make what the report of the view of all says at a path
abbrev pub SourcesMake : List LayerSource → Path → List LayerSource → Type 0
SourcesMake all path some = Makes (SourcesRefuse all) (SourcesRefuse some) path
